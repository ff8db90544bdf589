-- `text::pieces::put_named_signed` meets its contract: the word, and the signed number after it.
use mathlib.Core.Path.{◌≡◌}
use native.Mathlib.Omega.{arith}
use mir.Syntax.{w64}
use mir.Val.{to_z, of_z}
use mir.ValLaws.{to_z-of_z}
use Rattle.text.proofs.TextLaws.{then}
use Rattle.text.proofs.pieces.put_named_signed.Goals as goal

pub returns : goal.returns
returns c =
    let s = c.before.before.before.before.before.before.before.before.before.before in
    let e : to_z w64 (of_z w64 s.args.z) ≡ s.args.z = to_z-of_z w64 s.args.z s.ranges.z in
    let p = c.put_bytes-end.ensures in
    let q = c.put_signed.ensures in
    (then (omega (arith, s.requires)) p (rw e at q.0), omega (arith, q.1, p.next))
