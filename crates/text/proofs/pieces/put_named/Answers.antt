-- `text::pieces::put_named` meets its contract: the word, and the number after it.
use native.Mathlib.Omega.{arith}
use Rattle.text.proofs.TextLaws.{then}
use Rattle.text.proofs.pieces.put_named.Goals as goal

pub returns : goal.returns
returns c =
    let s = c.before.before.before.before.before.before.before.before.before.before in
    let p = c.put_bytes-end in
    let q = c.put_number in
    (then (omega (arith, s.requires)) p.ensures q.ensures.0, omega arith)
