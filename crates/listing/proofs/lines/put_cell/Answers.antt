-- `listing::lines::put_cell` meets its contract: three numbers in order are the line, of at most 3, 10 and 10 digits, a sign and three bytes.
use mathlib.Core.Path.{◌≡◌, ap, ◌∙◌}
use Prim.Native.Nat.{◌^◌, ◌<◌}
use native.Mathlib.Omega.{arith}
use lib.IntN.{pos, nat_abs, ◌-ℤ◌}
use lib.ListN.{length}
use mir.Syntax.{w32, w64}
use mir.Val.{to_z, of_z}
use mir.ValLaws.{to_z-of_z}
use Rattle.numbers.proofs.SignedLaws.{signed, about, one-part, minus-parts}
use Rattle.text.specs.Text.{signed_number, space, newline}
use Rattle.text.proofs.TextLaws.{then, number-few, signed-few}
use Rattle.listing.specs.Listing.{cell_line}
use Rattle.listing.proofs.lines.put_cell.Goals as goal

pub returns : goal.returns
unfolding cell_line
returns c =
    let s = c.before.before.before.before.before.before.before.before.before.before.before.before.before.before.before in
    let a = s.args in
    let m = c.minus-correction in
    let p = c.put_number-a in
    let q = c.put_number-b in
    let r = c.put_signed in
    let q0 = rw c.from.ensures at q.ensures.0 in
    let z = pos a.mass -ℤ a.target in
    let e : to_z w64 (of_z w64 m.result) ≡ z = to_z-of_z w64 m.result (record { sfits = m.type_inv }) ∙ m.ensures ∙ ap (λ t. pos a.mass -ℤ t) (to_z-of_z w32 a.target s.ranges.target) in
    let near : nat_abs z < 10 ^ 10 = omega (signed, minus-parts (pos a.mass) a.target, about z, one-part z, about a.target, s.ranges.mass.fits, s.ranges.target.sfits) in (
      rw (← e) (then (omega (arith, s.requires)) (then (omega (arith, s.requires)) p.ensures.0 q0) r.ensures.0),
      omega (
        arith,
        p.ensures.0.next,
        q0.next,
        r.ensures.0.next,
        ap (λ t. length (signed_number t newline)) e,
        number-few 3 a.i space (omega arith) (omega (arith, s.requires)),
        number-few 10 a.mass space (omega arith) (omega (arith, s.ranges.mass.fits)),
        signed-few 10 z newline (omega arith) near,
      ),
    )
