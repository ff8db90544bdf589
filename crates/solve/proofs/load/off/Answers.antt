-- `solve::load::off` meets its contract: it is the size of the mass minus the target, and both are small.
use mathlib.Core.Path.{◌≡◌, ◌∙◌, ap}
use native.Mathlib.Omega.{arith}
use lib.IntN.{pos, nat_abs, ◌-ℤ◌}
use mir.Syntax.{w32, w64}
use mir.Val.{to_z, of_z}
use mir.ValLaws.{to_z-of_z}
use Rattle.solve_spec.proofs.GatherLaws.{off-size}
use Rattle.solve.proofs.load.off.Goals as goal

pub returns : goal.returns
returns c =
    let a = c.args in
    let f = c.ranges in
    let m = c.minus in
    let d : pos a.mass -ℤ to_z w32 (of_z w32 a.target) ≡ pos a.mass -ℤ a.target = ap (λ t. pos a.mass -ℤ t) (to_z-of_z w32 a.target f.target) in
    let e = c.unsigned_abs.ensures.value ∙ ap nat_abs (to_z-of_z w64 m.result (record { sfits = m.type_inv }) ∙ (m.ensures ∙ d)) in
    (e, omega (arith, e, off-size a.mass a.target f.mass.fits f.target.sfits))
