-- `rounded_division::rounding::closest` meets its contract: what is added for the rest to the whole part makes it the nearest.
use mathlib.Core.Path.{sym, ap, ◌∙◌, subst}
use Prim.Native.Nat.{ℕ, ◌+◌, ◌/◌, ◌≤◌}
use native.Mathlib.Nat.{mod-le, div-le_self}
use native.Mathlib.Omega.{arith}
use Rattle.doubles_spec.specs.Forms.{added_nearest}
use Rattle.doubles_spec.specs.declared.Rest.{Rest}
use Rattle.doubles_spec.proofs.FieldLaws.{nearest_le, closest-is}
use Rattle.rounded_division.proofs.rounding.closest.Goals as goal

pub rest_by-rest-requires : goal.rest_by-rest-requires
rest_by-rest-requires c = omega (arith, mod-le c.args.size c.args.unit)

pub overflow_add-result : goal.overflow_add-result
overflow_add-result c =
    let a = c.args in
    let one : c.added_nearest.result ≤ 1 = subst (λ (n : ℕ). n ≤ 1) (sym c.added_nearest.ensures) (nearest_le _ _) in
    omega (arith, one, div-le_self a.size a.unit)

pub returns : goal.returns
returns c =
    let a = c.args in
    let w = a.size / a.unit in
    ap (λ (n : ℕ). w + n) (c.added_nearest.ensures ∙ ap (λ (r : Rest). added_nearest w r) c.rest_by-rest.ensures)
    ∙ sym (closest-is a.size a.unit (omega arith))
