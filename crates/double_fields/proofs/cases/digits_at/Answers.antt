-- `double_fields::cases::digits_at` meets its contract: each return is a case of `fraction` by the size of the unit.
use mathlib.Core.Path.{sym, ◌∙◌, ap, subst}
use Prim.Native.Nat.{ℕ, ◌-◌, ◌*◌, ◌/◌, ◌%◌, ◌^◌, ◌<◌, ◌≤◌}
use native.Mathlib.Nat.{mod-le}
use native.Mathlib.Omega.{arith}
use lib.Pow.{pow_pos}
use Rattle.doubles_spec.specs.declared.Rest.{Rest}
use Rattle.doubles_spec.specs.Forms.{product_of}
use Rattle.doubles_spec.proofs.Fractions.{large, shifted, tiny, read_at, unit-is}
use Rattle.double_fields.proofs.cases.digits_at.Goals as goal

pub returns-then-place-ge1075 : goal.returns-then-place-ge1075
returns-then-place-ge1075 c = let a = c.args in sym (large a.negative a.digits a.place (omega arith) (omega arith) (omega arith))

pub returns-then-s-ge55 : goal.returns-then-s-ge55
returns-then-s-ge55 c =
    let a = c.args in
    let lo : 2 ^ 52 ≤ a.digits = omega arith in
    let hi : a.digits < 2 ^ 53 = omega arith in
    sym (shifted a.negative a.digits a.place lo hi (omega arith) ∙ tiny a.negative a.digits a.place lo hi (1075 - a.place) (omega arith))

unit-pos : (j : ℕ) → j < 55 → 0 < 1 * 2 ^ j % 2 ^ 64
unit-pos j h = subst (λ (u : ℕ). 0 < u) (sym (unit-is j h)) (pow_pos j)

pub nonzero_rem-digits : goal.nonzero_rem-digits
nonzero_rem-digits c = unit-pos (1075 - c.args.place) (omega arith)

pub rest_by-rest-requires : goal.rest_by-rest-requires
rest_by-rest-requires c = let a = c.args in omega (arith, mod-le a.digits (1 * 2 ^ (1075 - a.place) % 2 ^ 64))

pub returns : goal.returns
returns c =
    let a = c.args in
    let j = 1075 - a.place in
    let u = 1 * 2 ^ j % 2 ^ 64 in
    ap (λ (r : Rest). product_of a.negative (a.digits / u) r) c.rest_by-rest.ensures
    ∙ read_at a.negative a.digits a.place (omega arith) (omega arith) u (unit-is j (omega arith)) (omega arith)
