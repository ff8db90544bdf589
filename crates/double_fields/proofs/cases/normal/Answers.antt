-- `double_fields::cases::normal` meets its contract: the bits' fields say the size, and the test for a double below zero its sign.
use mathlib.Core.Path.{sym, ap, ◌∙◌, subst}
use mathlib.Core.Bool.{Bool}
use Prim.Native.Nat.{ℕ, ◌+◌, ◌*◌, ◌^◌}
use lib.Dec.{T}
use lib.Ieee.{binary64, to_bits, fits}
use Rattle.doubles_spec.specs.Classes.{is_below_zero, exponent_field, fraction_field}
use Rattle.doubles_spec.specs.Forms.{fraction}
use Rattle.doubles_spec.proofs.CaseLaws.{normal-product, normal-no-nan, below-zero}
use Rattle.double_fields.proofs.cases.normal.Goals as goal

held : (c : goal.Start) → T (fits binary64 c.args.x)
held c = subst T (sym c.well_formed.0.1) tt

pub float_to_bits-bits : goal.float_to_bits-bits
float_to_bits-bits c = normal-no-nan c.args.x c.requires.is_normal

pub returns : goal.returns
returns c =
    let z = c.before in
    let x = z.args.x in
    let k = z.args.k in
    let b = to_bits binary64 x in
    c.digits_at.ensures
    ∙ ap (λ (s : Bool). fraction s ((fraction_field b + 2 ^ 52) * 2 ^ (exponent_field b + c.before.from.result)) (2 ^ 1075)) (below-zero x)
    ∙ ap (λ (n : ℕ). fraction (is_below_zero x) ((fraction_field b + 2 ^ 52) * 2 ^ (exponent_field b + n)) (2 ^ 1075)) c.before.from.ensures
    ∙ sym (normal-product k x (held z.before) z.requires.is_normal)
