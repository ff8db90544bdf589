-- `double_fields::fields::in_target` meets its contract: its tests are those of `in_target`, and -1 - (q - 1) is minus q.
use Rattle.std.specs.Prelude.{Ok}
use mathlib.Core.Path.{sym, ap, ◌∙◌}
use mathlib.Core.Bool.{Bool, true}
use Prim.Native.Nat.{ℕ, ◌-◌, ◌<◌, ◌^◌}
use native.Mathlib.Omega.{arith}
use mir.Syntax.{w32}
use mir.ValLaws.{to_z_pos}
use Rattle.doubles_spec.specs.Forms.{in_target}
use Rattle.numbers.specs.Roundings.{signed}
use Rattle.doubles_spec.proofs.FieldLaws.{in-range, out_of_range, minus-fits, minus-back, minus-signed}
use Rattle.double_fields.proofs.fields.in_target.Goals as goal

pub overflow_sub-result-then-q-le2147483648 : goal.overflow_sub-result-then-q-le2147483648
overflow_sub-result-then-q-le2147483648 c = minus-fits (c.args.q - 1) (omega (arith, c.if-q-eq0.false))

pub returns-then-q-eq0 : goal.returns-then-q-eq0
returns-then-q-eq0 c =
    let a = c.args in
    sym (ap (λ (s : Bool). in_target (signed s a.q)) c.if-negative.true ∙ ap (λ (n : ℕ). in_target (signed true n)) c.if-q-eq0.true)

pub returns-then-q-le2147483648 : goal.returns-then-q-le2147483648
returns-then-q-le2147483648 c =
    let a = c.args in
    let n = a.q - 1 in
    let l : n < 2 ^ 31 = omega (arith, c.if-q-eq0.false) in
    ap Ok (minus-back n l)
    ∙ sym (ap (λ (s : Bool). in_target (signed s a.q)) c.if-negative.true ∙ ap in_target (minus-signed a.q c.if-q-eq0.false) ∙ in-range n _ _ l)

pub returns-else-q-le2147483648 : goal.returns-else-q-le2147483648
returns-else-q-le2147483648 c =
    let a = c.args in
    sym (ap (λ (s : Bool). in_target (signed s a.q)) c.if-negative.true ∙ ap in_target (minus-signed a.q c.if-q-eq0.false) ∙ out_of_range (a.q - 1) _ _ (omega arith))

pub returns-then-q-lt2147483648 : goal.returns-then-q-lt2147483648
returns-then-q-lt2147483648 c =
    let a = c.args in
    ap Ok (to_z_pos w32 a.q c.if-q-lt2147483648.true) ∙ sym (ap (λ (s : Bool). in_target (signed s a.q)) c.if-negative.false ∙ in-range a.q _ _ c.if-q-lt2147483648.true)

pub returns-else-q-lt2147483648 : goal.returns-else-q-lt2147483648
returns-else-q-lt2147483648 c =
    let a = c.args in
    sym (ap (λ (s : Bool). in_target (signed s a.q)) c.if-negative.false ∙ out_of_range a.q _ _ c.if-q-lt2147483648.false)
