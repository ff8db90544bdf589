-- `family_calls::step` meets its contract: its shape first, and then what the operation tells is returned and written.
use Rattle.std.proofs.lemmas.Result.{err_from_is_err_and}
use mathlib.Core.Path.{◌≡◌, sym, subst}
use mathlib.Core.List.{List}
use native.Mathlib.Omega.{arith}
use Prim.Native.Nat.{ℕ}
use lib.IntN.{ℤ}
use mir.Syntax.{w32}
use mir.ValLaws.{to_z-of_z}
use Rattle.numbers.specs.Checks.{Answered}
use Rattle.numbers.proofs.SignedLaws.{parts-le, about}
use Rattle.qlt_spec.specs.Field.{lists_of}
use Rattle.kept_spec.specs.declared.Stepped.{Stepped}
use Rattle.family_spec.specs.declared.Family.{Family}
use Rattle.family_spec.specs.declared.FamilyAnswer.{FamilyAnswer}
use Rattle.family_spec.specs.Member.{StepInputs, step_inputs}
use Rattle.family_spec.specs.Operations.{StepMemberContract}
use Rattle.family_calls.proofs.CallLaws.{step-room-refused, step-family, step-answer, step-done, step-refused}
use Rattle.family_calls.proofs.step.Goals as goal

-- what the operation promises, of the family in the list and the source as it was given
promised :
    {f g : Family} {i : ℕ} (x : ℤ → StepInputs) {s z : ℤ} {a : FamilyAnswer (Answered Stepped)} {kept : List ℕ} {scratch : List ℤ} {book : List ℕ}
    → f ≡ g → s ≡ z → StepMemberContract f i (x s) a kept scratch book → StepMemberContract g i (x z) a kept scratch book
promised {f} {g} {i} x {s} {z} {a} {kept} {scratch} {book} d e p =
    subst (λ (y : ℤ). StepMemberContract g i (x y) a kept scratch book) e (subst (λ h. StepMemberContract h i (x s) a kept scratch book) d p)

pub returns-in_err-step_room : goal.returns-in_err-step_room
returns-in_err-step_room c =
    let a = c.args in
    let p = err_from_is_err_and c.from_residual.result c.from_residual.ensures.1 in
    rw (p.1, p.2)
    (step-room-refused a.family.now a.member (step_inputs a.kept.now a.source a.scale (lists_of a.field.now) a.scratch.now a.book.now a.told) a.answer.now
    (record {
      bytes = λ i. omega (arith, c.type_inv.book i);
      least = parts-le (omega (arith, c.ranges, about a.source));
      most = parts-le (omega (arith, c.ranges, about a.source));
    })
    (sym c.in_err-step_room.ensures))

pub read_family-requires : goal.read_family-requires
read_family-requires c =
    let a = c.args in
    step-family a.family.now a.member (step_inputs a.kept.now a.source a.scale (lists_of a.field.now) a.scratch.now a.book.now a.told) a.answer.now (sym c.in_ok-step_room.ensures)

pub put_family-requires : goal.put_family-requires
put_family-requires c =
    let a = c.args in
    step-family a.family.now a.member (step_inputs a.kept.now a.source a.scale (lists_of a.field.now) a.scratch.now a.book.now a.told) a.answer.now (sym c.in_ok-step_room.ensures)

pub put_result-requires : goal.put_result-requires
put_result-requires c =
    let a = c.args in
    step-answer a.family.now a.member (step_inputs a.kept.now a.source a.scale (lists_of a.field.now) a.scratch.now a.book.now a.told) a.answer.now (sym c.in_ok-step_room.ensures)

pub returns-in_err-accepted : goal.returns-in_err-accepted
returns-in_err-accepted c =
    let a = c.args in
    let x = λ (z : ℤ). step_inputs a.kept.now z a.scale (lists_of a.field.now) a.scratch.now a.book.now a.told in
    let p = err_from_is_err_and c.from_residual-in_err-accepted.result c.from_residual-in_err-accepted.ensures.1 in
    rw (p.1, p.2)
    (step-refused a.family.now a.member (x a.source) a.answer.now (sym c.in_ok-step_room.ensures) _
    (promised x c.read_family.ensures (to_z-of_z w32 a.source c.ranges.source) c.step_member-stepped.ensures) c.in_err-accepted.was)

pub returns : goal.returns
returns c =
    let a = c.args in
    let x = λ (z : ℤ). step_inputs a.kept.now z a.scale (lists_of a.field.now) a.scratch.now a.book.now a.told in
    step-done a.family.now a.member (x a.source) a.answer.now (sym c.in_ok-step_room.ensures) _
    (promised x c.read_family.ensures (to_z-of_z w32 a.source c.ranges.source) c.step_member-stepped.ensures) c.in_ok-accepted.was c.put_family.ensures c.put_result.ensures
