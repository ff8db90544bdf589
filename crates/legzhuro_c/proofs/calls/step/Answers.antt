-- `legzhuro_c::calls::step` meets its contract: its shape first, and then what Step tells is returned and written.
use Rattle.std.proofs.lemmas.Result.{err_from_is_err_and}
use mathlib.Core.Path.{sym, subst}
use native.Mathlib.Omega.{arith}
use lib.IntN.{ℤ}
use mir.Syntax.{w32}
use mir.ValLaws.{to_z-of_z}
use Rattle.numbers.proofs.SignedLaws.{parts-le, about}
use Rattle.qlt_spec.specs.Field.{lists_of}
use Rattle.kept_spec.specs.Step.{step_call, StepContract}
use Rattle.legzhuro_c.proofs.CallLaws.{step-shape-refused, step_room, step-done, step-refused}
use Rattle.legzhuro_c.proofs.calls.step.Goals as goal

pub returns-in_err-step_shape : goal.returns-in_err-step_shape
returns-in_err-step_shape c =
    let a = c.args in
    let p = err_from_is_err_and c.from_residual.result c.from_residual.ensures.1 in
    rw (p.1, p.2)
    (step-shape-refused (step_call a.balance a.kept.now a.source a.scale (lists_of a.field.now) a.scratch.now a.book.now a.book_length) a.answer.now
    (record {
      bytes = λ i. (c.type_inv.book i).fits;
      least = parts-le (omega (arith, c.ranges, about a.source));
      most = parts-le (omega (arith, c.ranges, about a.source));
    })
    (sym c.in_err-step_shape.ensures))

pub put_result-requires : goal.put_result-requires
put_result-requires c =
    let a = c.args in
    step_room (step_call a.balance a.kept.now a.source a.scale (lists_of a.field.now) a.scratch.now a.book.now a.book_length) a.answer.now (sym c.in_ok-step_shape.ensures)

pub returns-in_err-stepped : goal.returns-in_err-stepped
returns-in_err-stepped c =
    let a = c.args in
    let x = λ (z : ℤ). step_call a.balance a.kept.now z a.scale (lists_of a.field.now) a.scratch.now a.book.now a.book_length in
    let p = err_from_is_err_and c.from_residual-in_err-stepped.result c.from_residual-in_err-stepped.ensures.1 in
    rw (p.1, p.2)
    (step-refused (x a.source) a.answer.now (sym c.in_ok-step_shape.ensures) _
    (subst (λ (z : ℤ). StepContract (x z) c.step.result c.step.new.kept c.step.new.scratch c.step.new.book) (to_z-of_z w32 a.source c.ranges.source) c.step.ensures)
    c.in_err-stepped.was)

pub returns : goal.returns
returns c =
    let a = c.args in
    let x = λ (z : ℤ). step_call a.balance a.kept.now z a.scale (lists_of a.field.now) a.scratch.now a.book.now a.book_length in
    step-done (x a.source) a.answer.now (sym c.in_ok-step_shape.ensures) _
    (subst (λ (z : ℤ). StepContract (x z) c.step.result c.step.new.kept c.step.new.scratch c.step.new.book) (to_z-of_z w32 a.source c.ranges.source) c.step.ensures)
    c.in_ok-stepped.was c.put_result.ensures
