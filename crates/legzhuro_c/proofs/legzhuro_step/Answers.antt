-- `legzhuro_c::legzhuro_step` meets its contract: it is the call of `calls`.
use mathlib.Core.Path.{subst}
use lib.IntN.{ℤ}
use mir.Syntax.{w32}
use mir.ValLaws.{to_z-of_z}
use Rattle.qlt_spec.specs.Field.{lists}
use Rattle.kept_spec.specs.Step.{step_call}
use Rattle.call_values.specs.Values.{returned}
use Rattle.legzhuro_c.specs.Calls.{StepReturns}
use Rattle.legzhuro_c.proofs.legzhuro_step.Goals as goal

pub returns : goal.returns
returns c =
    let a = c.args in
    let done = c.step in
    let given = λ (z : ℤ).
    step_call (record { total = a.total; scale = a.total_scale }) a.kept.now z a.scale (lists a.targets.now a.lows.now a.highs.now a.safe_lows.now a.safe_highs.now a.weights.now a.parents.now)
    a.scratch.now a.book.now a.book_length in
    rw c.returned.ensures
    (subst (λ (z : ℤ). StepReturns (given z) a.answer.now (returned done.result) done.new.kept done.new.scratch done.new.book done.new.answer)
    (to_z-of_z w32 a.source c.ranges.source) done.ensures)
