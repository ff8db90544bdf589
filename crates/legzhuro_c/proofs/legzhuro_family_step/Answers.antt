-- `legzhuro_c::legzhuro_family_step` meets its contract: it is the call of `family_calls`.
use mathlib.Core.Path.{subst}
use lib.IntN.{ℤ}
use mir.Syntax.{w32}
use mir.ValLaws.{to_z-of_z}
use Rattle.qlt_spec.specs.Field.{lists}
use Rattle.family_spec.specs.Member.{step_inputs}
use Rattle.call_values.specs.Values.{returned}
use Rattle.family_calls.specs.Calls.{FamilyStepReturns}
use Rattle.legzhuro_c.proofs.legzhuro_family_step.Goals as goal

pub returns : goal.returns
returns c =
    let a = c.args in
    let done = c.step in
    let given = λ (z : ℤ). step_inputs a.kept.now z a.scale (lists a.targets.now a.lows.now a.highs.now a.safe_lows.now a.safe_highs.now a.weights.now a.parents.now) a.scratch.now a.book.now a.book_length in
    rw c.returned.ensures
    (subst (λ (z : ℤ). FamilyStepReturns a.family.now a.member (given z) a.answer.now (returned done.result) done.new.family done.new.kept done.new.scratch done.new.book done.new.answer)
    (to_z-of_z w32 a.source c.ranges.source) done.ensures.1)
