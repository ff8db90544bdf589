-- `kept::step` meets its contract: nothing is put in, so the verdict is Step's.
use mir.Syntax.{w32}
use mir.ValLaws.{to_z-of_z}
use Rattle.kept_spec.specs.Step.{step_verdict, step_verdict_with}
use Rattle.kept.proofs.step.Goals as goal

pub returns : goal.returns
unfolding step_verdict step_verdict_with
returns c = rw (to_z-of_z w32 c.args.source c.ranges.source) at c.step_with.ensures
