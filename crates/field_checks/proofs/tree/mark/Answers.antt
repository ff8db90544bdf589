-- `field_checks::tree::mark` meets its contract: after u turns the marks are those of the nodes with a child among the first u.
use mathlib.Core.Path.{refl, ◌∙◌}
use Rattle.numbers.specs.Lists.{at}
use Rattle.field_checks.proofs.CodeLaws.{marks-turn}
use Rattle.field_checks.proofs.tree.mark.Goals as goal

pub loop-u-preserved : goal.loop-u-preserved
loop-u-preserved c = (
  c.mark_one.auto.seen ∙ c.loop-u.invariant.0,
  marks-turn (at c.args.parents.now) c.loop-u.u (at c.args.parents.now c.loop-u.u) _ _ refl c.mark_one.auto.seen c.mark_one.ensures c.loop-u.invariant.1,
)
