-- `solve::load::gather` meets its contract: the inner nodes start at 0; before the turn at v each place has its own value and the sums of
-- its children below v, so v's place is complete when it is added to its parent's.
use mathlib.Core.Path.{refl, ◌∙◌}
use native.Mathlib.Omega.{arith}
use Rattle.solve_spec.proofs.GatherLaws.{gather-start, gather-adds, gather-turn, gather-end}
use Rattle.solve.proofs.load.gather.Goals as goal

pub overflow_sub-v-end : goal.overflow_sub-v-end
overflow_sub-v-end c = omega (arith, c.requires.gathering.valid.some, c.requires.gathering.valid.room)

pub loop-v-init : goal.loop-v-init
loop-v-init c = gather-start c.requires.gathering c.blank.ensures

pub add_up-requires : goal.add_up-requires
add_up-requires c = gather-adds c.requires.gathering c.blank.ensures c.loop-v.invariant (omega arith) refl

pub loop-v-preserved : goal.loop-v-preserved
loop-v-preserved c = gather-turn c.requires.gathering c.blank.ensures c.loop-v.invariant (omega arith) refl c.add_up.ensures

pub shape_of-s : goal.shape_of-s
shape_of-s c = c.loop-v.invariant.kept.long ∙ c.blank.ensures.kept.long

pub returns : goal.returns
returns c = gather-end c.requires.gathering c.blank.ensures c.loop-v.invariant (omega arith) (omega arith)
