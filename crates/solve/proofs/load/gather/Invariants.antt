-- `solve::load::gather` meets its contract: the inner nodes start at 0; before the turn at v each place has its own value and the sums of
-- its children below v, so v's place is complete when it is added to its parent's.
use Rattle.numbers.specs.Lists.{at}
use Rattle.scratch_spec.specs.Columns.{number_of, col}
use Rattle.solve_spec.proofs.GatherLaws.{GatherState}
use Rattle.solve.proofs.load.gather.Given as goal

abbrev pub invariant-loop-v : goal.invariant-loop-v
invariant-loop-v l = GatherState (at l.parents) l.n l.m (number_of l.column) (col (number_of l.column) l.initial.s) l.v l.initial.s l.s
