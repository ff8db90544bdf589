-- `numbers::lists::sum_of` meets its contract: a sum to the next index is one more summand.
use native.Mathlib.Omega.{arith}
use native.Mathlib.Numerals.{add-one}
use Rattle.numbers.specs.Sums.{ℕ_adds, sum_to}
use Rattle.numbers.specs.Lists.{at}
use Rattle.numbers.proofs.SumLaws.{sum_to-next}
use Rattle.numbers.proofs.lists.sum_of.Goals as goal

pub loop-x-init : goal.loop-x-init
unfolding sum_to
loop-x-init c = omega arith

pub loop-x-preserved : goal.loop-x-preserved
loop-x-preserved c = rw add-one (omega (arith, sum_to-next ℕ_adds c.loop-x.x-index (at c.args.xs.now)))
