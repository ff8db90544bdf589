-- `split::work::fill` meets its contract: the rows passed have their elements.
use mathlib.Core.Bool.{true}
use lib.ListN.{length}
use Rattle.numbers.specs.Lists.{at_ℤ}
use Rattle.scratch_spec.specs.Columns.{number_of, Laid}
use Rattle.split.proofs.work.fill.Given as goal

abbrev pub invariant-loop-u : goal.invariant-loop-u
invariant-loop-u l = Laid (number_of l.column) (length l.xs) (λ w. true) (at_ℤ l.xs) l.u l.initial.s l.s
