-- `solve::load::fill` meets its contract: the rows passed have their elements.
use mathlib.Core.Bool.{true}
use lib.IntN.{pos}
use Rattle.numbers.specs.Lists.{at}
use Rattle.scratch_spec.specs.Columns.{number_of, Laid}
use Rattle.solve.proofs.load.fill.Given as goal

abbrev pub invariant-loop-u : goal.invariant-loop-u
invariant-loop-u l = Laid (number_of l.column) l.m (λ w. true) (λ w. pos (at l.xs w)) l.u l.initial.s l.s
