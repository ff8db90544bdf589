-- `solve::load::fill_with` meets its contract: the rows passed have x.
use mathlib.Core.Bool.{true}
use lib.IntN.{pos}
use Rattle.scratch_spec.specs.Columns.{number_of, Laid}
use Rattle.solve.proofs.load.fill_with.Given as goal

abbrev pub invariant-loop-u : goal.invariant-loop-u
invariant-loop-u l = Laid (number_of l.column) l.m (λ w. true) (λ w. pos l.x) l.u l.initial.s l.s
