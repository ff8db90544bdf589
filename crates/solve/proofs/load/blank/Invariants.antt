-- `solve::load::blank` meets its contract: of the rows passed, those from n on have 0.
use lib.Dec.{leb}
use lib.IntN.{pos}
use Rattle.scratch_spec.specs.Columns.{number_of, Laid}
use Rattle.solve.proofs.load.blank.Given as goal

abbrev pub invariant-loop-u : goal.invariant-loop-u
invariant-loop-u l = Laid (number_of l.column) l.m (λ w. leb l.n w) (λ w. pos 0) l.u l.initial.s l.s
