-- `split::work::copy_masses` meets its contract: the masses of the rows passed are written over the list.
use mathlib.Core.Path.{◌≡◌}
use lib.IntN.{pos}
use Rattle.numbers.specs.Lists.{list_to, written}
use Rattle.scratch_spec.specs.Columns.{MASS, num}
use Rattle.split.proofs.work.copy_masses.Given as goal

abbrev pub invariant-loop-u : goal.invariant-loop-u
invariant-loop-u l = l.masses ≡ written l.initial.masses 0 (list_to l.u (λ w. pos (num MASS l.s w)))
