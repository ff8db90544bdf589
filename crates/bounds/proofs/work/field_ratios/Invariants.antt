-- `bounds::work::field_ratios` meets its contract: the ratios so far are those of the cells passed.
use mathlib.Core.Path.{◌≡◌}
use Rattle.numbers.specs.Lists.{at}
use Rattle.bounds_spec.specs.Ratios.{least_of, most_of}
use Rattle.bounds.proofs.work.field_ratios.Given as goal

abbrev pub invariant-loop-c : goal.invariant-loop-c
invariant-loop-c l = (l.smallest.0 ≡ least_of (at l.low_ratios) l.c) × (l.largest.0 ≡ most_of (at l.high_ratios) l.c)
