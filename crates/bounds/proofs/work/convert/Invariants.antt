-- `bounds::work::convert` meets its contract: the bounds of the cells passed stand in the lists.
use Rattle.bounds_spec.specs.Bounds.{mixing, bounds}
use Rattle.bounds.proofs.FillLaws.{Filled}
use Rattle.bounds.proofs.work.convert.Given as goal

abbrev pub invariant-loop-c : goal.invariant-loop-c
invariant-loop-c l =
    Filled (mixing l.air l.low_ratios l.high_ratios) (bounds l.initial.lows l.initial.highs l.initial.safe_lows l.initial.safe_highs) l.c (bounds l.lows l.highs l.safe_lows l.safe_highs)
