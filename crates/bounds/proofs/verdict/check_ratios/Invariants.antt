-- `bounds::verdict::check_ratios` meets its contract: the verdict is that of the cells from c on.
use mathlib.Core.Path.{◌≡◌}
use Prim.Native.Nat.{◌-◌}
use lib.ListN.{length}
use Rattle.numbers.specs.Checks.{first_from}
use Rattle.bounds_spec.specs.Bounds.{ratios_ok_at}
use Rattle.bounds.proofs.verdict.check_ratios.Given as goal

abbrev pub invariant-loop-c : goal.invariant-loop-c
invariant-loop-c l = first_from (ratios_ok_at l.low_ratios l.high_ratios) 18 0 (length l.low_ratios) ≡ first_from (ratios_ok_at l.low_ratios l.high_ratios) 18 l.c (length l.low_ratios - l.c)
