-- `report_test::run_all` is safe and ends: the number rises to 1000 at most.
use Prim.Native.Nat.{◌-◌}
use Rattle.report_test.proofs.run_all.Given as goal

abbrev pub invariant-loop-number : goal.invariant-loop-number
invariant-loop-number l = Unit

abbrev pub decreases-loop-number : goal.decreases-loop-number
decreases-loop-number l = 1000 - l.number
