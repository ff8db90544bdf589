-- `test_support::output::check_number` is safe: the check number stays a remainder.
use Prim.Native.Nat.{◌<◌}
use Rattle.test_support.proofs.output.check_number.Given as goal

abbrev pub invariant-loop-i : goal.invariant-loop-i
invariant-loop-i l = l.check < 1000000007
