-- `test_support::runs::fill_targets` meets its contract: the position stays within the text.
use Prim.Native.Nat.{◌≤◌}
use lib.ListN.{length}
use Rattle.test_support.proofs.runs.fill_targets.Given as goal

abbrev pub invariant-loop-i : goal.invariant-loop-i
invariant-loop-i l = l.next ≤ length l.text
