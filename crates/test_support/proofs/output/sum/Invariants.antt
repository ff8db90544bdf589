-- `test_support::output::sum` is safe: the masses passed are at most 4294967295 each.
use Prim.Native.Nat.{◌≤◌, ◌*◌}
use Rattle.test_support.proofs.output.sum.Given as goal

abbrev pub invariant-loop-x : goal.invariant-loop-x
invariant-loop-x l = l.sum ≤ 4294967295 * l.x-index
