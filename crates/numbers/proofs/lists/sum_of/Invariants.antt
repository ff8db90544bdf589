-- `numbers::lists::sum_of` meets its contract: the sum so far is that of the elements passed, and less than 2 ^ 32 for each of them.
use mathlib.Core.Path.{◌≡◌}
use Prim.Native.Nat.{◌*◌, ◌≤◌}
use Rattle.numbers.specs.Sums.{ℕ_adds, sum_to}
use Rattle.numbers.specs.Lists.{at}
use Rattle.numbers.proofs.lists.sum_of.Given as goal

abbrev pub invariant-loop-x : goal.invariant-loop-x
invariant-loop-x l = (l.sum ≡ sum_to ℕ_adds l.x-index (at l.xs)) × (l.sum ≤ l.x-index * 4294967295)
