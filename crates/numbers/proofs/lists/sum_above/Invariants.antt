-- `numbers::lists::sum_above` meets its contract: the sum so far is that of the elements passed, or 2 ^ 31 if that is more.
use mathlib.Core.Path.{◌≡◌}
use Prim.Native.Nat.{◌^◌, min}
use Rattle.numbers.specs.Sums.{ℕ_adds, sum_to}
use Rattle.numbers.specs.Lists.{at_ℤ}
use Rattle.numbers.specs.Signed.{over}
use Rattle.numbers.proofs.lists.sum_above.Given as goal

abbrev pub invariant-loop-x : goal.invariant-loop-x
invariant-loop-x l = l.sum ≡ min (sum_to ℕ_adds l.x-index (λ j. over (at_ℤ l.xs j))) (2 ^ 31)
