-- The sums that Split's checks look at, and what a check may count on once those before it have passed. Assumes nothing.
use Rattle.std.specs.Prelude.{List, ℕ, ◌<◌, ℤ, pos, ◌≤ℤ◌, length}
use Rattle.numbers.specs.Sums.{ℕ_adds, sum_to}
use Rattle.numbers.specs.Lists.{at_ℤ}
use Rattle.numbers.specs.Signed.{over}
use Rattle.numbers.specs.Checks.{max_total}
use Rattle.caas_spec.specs.Operation.{sum_ℤ}

-- the sum of what a list's numbers have above 0
abbrev pub sum_over : List ℤ → ℕ
sum_over xs = sum_to ℕ_adds (length xs) (λ u. over (at_ℤ xs u))

-- no number of a list is below 0
pub record NonNegative (xs : List ℤ) : Type 0 where
  pub at : (u : ℕ) → u < length xs → pos 0 ≤ℤ at_ℤ xs u

-- nor is its sum above 2147483647
pub record Summable (xs : List ℤ) : Type 0 where
  pub each : NonNegative xs
  pub sum : sum_ℤ (length xs) xs ≤ℤ pos max_total
