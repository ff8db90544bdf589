-- The items of a call in the scratch: a row for each, one chain through all rows, and the total in the row after them. Assumes nothing.
use Rattle.std.specs.Prelude.{◌≡◌, List, ℕ, ◌+◌, ◌*◌, ◌≤◌, ◌<◌, ℤ, length}
use Rattle.numbers.specs.Lists.{at_ℤ}
use Rattle.numbers.specs.Signed.{over}
use Rattle.scratch_spec.specs.Columns.{width, MASS, LOW, HIGH, WEIGHT, FIRST, NEXT, Storable, col, num}

-- numbers of which each can stand in any column
pub record AllStorable (xs : List ℤ) : Type 0 where
  pub each : (u : ℕ) → u < length xs → Storable LOW (at_ℤ xs u)

pub record ItemsLoaded (t l h w : List ℤ) (M : ℤ) (s : List ℤ) : Type 0 where
  pub size : width * length t + width ≤ length s
  pub targets : (u : ℕ) → u < length t → col MASS s u ≡ at_ℤ t u
  pub lows : (u : ℕ) → u < length t → col LOW s u ≡ at_ℤ l u
  pub highs : (u : ℕ) → u < length t → col HIGH s u ≡ at_ℤ h u
  pub weights : (u : ℕ) → u < length t → col WEIGHT s u ≡ at_ℤ w u
  pub nexts : (u : ℕ) → u < length t → num NEXT s u ≡ u + 1
  pub head : num FIRST s (length t) ≡ 0
  pub total : num MASS s (length t) ≡ over M
