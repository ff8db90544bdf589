-- Columns of the scratch that are filled from lists of the cells' values and added up from the leaves to the root. Assumes nothing.
use Rattle.std.specs.Prelude.{◌≡◌, true, List, ℕ, ◌*◌, ◌^◌, ◌≤◌, ◌<◌, ℤ, nat_abs, length}
use Rattle.numbers.specs.Sums.{ℕ_adds, ℤ_adds, sum_to}
use Rattle.numbers.specs.Lists.{at_ℤ}
use Rattle.scratch_spec.specs.Columns.{width, MASS, Small, col, OnlyColumn, Laid}
use Rattle.qlt_spec.specs.Tree.{Valid, node_sum}

-- column k of the first n rows, the cells, may be added up: the tree is sound, the rows are in the scratch, and no sum is too large,
-- for 64 bits and for the column
pub record Gathering (up : ℕ → ℕ) (n m k : ℕ) (s : List ℤ) : Type 0 where
  pub valid : Valid up n m
  pub size : width * m ≤ length s
  pub column : k < 6
  pub small : sum_to ℕ_adds n (λ c. nat_abs (col k s c)) < 2 ^ 63
  pub narrow : Small k (sum_to ℕ_adds n (λ c. nat_abs (col k s c)))

-- column k has at each node its sum of f over its cells, and nothing else was changed
pub record Loaded (up : ℕ → ℕ) (n m k : ℕ) (f : ℕ → ℤ) (s new : List ℤ) : Type 0 where
  pub kept : OnlyColumn k m s new
  pub sums : (u : ℕ) → u < m → col k new u ≡ node_sum ℤ_adds up n m f u

-- the first b targets stand in their column, and each is a number of 32 bits
pub record Targets (m : ℕ) (xs : List ℤ) (b : ℕ) (old new : List ℤ) : Type 0 where
  pub laid : Laid MASS m (λ u. true) (at_ℤ xs) b old new
  pub small : (u : ℕ) → u < b → nat_abs (at_ℤ xs u) ≤ 2 ^ 31
