-- The cells of a field as the writer goes through them. Assumes nothing.
use Rattle.std.specs.Prelude.{◌≡◌, List, ℕ, ◌+◌, ◌*◌, ◌/◌, ◌%◌, ◌^◌, ◌≤◌, ◌<◌, length}
use Rattle.std.specs.Int.Signed.{mag}
use Rattle.numbers.specs.Lists.{at, at_ℤ}
use Rattle.block_tables.specs.Tables.{table_used, table_words}
use Rattle.qlt_spec.specs.Field.{Lists}
use Rattle.files_spec.specs.FieldFile.{cell_table, cell_words}

-- each list of cells has n entries or more
abbrev pub Cells : ℕ → Lists → Type 0
Cells n f =
    (n ≤ length f.targets) × (n ≤ length f.lows) × (n ≤ length f.highs) × (n ≤ length f.safe_lows) × (n ≤ length f.safe_highs) × (n ≤ length f.weights)

-- the words of the k-th block of n cells
abbrev pub block_words : ℕ → Lists → ℕ → List ℕ
block_words n f k = table_words cell_table n (λ i j. at (cell_words f i) j) k

-- word j of cell i fits its type: the target has 32 bits with its sign, each word has 32 bits
pub record WordFits (f : Lists) (i j : ℕ) : Type 0 where
  pub target : j ≡ 0 → mag (at_ℤ f.targets i) < 2 ^ 31
  pub word : at (cell_words f i) j < 2 ^ 32

-- so do the words of the k-th block of n cells
abbrev pub BlockFits : ℕ → Lists → ℕ → Type 0
BlockFits n f k = (x : ℕ) → x < table_used cell_table n k → WordFits f (20 * k + x / 6) (x % 6)
