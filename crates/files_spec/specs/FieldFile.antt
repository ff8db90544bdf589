-- The bytes of a field file ('Files' of 01), and where each number of it stands. Assumes nothing.
use Rattle.std.specs.Prelude.{cond, List, [], ◌∷◌, ℕ, ◌+◌, ◌-◌, ◌^◌, ◌<◌, leb, pos, negsuc, ◌≤ℤ◌, take}
use Rattle.numbers.specs.Lists.{at, at_ℤ, written}
use Rattle.blocks.specs.Words.{Words, signed_word}
use Rattle.block_tables.specs.declared.tables.Table.{Table}
use Rattle.blocks.specs.Blocks.{file_bytes}
use Rattle.block_tables.specs.Tables.{table, table_blocks, table_used, table_words, table_word, list_table, list_block}
use Rattle.qlt_spec.specs.Field.{Lists, lists, cells, nodes}

-- ---- sizes: one block, then cells, 20 to a block, six words each, then parents, 125 to a block
abbrev pub cell_table : Table
cell_table = table 6 20

abbrev pub cell_blocks : ℕ → ℕ
cell_blocks n = table_blocks cell_table n

abbrev pub parent_blocks : ℕ → ℕ
parent_blocks m = table_blocks list_table m

abbrev pub field_blocks : ℕ → ℕ → ℕ
field_blocks n m = 1 + cell_blocks n + parent_blocks m

-- ---- the payload words of each block of a field f with the total M

-- the six words of cell i, the target in two's complement
abbrev pub cell_words : Lists → ℕ → List ℕ
cell_words f i =
    signed_word (at_ℤ f.targets i) ∷ at f.lows i ∷ at f.highs i ∷ at f.safe_lows i ∷ at f.safe_highs i ∷ at f.weights i ∷ []

-- the k-th block of cells and the k-th block of parents, each from 0
abbrev pub cell_block : Lists → ℕ → List ℕ
cell_block f k = table_words cell_table (cells f) (λ i j. at (cell_words f i) j) k

abbrev pub parent_block : Lists → ℕ → List ℕ
parent_block f k = list_block (nodes f) f.parents k

unfoldable pub field_words : Lists → ℕ → ℕ → List ℕ
field_words f M b =
    cond (leb b 1) (512 ∷ cells f ∷ nodes f ∷ M ∷ [])
    (cond (leb b (1 + cell_blocks (cells f))) (cell_block f (b - 2))
    (parent_block f (b - (2 + cell_blocks (cells f)))))

-- the whole file
unfoldable pub field_bytes : Lists → ℕ → List ℕ
field_bytes f M = file_bytes (field_words f M) (field_blocks (cells f) (nodes f))

-- ---- reading

-- how many payload words block b uses, in a file of n cells and m nodes
unfoldable pub field_used : ℕ → ℕ → ℕ → ℕ
field_used n m b =
    cond (leb b 1) 4
    (cond (leb b (1 + cell_blocks n)) (table_used cell_table n (b - 2))
    (table_used list_table m (b - (2 + cell_blocks n))))

-- word k of cell i, and parent i in a file of n cells
abbrev pub cell_word : List ℕ → ℕ → ℕ → ℕ
cell_word file k i = table_word cell_table file 2 k i

abbrev pub parent_word : List ℕ → ℕ → ℕ → ℕ
parent_word file n i = table_word list_table file (2 + cell_blocks n) 0 i

-- ---- lists that may be longer than the field

-- the first n entries of the lists of cells, and the first m parents
abbrev pub fronts : ℕ → ℕ → Lists → Lists
fronts n m s =
    lists (take n s.targets) (take n s.lows) (take n s.highs) (take n s.safe_lows) (take n s.safe_highs) (take n s.weights) (take m s.parents)

-- the lists s with the lists f in place of their front; later entries are untouched
abbrev pub over_fronts : Lists → Lists → Lists
over_fronts s f =
    lists
    (written s.targets 0 f.targets)
    (written s.lows 0 f.lows)
    (written s.highs 0 f.highs)
    (written s.safe_lows 0 f.safe_lows)
    (written s.safe_highs 0 f.safe_highs)
    (written s.weights 0 f.weights)
    (written s.parents 0 f.parents)

-- ---- each value fits its type: targets of 32 bits with a sign, all others of 32 bits without
pub record FieldTyped (s : Lists) (M : ℕ) : Type 0 where
  pub least : (i : ℕ) → negsuc 2147483647 ≤ℤ at_ℤ s.targets i
  pub most : (i : ℕ) → at_ℤ s.targets i ≤ℤ pos 2147483647
  pub low_words : Words s.lows
  pub high_words : Words s.highs
  pub safe_low_words : Words s.safe_lows
  pub safe_high_words : Words s.safe_highs
  pub weight_words : Words s.weights
  pub parent_words : Words s.parents
  pub total_word : M < 2 ^ 32
