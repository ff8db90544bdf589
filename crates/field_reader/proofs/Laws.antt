-- The lists of a file as they are read, for the reader's proof. Assumes nothing.
use mathlib.Core.Path.{◌≡◌}
use mathlib.Core.List.{List}
use Prim.Native.Nat.{ℕ, ◌+◌}
use lib.IntN.{ℤ}
use Rattle.numbers.specs.Lists.{list_to, written}
use Rattle.blocks.specs.Words.{word_signed}
use Rattle.block_tables.specs.Tables.{table_word, list_table}
use Rattle.qlt_spec.specs.Field.{Lists, lists}
use Rattle.files_spec.specs.FieldFile.{cell_blocks, cell_word}
use Rattle.files_spec.specs.ReadField.{file_cells, file_nodes, file_lists, lists_read}

-- seven lists, each read by the sizes that block 1 says, are those of the file
pub lists-are :
    (file : List ℕ) (s : Lists) {n m k : ℕ} → n ≡ file_cells file → m ≡ file_nodes file → k ≡ cell_blocks n → {a : List ℤ} {b c d e f g : List ℕ}
    → a ≡ written s.targets 0 (list_to n (λ i. word_signed (cell_word file 0 i)))
    → b ≡ written s.lows 0 (list_to n (cell_word file 1))
    → c ≡ written s.highs 0 (list_to n (cell_word file 2))
    → d ≡ written s.safe_lows 0 (list_to n (cell_word file 3))
    → e ≡ written s.safe_highs 0 (list_to n (cell_word file 4))
    → f ≡ written s.weights 0 (list_to n (cell_word file 5))
    → g ≡ written s.parents 0 (list_to m (table_word list_table file (2 + k) 0))
    → lists a b c d e f g ≡ lists_read file s
unfolding file_lists
lists-are file s p q t h i j k l o r = rw (h, i, j, k, l, o, r, t, p, q)
