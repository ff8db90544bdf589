-- The bytes of an answer file ('Files' of 01), and where each number of it stands. Assumes nothing.
use Rattle.std.specs.Prelude.{cond, List, [], ◌∷◌, ℕ, ◌+◌, ◌-◌, ◌^◌, ◌<◌, leb}
use Rattle.blocks.specs.Words.{Words, low_word, high_word}
use Rattle.blocks.specs.Blocks.{file_bytes}
use Rattle.block_tables.specs.Tables.{table_blocks, table_used, table_word, list_table, list_block}
use Rattle.qlt_spec.specs.declared.Repair.{Repair}

-- one block, then masses, 125 to a block
abbrev pub mass_blocks : ℕ → ℕ
mass_blocks n = table_blocks list_table n

abbrev pub answer_blocks : ℕ → ℕ
answer_blocks n = 1 + mass_blocks n

-- how many payload words block 1 uses; those words; the k-th block of masses, from 0
abbrev pub head_used : ℕ
head_used = 8

abbrev pub answer_head : ℕ → Repair → List ℕ
answer_head n r = 512 ∷ n ∷ r.outcome ∷ r.total ∷ low_word r.change ∷ high_word r.change ∷ low_word r.shared ∷ high_word r.shared ∷ []

abbrev pub mass_block : ℕ → List ℕ → ℕ → List ℕ
mass_block n masses k = list_block n masses k

unfoldable pub answer_words : ℕ → Repair → List ℕ → ℕ → List ℕ
answer_words n r masses b = cond (leb b 1) (answer_head n r) (mass_block n masses (b - 2))

-- the whole file, for the first n masses
unfoldable pub answer_bytes : ℕ → Repair → List ℕ → List ℕ
answer_bytes n r masses = file_bytes (answer_words n r masses) (answer_blocks n)

-- ---- reading

-- how many payload words block b uses, in a file of n cells
unfoldable pub answer_used : ℕ → ℕ → ℕ
answer_used n b = cond (leb b 1) head_used (table_used list_table n (b - 2))

-- mass i
abbrev pub mass_word : List ℕ → ℕ → ℕ
mass_word file i = table_word list_table file 2 0 i

-- ---- each value fits its type: the change and what is shared out have 64 bits, all others 32
pub record AnswerTyped (r : Repair) (masses : List ℕ) : Type 0 where
  pub outcome_word : r.outcome < 2 ^ 32
  pub total_word : r.total < 2 ^ 32
  pub change_words : r.change < 2 ^ 64
  pub shared_words : r.shared < 2 ^ 64
  pub mass_words : Words masses
