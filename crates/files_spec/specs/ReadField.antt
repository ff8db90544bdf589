-- The operation Read a field file: its verdict, its answer, and the lists it leaves. Assumes nothing.
use Rattle.std.specs.Prelude.{◌≡◌, List, [], ◌∷◌, ◌++◌, ℕ, ◌*◌, ◌-◌, ◌≤◌, ◌<◌, length}
use Rattle.files_spec.specs.declared.Sizes.{Sizes}
use Rattle.numbers.specs.Lists.{list_to}
use Rattle.numbers.specs.Checks.{Checked, Answered, answered, after, first, each_from, check_count, check_long, Rule, rule, rule_for, rules_from}
use Rattle.blocks.specs.Words.{Bytes, word_signed}
use Rattle.blocks.specs.Blocks.{block_of, payload_word, check_sound, check_spare, check_block, SoundBlock, SpareZero, block_rules}
use Rattle.blocks.specs.Files.{check_file_length, FileLength, check_block_count, check_mark}
use Rattle.qlt_spec.specs.Field.{Lists, lists}
use Rattle.qlt_spec.specs.Checks.{check_nodes}
use Rattle.files_spec.specs.FieldFile.{field_blocks, field_used, cell_word, parent_word, over_fronts}

-- ---- what block 1 says: n, m and M
abbrev pub file_cells : List ℕ → ℕ
file_cells file = payload_word file 1 1

abbrev pub file_nodes : List ℕ → ℕ
file_nodes file = payload_word file 1 2

abbrev pub file_total : List ℕ → ℕ
file_total file = payload_word file 1 3

-- ---- the checks; s are the lent lists

-- the largest file: 36 blocks
abbrev pub max_field_file : ℕ
max_field_file = 18432

-- 3: each lent list has room for n or m
abbrev pub room_checks : (n m targets lows highs safe_lows safe_highs weights parents : ℕ) → List Checked
room_checks n m targets lows highs safe_lows safe_highs weights parents =
    check_long targets n
    ∷ check_long lows n
    ∷ check_long highs n
    ∷ check_long safe_lows n
    ∷ check_long safe_highs n
    ∷ check_long weights n
    ∷ check_long parents m
    ∷ []

unfoldable pub check_room : (n m targets lows highs safe_lows safe_highs weights parents : ℕ) → Checked
check_room n m targets lows highs safe_lows safe_highs weights parents = first (room_checks n m targets lows highs safe_lows safe_highs weights parents)

abbrev pub room_of : ℕ → ℕ → Lists → Checked
room_of n m s =
    check_room n m (length s.targets) (length s.lows) (length s.highs) (length s.safe_lows) (length s.safe_highs) (length s.weights) (length s.parents)

-- block 1: 15, then 16 for its first word and for its spare words
abbrev pub block_checks : List ℕ → List Checked
block_checks file = check_sound file 1 ∷ check_mark file ∷ check_spare file 4 1 ∷ []

-- n, m, the length and the lists
abbrev pub size_checks : List ℕ → Lists → List Checked
size_checks file s =
    check_count (file_cells file)
    ∷ check_nodes (file_cells file) (file_nodes file)
    ∷ check_block_count (length file) (field_blocks (file_cells file) (file_nodes file))
    ∷ room_of (file_cells file) (file_nodes file) s
    ∷ []

abbrev pub head_checks : List ℕ → Lists → List Checked
head_checks file s = check_file_length max_field_file (length file) ∷ (block_checks file ++ size_checks file s)

unfoldable pub head_verdict : List ℕ → Lists → Checked
head_verdict file s = first (head_checks file s)

-- the later blocks in order: 15, then 16
unfoldable pub later_verdict : List ℕ → Checked
later_verdict file =
    each_from (check_block file (field_used (file_cells file) (file_nodes file))) 2 (field_blocks (file_cells file) (file_nodes file) - 1)

abbrev pub read_checks : List ℕ → Lists → List Checked
read_checks file s = head_verdict file s ∷ later_verdict file ∷ []

unfoldable pub read_verdict : List ℕ → Lists → Checked
read_verdict file s = first (read_checks file s)

-- ---- what the checks mean

pub record Room (n m : ℕ) (s : Lists) : Type 0 where
  pub targets : n ≤ length s.targets
  pub lows : n ≤ length s.lows
  pub highs : n ≤ length s.highs
  pub safe_lows : n ≤ length s.safe_lows
  pub safe_highs : n ≤ length s.safe_highs
  pub weights : n ≤ length s.weights
  pub parents : m ≤ length s.parents

unfoldable pub head_rules : List ℕ → Lists → List Rule
head_rules file s =
    rule 14 (FileLength max_field_file (length file))
    ∷ rule_for 15 1 (SoundBlock (block_of file 1) 1)
    ∷ rule_for 16 1 (payload_word file 1 0 ≡ 512)
    ∷ rule_for 16 1 (SpareZero file 4 1)
    ∷ rule 1 ((0 < file_cells file) × (file_cells file ≤ 512))
    ∷ rule 2 ((file_cells file ≤ file_nodes file) × (file_nodes file ≤ 1024))
    ∷ rule 14 (length file ≡ 512 * field_blocks (file_cells file) (file_nodes file))
    ∷ rule 3 (Room (file_cells file) (file_nodes file) s)
    ∷ []

unfoldable pub later_rules : List ℕ → List Rule
later_rules file = rules_from (block_rules file (field_used (file_cells file) (file_nodes file))) 2 (field_blocks (file_cells file) (file_nodes file) - 1)

abbrev pub read_rules : List ℕ → Lists → List Rule
read_rules file s = head_rules file s ++ later_rules file

-- block 1, the sizes and the lists break no rule
pub record HeadFits (file : List ℕ) (s : Lists) : Type 0 where
  pub whole : length file ≡ 512 * field_blocks (file_cells file) (file_nodes file)
  pub sound : SoundBlock (block_of file 1) 1
  pub mark : payload_word file 1 0 ≡ 512
  pub spare : SpareZero file 4 1
  pub some : 0 < file_cells file
  pub few : file_cells file ≤ 512
  pub nodes_room : file_cells file ≤ file_nodes file
  pub nodes_few : file_nodes file ≤ 1024
  pub room : Room (file_cells file) (file_nodes file) s

-- what the later blocks and the lists are read by
pub record Measured (file : List ℕ) : Type 0 where
  pub whole : length file ≡ 512 * field_blocks (file_cells file) (file_nodes file)
  pub some : 0 < file_cells file
  pub few : file_cells file ≤ 512
  pub nodes_few : file_nodes file ≤ 1024

-- nor do the later blocks
pub record ReadFits (file : List ℕ) (s : Lists) : Type 0 where
  pub head : HeadFits file s
  pub sound : (b : ℕ) → 2 ≤ b → b ≤ field_blocks (file_cells file) (file_nodes file) → SoundBlock (block_of file b) b
  pub spare : (b : ℕ) → 2 ≤ b → b ≤ field_blocks (file_cells file) (file_nodes file) → SpareZero file (field_used (file_cells file) (file_nodes file) b) b

-- ---- the answer, and the lists at exit

abbrev pub sizes_of : List ℕ → Sizes
sizes_of file = record { cells = file_cells file; nodes = file_nodes file; total = file_total file }

-- the field that a file holds
unfoldable pub file_lists : List ℕ → Lists
file_lists file =
    lists
    (list_to (file_cells file) (λ i. word_signed (cell_word file 0 i)))
    (list_to (file_cells file) (cell_word file 1))
    (list_to (file_cells file) (cell_word file 2))
    (list_to (file_cells file) (cell_word file 3))
    (list_to (file_cells file) (cell_word file 4))
    (list_to (file_cells file) (cell_word file 5))
    (list_to (file_nodes file) (parent_word file (file_cells file)))

-- the lent lists with it at their front: entries past n and m are untouched
abbrev pub lists_read : List ℕ → Lists → Lists
lists_read file s = over_fronts s (file_lists file)

-- the whole contract of the operation
pub record ReadContract (file : List ℕ) (s : Lists) (answer : Answered Sizes) (t : Lists) : Type 0 where
  pub bytes : Bytes file
  pub answers : answer ≡ answered (read_verdict file s) (sizes_of file)
  pub writes : t ≡ after (read_verdict file s) (lists_read file s) s
