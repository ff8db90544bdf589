-- The operation Read an answer (ticket 1 of 02): its verdict, its answer, and the masses it leaves. Assumes nothing.
use Rattle.std.specs.Prelude.{◌≡◌, List, [], ◌∷◌, ◌++◌, ℕ, ◌*◌, ◌-◌, ◌≤◌, ◌<◌, length}
use Rattle.files_spec.specs.declared.Repaired.{Repaired}
use Rattle.numbers.specs.Lists.{list_to, written, sum}
use Rattle.numbers.specs.Checks.{Checked, Answered, answered, after, first, each_from, check_count, check_long, Rule, rule, rule_for, rules_from}
use Rattle.blocks.specs.Words.{Bytes, two_words}
use Rattle.blocks.specs.Blocks.{block_of, payload_word, check_sound, check_spare, check_block, SoundBlock, SpareZero, block_rules}
use Rattle.blocks.specs.Files.{check_file_length, FileLength, check_block_count, check_mark}
use Rattle.qlt_spec.specs.declared.Repair.{Repair}
use Rattle.files_spec.specs.AnswerFile.{answer_blocks, head_used, answer_used, mass_word}
use Rattle.files_spec.specs.WriteAnswer.{check_outcome, check_masses}

-- ---- what the file says

-- block 1: n, and what is told of the repair. A file written before ticket 2 of 02 has 0 in the last two words
abbrev pub answer_cells : List ℕ → ℕ
answer_cells file = payload_word file 1 1

abbrev pub answer_repair : List ℕ → Repair
answer_repair file =
    record {
      outcome = payload_word file 1 2;
      total = payload_word file 1 3;
      change = two_words (payload_word file 1 4) (payload_word file 1 5);
      shared = two_words (payload_word file 1 6) (payload_word file 1 7);
    }

-- the masses
unfoldable pub answer_masses : List ℕ → List ℕ
answer_masses file = list_to (answer_cells file) (mass_word file)

-- ---- the checks; `room` is the length of the lent list

-- the largest file: 6 blocks
abbrev pub max_answer_file : ℕ
max_answer_file = 3072

-- block 1: 15, then 16 for its first word, for the outcome and for its spare words
abbrev pub answer_block_checks : List ℕ → List Checked
answer_block_checks file = check_sound file 1 ∷ check_mark file ∷ check_outcome (answer_repair file).outcome ∷ check_spare file head_used 1 ∷ []

-- n, the length and the list
abbrev pub answer_size_checks : List ℕ → ℕ → List Checked
answer_size_checks file room =
    check_count (answer_cells file)
    ∷ check_block_count (length file) (answer_blocks (answer_cells file))
    ∷ check_long room (answer_cells file)
    ∷ []

abbrev pub answer_head_checks : List ℕ → ℕ → List Checked
answer_head_checks file room = check_file_length max_answer_file (length file) ∷ (answer_block_checks file ++ answer_size_checks file room)

unfoldable pub answer_head_verdict : List ℕ → ℕ → Checked
answer_head_verdict file room = first (answer_head_checks file room)

-- the later blocks in order: 15, then 16
unfoldable pub answer_later_verdict : List ℕ → Checked
answer_later_verdict file = each_from (check_block file (answer_used (answer_cells file))) 2 (answer_blocks (answer_cells file) - 1)

-- 12: the masses add up to M
unfoldable pub answer_sum_verdict : List ℕ → Checked
answer_sum_verdict file = check_masses (answer_cells file) (answer_masses file) (answer_repair file).total

abbrev pub answer_read_checks : List ℕ → ℕ → List Checked
answer_read_checks file room = answer_head_verdict file room ∷ answer_later_verdict file ∷ answer_sum_verdict file ∷ []

unfoldable pub answer_read_verdict : List ℕ → ℕ → Checked
answer_read_verdict file room = first (answer_read_checks file room)

-- ---- what the checks mean

unfoldable pub answer_head_rules : List ℕ → ℕ → List Rule
answer_head_rules file room =
    rule 14 (FileLength max_answer_file (length file))
    ∷ rule_for 15 1 (SoundBlock (block_of file 1) 1)
    ∷ rule_for 16 1 (payload_word file 1 0 ≡ 512)
    ∷ rule_for 16 1 ((answer_repair file).outcome ≤ 2)
    ∷ rule_for 16 1 (SpareZero file head_used 1)
    ∷ rule 1 ((0 < answer_cells file) × (answer_cells file ≤ 512))
    ∷ rule 14 (length file ≡ 512 * answer_blocks (answer_cells file))
    ∷ rule 3 (answer_cells file ≤ room)
    ∷ []

unfoldable pub answer_later_rules : List ℕ → List Rule
answer_later_rules file = rules_from (block_rules file (answer_used (answer_cells file))) 2 (answer_blocks (answer_cells file) - 1)

abbrev pub answer_read_rules : List ℕ → ℕ → List Rule
answer_read_rules file room = (answer_head_rules file room ++ answer_later_rules file) ++ (rule 12 (sum (answer_masses file) ≡ (answer_repair file).total) ∷ [])

-- block 1, the sizes and the list break no rule
pub record AnswerHeadFits (file : List ℕ) (room : ℕ) : Type 0 where
  pub whole : length file ≡ 512 * answer_blocks (answer_cells file)
  pub sound : SoundBlock (block_of file 1) 1
  pub mark : payload_word file 1 0 ≡ 512
  pub outcome : (answer_repair file).outcome ≤ 2
  pub spare : SpareZero file head_used 1
  pub some : 0 < answer_cells file
  pub few : answer_cells file ≤ 512
  pub room_for : answer_cells file ≤ room

-- what the later blocks and the masses are read by
pub record AnswerMeasured (file : List ℕ) : Type 0 where
  pub whole : length file ≡ 512 * answer_blocks (answer_cells file)
  pub some : 0 < answer_cells file
  pub few : answer_cells file ≤ 512

-- nor do the later blocks and the sum
pub record AnswerReadFits (file : List ℕ) (room : ℕ) : Type 0 where
  pub head : AnswerHeadFits file room
  pub sound : (b : ℕ) → 2 ≤ b → b ≤ answer_blocks (answer_cells file) → SoundBlock (block_of file b) b
  pub spare : (b : ℕ) → 2 ≤ b → b ≤ answer_blocks (answer_cells file) → SpareZero file (answer_used (answer_cells file) b) b
  pub adds_up : sum (answer_masses file) ≡ (answer_repair file).total

-- ---- the answer, and the masses at exit

abbrev pub answer_of : List ℕ → Repaired
answer_of file = record { cells = answer_cells file; repair = answer_repair file }

-- the whole contract of the operation: entries past n are untouched
pub record AnswerReadContract (file masses : List ℕ) (answer : Answered Repaired) (masses' : List ℕ) : Type 0 where
  pub bytes : Bytes file
  pub answers : answer ≡ answered (answer_read_verdict file (length masses)) (answer_of file)
  pub writes : masses' ≡ after (answer_read_verdict file (length masses)) (written masses 0 (answer_masses file)) masses
