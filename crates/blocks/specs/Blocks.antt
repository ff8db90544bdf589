-- Blocks of 512 bytes ('Files' of 01): 128 words, of which word 0 is the block's number, 1 to 125 are its payload, and 126 and 127 are
-- check words. Files are blocks numbered from 1. Assumes nothing.
use Rattle.std.specs.Prelude.{◌≡◌, ℕ, zero, suc, ◌+◌, ◌-◌, ◌*◌, ◌%◌, ◌^◌, ◌<◌, ◌≤◌, Bool, cond, ◌&&◌, List, [], ◌∷◌, ◌++◌, length, take, drop, ◌==◌, nat_eq, nat_le}
use Rattle.numbers.specs.Sums.{ℕ_adds, sum_to}
use Rattle.numbers.specs.Lists.{at}
use Rattle.numbers.specs.Checks.{Checked, unless, both, every_from, Rule, rule_for}
use Rattle.blocks.specs.Words.{word_at, word_bytes, words_bytes, Words}

-- ---- check words

-- word 126 of a block with the words w 0 to w 125: their sum
unfoldable pub first_check : (ℕ → ℕ) → ℕ
first_check w = sum_to ℕ_adds 126 w % 2 ^ 32

-- word 127: the sum of the 126 running sums that lead to word 126
unfoldable pub second_check : (ℕ → ℕ) → ℕ
second_check w = sum_to ℕ_adds 126 (λ k. sum_to ℕ_adds (suc k) w) % 2 ^ 32

-- ---- the bytes of a block and of a file

-- words 0 to 125 of block b with the payload words ws: spare words are 0
unfoldable pub head_word : ℕ → List ℕ → ℕ → ℕ
head_word b ws k = at (b ∷ ws) k

unfoldable pub block_bytes : ℕ → List ℕ → List ℕ
block_bytes b ws = words_bytes 126 (head_word b ws) ++ (word_bytes (first_check (head_word b ws)) ++ word_bytes (second_check (head_word b ws)))

-- blocks 1 to k, block b with the payload words ws b
unfoldable pub file_bytes : (ℕ → List ℕ) → ℕ → List ℕ
file_bytes ws zero = []
file_bytes ws (suc k) = file_bytes ws k ++ block_bytes (suc k) (ws (suc k))

-- ---- the blocks in a file's bytes

-- whether a file has a block b
unfoldable pub has_block : List ℕ → ℕ → Bool
has_block file b = nat_le 1 b && nat_le (512 * b) (length file)

-- the bytes of block b; none where the file has no such block
unfoldable pub block_of : List ℕ → ℕ → List ℕ
block_of file b = cond (has_block file b) (take 512 (drop (512 * (b - 1)) file)) []

-- its payload, words 1 to 125
unfoldable pub payload_of : List ℕ → ℕ → List ℕ
payload_of file b = cond (has_block file b) (take 500 (drop (512 * (b - 1) + 4) file)) []

-- word k of a block, and of a block's payload
unfoldable pub word_of : List ℕ → ℕ → ℕ
word_of block k = word_at block (4 * k)

unfoldable pub payload_word : List ℕ → ℕ → ℕ → ℕ
payload_word file b k = word_at (payload_of file b) (4 * k)

-- ---- checks; the place is the block

-- 15: the number and both check words
unfoldable pub is_sound : List ℕ → ℕ → Bool
is_sound block b =
    (word_of block 0 == b) && (word_of block 126 == first_check (word_of block) && word_of block 127 == second_check (word_of block))

unfoldable pub check_sound : List ℕ → ℕ → Checked
check_sound file b = unless (is_sound (block_of file b) b) 15 b

-- 16: the payload words from `used` on are 0
unfoldable pub check_spare : List ℕ → ℕ → ℕ → Checked
check_spare file used b = unless (every_from (λ k. nat_eq (payload_word file b k) 0) used (125 - used)) 16 b

-- both, for block b with `used b` words used
unfoldable pub check_block : List ℕ → (ℕ → ℕ) → ℕ → Checked
check_block file used b = both (check_sound file b) (check_spare file (used b) b)

-- ---- what the checks mean

pub record SoundBlock (block : List ℕ) (b : ℕ) : Type 0 where
  pub number : word_of block 0 ≡ b
  pub first : word_of block 126 ≡ first_check (word_of block)
  pub second : word_of block 127 ≡ second_check (word_of block)

abbrev pub SpareZero : List ℕ → ℕ → ℕ → Type 0
SpareZero file used b = (k : ℕ) → used ≤ k → k < 125 → payload_word file b k ≡ 0

abbrev pub block_rules : List ℕ → (ℕ → ℕ) → ℕ → List Rule
block_rules file used b = rule_for 15 b (SoundBlock (block_of file b) b) ∷ rule_for 16 b (SpareZero file (used b) b) ∷ []

-- a block is the bytes of some words at its number
pub record IsBlock (block : List ℕ) (used b : ℕ) : Type 0 where
  pub words : List ℕ
  pub count : length words ≡ used
  pub fit : Words words
  pub same : block ≡ block_bytes b words

-- a file is the bytes of some words: blocks 1 to k, and `used b` words in block b
pub record IsFile (file : List ℕ) (used : ℕ → ℕ) (k : ℕ) : Type 0 where
  pub words : ℕ → List ℕ
  pub count : (b : ℕ) → 0 < b → b ≤ k → length (words b) ≡ used b
  pub fit : (b : ℕ) → 0 < b → b ≤ k → Words (words b)
  pub same : file ≡ file_bytes words k

-- ---- the operation Payload: that part of the file, and the empty one at its start where the file has no such block

-- where the part lies, of a file that lies at a place: the same block of memory, and an offset in it
unfoldable pub payload_place : List ℕ → ℕ → ℕ × ℕ → ℕ × ℕ
payload_place file b place = (place.0, cond (has_block file b) (512 * (b - 1) + 4) 0 + place.1)

-- the whole contract of the operation: the part's bytes, and where it lies
pub record PayloadContract (file : List ℕ) (b : ℕ) (place : ℕ × ℕ) (part : List ℕ) (place' : ℕ × ℕ) : Type 0 where
  pub gives : part ≡ payload_of file b
  pub lies : place' ≡ payload_place file b place
