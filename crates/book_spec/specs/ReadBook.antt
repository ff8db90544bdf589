-- Reading a book: its verdict, what the checks mean, and its answer. Assumes nothing.
use Rattle.std.specs.Prelude.{Ok, ◌≡◌, Bool, ◌&&◌, cond, List, [], ◌∷◌, ℕ, ◌+◌, ◌*◌, ◌-◌, ◌/◌, ◌≤◌, ◌<◌, leb, ltb, eqb, ℤ, pos, ◌+ℤ◌, length}
use Rattle.numbers.specs.Signed.{over, under}
use Rattle.numbers.specs.Checks.{Checked, Answered, answered, unless, first, both, each_from, every_from, Rule, rule, rule_for, rules_from}
use Rattle.blocks.specs.Words.{Bytes, word_signed}
use Rattle.blocks.specs.Blocks.{block_of, payload_word, check_sound, SoundBlock}
use Rattle.blocks.specs.Files.{check_file_length, FileLength}
use Rattle.book_spec.specs.declared.BookReport.{BookReport}
use Rattle.book_spec.specs.Book.{Book, max_bytes, WellFormed, report_of, book_bytes, used_of, book_of}

-- ---- the checks; the place is the block

-- the fewest records of block b of k: 41 before the last, 1 after the first
abbrev pub least_used : ℕ → ℕ → ℕ
least_used k b = cond (ltb b k) 41 (cond (ltb 1 b) 1 0)

-- 16: the number of records used
unfoldable pub check_used : List ℕ → ℕ → ℕ → Checked
check_used file k b = unless (leb (least_used k b) (used_of file b) && leb (used_of file b) 41) 16 b

-- 16: the outcomes of the records used
unfoldable pub check_outcomes : List ℕ → ℕ → Checked
check_outcomes file b = unless (every_from (λ i. leb (payload_word file b (3 * i + 2)) 2) 0 (used_of file b)) 16 b

-- 16: the words of the records not used
unfoldable pub check_unused : List ℕ → ℕ → Checked
check_unused file b = unless (every_from (λ j. eqb (payload_word file b j) 0) (3 * used_of file b + 1) (123 - 3 * used_of file b)) 16 b

-- 12: a later block opens with the closing total of the block before, whose 41st record ends with word 123
unfoldable pub check_opens : List ℕ → ℕ → Checked
check_opens file b = cond (leb b 1) (Ok tt) (unless (eqb (payload_word file b 0) (payload_word file (b - 1) 123)) 12 b)

-- a total, the one before it plus a source, in whole numbers
unfoldable pub is_next : ℕ → ℤ → ℕ → Bool
is_next before source total = eqb (total + under source) (before + over source)

-- 12: each new total follows from the one before; the total after i records is word 3 i
unfoldable pub check_follows : List ℕ → ℕ → Checked
check_follows file b =
    unless (every_from (λ i. is_next (payload_word file b (3 * i)) (word_signed (payload_word file b (3 * i + 1))) (payload_word file b (3 * i + 3))) 0 (used_of file b)) 12 b

-- block b of k: 15, 16, 12
unfoldable pub check_book_block : List ℕ → ℕ → ℕ → Checked
check_book_block file k b = first (check_sound file b ∷ check_used file k b ∷ check_outcomes file b ∷ check_unused file b ∷ check_opens file b ∷ check_follows file b ∷ [])

-- a book of l bytes: 14, then block by block. The length is told beside the bytes, for a step that is told one.
unfoldable pub book_verdict : ℕ → List ℕ → Checked
book_verdict l file = both (check_file_length max_bytes l) (each_from (check_book_block file (l / 512)) 1 (l / 512))

-- ---- what the checks mean

-- the number of records used in block b of k
pub record Counted (k b used : ℕ) : Type 0 where
  pub most : used ≤ 41
  pub full : b < k → used ≡ 41
  pub some : 1 < b → 0 < used

abbrev pub Outcomes : List ℕ → ℕ → Type 0
Outcomes file b = (i : ℕ) → i < used_of file b → payload_word file b (3 * i + 2) ≤ 2

abbrev pub UnusedZero : List ℕ → ℕ → Type 0
UnusedZero file b = (j : ℕ) → 3 * used_of file b < j → j < 124 → payload_word file b j ≡ 0

abbrev pub Opens : List ℕ → ℕ → Type 0
Opens file b = 1 < b → payload_word file b 0 ≡ payload_word file (b - 1) 123

abbrev pub Follows : List ℕ → ℕ → Type 0
Follows file b =
    (i : ℕ) → i < used_of file b → pos (payload_word file b (3 * i + 3)) ≡ pos (payload_word file b (3 * i)) +ℤ word_signed (payload_word file b (3 * i + 1))

abbrev pub book_block_rules : List ℕ → ℕ → ℕ → List Rule
book_block_rules file k b =
    rule_for 15 b (SoundBlock (block_of file b) b)
    ∷ rule_for 16 b (Counted k b (used_of file b))
    ∷ rule_for 16 b (Outcomes file b)
    ∷ rule_for 16 b (UnusedZero file b)
    ∷ rule_for 12 b (Opens file b)
    ∷ rule_for 12 b (Follows file b)
    ∷ []

abbrev pub length_rule : ℕ → Rule
length_rule l = rule 14 (FileLength max_bytes l)

abbrev pub book_rules : ℕ → List ℕ → List Rule
book_rules l file = length_rule l ∷ rules_from (book_block_rules file (l / 512)) 1 (l / 512)

-- block b of k breaks no rule
pub record BlockFits (file : List ℕ) (k b : ℕ) : Type 0 where
  pub sound : SoundBlock (block_of file b) b
  pub counted : Counted k b (used_of file b)
  pub outcomes : Outcomes file b
  pub unused_zero : UnusedZero file b
  pub opens : Opens file b
  pub follows : Follows file b

-- a book of l bytes breaks none
pub record BookFits (l : ℕ) (file : List ℕ) : Type 0 where
  pub some : 0 < l / 512
  pub few : l / 512 ≤ 64
  pub whole : l ≡ 512 * (l / 512)
  pub blocks : (b : ℕ) → 0 < b → b ≤ l / 512 → BlockFits file (l / 512) b

-- bytes are those of a book whose totals follow
pub record IsBook (file : List ℕ) : Type 0 where
  pub held : Book
  pub formed : WellFormed held
  pub same : file ≡ book_bytes held

-- ---- the operation Read: a book's file

-- the whole contract of the operation
pub record BookReadContract (file : List ℕ) (answer : Answered BookReport) : Type 0 where
  -- what the type of the file says
  pub typed : Bytes file
  pub answers : answer ≡ answered (book_verdict (length file) file) (report_of (book_of file))
