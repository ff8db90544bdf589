-- Starting a book: its verdict, its answer, and the buffer it leaves. Assumes nothing.
use Rattle.std.specs.Prelude.{◌≡◌, List, [], ◌∷◌, ℕ, ◌≤◌, pos, length}
use Rattle.numbers.specs.Lists.{written}
use Rattle.numbers.specs.Checks.{Checked, Answered, answered, after, first, check_long, check_total, Rule, rule, total_rule, max_total}
use Rattle.blocks.specs.Words.{Bytes}
use Rattle.book_spec.specs.Book.{max_bytes, book, book_bytes}

-- 3: a buffer of fewer bytes than a full book has
abbrev pub check_buffer : ℕ → Checked
check_buffer room = check_long room max_bytes

-- 3, then 13
unfoldable pub book_start_verdict : ℕ → List ℕ → Checked
book_start_verdict total buffer = first (check_buffer (length buffer) ∷ check_total (pos total) ∷ [])

abbrev pub buffer_rule : ℕ → Rule
buffer_rule room = rule 3 (max_bytes ≤ room)

abbrev pub book_start_rules : ℕ → List ℕ → List Rule
book_start_rules total buffer = buffer_rule (length buffer) ∷ total_rule (pos total) ∷ []

pub record BookStartFits (total : ℕ) (buffer : List ℕ) : Type 0 where
  pub room : max_bytes ≤ length buffer
  pub small : total ≤ max_total

-- the whole contract of the operation, whose answer is the book's length in bytes: a book without records at the front of the buffer, whose other bytes are untouched
pub record BookStartContract (total : ℕ) (buffer : List ℕ) (answer : Answered ℕ) (left : List ℕ) : Type 0 where
  -- what the type of the buffer says
  pub typed : Bytes buffer
  pub answers : answer ≡ answered (book_start_verdict total buffer) 512
  pub writes : left ≡ after (book_start_verdict total buffer) (written buffer 0 (book_bytes (book total []))) buffer
