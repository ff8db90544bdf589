-- Runs of Step calls after an opening that hand on a book, which may be replaced by one that opens with the total standing, the closing total of
-- the book before; and what is claimed of the book at the end of every run. The account of the masses is demand 3's. Assumes nothing.
use Rattle.std.specs.Prelude.{Ok, Err, ◌≡◌, List, [], ◌∷◌, ◌++◌, ℕ, ℤ, pos, ◌+ℤ◌}
use Rattle.numbers.specs.Lists.{sum}
use Rattle.numbers.specs.Checks.{Answered}
use Rattle.book_spec.specs.Book.{entry, Book, book, closing, recorded, add}
use Rattle.book_spec.specs.StartBook.{BookStartContract}
use Rattle.book_spec.specs.LentBook.{HasBook}
use Rattle.kept_spec.specs.declared.Stepped.{Stepped}
use Rattle.kept_spec.specs.declared.Balance.{Balance}
use Rattle.kept_spec.specs.Run.{collect}
use Rattle.kept_spec.specs.Account.{Event, Standing, told, Accepts, Moves}

-- a start of a book with what it gave and left
pub record StartEvent : Type 0 where
  pub total : ℕ
  pub buffer : List ℕ
  pub answer : Answered ℕ
  pub left : List ℕ

abbrev pub StartPromised : StartEvent → Type 0
StartPromised e = BookStartContract e.total e.buffer e.answer e.left

-- what a run is made of: steps, and starts of books
pub data Act : Type 0 where
  steps : Event → Act
  starts : StartEvent → Act

abbrev pub step_in : Act → List Event
step_in (steps e) = e ∷ []
step_in (starts e) = []

abbrev pub steps_in : List Act → List Event
steps_in acts = collect step_in acts

-- what stands between calls: the kept masses and their balance, the book's buffer and its length
pub record Ledger : Type 0 where
  pub kept : List ℕ
  pub balance : Balance
  pub book : List ℕ
  pub length : ℕ

abbrev pub standing_of : Ledger → Standing
standing_of s = record { kept = s.kept; balance = s.balance }

abbrev pub ledger : Standing → List ℕ → ℕ → Ledger
ledger s book l = record { kept = s.kept; balance = s.balance; book = book; length = l }

-- a call is lent a part of a list that stands, any part or the whole, and leaves in its place what it leaves; if it is accepted, it was lent the
-- whole. Or it is lent another list and is refused.
pub data Lent (stands given left : List ℕ) (Accepted : Type 0) : List ℕ → Type 0 where
  own : (before rest : List ℕ) → stands ≡ before ++ (given ++ rest) → (Accepted → given ≡ stands) → Lent stands given left Accepted (before ++ (left ++ rest))
  elsewhere : (Accepted → ⊥) → Lent stands given left Accepted stands

-- the book's length after a call
abbrev pub length_after : Answered Stepped → ℕ → ℕ
length_after (Ok r) l = r.length
length_after (Err r) l = l

-- a step moves masses and balance as in every run, and is lent the book's buffer likewise, and its length if it is accepted; or the book, full or
-- not, is replaced by one that opens with the total standing. Nobody else writes the buffer. A refused start writes nothing and is no act.
pub data LedgerMoves : Ledger → Act → Ledger → Type 0 where
  steps : {s : Ledger} {e : Event} {t : Standing} {book : List ℕ} → Moves (standing_of s) e t → Lent s.book e.call.book e.book (Accepts (told e)) book
      → (Accepts (told e) → e.call.length ≡ s.length) → LedgerMoves s (Act.steps e) (ledger t book (length_after (told e) s.length))
  starts : {s : Ledger} {e : StartEvent} {l : ℕ} → StartPromised e → e.answer ≡ Ok l → e.total ≡ s.balance.total
      → LedgerMoves s (Act.starts e) (ledger (standing_of s) e.left l)

-- ---- the book of a run

-- an accepted step adds the record of its source, outcome and new total
abbrev pub recorded_by : Answered Stepped → ℤ → Book → Book
recorded_by (Ok r) source B = add B (entry source r.repair.outcome r.balance.total)
recorded_by (Err r) source B = B

abbrev pub book_by : Act → Book → Book
book_by (Act.steps e) B = recorded_by (told e) e.call.source B
book_by (Act.starts e) B = book e.total []

unfoldable pub book_after : List Act → Book → Book
book_after [] B = B
book_after (a ∷ acts) B = book_after acts (book_by a B)

-- the buffer has this book, which closes with its opening total plus the recorded sources, the sum of the kept masses
pub record BookAccount (B : Book) (end : Ledger) : Type 0 where
  pub held : HasBook end.book end.length B
  pub adds_up : pos (closing B) ≡ pos B.opening +ℤ recorded B
  pub sums : closing B ≡ sum end.kept
  pub closes : closing B ≡ end.balance.total
