-- A book at the front of a lent buffer, as a step that goes on from a total is lent one: what the step checks of it, and the book with one record
-- more. Assumes nothing.
use Rattle.std.specs.Prelude.{◌≡◌, List, [], ◌∷◌, ◌++◌, ℕ, suc, ◌*◌, ◌/◌, ◌≤◌, ◌<◌, eqb, ltb, length, take}
use Rattle.numbers.specs.Lists.{written}
use Rattle.numbers.specs.Checks.{Checked, unless, Rule, rule, rule_for}
use Rattle.blocks.specs.Words.{Bytes}
use Rattle.book_spec.specs.Book.{Entry, Book, count, closing, add, max_entries, max_bytes, WellFormed, book_blocks, book_bytes, book_of}
use Rattle.book_spec.specs.ReadBook.{book_verdict, book_rules, BookFits}

-- the book of l bytes at the front of a buffer: the length told is the book
abbrev pub held_in : List ℕ → ℕ → Book
held_in buffer l = book_of (take l buffer)

-- a buffer has the book B of l bytes at its front
pub record HasBook (buffer : List ℕ) (l : ℕ) (B : Book) : Type 0 where
  pub room : max_bytes ≤ length buffer
  pub bytes : Bytes buffer
  pub formed : WellFormed B
  pub size : l ≡ 512 * book_blocks (count B)
  pub front : take l buffer ≡ book_bytes B

-- ---- the checks

-- 12, at the last block: the book closes with another total than the one that the step goes on from
unfoldable pub check_closing : Book → ℕ → ℕ → Checked
check_closing B total last = unless (eqb (closing B) total) 12 last

-- 21: the book is full
unfoldable pub check_full : Book → Checked
check_full B = unless (ltb (count B) max_entries) 21 0

-- the reader's checks, then these two
abbrev pub lent_checks : List ℕ → ℕ → ℕ → List Checked
lent_checks buffer l total =
    book_verdict l (take l buffer) ∷ check_closing (held_in buffer l) total (l / 512) ∷ check_full (held_in buffer l) ∷ []

-- what they mean
abbrev pub lent_rules : List ℕ → ℕ → ℕ → List Rule
lent_rules buffer l total =
    book_rules l (take l buffer)
    ++ (rule_for 12 (l / 512) (closing (held_in buffer l) ≡ total) ∷ rule 21 (count (held_in buffer l) < max_entries) ∷ [])

pub record LentFits (buffer : List ℕ) (l total : ℕ) : Type 0 where
  pub fits : BookFits l (take l buffer)
  pub closes : closing (held_in buffer l) ≡ total
  pub not_full : count (held_in buffer l) < max_entries

-- every check passes but the last, 21
pub record LentFull (buffer : List ℕ) (l total : ℕ) : Type 0 where
  pub fits : BookFits l (take l buffer)
  pub closes : closing (held_in buffer l) ≡ total
  pub full : max_entries ≤ count (held_in buffer l)

-- ---- one record more

-- the book, the buffer that has it, and its length in bytes
abbrev pub grown : List ℕ → ℕ → Entry → Book
grown buffer l e = add (held_in buffer l) e

abbrev pub grown_buffer : List ℕ → ℕ → Entry → List ℕ
grown_buffer buffer l e = written buffer 0 (book_bytes (grown buffer l e))

abbrev pub grown_length : List ℕ → ℕ → ℕ
grown_length buffer l = 512 * book_blocks (suc (count (held_in buffer l)))
