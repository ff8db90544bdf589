-- A concrete run, so that runs are not empty talk: two cells opened with 3 and 5 at scale 20, and a book started; an accepted step with source 2;
-- refused ones, for its new total, for another total than the one standing, at another scale, at a scale above 30 with a balance at that scale, lent
-- a part of the kept masses, and lent other lists; and an accepted one with source −4. Beside it a step with a full book. Assumes nothing.
use Rattle.std.specs.Prelude.{Ok, List, [], ◌∷◌, map, ℕ, ℤ, pos, negsuc, replicate}
use Rattle.numbers.specs.Checks.{refused}
use Rattle.numbers.specs.Lists.{written}
use Rattle.qlt_spec.specs.Field.{Lists, lists}
use Rattle.book_spec.specs.Book.{Entry, entry, Book, book, max_entries, max_bytes, book_bytes}
use Rattle.book_spec.specs.LentBook.{grown_buffer}
use Rattle.kept_spec.specs.declared.Balance.{Balance}
use Rattle.kept_spec.specs.Step.{StepCall, step_call}
use Rattle.kept_spec.specs.Account.{Event, Standing}
use Rattle.kept_spec.specs.BookRun.{StartEvent, Act, Ledger, ledger}

-- ---- buffers of 32768 bytes

unfoldable pub zeros : List ℕ
zeros = replicate max_bytes 0

-- with a book at the front of zeros
unfoldable pub buffered : Book → List ℕ
buffered B = written zeros 0 (book_bytes B)

-- with one that opens with a total and has no records, of 512 bytes
abbrev pub lent_book : ℕ → List ℕ
lent_book total = buffered (book total [])

-- the records of the two accepted steps, and the buffers that they leave
abbrev pub first_entry : Entry
first_entry = entry (pos 2) 0 10

abbrev pub eighth_entry : Entry
eighth_entry = entry (negsuc 3) 0 6

abbrev pub one_record : List ℕ
one_record = grown_buffer (lent_book 8) 512 first_entry

abbrev pub two_records : List ℕ
two_records = grown_buffer one_record 512 eighth_entry

-- ---- the calls

-- two cells under one root, targets 3 and 5, bounds 0 to 8, safety bounds 0 to 10, no weights
abbrev pub two : Lists
two = lists (pos 3 ∷ pos 5 ∷ []) (0 ∷ 0 ∷ []) (8 ∷ 8 ∷ []) (0 ∷ 0 ∷ []) (10 ∷ 10 ∷ []) (0 ∷ 0 ∷ []) (2 ∷ 2 ∷ 2 ∷ [])

abbrev balance : ℕ → Balance
balance total = record { total = total; scale = 20 }

abbrev pub begin : Standing
begin = record { kept = 3 ∷ 5 ∷ []; balance = balance 8 }

-- a start of a book, and the one that opens with 8
abbrev pub book_start : ℕ → StartEvent
book_start total = record { total = total; buffer = zeros; answer = Ok 512; left = lent_book total }

abbrev pub start_call : StartEvent
start_call = book_start 8

-- 8 + 2: one unit each, since both have room
abbrev pub first_call : Event
first_call =
    record {
      call = step_call (balance 8) (3 ∷ 5 ∷ []) (pos 2) 20 two (replicate 12 (pos 1)) (lent_book 8) 512;
      answer = Ok (record { repair = record { outcome = 0; total = 10; change = 2; shared = 2 }; balance = balance 10; length = 512 });
      kept = 4 ∷ 6 ∷ [];
      scratch = replicate 12 (pos 0);
      book = one_record;
    }

-- a refused call leaves the masses, the scratch and the book that it was lent
abbrev refusal : Balance → List ℕ → ℤ → ℕ → List ℕ → ℕ → Event
refusal b kept source scale book number =
    record {
      call = step_call b kept source scale two (replicate 12 (pos 1)) book 512;
      answer = refused number 0;
      kept = kept;
      scratch = replicate 12 (pos 1);
      book = book;
    }

-- 10 + 11 is out of reach
abbrev pub second_call : Event
second_call = refusal (balance 10) (4 ∷ 6 ∷ []) (pos 11) 20 one_record 8

-- the kept masses with another total than the one standing
abbrev pub third_call : Event
third_call = refusal (balance 9) (4 ∷ 6 ∷ []) (pos 1) 20 one_record 12

-- another scale than the one standing
abbrev pub fourth_call : Event
fourth_call = refusal (balance 10) (4 ∷ 6 ∷ []) (pos 1) 21 one_record 17

-- a scale above 30, the balance given at that scale too
abbrev pub fifth_call : Event
fifth_call = refusal (record { total = 10; scale = 31 }) (4 ∷ 6 ∷ []) (pos 1) 31 one_record 17

-- a part of the kept masses: the second alone
abbrev pub sixth_call : Event
sixth_call = refusal (balance 10) (6 ∷ []) (pos 1) 20 one_record 3

-- other lists altogether, the book's buffer too
abbrev pub seventh_call : Event
seventh_call = refusal (balance 7) (7 ∷ 7 ∷ 7 ∷ []) (pos 1) 20 (lent_book 7) 3

-- 10 − 4
abbrev pub eighth_call : Event
eighth_call =
    record {
      call = step_call (balance 10) (4 ∷ 6 ∷ []) (negsuc 3) 20 two (replicate 12 (pos 1)) one_record 512;
      answer = Ok (record { repair = record { outcome = 0; total = 6; change = 2; shared = 2 }; balance = balance 6; length = 512 });
      kept = 2 ∷ 4 ∷ [];
      scratch = replicate 12 (pos 0);
      book = two_records;
    }

abbrev pub events : List Event
events = first_call ∷ second_call ∷ third_call ∷ fourth_call ∷ fifth_call ∷ sixth_call ∷ seventh_call ∷ eighth_call ∷ []

abbrev pub last : Standing
last = record { kept = 2 ∷ 4 ∷ []; balance = balance 6 }

-- the same with the book: at first the buffer has none
abbrev pub begin_ledger : Ledger
begin_ledger = ledger begin zeros 0

abbrev pub acts : List Act
acts = Act.starts start_call ∷ map Act.steps events

abbrev pub last_ledger : Ledger
last_ledger = ledger last two_records 512

-- ---- a call more, lent a book that closes with 6 and is full: all its records have source 0

abbrev pub full_book : Book
full_book = book 6 (replicate max_entries (entry (pos 0) 0 6))

abbrev pub full_call : StepCall
full_call = step_call (balance 6) (2 ∷ 4 ∷ []) (pos 1) 20 two (replicate 12 (pos 1)) (buffered full_book) max_bytes
