-- The calls from C on books: what each returns and leaves in the lists lent to it. A list that is too short for a call's values is refused with 3,
-- before all else. Assumes nothing.
use Rattle.std.specs.Prelude.{◌≡◌, List, [], ◌∷◌, ℕ, length}
use Rattle.numbers.specs.Lists.{at, written}
use Rattle.numbers.specs.Checks.{Checked, after, first, check_long}
use Rattle.blocks.specs.Words.{Bytes}
use Rattle.book_spec.specs.declared.BookReport.{BookReport}
use Rattle.book_spec.specs.Book.{book, book_bytes, book_of, report_of}
use Rattle.book_spec.specs.ReadBook.{book_verdict}
use Rattle.book_spec.specs.StartBook.{book_start_verdict}
use Rattle.call_values.specs.Values.{returned}

-- ---- start: the book's length in bytes goes to the first entry of the answer

abbrev pub start_values : ℕ
start_values = 1

unfoldable pub book_start_call_verdict : ℕ → List ℕ → List ℕ → Checked
book_start_call_verdict total buffer answer = first (check_long (length answer) start_values ∷ book_start_verdict total buffer ∷ [])

pub record BookStartReturns (total : ℕ) (buffer answer : List ℕ) (r : ℕ) (buffer' answer' : List ℕ) : Type 0 where
  -- what the type of the buffer says
  pub typed : Bytes buffer
  pub returns : r ≡ returned (book_start_call_verdict total buffer answer)
  pub writes : buffer' ≡ after (book_start_call_verdict total buffer answer) (written buffer 0 (book_bytes (book total []))) buffer
  pub tells : answer' ≡ after (book_start_call_verdict total buffer answer) (written answer 0 (512 ∷ [])) answer

-- ---- report: opening, in, out and closing go to the first four entries of the answer

abbrev pub report_values : ℕ
report_values = 4

unfoldable pub book_report_call_verdict : List ℕ → List ℕ → Checked
book_report_call_verdict file answer = first (check_long (length answer) report_values ∷ book_verdict (length file) file ∷ [])

abbrev pub report_words : BookReport → List ℕ
report_words r = r.opening ∷ r.inflow ∷ r.outflow ∷ r.closing ∷ []

pub record BookReportReturns (file answer : List ℕ) (r : ℕ) (answer' : List ℕ) : Type 0 where
  -- what the type of the file says
  pub typed : Bytes file
  pub returns : r ≡ returned (book_report_call_verdict file answer)
  pub writes : answer' ≡ after (book_report_call_verdict file answer) (written answer 0 (report_words (report_of (book_of file)))) answer

-- from which the operation's own report is read off
abbrev pub report_in : List ℕ → BookReport
report_in answer = record { opening = at answer 0; inflow = at answer 1; outflow = at answer 2; closing = at answer 3 }
