-- The operation Report of a book: from a book's bytes to the line that the program prints. Assumes nothing.
use Rattle.std.specs.Prelude.{Ok, Err, List, ◌++◌, ℕ, length}
use Rattle.numbers.specs.Checks.{Checked, Answered}
use Rattle.book_spec.specs.declared.BookReport.{BookReport}
use Rattle.book_spec.specs.Book.{report_of, book_of}
use Rattle.book_spec.specs.ReadBook.{book_verdict}
use Rattle.text.specs.Ascii.{ascii}
use Rattle.text.specs.Text.{named, space, newline, refusal_line}
use Rattle.text.specs.Reports.{Reports}

-- `opening`, `in`, `out`, `closing`, each before its number
unfoldable pub book_line : BookReport → List ℕ
book_line r =
    named (ascii "opening ") r.opening space
    ++ named (ascii "in ") r.inflow space
    ++ named (ascii "out ") r.outflow space
    ++ named (ascii "closing ") r.closing newline

-- the line of a book's report, or of its refusal
abbrev pub text_by : Checked → List ℕ → List ℕ
text_by (Ok tt) file = book_line (report_of (book_of file))
text_by (Err r) file = refusal_line r.number r.place

unfoldable pub book_text : List ℕ → List ℕ
book_text file = text_by (book_verdict (length file) file) file

-- the whole contract of the operation: the line at the front of a list of 128 bytes or more, which every line fits into
abbrev pub BookReportContract : List ℕ → List ℕ → Answered ℕ → List ℕ → Type 0
BookReportContract file out answer out' = Reports (book_text file) 128 out answer out'
