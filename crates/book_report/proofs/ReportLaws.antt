-- What the line of a book is by what reading it told. Assumes nothing.
use Rattle.std.specs.Prelude.{Ok}
use mathlib.Core.Path.{◌≡◌, sym, ◌∙◌, ap}
use Rattle.numbers.specs.Checks.{refused}
use mathlib.Core.List.{List}
use Prim.Native.Nat.{ℕ}
use lib.ListN.{length}
use Rattle.numbers.proofs.CheckLaws.{answered-accepted, answered-refused}
use Rattle.book_spec.specs.declared.BookReport.{BookReport}
use Rattle.book_spec.specs.Book.{report_of, book_of}
use Rattle.book_spec.specs.ReadBook.{book_verdict, BookReadContract}
use Rattle.text.specs.Text.{refusal_line}
use Rattle.book_report.specs.Report.{book_line, text_by, book_text}

pub text-refused : {file : List ℕ} {number place : ℕ} → BookReadContract file (refused number place) → refusal_line number place ≡ book_text file
unfolding book_text
text-refused {file} {number} {place} p = sym (ap (λ v. text_by v file) (answered-refused (book_verdict (length file) file) (report_of (book_of file)) number place p.answers))

pub text-done : {file : List ℕ} {r : BookReport} → BookReadContract file (Ok r) → book_line r ≡ book_text file
unfolding book_text
text-done {file} {r} p =
    let e = answered-accepted (book_verdict (length file) file) r (report_of (book_of file)) p.answers in
    ap book_line e.1 ∙ sym (ap (λ v. text_by v file) e.0)
