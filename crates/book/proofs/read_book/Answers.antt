-- `book::read_book` meets its contract: a book that passes is in order.
use mathlib.Core.Path.{sym, ◌∙◌}
use Rattle.book_spec.proofs.ReadLaws.{book-accepts}
use Rattle.book.proofs.read_book.Goals as goal

pub report-requires : goal.report-requires
report-requires c = (book-accepts _ _).0 (sym c.book_verdict.ensures ∙ c.in_ok-book_verdict.was)
