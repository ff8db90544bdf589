-- `book::verdict::file_verdict` meets its contract: a book that passes the reader's checks is in order, and goes on to the last two.
use mathlib.Core.Path.{sym, ◌∙◌}
use Rattle.book_spec.proofs.ReadLaws.{book-accepts}
use Rattle.book.proofs.verdict.file_verdict.Goals as goal

pub last_checks-requires : goal.last_checks-requires
last_checks-requires c = (book-accepts _ _).0 (sym c.book_verdict.ensures ∙ c.in_ok-book_verdict.was)
