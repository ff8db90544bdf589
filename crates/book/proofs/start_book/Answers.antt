-- `book::start_book` meets its contract: a buffer that passes has room.
use mathlib.Core.Path.{sym, ◌∙◌}
use native.Mathlib.Omega.{arith}
use Rattle.book_spec.proofs.StartLaws.{book-start-accepts}
use Rattle.book.proofs.start_book.Goals as goal

pub put_empty-requires : goal.put_empty-requires
put_empty-requires c = omega (arith, ((book-start-accepts _ _).0 (sym c.start_verdict.ensures ∙ c.in_ok-start_verdict.was)).room)
