-- `book::lent::check_lent` meets its contract: a length that passes 14 lies in the buffer, and the part of that length is judged.
use Rattle.std.proofs.Common.{rules, Err}
use mathlib.Core.Path.{◌≡◌, sym, ◌∙◌}
use native.Mathlib.Omega.{arith}
use Rattle.numbers.proofs.CheckLaws.{stop}
use Rattle.blocks.proofs.FileLaws.{length-decides}
use Rattle.book_spec.specs.Book.{max_bytes}
use Rattle.book_spec.specs.ReadBook.{book_verdict}
use Rattle.book.proofs.lent.check_lent.Goals as goal

pub returns-in_err-check_file_length : goal.returns-in_err-check_file_length
unfolding book_verdict
returns-in_err-check_file_length c =
    let e : c.from_residual.result ≡ Err c.in_err-check_file_length.field-0.0 = search rules in
    e ∙ stop _ (sym (stop _ (sym c.check_file_length.ensures ∙ c.in_err-check_file_length.was)))

pub slice_bounds-file_verdict-end : goal.slice_bounds-file_verdict-end
slice_bounds-file_verdict-end c = omega (arith, (length-decides max_bytes _).passes.0 (sym c.check_file_length.ensures ∙ c.in_ok-check_file_length.was), c.requires)
