-- `book::verdict::book_verdict` meets its contract: a length that passes is that of 1 to 64 whole blocks, and they decide.
use mathlib.Core.Path.{sym, ◌∙◌}
use native.Mathlib.Omega.{arith}
use Rattle.blocks.proofs.FileLaws.{length-decides}
use Rattle.book_spec.specs.Book.{max_bytes}
use Rattle.book.proofs.verdict.book_verdict.Goals as goal

pub check_blocks-requires : goal.check_blocks-requires
check_blocks-requires c = omega (arith, (length-decides max_bytes _).passes.0 (sym c.check_file_length.ensures ∙ c.in_ok-check_file_length.was))
