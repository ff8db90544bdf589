-- `book::block::check_book_block` meets its contract: the records are read where their number passes.
use mathlib.Core.Path.{sym, ◌∙◌}
use native.Mathlib.Omega.{arith}
use Rattle.book_spec.proofs.CodeLaws.{used_most}
use Rattle.book.proofs.block.check_book_block.Goals as goal

pub check_outcomes-requires : goal.check_outcomes-requires
check_outcomes-requires c = omega (arith, used_most _ _ _ (sym c.check_used.ensures ∙ c.in_ok-check_used.was), c.payload_word-used.ensures)

pub check_unused-requires : goal.check_unused-requires
check_unused-requires c = omega (arith, used_most _ _ _ (sym c.check_used.ensures ∙ c.in_ok-check_used.was), c.payload_word-used.ensures)

pub check_follows-requires : goal.check_follows-requires
check_follows-requires c = omega (arith, used_most _ _ _ (sym c.check_used.ensures ∙ c.in_ok-check_used.was), c.payload_word-used.ensures)
