-- `book::verdict::check_blocks` meets its contract: the blocks from b on decide.
use mathlib.Core.Path.{◌≡◌}
use Prim.Native.Nat.{◌+◌, ◌-◌}
use Rattle.numbers.specs.Checks.{each_from}
use Rattle.book_spec.specs.ReadBook.{check_book_block}
use Rattle.book.proofs.verdict.check_blocks.Given as goal

abbrev pub invariant-loop-b : goal.invariant-loop-b
invariant-loop-b l = each_from (check_book_block l.file l.blocks) 1 l.blocks ≡ each_from (check_book_block l.file l.blocks) l.b (l.blocks + 1 - l.b)
