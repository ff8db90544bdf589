-- `book::block::totals_follow` meets its contract: the records from i on decide.
use mathlib.Core.Path.{◌≡◌}
use mathlib.Core.Bool.{Bool}
use mathlib.Core.List.{List}
use Prim.Native.Nat.{ℕ, ◌+◌, ◌*◌, ◌-◌}
use Rattle.numbers.specs.Checks.{every_from}
use Rattle.blocks.specs.Blocks.{payload_word}
use Rattle.blocks.specs.Words.{word_signed}
use Rattle.book_spec.specs.ReadBook.{is_next}
use Rattle.book.proofs.block.totals_follow.Given as goal

abbrev pub good : List ℕ → ℕ → ℕ → Bool
good file number i = is_next (payload_word file number (3 * i)) (word_signed (payload_word file number (3 * i + 1))) (payload_word file number (3 * i + 3))

abbrev pub invariant-loop-i : goal.invariant-loop-i
invariant-loop-i l = every_from (good l.file l.number) 0 l.used ≡ every_from (good l.file l.number) l.i (l.used - l.i)
