-- `book::block::outcomes_hold` meets its contract: the records from i on decide.
use mathlib.Core.Path.{◌≡◌}
use Prim.Native.Nat.{◌+◌, ◌*◌, ◌-◌}
use lib.Dec.{leb}
use Rattle.numbers.specs.Checks.{every_from}
use Rattle.blocks.specs.Blocks.{payload_word}
use Rattle.book.proofs.block.outcomes_hold.Given as goal

abbrev pub invariant-loop-i : goal.invariant-loop-i
invariant-loop-i l =
    every_from (λ j. leb (payload_word l.file l.number (3 * j + 2)) 2) 0 l.used ≡ every_from (λ j. leb (payload_word l.file l.number (3 * j + 2)) 2) l.i (l.used - l.i)
