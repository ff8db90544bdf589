-- `book::block::unused_zero` meets its contract: the words from j on decide.
use mathlib.Core.Path.{◌≡◌}
use Prim.Native.Nat.{◌+◌, ◌*◌, ◌-◌}
use lib.Dec.{eqb}
use Rattle.numbers.specs.Checks.{every_from}
use Rattle.blocks.specs.Blocks.{payload_word}
use Rattle.book.proofs.block.unused_zero.Given as goal

abbrev pub invariant-loop-j : goal.invariant-loop-j
invariant-loop-j l =
    every_from (λ i. eqb (payload_word l.file l.number i) 0) (3 * l.used + 1) (123 - 3 * l.used) ≡ every_from (λ i. eqb (payload_word l.file l.number i) 0) l.j (124 - l.j)
