-- `blocks::block::is_spare` meets its contract: the words from `used` on are 0 exactly if those from k on are.
use Rattle.std.proofs.Common.{◌≡◌, ◌-◌, eqb}
use Rattle.numbers.specs.Checks.{every_from}
use Rattle.blocks.specs.Blocks.{payload_word}
use Rattle.blocks.proofs.block.is_spare.Given as goal

abbrev pub invariant-loop-k : goal.invariant-loop-k
invariant-loop-k l =
    every_from (λ j. eqb (payload_word l.file l.number j) 0) l.used (125 - l.used) ≡ every_from (λ j. eqb (payload_word l.file l.number j) 0) l.k (125 - l.k)
