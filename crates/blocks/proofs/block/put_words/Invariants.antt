-- `blocks::block::put_words` meets its contract: the words before the index are written, the rest is as it was.
use Rattle.std.proofs.Common.{◌≡◌, ◌*◌, ◌++◌, length, drop}
use Rattle.blocks.specs.Words.{words_bytes}
use Rattle.blocks.specs.Blocks.{head_word}
use Rattle.blocks.proofs.block.put_words.Given as goal

abbrev pub invariant-loop-k : goal.invariant-loop-k
invariant-loop-k l =
    (l.block ≡ words_bytes l.k (head_word l.number l.payload) ++ drop (4 * l.k) l.initial.block) × (length l.block ≡ length l.initial.block)
