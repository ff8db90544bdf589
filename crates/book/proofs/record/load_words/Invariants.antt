-- `book::record::load_words` meets its contract: the first i words are the block's.
use mathlib.Core.Path.{◌≡◌}
use lib.ListN.{length}
use Rattle.numbers.specs.Lists.{list_to, written}
use Rattle.blocks.specs.Blocks.{payload_word}
use Rattle.book.proofs.record.load_words.Given as goal

abbrev pub invariant-loop-i : goal.invariant-loop-i
invariant-loop-i l = (length l.words ≡ 125) × (l.words ≡ written l.initial.words 0 (list_to l.i (payload_word l.file l.number)))
