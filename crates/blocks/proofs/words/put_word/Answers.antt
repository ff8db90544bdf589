-- `blocks::words::put_word` meets its contract: four bytes in place of those that stood there are one written part.
use Rattle.std.proofs.Common.{rules, drop-drop}
use Rattle.numbers.specs.Lists.{written}
use Rattle.blocks.specs.Words.{word_bytes}
use Rattle.blocks.proofs.words.put_word.Goals as goal

pub returns : goal.returns
unfolding written word_bytes
returns c = simp drop-drop (search rules)
