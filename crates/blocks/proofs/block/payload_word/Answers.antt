-- `blocks::block::payload_word` meets its contract: the word at four times its index in the payload, which has 125 words.
use Rattle.std.proofs.Common.{◌*◌, length, ap, ◌∙◌, arith}
use Rattle.blocks.specs.Words.{word_at}
use Rattle.blocks.specs.Blocks.{payload_word}
use Rattle.blocks.proofs.BlockLaws.{length-payload_of}
use Rattle.blocks.proofs.block.payload_word.Goals as goal

pub word_at-requires : goal.word_at-requires
word_at-requires c =
    let s = c in
    omega (arith, ap length c.payload.ensures.gives, length-payload_of s.args.file.now s.args.number s.requires.0 s.requires.1)

pub returns : goal.returns
unfolding payload_word
returns c = c.word_at.ensures ∙ ap (λ p. word_at p (4 * c.args.k)) c.payload.ensures.gives
