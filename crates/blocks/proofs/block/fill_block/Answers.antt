-- `blocks::block::fill_block` meets its contract: the words, then the two check words that they call for.
use Rattle.blocks.proofs.BlockLaws.{block-filled}
use Rattle.blocks.proofs.block.fill_block.Goals as goal

pub returns : goal.returns
returns c =
    let a = c.args in
    let k = c.check_words-s in
    block-filled a.number a.payload.now a.block.now _ _ _ _ _ c.requires c.ranges.number.fits (λ j. (c.type_inv.payload j).fits)
    c.put_words.ensures k.ensures.0 k.ensures.1 c.put_word.ensures c.put_word-2.ensures
