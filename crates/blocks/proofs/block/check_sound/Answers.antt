-- `blocks::block::check_sound` meets its contract: the part cut is the block, and whether it is sound decides the verdict.
use Rattle.std.proofs.Common.{refl, ap, ◌∙◌}
use Rattle.numbers.specs.Checks.{unless}
use Rattle.blocks.specs.Blocks.{is_sound, check_sound}
use Rattle.blocks.proofs.BlockLaws.{block-part}
use Rattle.blocks.proofs.block.check_sound.Goals as goal

pub returns : goal.returns
unfolding check_sound
returns c =
    let a = c.args in
    let e = block-part a.file.now a.number _ _ c.requires.0 c.requires.1 refl refl in
    c.unless.ensures ∙ ap (λ t. unless t 15 a.number) (c.is_sound.ensures ∙ ap (λ l. is_sound l a.number) e)
