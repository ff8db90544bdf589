-- `field_writer::work::put_head` meets its contract: the four words of the head fill the first part of the buffer.
use mathlib.Core.Path.{◌∙◌, ap}
use mathlib.Core.List.{[], ◌∷◌}
use native.Mathlib.Omega.{arith}
use borrow.Rule.Slice.PartMut.{put_mid}
use Rattle.numbers.proofs.PartLaws.{put_back}
use Rattle.blocks.proofs.BlockLaws.{length-block_bytes}
use Rattle.field_writer.proofs.work.put_head.Goals as goal

pub returns : goal.returns
returns c =
    let a = c.args in
    ap (λ vs. put_mid 0 512 a.buffer.now vs) c.fill_block.ensures
    ∙ put_back 0 512 a.buffer.now _ (omega (arith, length-block_bytes 1 (512 ∷ a.n ∷ a.m ∷ a.total ∷ [])))
