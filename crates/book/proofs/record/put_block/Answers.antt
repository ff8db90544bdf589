-- `book::record::put_block` meets its contract: the part that is filled is the block's place.
use mathlib.Core.Path.{◌∙◌, ap}
use Prim.Native.Nat.{◌+◌, ◌*◌, ◌-◌}
use native.Mathlib.Omega.{arith}
use Rattle.numbers.proofs.PartLaws.{put_back}
use Rattle.blocks.proofs.BlockLaws.{length-block_bytes}
use borrow.Rule.Slice.PartMut.{put_mid}
use Rattle.book.proofs.record.put_block.Goals as goal

pub returns : goal.returns
returns c =
    let a = c.args in
    let at = 512 * (a.number - 1) in
    ap (λ vs. put_mid at (at + 512 - at) a.buffer.now vs) c.fill_block.ensures
    ∙ put_back at (at + 512) a.buffer.now _ (omega (arith, length-block_bytes a.number a.words.now))
