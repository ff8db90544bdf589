-- `block_tables::tables::put_list_block` meets its contract: the numbers of the block, cut from the list, fill the part that is that block.
use mathlib.Core.Path.{◌∙◌, ap}
use Prim.Native.Nat.{◌+◌, ◌*◌, ◌-◌}
use native.Mathlib.Omega.{arith}
use borrow.Rule.Slice.PartMut.{put_mid}
use Rattle.numbers.proofs.PartLaws.{put_back}
use Rattle.blocks.specs.Blocks.{block_bytes}
use Rattle.block_tables.specs.Tables.{list_block}
use Rattle.blocks.proofs.BlockLaws.{length-block_bytes}
use Rattle.block_tables.proofs.TableLaws.{list-part}
use Rattle.block_tables.proofs.tables.put_list_block.Goals as goal

pub returns : goal.returns
returns c =
    let a = c.args in
    let b = a.from + a.k in
    let at = 512 * (b - 1) in
    ap (λ vs. put_mid at (at + 512 - at) a.buffer.now vs) (c.fill_block.ensures ∙ ap (block_bytes b) (list-part a.n a.k _ a.list.now c.requires.3 c.min-last.ensures))
    ∙ put_back at (at + 512) a.buffer.now _ (omega (arith, length-block_bytes b (list_block a.n a.list.now a.k)))
