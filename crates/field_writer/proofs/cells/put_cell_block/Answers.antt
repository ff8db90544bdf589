-- `field_writer::cells::put_cell_block` meets its contract: the words of the block, which stand at the front of the list, fill the part
-- that is that block.
use mathlib.Core.Path.{◌≡◌, sym, ap, ◌∙◌}
use Prim.Native.Nat.{◌+◌, ◌*◌, ◌-◌}
use native.Mathlib.Omega.{arith}
use lib.ListN.{take}
use borrow.Rule.Slice.PartMut.{put_mid}
use Rattle.numbers.proofs.PartLaws.{front-written, put_back}
use Rattle.blocks.specs.Blocks.{block_bytes}
use Rattle.blocks.proofs.BlockLaws.{length-block_bytes}
use Rattle.block_tables.proofs.TableLaws.{length-table_words}
use Rattle.qlt_spec.specs.Field.{lists_of}
use Rattle.files_spec.specs.FieldFile.{cell_table}
use Rattle.files_spec.proofs.ReadLaws.{cell_fits}
use Rattle.field_writer.specs.Cells.{block_words}
use Rattle.field_writer.proofs.cells.put_cell_block.Goals as goal

pub returns-clause-buffer_after : goal.returns-clause-buffer_after
returns-clause-buffer_after c =
    let a = c.args in
    let f = c.fill_cells-used in
    let b = a.from + a.k in
    let at = 512 * (b - 1) in
    let used : f.result - 0 ≡ f.result = omega arith in
    ap (λ vs. put_mid at (at + 512 - at) a.buffer.now vs)
    (c.fill_block.ensures ∙ ap (block_bytes b) (ap (take (f.result - 0)) f.ensures.words_after ∙ front-written _ _ _ (length-table_words cell_table cell_fits a.n _ a.k ∙ sym f.ensures.used ∙ sym used)))
    ∙ put_back at (at + 512) a.buffer.now _ (omega (arith, length-block_bytes b (block_words a.n (lists_of a.field.now) a.k)))
