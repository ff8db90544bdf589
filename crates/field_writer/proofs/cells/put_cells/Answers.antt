-- `field_writer::cells::put_cells` meets its contract: the blocks before k stand in the buffer, the rest is as it was.
use mathlib.Core.Path.{refl, ap, ◌∙◌}
use Prim.Native.Nat.{ℕ, ◌+◌, ◌*◌, ◌-◌}
use native.Mathlib.Omega.{arith}
use borrow.Author.Count.{below_none, below_more}
use Rattle.numbers.specs.Lists.{at, written}
use Rattle.blocks.specs.Blocks.{block_bytes}
use Rattle.block_tables.specs.Tables.{table_bytes}
use Rattle.block_tables.proofs.TableLaws.{block-some, table_none, table-next}
use Rattle.qlt_spec.specs.Field.{lists_of}
use Rattle.files_spec.specs.FieldFile.{cell_table, cell_words}
use Rattle.files_spec.proofs.ReadLaws.{cell_fits}
use Rattle.field_writer.specs.Cells.{block_words}
use Rattle.field_writer.proofs.Laws.{blocks-fit}
use Rattle.field_writer.proofs.cells.put_cells.Goals as goal

pub table_blocks-count-requires : goal.table_blocks-count-requires
table_blocks-count-requires c = (cell_fits, omega arith)

pub loop-k-init : goal.loop-k-init
loop-k-init c = let a = c.args in (table_none cell_table cell_fits a.n (λ i j. at (cell_words (lists_of a.field.now) i) j) _ a.from, refl, below_none _)

pub put_cell_block-requires : goal.put_cell_block-requires
put_cell_block-requires c =
    let p = c.requires in
    let e = c.table_blocks-count.ensures in
    let s = block-some cell_table cell_fits c.args.n c.loop-k.k (omega (arith, e)) in
    omega (arith, p, e, s)

pub loop-k-preserved : goal.loop-k-preserved
loop-k-preserved c =
    let a = c.args in
    let l = c.loop-k in
    let p = c.put_cell_block in
    let w : ℕ → ℕ → ℕ = λ i j. at (cell_words (lists_of a.field.now) i) j in (
      p.ensures.buffer_after
          ∙ ap (λ x. written x (512 * (a.from + l.k - 1)) (block_bytes (a.from + l.k) (block_words a.n (lists_of a.field.now) l.k))) l.invariant.0
          ∙ table-next cell_table cell_fits a.n w a.buffer.now a.from l.k _ refl c.requires.0 (omega (arith, c.requires)),
      p.auto.buffer ∙ l.invariant.1,
      below_more _ _ l.invariant.2 p.ensures.fits,
    )

pub returns : goal.returns
returns c =
    let a = c.args in
    let l = c.loop-k in
    let e = c.table_blocks-count.ensures in
    record {
      buffer_after = l.invariant.0 ∙ ap (λ k. written a.buffer.now (512 * (a.from - 1)) (table_bytes cell_table a.n (λ i j. at (cell_words (lists_of a.field.now) i) j) a.from k)) (omega (arith, e));
      fits = blocks-fit a.n (lists_of a.field.now) (λ k h. l.invariant.2 k (omega (arith, e)));
    }
