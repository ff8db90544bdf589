-- `field_writer::cells::fill_cells` meets its contract: the entries before x are the words of the block, the rest is as it was.
use mathlib.Core.Path.{refl, ap, ◌∙◌}
use Prim.Native.Nat.{ℕ, ◌+◌, ◌*◌, ◌/◌, ◌%◌}
use native.Mathlib.Omega.{arith}
use borrow.Author.Count.{below_none, below_more}
use lib.ListN.{length-set}
use Rattle.numbers.specs.Lists.{at, list_to, written}
use Rattle.numbers.proofs.ListLaws.{written_none, next-entry}
use Rattle.block_tables.specs.Tables.{table_words}
use Rattle.block_tables.proofs.TableLaws.{record_of}
use Rattle.qlt_spec.specs.Field.{Lists, lists_of}
use Rattle.files_spec.specs.FieldFile.{cell_table, cell_words}
use Rattle.files_spec.proofs.ReadLaws.{cell_fits}
use Rattle.field_writer.proofs.cells.fill_cells.Goals as goal

-- word x of the k-th block
abbrev word : Lists → ℕ → ℕ → ℕ
word f k x = at (cell_words f (20 * k + x / 6)) (x % 6)

pub table_used-used-requires : goal.table_used-used-requires
table_used-used-requires c = (cell_fits, omega arith)

pub loop-x-init : goal.loop-x-init
loop-x-init c = (written_none _ 0 _, refl, below_none _)

pub cell_word-requires : goal.cell_word-requires
cell_word-requires c =
    let a = c.args in
    let r = record_of cell_table cell_fits a.n a.k c.loop-x.x (omega (arith, c.table_used-used.ensures.0)) in
    omega (arith, c.requires.2, r)

pub loop-x-preserved : goal.loop-x-preserved
loop-x-preserved c =
    let a = c.args in
    let l = c.loop-x in (
      next-entry a.words.now (word (lists_of a.field.now) a.k) l.x (omega (arith, c.requires.0, c.table_used-used.ensures.0)) l.invariant.0 c.cell_word.ensures.value,
      simp length-set l.invariant.1,
      below_more _ _ l.invariant.2 c.cell_word.ensures.fits,
    )

pub returns : goal.returns
unfolding table_words
returns c =
    let a = c.args in
    let l = c.loop-x in
    let u = c.table_used-used.ensures.0 in
    record {
      used = u;
      words_after = l.invariant.0 ∙ ap (λ x. written a.words.now 0 (list_to x (word (lists_of a.field.now) a.k))) (omega (arith, u));
      fits = λ x h. l.invariant.2 x (omega (arith, u));
    }
