-- `field_writer::work::put_field` meets its contract: block 1, then the blocks of the cells, then those of the parents.
use mathlib.Core.Path.{refl, ◌∙◌, ap}
use native.Mathlib.Omega.{arith}
use Prim.Native.Nat.{◌+◌, ◌*◌, ◌-◌}
use Rattle.numbers.specs.Lists.{at, written}
use Rattle.block_tables.specs.Tables.{table_bytes, list_table}
use Rattle.qlt_spec.specs.Field.{lists_of}
use Rattle.files_spec.specs.FieldFile.{cell_blocks, parent_blocks}
use Rattle.files_spec.proofs.FrontLaws.{fronts-typed}
use Rattle.files_spec.proofs.WriteFieldLaws.{cell_bytes, parent_bytes, field-written}
use Rattle.field_writer.proofs.work.put_field.Goals as goal

pub returns-clause-buffer_after : goal.returns-clause-buffer_after
returns-clause-buffer_after c =
    let a = c.args in
    let s = lists_of a.field.now in
    let k = cell_blocks a.n in
    c.put_list.ensures.buffer_after
    ∙ ap (λ b. written c.put_cells.new.buffer (512 * (2 + b - 1)) (table_bytes list_table a.m (λ i j. at a.field.now.parents.now i) (2 + b) (parent_blocks a.m))) c.table_blocks-after.ensures
    ∙ ap (λ x. written x (512 * (2 + k - 1)) (parent_bytes a.n a.m s)) (c.put_cells.ensures.buffer_after ∙ ap (λ x. written x (512 * (2 - 1)) (cell_bytes a.n s)) c.put_head.ensures)
    ∙ field-written a.n a.m s c.requires.3 a.total a.buffer.now

pub returns-clause-typed : goal.returns-clause-typed
returns-clause-typed c =
    let a = c.args in
    let f = c.put_cells.ensures.fits in
    fronts-typed a.n a.m (lists_of a.field.now) a.total
    (λ i l. (f i 0 l (omega arith)).target refl)
    (λ i l. (f i 1 l (omega arith)).word)
    (λ i l. (f i 2 l (omega arith)).word)
    (λ i l. (f i 3 l (omega arith)).word)
    (λ i l. (f i 4 l (omega arith)).word)
    (λ i l. (f i 5 l (omega arith)).word)
    (λ i l. c.put_list.ensures.words i)
    c.ranges.total.fits
