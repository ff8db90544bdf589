-- `block_tables::tables::read_column` meets its contract: the entries before the index are the records' words, the rest is as it was.
use mathlib.Core.Path.{refl, ap, ◌∙◌}
use native.Mathlib.Omega.{arith}
use lib.ListN.{length-set}
use Rattle.numbers.proofs.ListLaws.{written_none, next-entry}
use Rattle.block_tables.specs.Tables.{table_word}
use Rattle.block_tables.proofs.tables.read_column.Goals as goal

pub loop-i-init : goal.loop-i-init
loop-i-init g c = (written_none _ 0 _, refl)

pub loop-i-preserved : goal.loop-i-preserved
loop-i-preserved g c =
    let a = c.args in
    let l = c.loop-i in
    let e = c.of_word.ensures ∙ ap g.T.Entry.of_word c.table_word.ensures in
    (next-entry a.list.now (λ i. g.T.Entry.of_word (table_word a.table a.file.now a.from a.j i)) l.i (omega arith) l.invariant.0 e, simp length-set l.invariant.1)
