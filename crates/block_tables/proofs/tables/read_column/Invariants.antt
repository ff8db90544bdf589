-- `block_tables::tables::read_column` meets its contract: the entries before the index are the records' words, the rest is as it was.
use mathlib.Core.Path.{◌≡◌}
use lib.ListN.{length}
use Rattle.numbers.specs.Lists.{list_to, written}
use Rattle.block_tables.specs.Tables.{table_word}
use Rattle.block_tables.proofs.tables.read_column.Given as goal

abbrev pub invariant-loop-i : goal.invariant-loop-i
invariant-loop-i g l =
    (l.list ≡ written l.initial.list 0 (list_to l.i (λ i. g.T.Entry.of_word (table_word l.table l.file l.from l.j i)))) × (length l.list ≡ length l.initial.list)
