-- `block_tables::tables::sum_column` meets its contract: the sum so far is that of the records passed, and less than 2 ^ 32 for each of them.
use native.Mathlib.Omega.{arith}
use native.Mathlib.Numerals.{add-one}
use Rattle.numbers.specs.Sums.{ℕ_adds, sum_to}
use Rattle.numbers.proofs.SumLaws.{sum_to-next}
use Rattle.block_tables.specs.Tables.{table_word}
use Rattle.block_tables.proofs.tables.sum_column.Goals as goal

pub loop-i-init : goal.loop-i-init
unfolding sum_to
loop-i-init c = omega arith

pub loop-i-preserved : goal.loop-i-preserved
loop-i-preserved c =
    let a = c.args in
    rw add-one (omega (arith, sum_to-next ℕ_adds c.loop-i.i (table_word a.table a.file.now a.from a.j), c.table_word.ensures))
