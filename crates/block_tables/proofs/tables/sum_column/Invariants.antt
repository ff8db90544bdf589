-- `block_tables::tables::sum_column` meets its contract: the sum so far is that of the records passed, and less than 2 ^ 32 for each of them.
use mathlib.Core.Path.{◌≡◌}
use Prim.Native.Nat.{◌*◌, ◌≤◌}
use Rattle.numbers.specs.Sums.{ℕ_adds, sum_to}
use Rattle.block_tables.specs.Tables.{table_word}
use Rattle.block_tables.proofs.tables.sum_column.Given as goal

abbrev pub invariant-loop-i : goal.invariant-loop-i
invariant-loop-i l = (l.sum ≡ sum_to ℕ_adds l.i (table_word l.table l.file l.from l.j)) × (l.sum ≤ l.i * 4294967295)
