-- `block_tables::tables::check_table` meets its contract: the verdict is that of the blocks from b on.
use mathlib.Core.Path.{◌≡◌}
use Prim.Native.Nat.{◌+◌, ◌-◌}
use Rattle.numbers.specs.Checks.{each_from}
use Rattle.blocks.specs.Blocks.{check_block}
use Rattle.block_tables.specs.Tables.{table_blocks, table_used, check_table}
use Rattle.block_tables.proofs.tables.check_table.Given as goal

abbrev pub invariant-loop-b : goal.invariant-loop-b
invariant-loop-b l =
    check_table l.table l.file l.from l.n ≡ each_from (check_block l.file (λ i. table_used l.table l.n (i - l.from))) l.b (l.from + table_blocks l.table l.n - l.b)
