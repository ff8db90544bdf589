-- `block_tables::tables::put_list` meets its contract: the blocks before k stand in the buffer, the rest is as it was.
use mathlib.Core.Path.{◌≡◌}
use Prim.Native.Nat.{◌*◌, ◌-◌}
use lib.ListN.{length}
use Rattle.numbers.specs.Lists.{at, written}
use Rattle.block_tables.specs.Tables.{table_bytes, list_table}
use Rattle.block_tables.proofs.tables.put_list.Given as goal

abbrev pub invariant-loop-k : goal.invariant-loop-k
invariant-loop-k l =
    (l.buffer ≡ written l.initial.buffer (512 * (l.from - 1)) (table_bytes list_table l.n (λ i j. at l.list i) l.from l.k)) × (length l.buffer ≡ length l.initial.buffer)
