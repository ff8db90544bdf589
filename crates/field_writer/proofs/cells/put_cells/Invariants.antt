-- `field_writer::cells::put_cells` meets its contract: the blocks before k stand in the buffer, the rest is as it was.
use mathlib.Core.Path.{◌≡◌}
use Prim.Native.Nat.{ℕ, ◌*◌, ◌-◌, ◌<◌}
use lib.ListN.{length}
use Rattle.numbers.specs.Lists.{at, written}
use Rattle.block_tables.specs.Tables.{table_bytes}
use Rattle.qlt_spec.specs.Field.{lists_of}
use Rattle.files_spec.specs.FieldFile.{cell_table, cell_words}
use Rattle.field_writer.specs.Cells.{BlockFits}
use Rattle.field_writer.proofs.cells.put_cells.Given as goal

abbrev pub invariant-loop-k : goal.invariant-loop-k
invariant-loop-k l =
    (l.buffer ≡ written l.initial.buffer (512 * (l.from - 1)) (table_bytes cell_table l.n (λ i j. at (cell_words (lists_of l.field) i) j) l.from l.k)) × (length l.buffer ≡ length l.initial.buffer) × ((q : ℕ) → q < l.k → BlockFits l.n (lists_of l.field) q)
