-- `field_writer::cells::fill_cells` meets its contract: the entries before x are the words of the block, the rest is as it was.
use mathlib.Core.Path.{◌≡◌}
use Prim.Native.Nat.{ℕ, ◌+◌, ◌*◌, ◌/◌, ◌%◌, ◌<◌}
use lib.ListN.{length}
use Rattle.numbers.specs.Lists.{at, list_to, written}
use Rattle.qlt_spec.specs.Field.{lists_of}
use Rattle.files_spec.specs.FieldFile.{cell_words}
use Rattle.field_writer.specs.Cells.{WordFits}
use Rattle.field_writer.proofs.cells.fill_cells.Given as goal

abbrev pub invariant-loop-x : goal.invariant-loop-x
invariant-loop-x l =
    (l.words ≡ written l.initial.words 0 (list_to l.x (λ x. at (cell_words (lists_of l.field) (20 * l.k + x / 6)) (x % 6)))) × (length l.words ≡ length l.initial.words) × ((y : ℕ) → y < l.x → WordFits (lists_of l.field) (20 * l.k + y / 6) (y % 6))
