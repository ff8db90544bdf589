-- The values of the cells fit their types where the words of each block do. Assumes nothing.
use mathlib.Core.Path.{◌≡◌, subst}
use Prim.Native.Nat.{ℕ, ◌+◌, ◌*◌, ◌/◌, ◌%◌, ◌<◌}
use native.Mathlib.Omega.{arith}
use Rattle.block_tables.specs.Tables.{table_blocks}
use Rattle.block_tables.proofs.TableLaws.{word-used, block_in}
use Rattle.qlt_spec.specs.Field.{Lists}
use Rattle.files_spec.specs.FieldFile.{cell_table}
use Rattle.files_spec.proofs.ReadLaws.{cell_fits}
use Rattle.field_writer.specs.Cells.{WordFits, BlockFits}

pub blocks-fit : (n : ℕ) (f : Lists) → ((k : ℕ) → k < table_blocks cell_table n → BlockFits n f k) → (i j : ℕ) → i < n → j < 6 → WordFits f i j
blocks-fit n f h i j l m =
    let x : ℕ = 6 * (i % 20) + j in
    let cell : 20 * (i / 20) + x / 6 ≡ i = omega arith in
    let word : x % 6 ≡ j = omega arith in
    subst (λ y. WordFits f i y) word (subst (λ y. WordFits f y (x % 6)) cell (h (i / 20) (block_in cell_table cell_fits n i l) x (word-used cell_table cell_fits n i j l m)))
