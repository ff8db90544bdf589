-- What the program prints of an accepted field ('Examples' of 01): one line, outcome, cells, total, change, each after its name, then a
-- line per cell: number, mass, mass minus target. Assumes nothing.
use Rattle.std.specs.Prelude.{List, [], ◌++◌, ℕ, zero, suc, ℤ, pos, ◌-ℤ◌}
use Rattle.numbers.specs.Lists.{at, at_ℤ}
use Rattle.qlt_spec.specs.declared.Repair.{Repair}
use Rattle.text.specs.Ascii.{ascii}
use Rattle.text.specs.Text.{number, signed_number, named, space, newline}

unfoldable pub head_line : ℕ → Repair → List ℕ
head_line cells r =
    named (ascii "outcome ") r.outcome space
    ++ named (ascii "cells ") cells space
    ++ named (ascii "total ") r.total space
    ++ named (ascii "change ") r.change newline

unfoldable pub cell_line : ℕ → ℕ → ℤ → List ℕ
cell_line i mass target = number i space ++ number mass space ++ signed_number (pos mass -ℤ target) newline

-- the lines of the first k cells
unfoldable pub cell_lines : List ℕ → List ℤ → ℕ → List ℕ
cell_lines masses targets zero = []
cell_lines masses targets (suc k) = cell_lines masses targets k ++ cell_line k (at masses k) (at_ℤ targets k)

-- the whole text
unfoldable pub listing : ℕ → Repair → List ℕ → List ℤ → List ℕ
listing cells r masses targets = head_line cells r ++ cell_lines masses targets cells
