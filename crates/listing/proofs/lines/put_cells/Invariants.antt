-- `listing::lines::put_cells` meets its contract: before cell i the lines of the cells below i are put, 27 bytes each at most.
use Prim.Native.Nat.{◌+◌, ◌*◌, ◌≤◌}
use Rattle.text.specs.Text.{Put}
use Rattle.listing.specs.Listing.{cell_lines}
use Rattle.listing.proofs.lines.put_cells.Given as goal

abbrev pub invariant-loop-i : goal.invariant-loop-i
invariant-loop-i l = Put l.initial.out l.out l.at l.end (cell_lines l.masses l.targets l.i) × (l.end ≤ l.at + 27 * l.i)
