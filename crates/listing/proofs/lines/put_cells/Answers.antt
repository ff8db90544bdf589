-- `listing::lines::put_cells` meets its contract: before cell i the lines of the cells below i are put, 27 bytes each at most.
use mathlib.Core.Path.{◌≡◌}
use native.Mathlib.Nat.{le_antisymm}
use native.Mathlib.Numerals.{add-one}
use native.Mathlib.Omega.{arith}
use lib.ListN.{length}
use mir.Syntax.{w32}
use mir.Val.{to_z, of_z}
use mir.ValLaws.{to_z-of_z}
use Rattle.numbers.specs.Lists.{at_ℤ}
use Rattle.text.proofs.TextLaws.{then, none}
use Rattle.listing.specs.Listing.{cell_lines}
use Rattle.listing.proofs.lines.put_cells.Goals as goal

pub loop-i-init : goal.loop-i-init
unfolding cell_lines
loop-i-init c = (none _ _, omega arith)

pub loop-i-preserved : goal.loop-i-preserved
unfolding cell_lines
loop-i-preserved c =
    let l = c.loop-i in
    let p = c.put_cell-end in
    let z = at_ℤ c.args.targets.now l.i in
    let e : to_z w32 (of_z w32 z) ≡ z = to_z-of_z w32 z (record { sfits = omega arith }) in
    (rw (add-one, ← e) (then (omega arith) l.invariant.0 p.ensures.0), omega (arith, p.ensures.1))

pub returns : goal.returns
returns c =
    let l = c.loop-i in
    let e : l.i ≡ length c.args.masses.now = le_antisymm l.auto.i-end c.loop-i-test.false in
    (rw (← e) l.invariant.0, omega arith)
