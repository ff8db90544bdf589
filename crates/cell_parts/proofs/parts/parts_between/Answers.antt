-- `cell_parts::parts::parts_between` meets its contract: what the cell has after each step gives its parts (`between`), and none of it is large.
use mathlib.Core.Path.{◌≡◌, ◌∙◌, ap}
use mir.Syntax.{w32}
use mir.Val.{to_z, of_z}
use mir.ValLaws.{to_z-of_z}
use Rattle.numbers.specs.Lists.{at_ℤ}
use Rattle.query_spec.specs.Parts.{parts_by}
use Rattle.cell_parts.proofs.CellLaws.{between}
use Rattle.cell_parts.proofs.parts.parts_between.Goals as goal

pub returns : goal.returns
returns c =
    let z = at_ℤ c.args.in_force.now.targets.now c.args.cell in
    let e : to_z w32 (of_z w32 z) ≡ z = to_z-of_z w32 z (record { sfits = c.parts_by-arg-1.given }) in
    let t = c.node_stages-found.result in
    c.parts_by.ensures
    ∙ ap (parts_by t.clip t.first t.both) e
    ∙ between c.requires.solvable c.requires.cell_in_bounds.0 c.requires.cell_in_bounds.1 c.node_stages-found.ensures
