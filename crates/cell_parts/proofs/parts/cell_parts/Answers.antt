-- `cell_parts::parts::cell_parts` meets its contract: what is solved is the field by the bounds in force (`forced-solvable`), and the parts by it are the cell's
-- (`in-force`); in a field of one node the correction is all second share (`alone-told`).
use mathlib.Core.Path.{◌≡◌, sym, ◌∙◌, ap}
use Prim.Native.Nat.{◌<◌}
use native.Mathlib.Omega.{arith}
use lib.IntN.{pos, ◌-ℤ◌}
use lib.ListN.{length}
use mir.Syntax.{w32, w64}
use mir.Val.{to_z, of_z}
use mir.ValLaws.{to_z-of_z}
use Rattle.numbers.specs.Lists.{at_ℤ}
use Rattle.qlt_spec.specs.Field.{lists_of, field}
use Rattle.qlt_spec.specs.Operation.{reconstruct_call}
use Rattle.qlt_spec.proofs.OperationLaws.{fits-valid}
use Rattle.reconstruct.proofs.RebuildLaws.{forced-solvable}
use Rattle.query_spec.proofs.PartsLaws.{cell-low}
use Rattle.cell_parts.proofs.CellLaws.{in-force, alone-told, correction-fits}
use Rattle.cell_parts.proofs.parts.cell_parts.Goals as goal

pub returns-then-field-eq1 : goal.returns-then-field-eq1
returns-then-field-eq1 c =
    let a = c.args in
    let z = at_ℤ a.field.now.targets.now a.cell in
    let d = pos a.total -ℤ z in
    let e : to_z w32 (of_z w32 z) ≡ z = to_z-of_z w32 z (record { sfits = c.minus-arg-1.given }) in
    alone-told (field (lists_of a.field.now)) a.total a.cell c.if-field-eq1.true _
    (ap (λ x. to_z w64 (of_z w64 x)) (c.minus-correction.ensures ∙ ap (λ x. pos a.total -ℤ x) e)
    ∙ to_z-of_z w64 d (correction-fits a.total z c.ranges.total.fits c.minus-arg-1.given))

pub parts_between-requires : goal.parts_between-requires
parts_between-requires c =
    let a = c.args in
    let k = reconstruct_call (lists_of a.field.now) a.total c.requires.by_index.0 a.scratch.now in
    let f = c.requires.by_index.1 in
    let q = c.in_force.ensures in
    let more : 1 < length a.field.now.parents.now = omega (arith, f.shape.some, f.shape.nodes_room, c.if-field-eq1.false) in
    let low = cell-low (field k.lists) (fits-valid f.shape f.values) a.cell c.requires.cell_in_bounds more in
    record {
      solvable = forced-solvable k f a.outcome (sym c.requires.outcome_value) q;
      cell_in_bounds = (rw q.parents low, rw q.targets c.requires.cell_in_bounds);
    }

pub returns : goal.returns
returns c =
    let a = c.args in
    let k = reconstruct_call (lists_of a.field.now) a.total c.requires.by_index.0 a.scratch.now in
    let f = c.requires.by_index.1 in
    let more : 1 < length a.field.now.parents.now = omega (arith, f.shape.some, f.shape.nodes_room, c.if-field-eq1.false) in
    c.parts_between.ensures ∙ in-force k f a.outcome (sym c.requires.outcome_value) c.in_force.ensures a.cell more
