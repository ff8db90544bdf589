-- `query::work::put_cell` meets its contract: a cell number of n or more is refused (`line-no-cell`); else the parts that it lends are the fronts of the lists
-- (`line-cell`).
use mathlib.Core.Path.{sym, ◌∙◌}
use native.Mathlib.Omega.{arith}
use lib.Seq.{length-take-le}
use Rattle.qlt_spec.specs.Field.{lists_of}
use Rattle.qlt_spec.specs.Operation.{reconstruct_verdict}
use Rattle.files_spec.specs.FieldFile.{fronts}
use Rattle.repair_file.specs.RepairFile.{front_call}
use Rattle.query_spec.proofs.QueryLaws.{cell-decides}
use Rattle.query.proofs.LineLaws.{line-no-cell, line-cell}
use Rattle.query.proofs.work.put_cell.Goals as goal

pub returns-in-Err : goal.returns-in-Err
returns-in-Err c =
    let a = c.args in
    let z = a.sizes in
    let s = lists_of a.field.now in
    let v = reconstruct_verdict (front_call z.cells z.nodes z.total s a.masses.now a.scratch.now) in
    let p = c.put_refusal.ensures in
    (rw (line-no-cell (fronts z.cells z.nodes s) z.total a.cell z.cells v (sym c.check_cell.ensures ∙ c.in-Err.is)) at p.0, omega (arith, p.1))

pub put_line-requires : goal.put_line-requires
put_line-requires c =
    let a = c.args in
    let n = a.sizes.cells in
    let p = c.requires.cells_bound in
    let l = (cell-decides a.cell n).passes.0 (sym c.check_cell.ensures ∙ c.in_default.is) in
    let targets = length-take-le n a.field.now.targets.now (omega (arith, p.0, p.3)) in
    let lows = length-take-le n a.field.now.safe_lows.now (omega (arith, p.0, p.6)) in
    let highs = length-take-le n a.field.now.safe_highs.now (omega (arith, p.0, c.requires.safe_highs_len.0)) in
    (p.2, omega (arith, l, targets), omega (arith, p.0, lows), omega (arith, p.0, highs))

pub returns : goal.returns
returns c =
    let a = c.args in
    let z = a.sizes in
    let s = lists_of a.field.now in
    let v = reconstruct_verdict (front_call z.cells z.nodes z.total s a.masses.now a.scratch.now) in
    let p = c.put_line.ensures in
    (rw (line-cell (fronts z.cells z.nodes s) z.total a.cell z.cells v (sym c.check_cell.ensures ∙ c.in_default.is)) at p.0, p.1)
