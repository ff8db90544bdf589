-- `report::work::put_report_with` meets its contract: a refused file has the line of its refusal, and of an accepted one the fronts of
-- masses and targets are listed.
use mathlib.Core.Path.{sym, ◌∙◌}
use native.Mathlib.Omega.{arith}
use lib.Seq.{length-take-le}
use Rattle.repair_file.proofs.FileLaws.{file-done, file-refused}
use Rattle.report.proofs.ReportLaws.{text-refused, text-done}
use Rattle.report.proofs.work.put_report_with.Goals as goal

pub put_refusal-requires : goal.put_refusal-requires
put_refusal-requires c = omega (arith, c.requires.in_bounds.0)

pub slice_bounds-put_listing-end : goal.slice_bounds-put_listing-end
slice_bounds-put_listing-end c =
    let f = c.repair_file-answer in
    let d = file-done c.in-Ok.ensures in
    omega (arith, d.few, f.auto.masses, c.requires.safe_highs_len.3)

pub slice_bounds-put_listing-end-in-Ok : goal.slice_bounds-put_listing-end-in-Ok
slice_bounds-put_listing-end-in-Ok c =
    let f = c.repair_file-answer in
    let d = file-done c.in-Ok.ensures in
    omega (arith, length-take-le c.in-Ok.repaired.cells f.new.masses (omega (arith, d.few, f.auto.masses, c.requires.safe_highs_len.3)))

pub slice_bounds-put_listing-end-in-Ok-2 : goal.slice_bounds-put_listing-end-in-Ok-2
slice_bounds-put_listing-end-in-Ok-2 c =
    let f = c.repair_file-answer in
    let d = file-done c.in-Ok.ensures in
    omega (arith, d.few, f.auto.targets, c.requires.in_bounds.1)

pub slice_bounds-put_listing-end-in-Ok-3 : goal.slice_bounds-put_listing-end-in-Ok-3
slice_bounds-put_listing-end-in-Ok-3 c =
    let f = c.repair_file-answer in
    let d = file-done c.in-Ok.ensures in
    omega (arith, length-take-le c.in-Ok.repaired.cells f.new.targets (omega (arith, d.few, f.auto.targets, c.requires.in_bounds.1)))

pub put_listing-requires : goal.put_listing-requires
put_listing-requires c =
    let f = c.repair_file-answer in
    let d = file-done c.in-Ok.ensures in
    let n = c.in-Ok.repaired.cells in
    let m = length-take-le n f.new.masses (omega (arith, d.few, f.auto.masses, c.requires.safe_highs_len.3)) in
    let t = length-take-le n f.new.targets (omega (arith, d.few, f.auto.targets, c.requires.in_bounds.1)) in
    (c.requires.in_bounds.0, t ∙ sym m, omega (arith, m, d.few))

pub returns-in-Err : goal.returns-in-Err
returns-in-Err c =
    let f = c.repair_file-answer in
    let p = c.put_refusal.ensures in
    (rw (← text-refused c.args.file.now (file-refused (rw c.in-Err.is at f.ensures))) p.0, omega (arith, p.1))

pub returns-in-Ok : goal.returns-in-Ok
returns-in-Ok c =
    let f = c.repair_file-answer in
    let d = file-done c.in-Ok.ensures in
    let p = c.put_listing.ensures in
    (rw (text-done d) at p.0, omega (arith, p.1))
