-- `repair_file::repair::repair_lists` meets its contract: the parts that it lends are the fronts of the lists, and the masses are put back
-- before the rest of theirs.
use mathlib.Core.Path.{sym, ap}
use native.Mathlib.Omega.{arith}
use Rattle.std.proofs.lemmas.Result.{err_from_is_err_and}
use Rattle.repair_file.specs.RepairFile.{beside}
use Rattle.repair_file.proofs.FileLaws.{fronts-repaired}
use Rattle.repair_file.proofs.repair.repair_lists.Goals as goal

pub returns-in_err-repair : goal.returns-in_err-repair
returns-in_err-repair c =
    let a = c.args in
    let z = a.sizes in
    let p = c.reconstruct-answer.ensures in
    let q = err_from_is_err_and c.from_residual.result c.from_residual.ensures.1 in
    fronts-repaired z.cells z.nodes z.total _ a.masses.now _ a.scratch.now _ _ _ (omega (arith, c.requires)) p (rw (q.1, q.2) (sym (ap (beside z.cells) c.in_err-repair.was)))

pub returns : goal.returns
returns c =
    let a = c.args in
    let z = a.sizes in
    let p = c.reconstruct-answer.ensures in
    fronts-repaired z.cells z.nodes z.total _ a.masses.now _ a.scratch.now _ _ _ (omega (arith, c.requires)) p (sym (ap (beside z.cells) c.in_ok-repair.was))
