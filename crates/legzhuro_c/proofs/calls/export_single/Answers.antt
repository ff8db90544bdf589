-- `legzhuro_c::calls::export_single` meets its contract: the room first, and then what Export in binary32 tells is returned and written.
use Rattle.std.proofs.lemmas.Result.{err_from_is_err_and}
use mathlib.Core.Path.{sym}
use Rattle.numbers.proofs.CheckLaws.{long-decides}
use Rattle.doubles_spec.specs.ExportSingle.{export_single}
use Rattle.legzhuro_c.proofs.CallLaws.{value-no-room, value-done, value-refused}
use Rattle.legzhuro_c.proofs.calls.export_single.Goals as goal

pub returns-in_err-check_long : goal.returns-in_err-check_long
returns-in_err-check_long c =
    let a = c.args in
    let p = err_from_is_err_and c.from_residual.result c.from_residual.ensures.1 in
    rw (p.1, p.2) (value-no-room a.mass a.scale (export_single a.mass a.scale) a.value.now (sym c.in_err-check_long.ensures))

pub returns-in_err-x : goal.returns-in_err-x
returns-in_err-x c =
    let a = c.args in
    let p = err_from_is_err_and c.from_residual-in_err-x.result c.from_residual-in_err-x.ensures.1 in
    rw (p.1, p.2)
    (value-refused a.mass a.scale (export_single a.mass a.scale) a.value.now c.export_single.ensures.answers ((long-decides _ _).passes.0 (sym c.in_ok-check_long.ensures)) c.in_err-x.was)

pub put_single-requires : goal.put_single-requires
put_single-requires c = (long-decides _ _).passes.0 (sym c.in_ok-check_long.ensures)

pub returns : goal.returns
returns c =
    let a = c.args in
    value-done a.mass a.scale (export_single a.mass a.scale) a.value.now c.export_single.ensures.answers ((long-decides _ _).passes.0 (sym c.in_ok-check_long.ensures)) c.in_ok-x.was c.put_single.ensures
