-- `legzhuro_c::calls::import` meets its contract: the room first, and then what Import tells is returned and written.
use Rattle.std.proofs.lemmas.Result.{err_from_is_err_and}
use mathlib.Core.Path.{sym}
use Rattle.numbers.proofs.CheckLaws.{long-decides}
use Rattle.legzhuro_c.proofs.CallLaws.{import-no-room, import-done, import-refused}
use Rattle.legzhuro_c.proofs.calls.import.Goals as goal

pub returns-in_err-check_long : goal.returns-in_err-check_long
returns-in_err-check_long c =
    let a = c.args in
    let p = err_from_is_err_and c.from_residual.result c.from_residual.ensures.1 in
    rw (p.1, p.2) (import-no-room a.cell a.scale a.units.now (sym c.in_err-check_long.ensures))

pub put_units-requires : goal.put_units-requires
put_units-requires c = (long-decides _ _).passes.0 (sym c.in_ok-check_long.ensures)

pub returns-in-Ok : goal.returns-in-Ok
returns-in-Ok c =
    let a = c.args in
    import-done a.cell a.scale a.units.now c.import.ensures ((long-decides _ _).passes.0 (sym c.in_ok-check_long.ensures)) c.in-Ok.is c.put_units.ensures

pub returns-in-Err : goal.returns-in-Err
returns-in-Err c =
    let a = c.args in
    import-refused a.cell a.scale a.units.now c.import.ensures ((long-decides _ _).passes.0 (sym c.in_ok-check_long.ensures)) c.in-Err.is c.refusal_of.ensures
