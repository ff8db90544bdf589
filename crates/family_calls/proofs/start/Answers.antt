-- `family_calls::start` meets its contract: the room first, and then what the operation tells is returned and written.
use Rattle.std.proofs.lemmas.Result.{err_from_is_err_and}
use mathlib.Core.Path.{sym}
use Rattle.numbers.proofs.CheckLaws.{long-decides}
use Rattle.family_calls.proofs.CallLaws.{start-no-room, start-done, start-refused}
use Rattle.family_calls.proofs.start.Goals as goal

pub returns-in_err-check_long : goal.returns-in_err-check_long
returns-in_err-check_long c =
    let a = c.args in
    let p = err_from_is_err_and c.from_residual.result c.from_residual.ensures.1 in
    rw (p.1, p.2) (start-no-room a.cap a.scale a.cells a.family.now (sym c.in_err-check_long.ensures))

pub returns-in_err-started : goal.returns-in_err-started
returns-in_err-started c =
    let a = c.args in
    let p = err_from_is_err_and c.from_residual-in_err-started.result c.from_residual-in_err-started.ensures.1 in
    rw (p.1, p.2)
    (start-refused a.cap a.scale a.cells a.family.now _ c.start_family-started.ensures ((long-decides _ _).passes.0 (sym c.in_ok-check_long.ensures)) c.in_err-started.was)

pub put_family-requires : goal.put_family-requires
put_family-requires c = (long-decides _ _).passes.0 (sym c.in_ok-check_long.ensures)

pub returns : goal.returns
returns c =
    let a = c.args in
    start-done a.cap a.scale a.cells a.family.now _ c.start_family-started.ensures ((long-decides _ _).passes.0 (sym c.in_ok-check_long.ensures)) c.in_ok-started.was c.put_family.ensures
