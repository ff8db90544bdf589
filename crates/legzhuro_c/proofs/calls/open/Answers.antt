-- `legzhuro_c::calls::open` meets its contract: the room first, and then what Open tells is returned and written.
use Rattle.std.proofs.lemmas.Result.{err_from_is_err_and}
use mathlib.Core.Path.{sym}
use Rattle.numbers.proofs.CheckLaws.{long-decides}
use Rattle.legzhuro_c.proofs.CallLaws.{open-no-room, open_done, open-refused}
use Rattle.legzhuro_c.proofs.calls.open.Goals as goal

pub returns-in_err-check_long : goal.returns-in_err-check_long
returns-in_err-check_long c =
    let a = c.args in
    let p = err_from_is_err_and c.from_residual.result c.from_residual.ensures.1 in
    rw (p.1, p.2) (open-no-room a.kept.now a.scale a.answer.now (sym c.in_err-check_long.ensures))

pub returns-in_err-balance : goal.returns-in_err-balance
returns-in_err-balance c =
    let a = c.args in
    let p = err_from_is_err_and c.from_residual-in_err-balance.result c.from_residual-in_err-balance.ensures.1 in
    rw (p.1, p.2) (open-refused a.kept.now a.scale a.answer.now c.«open».ensures ((long-decides _ _).passes.0 (sym c.in_ok-check_long.ensures)) c.in_err-balance.was)

pub put_balance-requires : goal.put_balance-requires
put_balance-requires c = (long-decides _ _).passes.0 (sym c.in_ok-check_long.ensures)

pub returns : goal.returns
returns c =
    let a = c.args in
    open_done a.kept.now a.scale a.answer.now c.«open».ensures ((long-decides _ _).passes.0 (sym c.in_ok-check_long.ensures)) c.in_ok-balance.was c.put_balance.ensures
