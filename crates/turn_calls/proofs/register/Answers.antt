-- `turn_calls::register` meets its contract: the room first, and then what the operation tells is returned and written.
use Rattle.std.proofs.lemmas.Result.{err_from_is_err_and}
use mathlib.Core.Path.{sym, subst}
use Rattle.numbers.proofs.CheckLaws.{long-decides}
use Rattle.family_spec.specs.Operations.{RegisterContract}
use Rattle.turn_calls.proofs.TurnCallLaws.{register-no-room, register-done, register-refused}
use Rattle.turn_calls.proofs.register.Goals as goal

pub returns-in_err-check_long : goal.returns-in_err-check_long
returns-in_err-check_long c =
    let a = c.args in
    let p = err_from_is_err_and c.from_residual.result c.from_residual.ensures.1 in
    rw (p.1, p.2) (register-no-room a.family.now a.member (sym c.in_err-check_long.ensures))

pub read_family-requires : goal.read_family-requires
read_family-requires c = (long-decides _ _).passes.0 (sym c.in_ok-check_long.ensures)

pub returns-in_err-registered : goal.returns-in_err-registered
returns-in_err-registered c =
    let a = c.args in
    let p = err_from_is_err_and c.from_residual-in_err-registered.result c.from_residual-in_err-registered.ensures.1 in
    rw (p.1, p.2)
    (register-refused a.family.now a.member _ (subst (λ f. RegisterContract f a.member c.register-registered.result) c.read_family.ensures c.register-registered.ensures)
    ((long-decides _ _).passes.0 (sym c.in_ok-check_long.ensures)) c.in_err-registered.was)

pub put_family-requires : goal.put_family-requires
put_family-requires c = (long-decides _ _).passes.0 (sym c.in_ok-check_long.ensures)

pub returns : goal.returns
returns c =
    let a = c.args in
    register-done a.family.now a.member _ (subst (λ f. RegisterContract f a.member c.register-registered.result) c.read_family.ensures c.register-registered.ensures)
    ((long-decides _ _).passes.0 (sym c.in_ok-check_long.ensures)) c.in_ok-registered.was c.put_family.ensures
