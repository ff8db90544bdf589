-- `family_calls::open` meets its contract: the lists first, and then what the operation tells is returned and written.
use Rattle.std.proofs.lemmas.Result.{err_from_is_err_and}
use mathlib.Core.Path.{sym, subst}
use Rattle.family_spec.specs.Operations.{OpenMemberContract}
use Rattle.call_values.specs.Values.{open_values}
use Rattle.family_calls.proofs.CallLaws.{room-family, room-answer, open-room-refused, open_done, open-refused}
use Rattle.family_calls.proofs.open.Goals as goal

pub returns-in_err-call_room : goal.returns-in_err-call_room
returns-in_err-call_room c =
    let a = c.args in
    let p = err_from_is_err_and c.from_residual.result c.from_residual.ensures.1 in
    rw (p.1, p.2) (open-room-refused a.family.now a.member a.kept.now a.scale a.answer.now (sym c.in_err-call_room.ensures))

pub read_family-requires : goal.read_family-requires
read_family-requires c = room-family c.args.family.now c.args.answer.now open_values (sym c.in_ok-call_room.ensures)

pub returns-in_err-balance : goal.returns-in_err-balance
returns-in_err-balance c =
    let a = c.args in
    let p = err_from_is_err_and c.from_residual-in_err-balance.result c.from_residual-in_err-balance.ensures.1 in
    rw (p.1, p.2)
    (open-refused a.family.now a.member a.kept.now a.scale a.answer.now (sym c.in_ok-call_room.ensures) _
    (subst (λ f. OpenMemberContract f a.member a.kept.now a.scale c.open_member-opened.result) c.read_family.ensures c.open_member-opened.ensures)
    c.in_err-balance.was)

pub put_family-requires : goal.put_family-requires
put_family-requires c = room-family c.args.family.now c.args.answer.now open_values (sym c.in_ok-call_room.ensures)

pub put_balance-requires : goal.put_balance-requires
put_balance-requires c = room-answer c.args.family.now c.args.answer.now open_values (sym c.in_ok-call_room.ensures)

pub returns : goal.returns
returns c =
    let a = c.args in
    open_done a.family.now a.member a.kept.now a.scale a.answer.now (sym c.in_ok-call_room.ensures) _
    (subst (λ f. OpenMemberContract f a.member a.kept.now a.scale c.open_member-opened.result) c.read_family.ensures c.open_member-opened.ensures)
    c.in_ok-balance.was c.put_family.ensures c.put_balance.ensures
