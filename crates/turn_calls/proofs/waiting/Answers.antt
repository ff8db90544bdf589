-- `turn_calls::waiting` meets its contract: the lists first, and then the value.
use Rattle.std.proofs.lemmas.Result.{err_from_is_err_and}
use mathlib.Core.Path.{sym, ◌∙◌, ap}
use Rattle.family_spec.specs.Operations.{waiting_count}
use Rattle.family_calls.proofs.CallLaws.{room-family, room-answer}
use Rattle.turn_calls.proofs.TurnCallLaws.{read-refused, read_done}
use Rattle.turn_calls.proofs.waiting.Goals as goal

pub returns-in_err-call_room : goal.returns-in_err-call_room
returns-in_err-call_room c =
    let a = c.args in
    let p = err_from_is_err_and c.from_residual.result c.from_residual.ensures.1 in
    rw (p.1, p.2) (read-refused waiting_count a.family.now a.answer.now (sym c.in_err-call_room.ensures))

pub read_family-requires : goal.read_family-requires
read_family-requires c = room-family c.args.family.now c.args.answer.now 1 (sym c.in_ok-call_room.ensures)

pub put_value-requires : goal.put_value-requires
put_value-requires c = room-answer c.args.family.now c.args.answer.now 1 (sym c.in_ok-call_room.ensures)

pub returns : goal.returns
returns c =
    let a = c.args in
    read_done waiting_count a.family.now a.answer.now (sym c.in_ok-call_room.ensures) (c.from.ensures ∙ c.waiting_count-count.ensures ∙ ap waiting_count c.read_family.ensures) c.put_value.ensures
