-- `legzhuro_c::calls::read_answer` meets its contract: the room for masses first, and then what Read an answer tells is returned and
-- written.
use Rattle.std.proofs.lemmas.Result.{err_from_is_err_and}
use native.Mathlib.Omega.{arith}
use lib.ListN.{length}
use Rattle.legzhuro_c.proofs.DeskLaws.{room_in, read-answer-room, read-answer-done, read-answer-refused}
use Rattle.legzhuro_c.proofs.calls.read_answer.Goals as goal

pub slice_bounds-read_answer-end : goal.slice_bounds-read_answer-end
slice_bounds-read_answer-end c = omega (arith, c.answer_room-room.ensures, room_in (length c.args.masses.now) (length c.args.answer.now))

pub returns-in_err-repaired : goal.returns-in_err-repaired
returns-in_err-repaired c =
    let a = c.args in
    let p = err_from_is_err_and c.from_residual.result c.from_residual.ensures.1 in
    rw (p.1, p.2) (read-answer-refused a.file.now a.masses.now a.answer.now c.answer_room-room.result c.answer_room-room.ensures c.read_answer.ensures c.in_err-repaired.was)

pub put_answer-requires : goal.put_answer-requires
put_answer-requires c = let a = c.args in read-answer-room a.file.now a.masses.now a.answer.now c.answer_room-room.result c.answer_room-room.ensures c.read_answer.ensures c.in_ok-repaired.was

pub returns : goal.returns
returns c =
    let a = c.args in
    read-answer-done a.file.now a.masses.now a.answer.now c.answer_room-room.result c.answer_room-room.ensures c.read_answer.ensures c.in_ok-repaired.was c.put_answer.ensures
