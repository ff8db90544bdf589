-- `book_calls::start` meets its contract: the room first, and then what the operation tells is returned and written. That the buffer is bytes is
-- known of every argument.
use Rattle.std.proofs.lemmas.Result.{err_from_is_err_and}
use mathlib.Core.Path.{sym}
use Rattle.numbers.proofs.CheckLaws.{long-decides}
use Rattle.book_calls.proofs.CallLaws.{start-no-room, start-done, start-refused}
use Rattle.book_calls.proofs.start.Goals as goal

pub returns-in_err-check_long : goal.returns-in_err-check_long
returns-in_err-check_long c =
    let a = c.args in
    let p = err_from_is_err_and c.from_residual.result c.from_residual.ensures.1 in
    rw (p.1, p.2) (start-no-room a.total a.buffer.now a.answer.now (λ i. (c.type_inv.buffer i).fits) (sym c.in_err-check_long.ensures))

pub returns-in_err-bytes : goal.returns-in_err-bytes
returns-in_err-bytes c =
    let a = c.args in
    let p = err_from_is_err_and c.from_residual-in_err-bytes.result c.from_residual-in_err-bytes.ensures.1 in
    rw (p.1, p.2) (start-refused a.total a.buffer.now a.answer.now c.start_book.ensures ((long-decides _ _).passes.0 (sym c.in_ok-check_long.ensures)) c.in_err-bytes.was)

pub put_length-requires : goal.put_length-requires
put_length-requires c = (long-decides _ _).passes.0 (sym c.in_ok-check_long.ensures)

pub returns : goal.returns
returns c =
    let a = c.args in
    start-done a.total a.buffer.now a.answer.now c.start_book.ensures ((long-decides _ _).passes.0 (sym c.in_ok-check_long.ensures)) c.in_ok-bytes.was c.put_length.ensures
