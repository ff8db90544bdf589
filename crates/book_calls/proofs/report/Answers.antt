-- `book_calls::report` meets its contract: the room first, and then what the operation tells is returned and written. That the file is bytes is
-- known of every argument.
use Rattle.std.proofs.lemmas.Result.{err_from_is_err_and}
use mathlib.Core.Path.{sym}
use Rattle.numbers.proofs.CheckLaws.{long-decides}
use Rattle.book_calls.proofs.CallLaws.{report-no-room, report-done, report-refused}
use Rattle.book_calls.proofs.report.Goals as goal

pub returns-in_err-check_long : goal.returns-in_err-check_long
returns-in_err-check_long c =
    let a = c.args in
    let p = err_from_is_err_and c.from_residual.result c.from_residual.ensures.1 in
    rw (p.1, p.2) (report-no-room a.file.now a.answer.now (λ i. (c.type_inv.file i).fits) (sym c.in_err-check_long.ensures))

pub returns-in_err-report : goal.returns-in_err-report
returns-in_err-report c =
    let a = c.args in
    let p = err_from_is_err_and c.from_residual-in_err-report.result c.from_residual-in_err-report.ensures.1 in
    rw (p.1, p.2) (report-refused a.file.now a.answer.now c.read_book.ensures ((long-decides _ _).passes.0 (sym c.in_ok-check_long.ensures)) c.in_err-report.was)

pub put_report-requires : goal.put_report-requires
put_report-requires c = (long-decides _ _).passes.0 (sym c.in_ok-check_long.ensures)

pub returns : goal.returns
returns c =
    let a = c.args in
    report-done a.file.now a.answer.now c.read_book.ensures ((long-decides _ _).passes.0 (sym c.in_ok-check_long.ensures)) c.in_ok-report.was c.put_report.ensures
