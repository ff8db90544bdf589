-- `legzhuro_c::whole::answer_file` meets its contract: a refused file's number is returned, and of an accepted one the answer of the front of the
-- masses is written, or its refusal's number returned.
use Rattle.std.proofs.lemmas.Result.{err_from_is_err_and}
use native.Mathlib.Omega.{arith}
use Rattle.repair_file.proofs.FileLaws.{file-done, file-refused}
use Rattle.legzhuro_c.proofs.FileCallLaws.{call-refused, call-done, call-no-room}
use Rattle.legzhuro_c.proofs.whole.answer_file.Goals as goal

pub repair_file-requires : goal.repair_file-requires
repair_file-requires c = c.requires

pub returns-in_err-repaired : goal.returns-in_err-repaired
returns-in_err-repaired c =
    let a = c.args in
    let p = err_from_is_err_and c.from_residual.result c.from_residual.ensures.1 in
    rw (p.1, p.2) (call-refused a.file.now a.answer.now (file-refused (rw c.in_err-repaired.was at c.repair_file.ensures)))

pub slice_bounds-write_answer-end : goal.slice_bounds-write_answer-end
slice_bounds-write_answer-end c =
    let f = c.repair_file in
    let d = file-done (rw c.in_ok-repaired.was at f.ensures) in
    omega (arith, d.few, f.auto.masses, c.requires.safe_highs_len.3)

pub returns-in_err-write_answer : goal.returns-in_err-write_answer
returns-in_err-write_answer c =
    let a = c.args in
    let p = err_from_is_err_and c.from_residual-in_err-write_answer.result c.from_residual-in_err-write_answer.ensures.1 in
    rw (p.1, p.2) (call-no-room a.file.now a.answer.now (file-done (rw c.in_ok-repaired.was at c.repair_file.ensures)) c.write_answer.ensures c.in_err-write_answer.was)

pub returns : goal.returns
returns c =
    let a = c.args in
    call-done a.file.now a.answer.now (file-done (rw c.in_ok-repaired.was at c.repair_file.ensures)) c.write_answer.ensures c.in_ok-write_answer.was
