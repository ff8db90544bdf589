-- `legzhuro_c::calls::write_field` meets its contract: what Write a field file tells is returned.
use Rattle.std.proofs.lemmas.Result.{err_from_is_err_and}
use Rattle.legzhuro_c.proofs.DeskLaws.{write-field-done, write-field-refused}
use Rattle.legzhuro_c.proofs.calls.write_field.Goals as goal

pub returns-in_err-write_field : goal.returns-in_err-write_field
returns-in_err-write_field c =
    let p = err_from_is_err_and c.from_residual.result c.from_residual.ensures.1 in
    rw (p.1, p.2) (write-field-refused c.write_field.ensures c.in_err-write_field.was)

pub returns : goal.returns
returns c = write-field-done c.write_field.ensures c.in_ok-write_field.was
