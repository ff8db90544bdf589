-- `reconstruct::reconstruct` meets its contract: a call that is refused leaves its lists, and one that passes fits and is repaired.
use mathlib.Core.Path.{sym}
use Rattle.std.proofs.lemmas.Result.{err_from_is_err_and}
use Rattle.qlt_spec.specs.Field.{lists_of}
use Rattle.qlt_spec.specs.Operation.{reconstruct_call, repair}
use Rattle.qlt_spec.proofs.OperationLaws.{reconstruct-accepts, contract-refused, contract-done}
use Rattle.reconstruct.proofs.reconstruct.Goals as goal

pub returns-in_err-verdict : goal.returns-in_err-verdict
returns-in_err-verdict c =
    let a = c.args in
    let k = reconstruct_call (lists_of a.field.now) a.total a.masses.now a.scratch.now in
    let p = err_from_is_err_and c.from_residual.result c.from_residual.ensures.1 in
    rw (p.1, p.2) (contract-refused k (repair k.lists k.total) (sym c.in_err-verdict.ensures))

pub repaired-requires : goal.repaired-requires
repaired-requires c =
    let a = c.args in
    (reconstruct-accepts (reconstruct_call (lists_of a.field.now) a.total a.masses.now a.scratch.now)).0 (sym c.in_ok-verdict.ensures)

pub returns : goal.returns
returns c =
    let a = c.args in
    let k = reconstruct_call (lists_of a.field.now) a.total a.masses.now a.scratch.now in
    contract-done k (repair k.lists k.total) (sym c.in_ok-verdict.ensures) c.repaired.ensures
