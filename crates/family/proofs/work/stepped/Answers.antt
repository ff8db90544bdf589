-- `family::work::stepped` meets its contract: past 19 and 1 it is the Step with 20 put in.
use Rattle.std.proofs.Common.{arith, sym, w32, to_z, of_z}
use Rattle.std.proofs.lemmas.Result.{err_from_is_err_and}
use mir.ValLaws.{to_z-of_z}
use Rattle.numbers.proofs.SignedLaws.{about, parts-le}
use Rattle.numbers.proofs.CheckLaws.{both_first}
use Rattle.qlt_spec.specs.Field.{lists_of}
use Rattle.family_spec.specs.Member.{step_inputs}
use Rattle.family_spec.proofs.RuleLaws.{opened-decides}
use Rattle.family_spec.proofs.AnswerLaws.{stepped-refused, stepped-by}
use Rattle.family.proofs.work.stepped.Goals as goal

pub returns-in_err-check_stepping : goal.returns-in_err-check_stepping
returns-in_err-check_stepping c =
    let a = c.args in
    let p = err_from_is_err_and c.from_residual.result c.from_residual.ensures.1 in
    rw (p.1, p.2)
    (stepped-refused a.family a.member (step_inputs a.kept.now a.source a.scale (lists_of a.field.now) a.scratch.now a.book.now a.told)
    (record {
      bytes = λ i. omega (arith, c.type_inv.book i);
      least = parts-le (omega (arith, c.ranges, about a.source));
      most = parts-le (omega (arith, c.ranges, about a.source));
    })
    (sym c.in_err-check_stepping.ensures))

pub member_at-stands-requires : goal.member_at-stands-requires
member_at-stands-requires c = omega (arith, ((opened-decides _ _).passes.0 (both_first _ _ (sym c.in_ok-check_stepping.ensures))).0)

pub check_source-within-requires : goal.check_source-within-requires
check_source-within-requires c = omega (arith, ((opened-decides _ _).passes.0 (both_first _ _ (sym c.in_ok-check_stepping.ensures))).0)

pub returns : goal.returns
returns c =
    let a = c.args in
    stepped-by a.family a.member (step_inputs a.kept.now a.source a.scale (lists_of a.field.now) a.scratch.now a.book.now a.told)
    c.check_source-within.result c.member_at-stands.result (to_z w32 (of_z w32 a.source)) (sym c.in_ok-check_stepping.ensures) c.check_source-within.ensures
    c.member_at-stands.ensures (to_z-of_z w32 a.source c.ranges.source) c.step_with.ensures
