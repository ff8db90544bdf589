-- `kept::extended::step_with` meets its contract: what it leaves and tells go by the verdict, which passes only where Step fits.
use Rattle.std.proofs.Common.{rules}
use mathlib.Core.List.{[], ◌∷◌}
use mir.Syntax.{w32}
use mir.ValLaws.{to_z-of_z}
use Rattle.std.proofs.lemmas.Result.{err_from_is_err_and}
use Rattle.numbers.proofs.CheckLaws.{answered-accepted, answered-refused}
use Rattle.qlt_spec.specs.Field.{lists_of}
use Rattle.blocks.specs.Words.{Bytes}
use Rattle.kept_spec.specs.Step.{step_call, new_total, step_verdict_with}
use Rattle.kept_spec.proofs.StepLaws.{with-fits, fits-repair, failed-promised}
use Rattle.kept.proofs.StepLaws.{typed-of, fits-book, step-done}
use Rattle.kept.proofs.extended.step_with.Goals as goal

pub returns-in_err-total : goal.returns-in_err-total
unfolding step_verdict_with
returns-in_err-total c =
    let a = c.args in
    let g = step_call a.balance a.kept.now a.source a.scale (lists_of a.field.now) a.scratch.now a.book.now a.told in
    let y : Bytes a.book.now = λ i. search rules in
    let told = rw (to_z-of_z w32 a.source c.ranges.source) at c.in_err-total.ensures in
    let p = err_from_is_err_and c.from_residual.result c.from_residual.ensures.1 in
    rw (p.1, p.2) (failed-promised g (typed-of g y c.ranges.source) (answered-refused (step_verdict_with (a.own ∷ []) g) (new_total g) _ _ told))

pub repaired-repair-requires : goal.repaired-repair-requires
unfolding step_verdict_with
repaired-repair-requires c =
    let a = c.args in
    let g = step_call a.balance a.kept.now a.source a.scale (lists_of a.field.now) a.scratch.now a.book.now a.told in
    let told = rw (to_z-of_z w32 a.source c.ranges.source) at c.in_ok-total.ensures in
    let p = answered-accepted (step_verdict_with (a.own ∷ []) g) c.in_ok-total.total (new_total g) told in
    rw p.1 (fits-repair g (with-fits g a.own p.0))

pub add_record-length-requires : goal.add_record-length-requires
unfolding step_verdict_with
add_record-length-requires c =
    let a = c.args in
    let g = step_call a.balance a.kept.now a.source a.scale (lists_of a.field.now) a.scratch.now a.book.now a.told in
    let y : Bytes a.book.now = λ i. search rules in
    let told = rw (to_z-of_z w32 a.source c.ranges.source) at c.in_ok-total.ensures in
    fits-book g y (with-fits g a.own (answered-accepted (step_verdict_with (a.own ∷ []) g) c.in_ok-total.total (new_total g) told).0)

pub returns : goal.returns
unfolding step_verdict_with
returns c =
    let a = c.args in
    let g = step_call a.balance a.kept.now a.source a.scale (lists_of a.field.now) a.scratch.now a.book.now a.told in
    let y : Bytes a.book.now = λ i. search rules in
    let told = rw (to_z-of_z w32 a.source c.ranges.source) at c.in_ok-total.ensures in
    let p = answered-accepted (step_verdict_with (a.own ∷ []) g) c.in_ok-total.total (new_total g) told in
    let repair = rw p.1 at c.repaired-repair.ensures in
    let filed = rw (to_z-of_z w32 a.source c.ranges.source, p.1) at c.add_record-length.ensures in
    rw p.1 (step-done g (typed-of g y c.ranges.source) c.repaired-repair.result c.add_record-length.result p.0 repair filed.0 filed.1)
