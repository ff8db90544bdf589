-- `query::work::put_line` meets its contract: a verdict that fails has the line of its refusal (`line_refused`), and one that passes the parts, by the outcome
-- (`line-parts`).
use Rattle.std.specs.Prelude.{Ok}
use mathlib.Core.Path.{◌≡◌, sym, ◌∙◌, ap}
use native.Mathlib.Omega.{arith}
use Rattle.qlt_spec.specs.Field.{lists_of, outcome_number}
use Rattle.qlt_spec.specs.Operation.{reconstruct_call, reconstruct_verdict}
use Rattle.qlt_spec.proofs.OperationLaws.{reconstruct-accepts}
use Rattle.reconstruct.proofs.RebuildLaws.{outcome-found}
use Rattle.query.proofs.LineLaws.{line_refused, line-parts}
use Rattle.query.proofs.work.put_line.Goals as goal

pub returns-in-Err : goal.returns-in-Err
returns-in-Err c =
    let a = c.args in
    let p = c.put_refused.ensures in
    (rw (line_refused (lists_of a.field.now) a.total a.cell (sym c.verdict.ensures ∙ c.in-Err.is)) at p.0, p.1)

pub outcome_of-outcome-requires : goal.outcome_of-outcome-requires
outcome_of-outcome-requires c =
    let a = c.args in
    let g = reconstruct_call (lists_of a.field.now) a.total a.masses.now a.scratch.now in
    let e : reconstruct_verdict g ≡ (Ok tt) = sym c.verdict.ensures ∙ c.in_default.is in
    let f = ((reconstruct-accepts g).0 e).shape in
    (omega (arith, f.few, f.lengths.lows), omega (arith, f.few, f.lengths.highs))

pub cell_parts-parts-requires : goal.cell_parts-parts-requires
cell_parts-parts-requires c =
    let a = c.args in
    let g = reconstruct_call (lists_of a.field.now) a.total a.masses.now a.scratch.now in
    let e : reconstruct_verdict g ≡ (Ok tt) = sym c.verdict.ensures ∙ c.in_default.is in
    let f = (reconstruct-accepts g).0 e in
    record {
      by_index = (a.masses.now, f);
      outcome_value = c.outcome_of-outcome.ensures ∙ sym (outcome-found g f);
      cell_in_bounds = c.requires.1;
    }

pub returns : goal.returns
returns c =
    let a = c.args in
    let s = lists_of a.field.now in
    let g = reconstruct_call s a.total a.masses.now a.scratch.now in
    let e : reconstruct_verdict g ≡ (Ok tt) = sym c.verdict.ensures ∙ c.in_default.is in
    let t = c.number.ensures ∙ ap outcome_number (c.outcome_of-outcome.ensures ∙ sym (outcome-found g ((reconstruct-accepts g).0 e))) in
    let p = c.put_parts.ensures in
    (rw (line-parts s a.total a.cell e t c.cell_parts-parts.ensures) at p.0, p.1)
