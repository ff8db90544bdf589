-- `reconstruct::repair::repaired` meets its contract: the outcome is the call's, so what is solved is the field by the bounds in force, by which a call
-- that fits can be solved (`forced-solvable`) and gets the masses of the whole tree (`repaired`).
use mathlib.Core.Path.{sym, ◌∙◌}
use native.Mathlib.Omega.{arith}
use Rattle.qlt_spec.specs.Field.{lists_of}
use Rattle.qlt_spec.specs.Operation.{reconstruct_call}
use Rattle.reconstruct.proofs.RebuildLaws.{forced-solvable, forced-long, outcome-found, repaired}
use Rattle.reconstruct.proofs.repair.repaired.Goals as goal

pub outcome_of-outcome-requires : goal.outcome_of-outcome-requires
outcome_of-outcome-requires c = let s = c.requires.shape in (omega (arith, s.few, s.lengths.lows), omega (arith, s.few, s.lengths.highs))

pub solve-moved-requires : goal.solve-moved-requires
solve-moved-requires c =
    let a = c.args in
    let k = reconstruct_call (lists_of a.field.now) a.total a.masses.now a.scratch.now in
    let o = c.outcome_of-outcome.result in
    let e = outcome-found k c.requires ∙ sym c.outcome_of-outcome.ensures in
    record { solvable = forced-solvable k c.requires o e c.in_force.ensures; masses_len = forced-long k c.requires o e c.in_force.ensures }

pub returns : goal.returns
returns c =
    let a = c.args in
    let k = reconstruct_call (lists_of a.field.now) a.total a.masses.now a.scratch.now in
    rw c.number.ensures
    (repaired k c.requires c.outcome_of-outcome.result (outcome-found k c.requires ∙ sym c.outcome_of-outcome.ensures) c.in_force.ensures c.solve-moved.ensures)
