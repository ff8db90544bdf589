-- `split::split` meets its contract: a verdict that passes fits.
use mathlib.Core.Path.{sym, ◌∙◌, ap}
use native.Mathlib.Omega.{arith}
use lib.IntN.{ℤ}
use mir.Syntax.{w64}
use Rattle.std.proofs.lemmas.Result.{err_from_is_err_and}
use mir.ValLaws.{to_z-of_z}
use Rattle.caas_spec.specs.Operation.{SplitCall, split_call, split_verdict, split_masses, split_deficit}
use Rattle.caas_spec.proofs.OperationLaws.{split-accepts, split-deficit-read, contract-done, contract-refused}
use Rattle.split.proofs.split.Goals as goal

pub split_items-requires : goal.split_items-requires
split_items-requires c =
    let a = c.args in
    let f = (split-accepts _).0 (sym c.in_ok-verdict.ensures) in
    record { split_fits = f; width_in_bounds = omega (arith, f.few) }

pub returns-in_err-verdict : goal.returns-in_err-verdict
returns-in_err-verdict c =
    let a = c.args in
    let e = to_z-of_z w64 a.total c.ranges.total in
    let p = err_from_is_err_and c.from_residual.result c.from_residual.ensures.1 in
    rw (p.1, p.2) (contract-refused (split_call a.targets.now a.lows.now a.highs.now a.weights.now a.total a.masses.now) (ap (λ (z : ℤ). split_verdict (split_call a.targets.now a.lows.now a.highs.now a.weights.now z a.masses.now)) (sym e) ∙ sym c.in_err-verdict.ensures))

pub returns : goal.returns
returns c =
    let a = c.args in
    let call : ℤ → SplitCall = λ z. split_call a.targets.now a.lows.now a.highs.now a.weights.now z a.masses.now in
    let same = to_z-of_z w64 a.total c.ranges.total in
    let passed = ap (λ (z : ℤ). split_verdict (call z)) (sym same) ∙ sym c.in_ok-verdict.ensures in
    contract-done (call a.total) passed
    (split-deficit-read (call a.total) ((split-accepts (call a.total)).0 passed) (c.split_items.ensures.value ∙ ap (λ (z : ℤ). split_deficit (call z)) same))
    (c.split_items.ensures.masses_after ∙ ap (λ (z : ℤ). split_masses (call z)) same)
