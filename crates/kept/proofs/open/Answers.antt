-- `kept::open` meets its contract: nothing is put in, so the verdict is Open's; one that passes fits, so the sum is the total.
use mathlib.Core.Path.{sym, ap}
use native.Mathlib.Omega.{arith}
use Rattle.std.proofs.lemmas.Result.{err_from_is_err_and}
use Rattle.numbers.proofs.CheckLaws.{accepted-answered, refused-answered}
use Rattle.kept_spec.specs.Open.{open_verdict, open_verdict_with, open_balance}
use Rattle.kept_spec.proofs.OpenLaws.{open-with-fits}
use Rattle.kept.proofs.open.Goals as goal

pub returns-in_err-open_verdict : goal.returns-in_err-open_verdict
unfolding open_verdict open_verdict_with
returns-in_err-open_verdict c =
    let p = err_from_is_err_and c.from_residual.result c.from_residual.ensures.1 in
    rw (p.1, p.2) (record { answers = refused-answered (open_balance c.args.kept.now c.args.scale) (sym c.in_err-open_verdict.ensures) })

pub sum_of-requires : goal.sum_of-requires
sum_of-requires c = let f = open-with-fits c.args.kept.now c.args.scale _ (sym c.in_ok-open_verdict.ensures) in omega (arith, f.few)

pub overflow_cast-result : goal.overflow_cast-result
overflow_cast-result c =
    let f = open-with-fits c.args.kept.now c.args.scale _ (sym c.in_ok-open_verdict.ensures) in
    omega (arith, f.small, c.sum_of.ensures.0)

pub returns : goal.returns
unfolding open_verdict open_verdict_with
returns c = record { answers = accepted-answered (sym c.in_ok-open_verdict.ensures) (ap (λ n. record { total = n; scale = c.args.scale }) c.sum_of.ensures.0) }
