-- `bounds::bounds` meets its contract: a refused call leaves the lists as they are, an accepted one the conversion.
use mathlib.Core.Path.{refl, sym, ◌∙◌}
use Rattle.std.proofs.lemmas.Result.{err_from_is_err_and}
use Rattle.numbers.proofs.CheckLaws.{accepted-answered, refused-answered, after-pass, after-fail}
use Rattle.bounds_spec.specs.Bounds.{bounds_verdict}
use Rattle.bounds_spec.proofs.BoundsLaws.{bounds-accepts}
use Rattle.bounds.proofs.bounds.Goals as goal

pub returns-in_err-verdict : goal.returns-in_err-verdict
unfolding bounds_verdict
returns-in_err-verdict c =
    let e = sym c.verdict.ensures ∙ c.in_err-verdict.was in
    let p = err_from_is_err_and c.from_residual.result c.from_residual.ensures.1 in
    rw (p.1, p.2) (record { answers = refused-answered tt e; writes = after-fail _ _ e })

pub convert-requires : goal.convert-requires
unfolding bounds_verdict
convert-requires c = (bounds-accepts _).0 (sym c.verdict.ensures ∙ c.in_ok-verdict.was)

pub returns : goal.returns
unfolding bounds_verdict
returns c =
    let e = sym c.verdict.ensures ∙ c.in_ok-verdict.was in
    record { answers = accepted-answered e refl; writes = after-pass _ e c.convert.ensures }
