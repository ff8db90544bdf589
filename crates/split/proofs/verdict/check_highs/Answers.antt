-- `split::verdict::check_highs` meets its contract.
use mathlib.Core.Path.{◌∙◌, ap}
use Rattle.numbers.specs.Checks.{unless}
use Rattle.caas_spec.specs.Operation.{check_highs}
use Rattle.split.proofs.CheckLaws.{fits-is}
use Rattle.split.proofs.verdict.check_highs.Goals as goal

pub returns : goal.returns
unfolding check_highs
returns c = let s = c in
    c.unless.ensures ∙ ap (λ b. unless b 6 0) (c.sum_fits.ensures ∙ fits-is s.args.highs.now s.requires)
