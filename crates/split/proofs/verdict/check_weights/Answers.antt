-- `split::verdict::check_weights` meets its contract: where no weight is below 0, the sum of what they have above 0 is their sum.
use mathlib.Core.Bool.{◌&&◌}
use mathlib.Core.Path.{◌≡◌, ◌∙◌, ap}
use lib.Dec.{leb}
use Rattle.numbers.specs.Checks.{unless, max_total}
use Rattle.split.specs.Sums.{sum_over}
use Rattle.caas_spec.specs.Operation.{check_weights}
use Rattle.split.proofs.CheckLaws.{and_then, and_else, weights-fit}
use Rattle.split.proofs.verdict.check_weights.Goals as goal
use Rattle.split.proofs.verdict.check_weights.Goals.{then-all_nonnegative, else-all_nonnegative}

pub returns : goal.returns
unfolding check_weights
returns c =
    let weights = c.args.weights.now in
    let e : c.if-all_nonnegative.unless ≡ c.all_nonnegative.result && leb (sum_over weights) max_total =
    elim c.if-all_nonnegative.branch [
      | then-all_nonnegative w ↦ and_then w.if-all_nonnegative.true (w.unless-is ∙ w.sum_fits.ensures)
      | else-all_nonnegative w ↦ and_else _ w.if-all_nonnegative.false w.unless-is
    ] in
    c.unless.ensures ∙ ap (λ b. unless b 7 0) (e ∙ ap (λ b. b && leb (sum_over weights) max_total) c.all_nonnegative.ensures ∙ weights-fit weights)
