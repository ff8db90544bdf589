-- `split::verdict::sum_fits` meets its contract: a sum that stops at 2 ^ 31 fits exactly if the sum does.
use mathlib.Core.Path.{◌∙◌, ap}
use lib.Dec.{leb}
use Rattle.numbers.specs.Checks.{max_total}
use Rattle.split.specs.Sums.{sum_over}
use Rattle.split.proofs.CheckLaws.{stopped}
use Rattle.split.proofs.verdict.sum_fits.Goals as goal

pub returns : goal.returns
returns c = ap (λ x. leb x max_total) c.sum_above.ensures ∙ stopped (sum_over c.args.xs.now)
