-- `split::verdict::check_reach` meets its contract: both sums fit, so what was added up is the sum.
use mathlib.Core.Bool.{◌&&◌}
use mathlib.Core.Path.{◌≡◌, ◌∙◌, ap, ap₂}
use lib.Signed.{le_z}
use mir.Syntax.{w64}
use mir.Val.{to_z, of_z}
use mir.ValLaws.{to_z-of_z}
use Rattle.numbers.specs.Checks.{unless}
use Rattle.caas_spec.specs.Operation.{sum_ℤ, check_split_reach}
use Rattle.split.proofs.CheckLaws.{and_then, and_else, read-sum}
use Rattle.split.proofs.verdict.check_reach.Goals as goal
use Rattle.split.proofs.verdict.check_reach.Goals.{then-low-total, else-low-total}

pub returns : goal.returns
unfolding check_split_reach
returns c = let s = c in
    let total = to_z-of_z w64 s.args.total s.ranges.total in
    let low = read-sum s.args.lows.now c.sum_above.result c.signed-low.result s.requires.summable.0 c.sum_above.ensures c.signed-low.ensures in
    let high = read-sum s.args.highs.now c.sum_above-2.result c.signed-high.result s.requires.summable.1 c.sum_above-2.ensures c.signed-high.ensures in
    let e : c.if-low-total.unless ≡ le_z (to_z w64 (of_z w64 c.signed-low.result)) (to_z w64 (of_z w64 s.args.total)) && le_z (to_z w64 (of_z w64 s.args.total)) (to_z w64 (of_z w64 c.signed-high.result)) =
    elim c.if-low-total.branch [
      | then-low-total w ↦ and_then w.if-low-total.true w.unless-is
      | else-low-total w ↦ and_else _ w.if-low-total.false w.unless-is
    ] in
    c.unless.ensures
    ∙ ap (λ b. unless b 8 0) (e ∙ ap₂ ◌&&◌ (ap₂ le_z low total) (ap₂ le_z total (high ∙ ap (λ k. sum_ℤ k s.args.highs.now) s.requires.highs_len)))
