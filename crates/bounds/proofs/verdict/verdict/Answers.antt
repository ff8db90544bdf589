-- `bounds::verdict::verdict` meets its contract: 1, 3 and 18 in their order.
use mathlib.Core.Path.{sym, ◌∙◌, ap}
use native.Mathlib.Omega.{arith}
use lib.ListN.{length}
use Rattle.numbers.proofs.CheckLaws.{on, last, count-decides}
use Rattle.bounds_spec.specs.Bounds.{check_ratios}
use Rattle.bounds_spec.proofs.BoundsLaws.{lengths-passed}
use Rattle.bounds.proofs.verdict.verdict.Goals as goal

pub check_ratios-requires : goal.check_ratios-requires
check_ratios-requires c =
    let h = lengths-passed _ _ _ _ _ _ _ (sym c.check_lengths.ensures ∙ c.in_ok-check_lengths.was) in
    let k = (count-decides (length c.args.air.now)).passes.0 (sym c.check_count.ensures ∙ c.in_ok-check_count.was) in
    (omega (arith, h.0, k.1), h.1 ∙ sym h.0)

pub returns : goal.returns
returns c =
    let a = c.args in
    let passed = sym c.check_lengths.ensures ∙ c.in_ok-check_lengths.was in
    on (sym c.check_count.ensures ∙ c.in_ok-check_count.was)
    (on passed
    (last _ (c.check_ratios.ensures ∙ ap (λ n. check_ratios n a.low_ratios.now a.high_ratios.now) (lengths-passed _ _ _ _ _ _ _ passed).0)))
