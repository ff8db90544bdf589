-- `split::verdict::value_checks` meets its contract: each check counts on those before it.
use mathlib.Core.Path.{sym}
use Rattle.split.proofs.CheckLaws.{highs-nonnegative, highs-summable, lows-summable}
use Rattle.split.proofs.verdict.value_checks.Goals as goal

pub check_highs-requires : goal.check_highs-requires
check_highs-requires c = highs-nonnegative c.args.lows.now c.args.highs.now c.requires.1 (sym c.in_ok-check_order.ensures)

pub check_reach-requires : goal.check_reach-requires
check_reach-requires c =
    let order = sym c.in_ok-check_order.ensures in
    let fit = highs-summable c.args.lows.now c.args.highs.now c.requires.1 order (sym c.in_ok-check_highs.ensures) in
    record { summable = (lows-summable c.args.lows.now c.args.highs.now c.requires.1 order fit, fit); highs_len = c.requires.1 }
