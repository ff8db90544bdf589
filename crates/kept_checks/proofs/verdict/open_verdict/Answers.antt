-- `kept_checks::verdict::open_verdict` meets its contract: 1 leaves few enough masses to be added up.
use mathlib.Core.Path.{sym}
use native.Mathlib.Omega.{arith}
use lib.ListN.{length}
use Rattle.numbers.proofs.CheckLaws.{count-decides}
use Rattle.kept_checks.proofs.verdict.open_verdict.Goals as goal

pub sum_of-requires : goal.sum_of-requires
sum_of-requires c = let n = (count-decides (length c.args.kept.now)).passes.0 (sym c.in_ok-check_count.ensures) in omega arith
