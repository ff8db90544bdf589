-- `family::verdict::opening_verdict` meets its contract: a list that Open's checks let pass is short and has a small sum.
use Rattle.std.proofs.Common.{arith, sym}
use Rattle.kept_spec.proofs.OpenLaws.{open-with-fits}
use Rattle.family.proofs.verdict.opening_verdict.Goals as goal

pub sum_of-requires : goal.sum_of-requires
sum_of-requires c = omega (arith, (open-with-fits _ _ _ (sym c.in_ok-open_verdict.ensures)).few)

pub check_cap-requires : goal.check_cap-requires
check_cap-requires c = omega (arith, (open-with-fits _ _ _ (sym c.in_ok-open_verdict.ensures)).small, c.sum_of.ensures.0)
