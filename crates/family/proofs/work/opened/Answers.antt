-- `family::work::opened` meets its contract: a verdict that passes fits, so the sum is the total.
use Rattle.std.proofs.Common.{arith, sym}
use Rattle.family_spec.proofs.RuleLaws.{opening-accepts}
use Rattle.family.proofs.work.opened.Goals as goal

pub sum_of-total-requires : goal.sum_of-total-requires
sum_of-total-requires c = omega (arith, ((opening-accepts _ _ _ _ _ _).0 (sym c.in_ok-opening_verdict.ensures)).opening.few)

pub overflow_cast-total : goal.overflow_cast-total
overflow_cast-total c = omega (arith, ((opening-accepts _ _ _ _ _ _).0 (sym c.in_ok-opening_verdict.ensures)).opening.small, c.sum_of-total.ensures.0)
