-- `turns::register` meets its contract: a registration that its check lets pass is of one of the 8.
use Rattle.std.proofs.Common.{arith, sym}
use Rattle.family_spec.proofs.RuleLaws.{opened-decides}
use Rattle.turns.proofs.register.Goals as goal

pub registered-requires : goal.registered-requires
registered-requires c = omega (arith, (opened-decides _ _).passes.0 (sym c.in-Ok.ensures))
