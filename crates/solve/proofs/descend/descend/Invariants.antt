-- `solve::descend::descend` meets its contract: linking leaves what the masses go by (`planned-same`), and `DescendState` holds from turn to turn
-- (`down-start`, `down_turn`); at k all inner nodes from there on are split (`down_to`). What is
-- shared out stays below 2 ^ 42 (`shared-small`, `deficit-small`).
use Prim.Native.Nat.{◌≤◌}
use Rattle.numbers.specs.Lists.{at}
use Rattle.solve_spec.specs.Descent.{DescendState}
use Rattle.solve.proofs.descend.descend.Given as goal

abbrev pub invariant-loop-v : goal.invariant-loop-v
invariant-loop-v l = record { state : DescendState (at l.parents) l.m l.initial.s l.v l.s l.shared; from : l.k ≤ l.v }
