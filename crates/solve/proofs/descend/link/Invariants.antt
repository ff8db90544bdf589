-- `solve::descend::link` meets its contract: `LinkState` holds from turn to turn (`link_start`, `link-turn`), and at 0 all nodes are
-- linked. A node's parent is below m, so every row is in the scratch.
use Rattle.numbers.specs.Lists.{at}
use Rattle.solve_spec.specs.Descent.{LinkState}
use Rattle.solve.proofs.descend.link.Given as goal

abbrev pub invariant-loop-u : goal.invariant-loop-u
invariant-loop-u l = LinkState (at l.parents) l.m l.initial.s l.u l.s
