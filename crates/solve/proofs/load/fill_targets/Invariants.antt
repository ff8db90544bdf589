-- `solve::load::fill_targets` meets its contract: the rows passed have their targets, and each target's range is known since it was read.
use Rattle.solve_spec.specs.Gather.{Targets}
use Rattle.solve.proofs.load.fill_targets.Given as goal

abbrev pub invariant-loop-u : goal.invariant-loop-u
invariant-loop-u l = Targets l.m l.xs l.u l.initial.s l.s
