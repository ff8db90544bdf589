-- `walks::group::clip_walk` meets its contract: `ClipState` holds from turn to turn (`clip-start`, `clip-turn`), and at the chain's end
-- it is what is ensured (`clip-end`). The chain rises, so the walk ends; both sums are part of sums below 2 ^ 31.
use Prim.Native.Nat.{◌-◌}
use Rattle.scratch_spec.specs.Walks.{ClipState}
use Rattle.walks.proofs.group.clip_walk.Given as goal

abbrev pub invariant-loop-u : goal.invariant-loop-u
invariant-loop-u l = ClipState l.m l.v l.initial.s l.u l.s l.sum l.all

abbrev pub decreases-loop-u : goal.decreases-loop-u
decreases-loop-u l = l.m - l.u
