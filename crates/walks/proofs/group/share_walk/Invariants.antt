-- `walks::group::share_walk` meets its contract: `ShareState` holds from turn to turn (`share-start`, `share-turn`), and at the chain's
-- end it is what is ensured (`share-end`). The chain rises, so the walk ends; d and the sums are below 2 ^ 31, so all that is computed fits.
use Prim.Native.Nat.{◌-◌}
use Rattle.scratch_spec.specs.Walks.{ShareState}
use Rattle.walks.proofs.group.share_walk.Given as goal

abbrev pub invariant-loop-u : goal.invariant-loop-u
invariant-loop-u l =
    ShareState l.by_room l.down l.m l.v l.d l.initial.s l.u l.s l.before l.prior l.given l.left

abbrev pub decreases-loop-u : goal.decreases-loop-u
decreases-loop-u l = l.m - l.u
