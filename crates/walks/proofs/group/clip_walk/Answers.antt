-- `walks::group::clip_walk` meets its contract: `ClipState` holds from turn to turn (`clip-start`, `clip-turn`), and at the chain's end
-- it is what is ensured (`clip-end`). The chain rises, so the walk ends; both sums are part of sums below 2 ^ 31.
use mathlib.Core.Path.{refl, sym, subst}
use native.Mathlib.Omega.{arith}
use Rattle.scratch_spec.specs.Columns.{MASS, WEIGHT, FIRST, NEXT}
use Rattle.scratch_spec.specs.Walks.{ClipState}
use Rattle.scratch_spec.proofs.WalkLaws.{own_row, clip-start, clip-row, clip-rises, clip-sum, clip-all, clip-turn, clip-end}
use Rattle.walks.proofs.group.clip_walk.Goals as goal

pub get_above-u-requires : goal.get_above-u-requires
get_above-u-requires c = own_row c.requires.rising FIRST (omega arith)

pub loop-u-init : goal.loop-u-init
loop-u-init c =
    let a = c.args in
    subst (λ u. ClipState a.m a.v a.s.now u a.s.now 0 0) (sym c.get_above-u.ensures.0) (clip-start c.requires)

pub clip_at-x-requires : goal.clip_at-x-requires
clip_at-x-requires c = clip-row c.requires c.loop-u.invariant c.loop-u-test.true MASS (omega arith)

pub get_above-w-requires : goal.get_above-w-requires
get_above-w-requires c = clip-row c.requires c.loop-u.invariant c.loop-u-test.true WEIGHT (omega arith)

pub get_above-next-requires : goal.get_above-next-requires
get_above-next-requires c = clip-row c.requires c.loop-u.invariant c.loop-u-test.true NEXT (omega arith)

pub put-requires : goal.put-requires
put-requires c = (
  clip-row c.requires c.loop-u.invariant c.loop-u-test.true MASS (omega arith),
  c.clip_at-x.ensures.1,
  λ n. absurd (n refl),
)

pub overflow_add-sum : goal.overflow_add-sum
overflow_add-sum c = record { fits = omega (arith, clip-sum c.requires c.loop-u.invariant c.loop-u-test.true c.clip_at-x.ensures.0) }

pub overflow_add-all : goal.overflow_add-all
overflow_add-all c = record { fits = omega (arith, clip-all c.requires c.loop-u.invariant c.loop-u-test.true c.get_above-w.ensures.0) }

pub loop-u-smaller : goal.loop-u-smaller
loop-u-smaller c = omega (arith, c.loop-u-test.true, clip-rises c.requires c.loop-u.invariant c.loop-u-test.true c.get_above-next.ensures.0)

pub loop-u-preserved : goal.loop-u-preserved
loop-u-preserved c =
    clip-turn c.requires c.loop-u.invariant c.loop-u-test.true c.clip_at-x.ensures.0 c.get_above-w.ensures.0 c.get_above-next.ensures.0 c.put.ensures

pub shape_of-s : goal.shape_of-s
shape_of-s c = c.loop-u.invariant.laid.kept.long

pub returns : goal.returns
returns c = clip-end c.loop-u.invariant c.loop-u-test.false
