-- `walks::group::share_walk` meets its contract: `ShareState` holds from turn to turn (`share-start`, `share-turn`), and at the chain's
-- end it is what is ensured (`share-end`). The chain rises, so the walk ends; d and the sums are below 2 ^ 31, so all that is computed fits.
use mathlib.Core.Path.{refl, sym, subst}
use Prim.Native.Nat.{◌+◌, ◌*◌, ◌-◌, ◌≤◌, ◌<◌, ◌^◌}
use native.Mathlib.Omega.{arith}
use Rattle.caas_spec.specs.Split.{moved}
use Rattle.scratch_spec.specs.Columns.{MASS, WEIGHT, FIRST, NEXT}
use Rattle.scratch_spec.specs.Walks.{ShareState}
use Rattle.scratch_spec.proofs.WalkLaws.{own_row, share-start, share-row, share-rises, size_small, size_fits, prior-below, given-small, left-small, share-turn, share-end, moved-small}
use Rattle.walks.proofs.group.share_walk.Goals as goal
use Rattle.walks.proofs.group.share_walk.Goals.{After-get_above-next, After-min-share}

-- the columns are read: the sizes with that at u are within the whole, and their product with d fits
size-within : (c : After-get_above-next) → c.loop-u.before + c.choose-size.result ≤ c.args.all
size-within c = size_small c.requires c.loop-u.invariant c.loop-u-test.true c.room_at-cap.ensures.0 c.get_above.ensures.0 c.choose-size.ensures

product-within : (c : After-get_above-next) → c.args.d * (c.loop-u.before + c.choose-size.result) < 2 ^ 62
product-within c = size_fits c.requires c.loop-u.invariant c.loop-u-test.true c.room_at-cap.ensures.0 c.get_above.ensures.0 c.choose-size.ensures

-- the share is known: it is at most the room, and both sums are small with it
share-within : (c : After-min-share) → c.min-share.result ≤ c.room_at-cap.result
share-within c = omega (arith, c.min-share.ensures)

given-within : (c : After-min-share) → c.loop-u.given + c.min-share.result ≤ c.args.d
given-within c =
    given-small c.requires c.loop-u.invariant c.loop-u-test.true
    c.room_at-cap.ensures.0
    c.get_above.ensures.0
    c.choose-size.ensures
    c.quotient-upto.ensures
    c.min-share.ensures

left-within : (c : After-min-share) → c.loop-u.left + (c.room_at-cap.result - c.min-share.result) < 2 ^ 31
left-within c =
    left-small c.requires c.loop-u.invariant c.loop-u-test.true
    c.room_at-cap.ensures.0
    c.get_above.ensures.0
    c.choose-size.ensures
    c.quotient-upto.ensures
    c.min-share.ensures

pub get_above-u-requires : goal.get_above-u-requires
get_above-u-requires c = own_row c.requires.rising FIRST (omega arith)

pub loop-u-init : goal.loop-u-init
loop-u-init c =
    let a = c.args in
    subst (λ u. ShareState a.by_room a.down a.m a.v a.d a.s.now u a.s.now 0 0 0 0)
    (sym c.get_above-u.ensures.0)
    (share-start c.requires)

pub room_at-cap-requires : goal.room_at-cap-requires
room_at-cap-requires c = share-row c.requires c.loop-u.invariant c.loop-u-test.true MASS (omega arith)

pub get_above-requires : goal.get_above-requires
get_above-requires c = share-row c.requires c.loop-u.invariant c.loop-u-test.true WEIGHT (omega arith)

pub get_above-x-requires : goal.get_above-x-requires
get_above-x-requires c = share-row c.requires c.loop-u.invariant c.loop-u-test.true MASS (omega arith)

pub get_above-next-requires : goal.get_above-next-requires
get_above-next-requires c = share-row c.requires c.loop-u.invariant c.loop-u-test.true NEXT (omega arith)

pub overflow_add-before : goal.overflow_add-before
overflow_add-before c = record { fits = omega (arith, c.requires.bounded, size-within c) }

pub overflow_mul-d : goal.overflow_mul-d
overflow_mul-d c = record { fits = omega (arith, product-within c) }

pub quotient-upto-requires : goal.quotient-upto-requires
quotient-upto-requires c = (product-within c, c.requires.bounded)

pub overflow_sub-upto : goal.overflow_sub-upto
overflow_sub-upto c =
    prior-below c.requires c.loop-u.invariant c.loop-u-test.true
    c.room_at-cap.ensures.0
    c.get_above.ensures.0
    c.choose-size.ensures
    c.quotient-upto.ensures

pub moved_by-requires : goal.moved_by-requires
moved_by-requires c = (
  c.get_above-x.ensures.1,
  omega (arith, c.min-share.ensures, c.room_at-cap.ensures.1),
)

pub put-requires : goal.put-requires
put-requires c =
    let x = c.get_above-x in
    let room = c.room_at-cap in (
      share-row c.requires c.loop-u.invariant c.loop-u-test.true MASS (omega arith),
      moved-small c.args.down x.result c.min-share.result room.result c.moved_by.ensures (omega (arith, c.min-share.ensures))
          (subst (λ z. moved c.args.down z room.result < 2 ^ 63) (sym x.ensures.0) room.ensures.2)
          x.ensures.1,
      λ n. absurd (n refl),
    )

pub overflow_add-before-in-loop-u : goal.overflow_add-before-in-loop-u
overflow_add-before-in-loop-u c = record { fits = omega (arith, c.requires.bounded, size-within c.before.before.before.before.before.before) }

pub overflow_add-given : goal.overflow_add-given
overflow_add-given c = record { fits = omega (arith, c.requires.small, given-within c.before.before.before.before) }

pub overflow_sub-left : goal.overflow_sub-left
overflow_sub-left c = omega (arith, c.min-share.ensures)

pub overflow_add-left : goal.overflow_add-left
overflow_add-left c = record { fits = omega (arith, left-within c.before.before.before.before) }

pub loop-u-smaller : goal.loop-u-smaller
loop-u-smaller c = omega (arith, c.loop-u-test.true, share-rises c.requires c.loop-u.invariant c.loop-u-test.true c.get_above-next.ensures.0)

pub loop-u-preserved : goal.loop-u-preserved
loop-u-preserved c =
    share-turn c.requires c.loop-u.invariant c.loop-u-test.true
    c.room_at-cap.ensures.0
    c.get_above.ensures.0
    c.choose-size.ensures
    c.quotient-upto.ensures
    c.min-share.ensures
    c.get_above-x.ensures.0
    c.get_above-next.ensures.0
    c.moved_by.ensures
    c.put.ensures

pub shape_of-s : goal.shape_of-s
shape_of-s c = c.loop-u.invariant.laid.kept.long

pub returns : goal.returns
returns c = share-end c.loop-u.invariant c.loop-u-test.false
