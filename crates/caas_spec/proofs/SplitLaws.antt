-- What holds of one split: the results add up to M, lie within the bounds, no division is nearer to the targets, and without weights
-- each share is less than one unit from the published proportion. Assumes nothing.
use mathlib.Core.Path.{◌≡◌, refl, sym, ◌∙◌, ap, ap₂}
use mathlib.Core.Bool.{Bool, true, false}
use Prim.Native.Nat.{ℕ, zero, suc, ◌+◌, ◌-◌, ◌*◌, ◌≤◌, ◌<◌, min, max}
use native.Mathlib.Omega.{arith}
use native.Mathlib.Nat.{add_assoc, zero-mul}
use native.Mathlib.Decide.{dec_le}
use lib.IntN.{ℤ, pos, neg_ℤ, nat_abs, ◌-ℤ◌, ◌*ℤ◌}
use Rattle.numbers.specs.Sums.{ℕ_adds, ℤ_adds}
use Rattle.numbers.specs.Signed.{over, under, min_ℤ, gap}
use Rattle.numbers.specs.Roundings.{signed as with_sign}
use Rattle.numbers.proofs.TestLaws.{Tested, holds, fails, tested, clash}
use Rattle.numbers.proofs.SignedLaws.{signed, one-part, neg-parts, minus-parts, abs-parts, parts-eq, lt_z-true, lt_z-false, over-min, over-max, minus-size, minus-up, minus-down, far-parts, over-whole, le_parts}
use Rattle.caas_spec.specs.Group.{Group, Each, Splits, Within, Divides, distance, sum_in}
use Rattle.caas_spec.specs.Split.{clip, clipped, deficit, surplus, room, capacity, first_of, second_of, moved, shares, result, after_first, portion, Proportional}
use Rattle.caas_spec.proofs.GroupLaws.{in-ext, in-le, in-add, in_pos, in-gap}
use Rattle.caas_spec.proofs.PortionLaws.{first-cap, both-add, both-cap, unweighted, portion-near, portion-none}

-- ---- clipping

-- the form over ℕ
pub clip-is : (low high : ℕ) (t : ℤ) → clip low high t ≡ max low (min (over t) high)
unfolding clip
clip-is low high t = over-max (pos low) (min_ℤ t (pos high)) ∙ ap (max low) (over-min t (pos high))

pub clip-within : (low high : ℕ) (t : ℤ) → low ≤ high → (low ≤ clip low high t) × (clip low high t ≤ high)
clip-within low high t h = omega (arith, clip-is low high t)

-- the way from b to a through a number that lies between them
between : (a x b : ℕ) → a ≤ x → x ≤ b → gap b a ≡ gap b x + gap x a
between a x b h k = omega arith

between-down : (a x b : ℕ) → b ≤ x → x ≤ a → gap b a ≡ gap b x + gap x a
between-down a x b h k = omega arith

-- from a number within the bounds to the target the way leads through the clipped value
through : (low high a b : ℕ) → low ≤ b → b ≤ high → gap b a ≡ gap b (max low (min a high)) + gap (max low (min a high)) a
through low high a b h k = go (dec_le a low) (dec_le a high)
  where
    go : Dec (a ≤ low) → Dec (a ≤ high) → gap b a ≡ gap b (max low (min a high)) + gap (max low (min a high)) a
    go (yes p) q = let e : max low (min a high) ≡ low = omega arith in rw e (between a low b p h)
    go (no p) (yes q) = let e : max low (min a high) ≡ a = omega arith in rw e (omega arith)
    go (no p) (no q) = let e : max low (min a high) ≡ high = omega arith in rw e (between-down a high b k (omega arith))

pub clip-through : (low high b : ℕ) (t : ℤ) → low ≤ b → b ≤ high → nat_abs (pos b -ℤ t) ≡ gap b (clip low high t) + nat_abs (pos (clip low high t) -ℤ t)
clip-through low high b t h k =
    rw (far-parts b t, far-parts (clip low high t) t, clip-is low high t) (ap (λ x. x + under t) (through low high (over t) b h k) ∙ add_assoc _ _ _)

-- ---- whole numbers within bounds, as natural ones

pub within-nat : (low high : ℕ) (z : ℤ) → Within low high z → (z ≡ pos (over z)) × ((low ≤ over z) × (over z ≤ high))
within-nat low high z h = (over-whole z (omega (arith, le_parts h.0)), (omega (arith, le_parts h.0), omega (arith, le_parts h.1)))

pub nat-within : (low high a : ℕ) → low ≤ a → a ≤ high → Within low high (pos a)
nat-within low high a h k = (omega signed, omega signed)

-- ---- moving by a share

pub moved-within : (down : Bool) (low high x s : ℕ) → low ≤ x → x ≤ high → s ≤ room down low high x → (low ≤ moved down x s) × (moved down x s ≤ high)
moved-within true low high x s h k r = omega arith
moved-within false low high x s h k r = omega arith

pub moved-gap : (down : Bool) (low high x s : ℕ) → s ≤ room down low high x → gap (moved down x s) x ≡ s
moved-gap true low high x s r = omega arith
moved-gap false low high x s r = omega arith

pub moved_back : (down : Bool) (low high x s : ℕ) → down ≡ true → s ≤ room down low high x → moved down x s + s ≡ x
moved_back true low high x s e r = omega arith
moved_back false low high x s e r = absurd (clash e refl)

pub moved-shift : (down : Bool) (low high x s : ℕ) → s ≤ room down low high x → pos (moved down x s) -ℤ pos x ≡ with_sign down s
moved-shift true low high x s r = parts-eq (omega (arith, minus-parts (pos (x - s)) (pos x), neg-parts (pos s)))
moved-shift false low high x s r = parts-eq (omega (arith, minus-parts (pos (x + s)) (pos x)))

-- by two shares in turn, no further than the room for both
pub moved-again : (down : Bool) (low high x s r : ℕ) → s + r ≤ room down low high x → pos (moved down x (s + r)) -ℤ pos (moved down x s) ≡ with_sign down r
moved-again true low high x s r h = parts-eq (omega (arith, minus-parts (pos (x - (s + r))) (pos (x - s)), neg-parts (pos r)))
moved-again false low high x s r h = parts-eq (omega (arith, minus-parts (pos (x + (s + r))) (pos (x + s))))

-- ---- numbers by sign and size

by_sign : (z : ℤ) → z ≡ with_sign (surplus z) (nat_abs z)
by_sign z = go (tested (surplus z))
  where
    go : Tested (surplus z) → z ≡ with_sign (surplus z) (nat_abs z)
    go (holds e) = rw e (parts-eq (omega (signed, lt_z-true z (pos 0) e, one-part z, abs-parts z, neg-parts (pos (nat_abs z)))))
    go (fails e) = rw e (parts-eq (omega (signed, lt_z-false z (pos 0) e, one-part z, abs-parts z)))

sign-times : (s : Bool) (a b : ℕ) → with_sign s a *ℤ pos b ≡ with_sign s (a * b)
sign-times false a b = refl
sign-times true zero b = rw (zero-mul b)
sign-times true (suc a) b = refl

-- two of one sign are as far apart as their sizes
sign-far : (s : Bool) (a b : ℕ) → nat_abs (with_sign s a -ℤ with_sign s b) ≡ gap a b
sign-far false a b = minus-size a b
sign-far true a b =
    let x = neg_ℤ (pos a) in
    let y = neg_ℤ (pos b) in
    omega (arith, minus-parts x y, neg-parts (pos a), neg-parts (pos b), one-part (x -ℤ y), abs-parts (x -ℤ y))

sign-gap : (s : Bool) (a b x y : ℕ) → nat_abs (with_sign s a *ℤ pos b -ℤ with_sign s x *ℤ pos y) ≡ gap (a * b) (x * y)
sign-gap s a b x y = ap₂ (λ p q. nat_abs (p -ℤ q)) (sign-times s a b) (sign-times s x y) ∙ sign-far s (a * b) (x * y)

module _ (G : Group) (M : ℕ) (can : Splits G M) where
  abbrev pub S : ℕ
  S = sum_in ℕ_adds G (clipped G)

  abbrev pub D : ℕ
  D = nat_abs (deficit G M)

  abbrev pub cap : ℕ → ℕ
  cap = capacity G (deficit G M)

  pub clipped-within : Each G (λ u. (G.low u ≤ clipped G u) × (clipped G u ≤ G.high u))
  unfolding clipped
  clipped-within u l e = clip-within (G.low u) (G.high u) (G.target u) (can.order u l e)

  size : D ≡ gap M S
  unfolding deficit
  size = minus-size M S

  -- d by its sign: what is missing is moved up, what is too much is moved down
  pub data Sign : Type 0 where
    missing : surplus (deficit G M) ≡ false → S ≤ M → Sign
    excess : surplus (deficit G M) ≡ true → M < S → Sign

  pub sign : Sign
  unfolding deficit
  sign = go (dec_le S M)
    where
      go : Dec (S ≤ M) → Sign
      go (yes h) = missing (minus-up M S h) h
      go (no h) = excess (minus-down M S (omega arith)) (omega arith)

  -- there is room for all of d
  pub enough : D ≤ sum_in ℕ_adds G cap
  unfolding capacity
  enough = go sign
    where
      go : Sign → D ≤ sum_in ℕ_adds G (λ u. room (surplus (deficit G M)) (G.low u) (G.high u) (clipped G u))
      go (missing e h) =
          rw e (omega (arith, size, can.most, sym (in-add G (clipped G) (λ u. G.high u - clipped G u)) ∙ in-ext G ℕ_adds _ G.high (λ u l f. omega (arith, clipped-within u l f))))
      go (excess e h) =
          rw e (omega (arith, size, can.least, sym (in-add G G.low (λ u. clipped G u - G.low u)) ∙ in-ext G ℕ_adds _ (clipped G) (λ u l f. omega (arith, clipped-within u l f))))

  -- an item's shares are at most its capacity; the results lie within the bounds
  pub shares-cap : Each G (λ u. shares G M u ≤ cap u)
  unfolding shares
  shares-cap u l e = both-cap G cap D enough u e

  pub shares-add : sum_in ℕ_adds G (shares G M) ≡ D
  unfolding shares
  shares-add = both-add G cap D enough

  pub result-within : Each G (λ u. (G.low u ≤ result G M u) × (result G M u ≤ G.high u))
  unfolding result capacity
  result-within u l e = moved-within (surplus (deficit G M)) (G.low u) (G.high u) (clipped G u) (shares G M u) (clipped-within u l e).0 (clipped-within u l e).1 (shares-cap u l e)

  -- so do the values after the first pass
  pub after-within : Each G (λ u. (G.low u ≤ after_first G M u) × (after_first G M u ≤ G.high u))
  unfolding after_first capacity
  after-within u l e =
      moved-within (surplus (deficit G M)) (G.low u) (G.high u) (clipped G u) _ (clipped-within u l e).0 (clipped-within u l e).1 (first-cap G cap D u)

  -- how far a result is from its clipped value
  pub result-gap : Each G (λ u. gap (result G M u) (clipped G u) ≡ shares G M u)
  unfolding result capacity
  result-gap u l e = moved-gap (surplus (deficit G M)) (G.low u) (G.high u) (clipped G u) (shares G M u) (shares-cap u l e)

  -- what they differ from them by in sum is the size of d
  pub moved-adds : sum_in ℕ_adds G (λ u. nat_abs (pos (result G M u) -ℤ pos (clipped G u))) ≡ D
  moved-adds = in-ext G ℕ_adds _ (shares G M) (λ u l e. minus-size (result G M u) (clipped G u) ∙ result-gap u l e) ∙ shares-add

  -- the results add up to M
  pub result-adds : sum_in ℕ_adds G (result G M) ≡ M
  result-adds = go sign
    where
      up : surplus (deficit G M) ≡ false → (u : ℕ) → result G M u ≡ clipped G u + shares G M u
      up e u = unfold result in (rw e)

      down : surplus (deficit G M) ≡ true → Each G (λ u. result G M u + shares G M u ≡ clipped G u)
      down e u l f =
          unfold result capacity in (moved_back (surplus (deficit G M)) (G.low u) (G.high u) (clipped G u) (shares G M u) e (shares-cap u l f))

      go : Sign → sum_in ℕ_adds G (result G M) ≡ M
      go (missing e h) = in-ext G ℕ_adds _ _ (λ u l f. up e u) ∙ in-add G (clipped G) (shares G M) ∙ omega (arith, shares-add, size)
      go (excess e h) = omega (arith, shares-add, size, sym (in-add G (result G M) (shares G M)) ∙ in-ext G ℕ_adds _ (clipped G) (down e))

  pub result-divides : Divides G M (λ u. pos (result G M u))
  result-divides =
      record {
        within = λ u l e. nat-within (G.low u) (G.high u) (result G M u) (result-within u l e).0 (result-within u l e).1;
        sum = in_pos G (result G M) ∙ ap pos result-adds;
      }

  -- ---- nearness

  -- the distance of numbers within the bounds: to the clipped values, and from there
  cost : ℕ
  cost = sum_in ℕ_adds G (λ u. nat_abs (pos (clipped G u) -ℤ G.target u))

  distance-through : (x : ℕ → ℕ) → Each G (λ u. (G.low u ≤ x u) × (x u ≤ G.high u)) → distance G (λ u. pos (x u)) ≡ sum_in ℕ_adds G (λ u. gap (x u) (clipped G u)) + cost
  unfolding distance cost
  distance-through x h =
      in-ext G ℕ_adds _ (λ u. gap (x u) (clipped G u) + nat_abs (pos (clipped G u) -ℤ G.target u)) one
      ∙ in-add G (λ u. gap (x u) (clipped G u)) (λ u. nat_abs (pos (clipped G u) -ℤ G.target u))
    where
      one : Each G (λ u. nat_abs (pos (x u) -ℤ G.target u) ≡ gap (x u) (clipped G u) + nat_abs (pos (clipped G u) -ℤ G.target u))
      one u l e = unfold clipped in (clip-through (G.low u) (G.high u) (x u) (G.target u) (h u l e).0 (h u l e).1)

  result-distance : distance G (λ u. pos (result G M u)) ≡ D + cost
  result-distance = distance-through (result G M) result-within ∙ ap (λ z. z + cost) (in-ext G ℕ_adds _ _ result-gap ∙ shares-add)

  pub distance-ext : (y z : ℕ → ℤ) → Each G (λ u. y u ≡ z u) → distance G y ≡ distance G z
  unfolding distance
  distance-ext y z h = in-ext G ℕ_adds _ _ (λ u l e. ap (λ x. nat_abs (x -ℤ G.target u)) (h u l e))

  pub result-nearest : (y : ℕ → ℤ) → Divides G M y → distance G (λ u. pos (result G M u)) ≤ distance G y
  result-nearest y d =
      omega (arith, result-distance, size, distance-ext y (λ u. pos (over (y u))) (λ u l e. (nat u l e).0), distance-through (λ u. over (y u)) (λ u l e. (nat u l e).1), in-gap G (λ u. over (y u)) (clipped G), same)
    where
      nat : Each G (λ u. (y u ≡ pos (over (y u))) × ((G.low u ≤ over (y u)) × (over (y u) ≤ G.high u)))
      nat u l e = within-nat (G.low u) (G.high u) (y u) (d.within u l e)

      same : sum_in ℕ_adds G (λ u. over (y u)) ≡ M
      same = ap over (sym (in_pos G (λ u. over (y u))) ∙ in-ext G ℤ_adds _ _ (λ u l e. sym (nat u l e).0) ∙ d.sum)

  -- ---- the published proportion

  -- a result differs from its clipped value by its shares, with the sign of d
  result-shift : Each G (λ u. pos (result G M u) -ℤ pos (clipped G u) ≡ with_sign (surplus (deficit G M)) (shares G M u))
  unfolding result capacity
  result-shift u l e = moved-shift (surplus (deficit G M)) (G.low u) (G.high u) (clipped G u) (shares G M u) (shares-cap u l e)

  -- and step by step: what the first pass moves, and what the second does
  pub first-shift : Each G (λ u. pos (after_first G M u) -ℤ pos (clipped G u) ≡ with_sign (surplus (deficit G M)) (first_of G M u))
  unfolding after_first capacity
  first-shift u l e = moved-shift (surplus (deficit G M)) (G.low u) (G.high u) (clipped G u) (first_of G M u) (first-cap G cap D u)

  pub second-shift : Each G (λ u. pos (result G M u) -ℤ pos (after_first G M u) ≡ with_sign (surplus (deficit G M)) (second_of G M u))
  unfolding result after_first shares capacity
  second-shift u l e = moved-again (surplus (deficit G M)) (G.low u) (G.high u) (clipped G u) (first_of G M u) (second_of G M u) (shares-cap u l e)

  pub result-proportional : sum_in ℕ_adds G G.weight ≡ 0 → Each G (λ u. Proportional G M (pos (result G M u)) u)
  result-proportional light u l e =
      record {
        near = λ h. rw (apart, is) (omega (arith, portion-near G cap D h u e));
        none = λ h. ap pos (omega (arith, result-gap u l e, is, portion-none G cap D u h));
      }
    where
      is : shares G M u ≡ portion G cap D u
      is = unfold shares in (unweighted G cap D light u)

      apart : nat_abs ((pos (result G M u) -ℤ pos (clipped G u)) *ℤ pos (sum_in ℕ_adds G cap) -ℤ deficit G M *ℤ pos (cap u)) ≡ gap (shares G M u * sum_in ℕ_adds G cap) (D * cap u)
      apart =
          ap₂ (λ y d. nat_abs (y *ℤ pos (sum_in ℕ_adds G cap) -ℤ d *ℤ pos (cap u))) (result-shift u l e) (by_sign (deficit G M))
          ∙ sign-gap (surplus (deficit G M)) (shares G M u) (sum_in ℕ_adds G cap) D (cap u)

  -- ---- sizes, for the code: neither the clipped values nor the capacities add up to more than the highs

  pub clipped-most : S ≤ sum_in ℕ_adds G G.high
  clipped-most = in-le G (clipped G) G.high (λ u l e. (clipped-within u l e).1)

  pub room_most : (down : Bool) → sum_in ℕ_adds G (λ u. room down (G.low u) (G.high u) (clipped G u)) ≤ sum_in ℕ_adds G G.high
  room_most down = in-le G _ G.high (one down)
    where
      one : (down : Bool) → Each G (λ u. room down (G.low u) (G.high u) (clipped G u) ≤ G.high u)
      one true u l e = omega (arith, clipped-within u l e)
      one false u l e = omega arith

  -- so is the size of d
  pub deficit-most : D ≤ sum_in ℕ_adds G G.high
  unfolding capacity
  deficit-most = omega (arith, enough, room_most (surplus (deficit G M)))
