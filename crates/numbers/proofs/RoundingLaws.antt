-- The roundings are what they are called: the largest whole number not above a fraction, the smallest not below it, and the nearest, the
-- even one if two are as near. Assumes nothing.
use mathlib.Core.Path.{◌≡◌, refl, sym, ap, ◌∙◌}
use mathlib.Core.Bool.{Bool, true, false, not, cond}
use Prim.Native.Nat.{ℕ, zero, suc, ◌+◌, ◌*◌, ◌/◌, ◌%◌, ◌≤◌, ◌<◌, compare, Ordering}
use native.Mathlib.Nat.{div-add-mod', mod-lt, add-mul, one-mul, suc-mul, zero-mul, mul-le-mul_right, div-mul-le_self, le-div_iff_mul-le}
use native.Mathlib.Omega.{arith}
use native.Mathlib.Decide.{ℕ_discrete}
use lib.Dec.{T, eqb, eqb→eq}
use lib.IntN.{ℤ, pos, negsuc, neg_ℤ, nat_abs, neg_ℤ-neg_ℤ, ◌-ℤ◌, ◌*ℤ◌}
use lib.Signed.{◌≤ℤ◌}
use lib.Ieee as Ieee
use lib.Ieee.Nearest.{closest}
use Rattle.numbers.specs.Signed.{over, under, gap}
use Rattle.numbers.proofs.SignedLaws.{one-part, neg-parts, minus-parts, minus-size, le_parts, parts-le, abs-parts}
use Rattle.numbers.specs.Roundings.{ceiling, signed, round_down, round_up, round_nearest, Down, Up, scaled_distance, NearestEven}
use Rattle.numbers.proofs.TestLaws.{Cmp, cmp}

-- ---- b times a whole number, and how far two are apart, by the parts

times-parts : (y : ℤ) (b : ℕ) → (over (y *ℤ pos b) ≡ over y * b) × (under (y *ℤ pos b) ≡ under y * b)
times-parts (pos m) b = (refl, sym (zero-mul b))
times-parts (negsuc m) b = ((neg-parts (pos (suc m * b))).0 ∙ sym (zero-mul b), (neg-parts (pos (suc m * b))).1)

neg-times-parts : (y : ℤ) (b : ℕ) → (over (neg_ℤ y *ℤ pos b) ≡ under y * b) × (under (neg_ℤ y *ℤ pos b) ≡ over y * b)
neg-times-parts y b = (
  (times-parts (neg_ℤ y) b).0 ∙ ap (λ x. x * b) (neg-parts y).0,
  (times-parts (neg_ℤ y) b).1 ∙ ap (λ x. x * b) (neg-parts y).1,
)

far : (u v : ℤ) → nat_abs (u -ℤ v) ≡ gap (over u + under v) (over v + under u)
far u v = omega (arith, minus-parts u v, one-part (u -ℤ v), abs-parts (u -ℤ v))

-- how far a whole number of either sign is from a / b, times b
module _ (a b y : ℕ) where
  pub distance-plus : scaled_distance (pos a) b (signed false y) ≡ gap (y * b) a
  distance-plus = minus-size (y * b) a

  pub distance-minus : scaled_distance (pos a) b (signed true y) ≡ y * b + a
  distance-minus = omega (arith, far (neg_ℤ (pos y) *ℤ pos b) (pos a), neg-times-parts (pos y) b, zero-mul b)

-- ---- mirrored at 0

module _ {n : ℤ} {b : ℕ} {z : ℤ} where
  up-of-down : Down n b z → Up (neg_ℤ n) b (neg_ℤ z)
  up-of-down d =
      record {
        above = parts-le (omega (arith, le_parts d.below, neg-times-parts z b, times-parts z b, neg-parts n));
        least =
            λ y h.
            let g = d.greatest (neg_ℤ y) (parts-le (omega (arith, le_parts h, neg-times-parts y b, times-parts y b, neg-parts n))) in
            parts-le (omega (arith, le_parts g, neg-parts y, neg-parts z));
      }

  down-of-up : Up n b z → Down (neg_ℤ n) b (neg_ℤ z)
  down-of-up d =
      record {
        below = parts-le (omega (arith, le_parts d.above, neg-times-parts z b, times-parts z b, neg-parts n));
        greatest =
            λ y h.
            let g = d.least (neg_ℤ y) (parts-le (omega (arith, le_parts h, neg-times-parts y b, times-parts y b, neg-parts n))) in
            parts-le (omega (arith, le_parts g, neg-parts y, neg-parts z));
      }

  nearest-mirrored : NearestEven n b z → NearestEven (neg_ℤ n) b (neg_ℤ z)
  nearest-mirrored d =
      record {
        nearest = λ y. omega (arith, d.nearest (neg_ℤ y), same (neg_ℤ y), same z, twice y);
        even =
            λ y ne e.
            ap (λ x. x % 2) (abs_neg z)
            ∙ d.even (neg_ℤ y) (λ q. ne (sym (neg_ℤ-neg_ℤ y) ∙ ap neg_ℤ q)) (omega (arith, e, same (neg_ℤ y), same z, twice y));
      }
    where
      same : (y : ℤ) → scaled_distance (neg_ℤ n) b (neg_ℤ y) ≡ scaled_distance n b y
      same y = omega (arith, far (y *ℤ pos b) n, far (neg_ℤ y *ℤ pos b) (neg_ℤ n), times-parts y b, neg-times-parts y b, neg-parts n)

      twice : (y : ℤ) → scaled_distance (neg_ℤ n) b (neg_ℤ (neg_ℤ y)) ≡ scaled_distance (neg_ℤ n) b y
      twice y = ap (scaled_distance (neg_ℤ n) b) (neg_ℤ-neg_ℤ y)

      abs_neg : (y : ℤ) → nat_abs (neg_ℤ y) ≡ nat_abs y
      abs_neg y = omega (arith, abs-parts y, abs-parts (neg_ℤ y), neg-parts y)

-- ---- of a / b, in natural numbers

module _ (a b : ℕ) (B : 0 < b) where
  ceiling-law : (a ≤ ceiling a b * b) × (ceiling a b * b < a + b)
  ceiling-law = go (eqb (a % b) 0) (eqb→eq (a % b) 0) (some (a % b)) (mod-lt a B) (div-add-mod' a b)
    where
      some : (r : ℕ) → T (not (eqb r 0)) → 0 < r
      some zero t = absurd t
      some (suc r) t = omega arith

      go : (t : Bool) → (T t → a % b ≡ 0) → (T (not t) → 0 < a % b) → a % b < b → a / b * b + a % b ≡ a → (a ≤ (a / b + cond t 0 1) * b) × ((a / b + cond t 0 1) * b < a + b)
      go true h k l e = omega (arith, h tt, add-mul (a / b) 0 b, zero-mul b)
      go false h k l e = omega (arith, k tt, add-mul (a / b) 1 b, one-mul b)

  -- within a half
  closest-law : gap (closest a b * b) a * 2 ≤ b
  closest-law = go (compare (a % b * 2) b) (cmp (a % b * 2) b) (mod-lt a B) (div-add-mod' a b)
    where
      odd : (r : ℕ) → r < 2 → r * b ≤ b
      odd zero h = omega (arith, zero-mul b)
      odd (suc zero) h = omega (arith, one-mul b)
      odd (suc (suc r)) h = absurd (omega arith)

      go : (o : Ordering) → Cmp o (a % b * 2) b → a % b < b → a / b * b + a % b ≡ a → gap (Ieee.nearest (a / b) o * b) a * 2 ≤ b
      go Ordering.lt h l e = omega arith
      go Ordering.eq h l e = omega (arith, odd (a / b % 2) (mod-lt (a / b) (omega arith)), add-mul (a / b) (a / b % 2) b)
      go Ordering.gt h l e = omega (arith, suc-mul (a / b) b)

  -- at a half, the even one
  closest-even : gap (closest a b * b) a * 2 ≡ b → closest a b % 2 ≡ 0
  closest-even = go (compare (a % b * 2) b) (cmp (a % b * 2) b) (mod-lt a B) (div-add-mod' a b)
    where
      even : (q : ℕ) → (q + q % 2) % 2 ≡ 0
      even q = omega arith

      go : (o : Ordering) → Cmp o (a % b * 2) b → a % b < b → a / b * b + a % b ≡ a → gap (Ieee.nearest (a / b) o * b) a * 2 ≡ b → Ieee.nearest (a / b) o % 2 ≡ 0
      go Ordering.lt h l e t = absurd (omega arith)
      go Ordering.eq h l e t = even (a / b)
      go Ordering.gt h l e t = absurd (omega (arith, suc-mul (a / b) b))

  -- two whole numbers are at least 1 apart
  apart : (m n : ℕ) → (m ≡ n → ⊥) → b ≤ gap (m * b) (n * b)
  apart m n ne = go (compare m n) (cmp m n)
    where
      go : (o : Ordering) → Cmp o m n → b ≤ gap (m * b) (n * b)
      go Ordering.lt h = omega (arith, mul-le-mul_right b h, suc-mul m b)
      go Ordering.eq h = absurd (ne h)
      go Ordering.gt h = omega (arith, mul-le-mul_right b h, suc-mul n b)

  -- how far a number below 0 is
  far-below : (m : ℕ) → scaled_distance (pos a) b (negsuc m) ≡ a + (m * b + b)
  far-below m = omega (arith, far (negsuc m *ℤ pos b) (pos a), times-parts (negsuc m) b, suc-mul m b, zero-mul b)

-- ---- of a / b, among all whole numbers

module _ (a b : ℕ) (B : 0 < b) where
  down-plus : Down (pos a) b (pos (a / b))
  down-plus =
      record {
        below = parts-le (omega (arith, div-mul-le_self a b));
        greatest =
            λ y h.
            let l : over y ≤ a / b = (le-div_iff_mul-le B).1 (omega (arith, le_parts h, times-parts y b)) in
            parts-le (omega arith);
      }

  up-plus : Up (pos a) b (pos (ceiling a b))
  up-plus = record { above = parts-le (omega (arith, ceiling-law a b B)); least = least }
    where
      least : (y : ℤ) → pos a ≤ℤ (y *ℤ pos b) → pos (ceiling a b) ≤ℤ y
      least (pos m) h = parts-le (go (compare m (ceiling a b)) (cmp m (ceiling a b)))
        where
          go : (o : Ordering) → Cmp o m (ceiling a b) → ceiling a b + 0 ≤ m + 0
          go Ordering.lt l = absurd (omega (arith, mul-le-mul_right b l, suc-mul m b, ceiling-law a b B, le_parts h))
          go Ordering.eq l = omega arith
          go Ordering.gt l = omega arith
      least (negsuc m) h = absurd (omega (arith, le_parts h, times-parts (negsuc m) b, suc-mul m b))

  nearest-plus : NearestEven (pos a) b (pos (closest a b))
  nearest-plus = record { nearest = near; even = tie }
    where
      near : (y : ℤ) → scaled_distance (pos a) b (pos (closest a b)) ≤ scaled_distance (pos a) b y
      near (negsuc m) = omega (arith, far-below a b B m, minus-size (closest a b * b) a, closest-law a b B)
      near (pos m) = go (ℕ_discrete m (closest a b))
        where
          go : Dec (m ≡ closest a b) → scaled_distance (pos a) b (pos (closest a b)) ≤ scaled_distance (pos a) b (pos m)
          go (yes e) = rw e (omega arith)
          go (no e) = omega (arith, minus-size (closest a b * b) a, minus-size (m * b) a, closest-law a b B, apart a b B m (closest a b) e)

      tie : (y : ℤ) → (y ≡ pos (closest a b) → ⊥) → scaled_distance (pos a) b y ≡ scaled_distance (pos a) b (pos (closest a b)) → closest a b % 2 ≡ 0
      tie (negsuc m) ne e = absurd (omega (arith, e, far-below a b B m, minus-size (closest a b * b) a, closest-law a b B))
      tie (pos m) ne e =
          closest-even a b B
          (omega (arith, e, minus-size (closest a b * b) a, minus-size (m * b) a, closest-law a b B, apart a b B m (closest a b) (λ q. ne (ap pos q))))

-- ---- with either sign

pub round-down : (s : Bool) (a b : ℕ) → 0 < b → Down (signed s a) b (round_down s a b)
round-down false a b B = down-plus a b B
round-down true a b B = down-of-up (up-plus a b B)

pub round-up : (s : Bool) (a b : ℕ) → 0 < b → Up (signed s a) b (round_up s a b)
round-up false a b B = up-plus a b B
round-up true a b B = up-of-down (down-plus a b B)

pub round-nearest : (s : Bool) (a b : ℕ) → 0 < b → NearestEven (signed s a) b (round_nearest s a b)
round-nearest false a b B = nearest-plus a b B
round-nearest true a b B = nearest-mirrored (nearest-plus a b B)
