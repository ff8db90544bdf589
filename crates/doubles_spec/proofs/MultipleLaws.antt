-- A fraction rounded to the nearest multiple of a power of two, the even one of two: among all numbers of so many digits, with whatever
-- place. Assumes nothing.
use mathlib.Core.Path.{◌≡◌, refl, sym, ◌∙◌, ap, subst}
use mathlib.Core.Logic.{◌⊎◌, inl, inr}
use mathlib.Core.Bool.{false}
use Prim.Native.Nat.{ℕ, zero, suc, ◌+◌, ◌-◌, ◌*◌, ◌%◌, ◌^◌, ◌≤◌, ◌<◌, compare, Ordering}
use native.Mathlib.Nat.{mul_assoc, mul_comm, mul-one, suc-mul, mul-pos, mul-le-mul_right, mul-lt-mul_of_pos_right, le_trans, le_of_eq, lt_of_lt_of_le, pow-suc, not-le_of_lt}
use native.Mathlib.Omega.{arith}
use lib.IntN.{pos}
use lib.Pow.{pow-add, pow_pos, pow_mono, shl_lt}
use lib.Ieee.Nearest.{closest}
use Rattle.numbers.specs.Signed.{over, gap}
use Rattle.numbers.specs.Roundings.{NearestEven}
use Rattle.numbers.proofs.TestLaws.{Cmp, cmp}
use Rattle.numbers.proofs.RoundingLaws.{round-nearest, distance-plus}

-- an odd number is no multiple of a power of two above 1
no_shift : (m j : ℕ) → m * 2 ^ j % 2 ≡ 1 → j ≡ 0
no_shift m zero h = refl
no_shift m (suc j) h = absurd (twice (m * 2 ^ j) (ap (λ (z : ℕ). z % 2) (mul_assoc m (2 ^ j) 2 ∙ ap (λ (z : ℕ). m * z) (sym (pow-suc 2 j))) ∙ h))
  where
    twice : (x : ℕ) → x * 2 % 2 ≡ 1 → ⊥
    twice x g = omega arith

pos-injective : {x y : ℕ} → pos x ≡ pos y → x ≡ y
pos-injective e = ap over e

-- between two numbers that are as far from n, all are nearer
middle : (x y n : ℕ) → x < y → gap x n ≡ gap y n → x + y ≡ 2 * n
middle x y n h e = omega arith

inside : (x z y n : ℕ) → x < z → z < y → gap x n ≡ gap y n → gap z n < gap y n
inside x z y n h k e = by-middle (middle x y n (omega (arith, h, k)) e)
  where
    by-middle : x + y ≡ 2 * n → gap z n < gap y n
    by-middle m = omega (arith, h, k)

-- ---- n / c to the nearest multiple of 2 ^ d. If d is above 0, n / c has at least p digits before the last d: then no number of p digits,
-- with whatever place, is nearer
module _ (p n c d : ℕ) (P : 0 < p) (C : 0 < c) (normal : 0 < d → 2 ^ (p - 1) * (c * 2 ^ d) ≤ n) where
  abbrev b : ℕ
  b = c * 2 ^ d

  abbrev q : ℕ
  q = closest n b

  whole : NearestEven (pos n) b (pos q)
  whole = round-nearest false n b (mul-pos C (pow_pos d))

  least : (r : ℕ) → gap (q * b) n ≤ gap (r * b) n
  least r = omega (arith, whole.nearest (pos r), distance-plus n b q, distance-plus n b r)

  -- a multiple that is as near has the digits too
  pub lead : (r : ℕ) → gap (r * b) n ≡ gap (q * b) n → 0 < d → 2 ^ (p - 1) ≤ r
  lead r e D = go (compare r (2 ^ (p - 1))) (cmp r (2 ^ (p - 1)))
    where
      go : (o : Ordering) → Cmp o r (2 ^ (p - 1)) → 2 ^ (p - 1) ≤ r
      go Ordering.lt h = absurd (omega (arith, e, least (2 ^ (p - 1)), normal D, mul-lt-mul_of_pos_right h (mul-pos C (pow_pos d))))
      go Ordering.eq h = omega arith
      go Ordering.gt h = omega arith

  -- another one that is as near is the next one, above or below
  next : (r : ℕ) → (r ≡ q → ⊥) → gap (r * b) n ≡ gap (q * b) n → (r ≡ suc q) ⊎ (q ≡ suc r)
  next r ne e = go (compare r q) (cmp r q) (compare (suc r) q) (cmp (suc r) q) (compare (suc q) r) (cmp (suc q) r)
    where
      B : 0 < b
      B = mul-pos C (pow_pos d)

      step : (z : ℕ) → 0 < b → z * b < suc z * b
      step z h = omega (arith, suc-mul z b)

      go : (o : Ordering) → Cmp o r q → (u : Ordering) → Cmp u (suc r) q → (v : Ordering) → Cmp v (suc q) r → (r ≡ suc q) ⊎ (q ≡ suc r)
      go Ordering.eq h u k v l = absurd (ne h)
      go Ordering.lt h Ordering.lt k v l = absurd (not-le_of_lt (inside (r * b) (suc r * b) (q * b) n (step r B) (lt_of_lt_of_le (step (suc r) B) (mul-le-mul_right b k)) e) (least (suc r)))
      go Ordering.lt h Ordering.eq k v l = inr (sym k)
      go Ordering.lt h Ordering.gt k v l = absurd (omega arith)
      go Ordering.gt h u k Ordering.lt l = absurd (not-le_of_lt (lt_of_lt_of_le (inside (q * b) (suc q * b) (r * b) n (step q B) (lt_of_lt_of_le (step (suc q) B) (mul-le-mul_right b l)) (sym e)) (le_of_eq e)) (least (suc q)))
      go Ordering.gt h u k Ordering.eq l = inl (sym l)
      go Ordering.gt h u k Ordering.gt l = absurd (omega arith)

  -- m * 2 ^ i is below every multiple with the digits, or a multiple
  below : (m i : ℕ) → m < 2 ^ p → i < d → m * 2 ^ i * c < 2 ^ (p - 1) * b
  below m i M I =
      lt_of_lt_of_le (mul-lt-mul_of_pos_right (shl_lt p i M) C)
      (le_trans (mul-le-mul_right c (pow_mono (room p i d P I))) (le_of_eq (ap (λ (z : ℕ). z * c) (pow-add 2 (p - 1) d) ∙ mul_assoc (2 ^ (p - 1)) (2 ^ d) c ∙ ap (λ (z : ℕ). 2 ^ (p - 1) * z) (mul_comm (2 ^ d) c))))
    where
      room : (p i d : ℕ) → 0 < p → i < d → p + i ≤ p - 1 + d
      room p i d P I = omega arith

  worse : (m i : ℕ) → m < 2 ^ p → i < d → gap (q * b) n < gap (m * 2 ^ i * c) n
  worse m i M I = omega (arith, least (2 ^ (p - 1)), below m i M I, normal (omega arith))

  split : (i : ℕ) → d ≤ i → i - d + d ≡ i
  split i h = omega arith

  as-multiple : (m i : ℕ) → d ≤ i → m * 2 ^ i * c ≡ m * 2 ^ (i - d) * b
  as-multiple m i I =
      ap (λ (z : ℕ). m * 2 ^ z * c) (sym (split i I))
      ∙ ap (λ (z : ℕ). m * z * c) (pow-add 2 (i - d) d)
      ∙ ap (λ (z : ℕ). z * c) (sym (mul_assoc m (2 ^ (i - d)) (2 ^ d)))
      ∙ mul_assoc (m * 2 ^ (i - d)) (2 ^ d) c
      ∙ ap (λ (z : ℕ). m * 2 ^ (i - d) * z) (mul_comm (2 ^ d) c)

  own : q * 2 ^ d * c ≡ q * b
  own = mul_assoc q (2 ^ d) c ∙ ap (λ (z : ℕ). q * z) (mul_comm (2 ^ d) c)

  pub near : (m i : ℕ) → m < 2 ^ p → gap (q * 2 ^ d * c) n ≤ gap (m * 2 ^ i * c) n
  near m i M = go (compare i d) (cmp i d)
    where
      past : d ≤ i → gap (q * 2 ^ d * c) n ≤ gap (m * 2 ^ i * c) n
      past h =
          le_trans (le_of_eq (ap (λ (z : ℕ). gap z n) own)) (le_trans (least (m * 2 ^ (i - d))) (le_of_eq (ap (λ (z : ℕ). gap z n) (sym (as-multiple m i h)))))

      go : (o : Ordering) → Cmp o i d → gap (q * 2 ^ d * c) n ≤ gap (m * 2 ^ i * c) n
      go Ordering.lt h = omega (arith, own, worse m i M h)
      go Ordering.eq h = past (omega arith)
      go Ordering.gt h = past (omega arith)

  -- if another one is as near, q is even, and the other is an odd multiple with the digits
  pub record Other (m i : ℕ) : Type 0 where
    pub even : q % 2 ≡ 0
    pub odd : m % 2 ≡ 1
    pub same : m * 2 ^ i ≡ m * 2 ^ d
    pub digits : 0 < d → 2 ^ (p - 1) ≤ m

  pub other : (m i : ℕ) → m < 2 ^ p → (m * 2 ^ i ≡ q * 2 ^ d → ⊥) → gap (m * 2 ^ i * c) n ≡ gap (q * 2 ^ d * c) n → Other m i
  other m i M ne e = go (compare i d) (cmp i d)
    where
      past : d ≤ i → Other m i
      past h =
          let r = m * 2 ^ (i - d) in
          let differs : r ≡ q → ⊥ = λ g. ne (back h ∙ ap (λ (z : ℕ). z * 2 ^ d) g) in
          let near-too : gap (r * b) n ≡ gap (q * b) n = ap (λ (z : ℕ). gap z n) (sym (as-multiple m i h)) ∙ e ∙ ap (λ (z : ℕ). gap z n) own in
          let ev : q % 2 ≡ 0 = whole.even (pos r) (λ g. differs (pos-injective g)) (distance-plus n b r ∙ near-too ∙ sym (distance-plus n b q)) in
          let od : r % 2 ≡ 1 = odd-by ev (next r differs near-too) in
          let z : i - d ≡ 0 = no_shift m (i - d) od in
          let s : m * 2 ^ (i - d) ≡ m = ap (λ (x : ℕ). m * 2 ^ x) z ∙ mul-one m in
          record {
            even = ev;
            odd = ap (λ (x : ℕ). x % 2) (sym s) ∙ od;
            same = back h ∙ ap (λ (x : ℕ). x * 2 ^ d) s;
            digits = λ D. subst (λ (x : ℕ). 2 ^ (p - 1) ≤ x) s (lead r near-too D);
          }
        where
          back : d ≤ i → m * 2 ^ i ≡ m * 2 ^ (i - d) * 2 ^ d
          back h = ap (λ (z : ℕ). m * 2 ^ z) (sym (split i h)) ∙ ap (λ (z : ℕ). m * z) (pow-add 2 (i - d) d) ∙ sym (mul_assoc m (2 ^ (i - d)) (2 ^ d))

          odd-by : {x y : ℕ} → y % 2 ≡ 0 → (x ≡ suc y) ⊎ (y ≡ suc x) → x % 2 ≡ 1
          odd-by g (inl h) = omega arith
          odd-by g (inr h) = omega arith

      go : (o : Ordering) → Cmp o i d → Other m i
      go Ordering.lt h = absurd (not-le_of_lt (worse m i M h) (le_of_eq (e ∙ ap (λ (z : ℕ). gap z n) own)))
      go Ordering.eq h = past (omega arith)
      go Ordering.gt h = past (omega arith)
