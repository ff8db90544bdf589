-- Laws of signed numbers by their natural parts, so that `omega` reads them. Assumes nothing.
use mathlib.Core.Path.{◌≡◌, refl, sym, ap, ap₂, ◌∙◌, subst}
use mathlib.Core.Bool.{Bool, true, false, not, cond}
use Prim.Native.Nat.{ℕ, zero, suc, ◌+◌, ◌-◌, ◌^◌, ◌≤◌, ◌<◌, min, max, pred}
use native.Mathlib.Omega.{arith}
use lib.Dec.{T, ltb, ltb→lt, nltb→le, leb→le, le→leb, lt→ltb}
use lib.IntN.{ℤ, pos, negsuc, neg_ℤ, nat_abs, sub_ℕ, ◌+ℤ◌, ◌-ℤ◌}
use lib.Signed.{mag, lt_z, le_z, non_neg, ◌≤ℤ◌, ◌<ℤ◌, lt_z_no}
use mir.Syntax.{w32, w64}
use mir.Val.{SFits, to_z, of_z}
use mir.ValLaws.{to_z-of_z, to_z_pos}
use borrow.Author.Tests.{leb-false}
use mathlib.Core.Logic.{◌↔◌}
use Rattle.numbers.specs.Signed.{over, under, min_ℤ, max_ℤ, gap}

pub one-part : (z : ℤ) → min (over z) (under z) ≡ 0
one-part (pos n) = omega arith
one-part (negsuc n) = omega arith

-- ---- differences and sums
cond-case : (c : Bool) (x y : ℤ) (P : ℤ → Type 0) → (T c → P x) → (T (not c) → P y) → P (cond c x y)
cond-case true x y P f g = f tt
cond-case false x y P f g = g tt

pub sub_parts : (a b : ℕ) → (over (sub_ℕ a b) + b ≡ a + under (sub_ℕ a b)) × (min (over (sub_ℕ a b)) (under (sub_ℕ a b)) ≡ 0)
sub_parts a b = cond-case (ltb a b) (negsuc (b - suc a)) (pos (a - b)) (λ z. (over z + b ≡ a + under z) × (min (over z) (under z) ≡ 0))
    (λ t. let h : a < b = ltb→lt a b t in omega arith)
    (λ t. let h : b ≤ a = nltb→le a b t in omega arith)

-- the sum's parts: the equation says what the sum is, and the two bounds, which follow, spare `omega` its cases
pub add_parts : (a b : ℤ) → (over (a +ℤ b) + (under a + under b) ≡ over a + over b + under (a +ℤ b)) × ((over (a +ℤ b) ≤ over a + over b) × (under (a +ℤ b) ≤ under a + under b))
add_parts (pos a) (pos b) = omega arith
add_parts (pos a) (negsuc b) = omega (arith, sub_parts a (suc b))
add_parts (negsuc a) (pos b) = omega (arith, sub_parts b (suc a))
add_parts (negsuc a) (negsuc b) = omega arith

pub neg-parts : (a : ℤ) → (over (neg_ℤ a) ≡ under a) × (under (neg_ℤ a) ≡ over a)
neg-parts (pos zero) = (refl, refl)
neg-parts (pos (suc n)) = (refl, refl)
neg-parts (negsuc n) = (refl, refl)

pub minus-parts : (a b : ℤ) → (over (a -ℤ b) + (under a + over b) ≡ over a + under b + under (a -ℤ b)) × ((over (a -ℤ b) ≤ over a + under b) × (under (a -ℤ b) ≤ under a + over b))
minus-parts a b = omega (arith, add_parts a (neg_ℤ b), neg-parts b)

-- ---- orders
pub le_parts : {a b : ℤ} → a ≤ℤ b → (over a ≤ over b) × (under b ≤ under a)
le_parts {a} {b} h = go a b h.le
  where
    go : (a b : ℤ) → T (le_z a b) → (over a ≤ over b) × (under b ≤ under a)
    go (pos a) (pos b) t = let k : a ≤ b = leb→le a b t in omega arith
    go (pos a) (negsuc b) t = absurd t
    go (negsuc a) (pos b) t = omega arith
    go (negsuc a) (negsuc b) t = let k : b ≤ a = leb→le b a t in omega arith

pub parts-le : {a b : ℤ} → over a + under b ≤ over b + under a → a ≤ℤ b
parts-le {a} {b} h = record { le = go a b h }
  where
    go : (a b : ℤ) → over a + under b ≤ over b + under a → T (le_z a b)
    go (pos a) (pos b) t = le→leb a b (omega arith)
    go (pos a) (negsuc b) t = omega arith
    go (negsuc a) (pos b) t = tt
    go (negsuc a) (negsuc b) t = le→leb b a (omega arith)

pub lt-parts : {a b : ℤ} → a <ℤ b → (over a ≤ over b) × ((under b ≤ under a) × (over a + under b < over b + under a))
lt-parts {a} {b} h = go a b h.lt
  where
    go : (a b : ℤ) → T (lt_z a b) → (over a ≤ over b) × ((under b ≤ under a) × (over a + under b < over b + under a))
    go (pos a) (pos b) t = let k : a < b = ltb→lt a b t in omega arith
    go (pos a) (negsuc b) t = absurd t
    go (negsuc a) (pos b) t = omega arith
    go (negsuc a) (negsuc b) t = let k : b < a = ltb→lt b a t in omega arith

pub parts-lt : {a b : ℤ} → over a + under b < over b + under a → a <ℤ b
parts-lt {a} {b} h = record { lt = go a b h }
  where
    go : (a b : ℤ) → over a + under b < over b + under a → T (lt_z a b)
    go (pos a) (pos b) t = lt→ltb a b (omega arith)
    go (pos a) (negsuc b) t = omega arith
    go (negsuc a) (pos b) t = tt
    go (negsuc a) (negsuc b) t = lt→ltb b a (omega arith)

pub parts-eq : {a b : ℤ} → over a + under b ≡ over b + under a → a ≡ b
parts-eq {a} {b} h = go a b h
  where
    go : (a b : ℤ) → over a + under b ≡ over b + under a → a ≡ b
    go (pos a) (pos b) h = let k : a ≡ b = omega arith in ap pos k
    go (pos a) (negsuc b) h = absurd (omega arith)
    go (negsuc a) (pos b) h = absurd (omega arith)
    go (negsuc a) (negsuc b) h = let k : a ≡ b = omega arith in ap negsuc k

-- ---- ranges
pub mag-parts : (z : ℤ) → mag z ≡ max (over z) (pred (under z))
mag-parts (pos n) = omega arith
mag-parts (negsuc n) = omega arith

pub abs-parts : (z : ℤ) → nat_abs z ≡ over z + under z
abs-parts (pos n) = omega arith
abs-parts (negsuc n) = omega arith

pub parts-fits32 : {z : ℤ} → max (over z) (pred (under z)) < 2 ^ 31 → SFits w32 z
parts-fits32 {z} h = record { sfits = omega (arith, mag-parts z) }

pub nonneg-parts : (z : ℤ) → T (non_neg z) → under z ≡ 0
nonneg-parts (pos n) t = refl
nonneg-parts (negsuc n) t = absurd t

pub parts-nonneg : (z : ℤ) → under z ≡ 0 → T (non_neg z)
parts-nonneg (pos n) h = tt
parts-nonneg (negsuc n) h = omega arith

-- what is known of one number, with no cases: list `about z` for each z whose range, size or sign matters (and `one-part z` where that is not enough)
pub about : (z : ℤ) → (mag z ≤ over z + under z) × ((over z ≤ mag z) × ((under z ≤ suc (mag z)) × (nat_abs z ≡ over z + under z)))
about (pos n) = omega arith
about (negsuc n) = omega arith

-- the same as one statement each, which is what a rule of `omega` gives
pub le-rule : {a b : ℤ} → a ≤ℤ b → over a + under b ≤ over b + under a
le-rule {a} {b} h = omega (arith, le_parts h)

pub lt-rule : {a b : ℤ} → a <ℤ b → over a + under b < over b + under a
lt-rule {a} {b} h = omega (arith, lt-parts h)

pub from_zero : {z : ℤ} → pos 0 ≤ℤ z → under z ≡ 0
from_zero {z} h = omega (arith, le_parts h)

-- ---- as a proof of a function meets them
-- what the machine reads back from the bits of z is z
pub plain : {z : ℤ} → SFits w64 z → (over (to_z w64 (of_z w64 z)) ≡ over z) × (under (to_z w64 (of_z w64 z)) ≡ under z)
plain {z} f = (ap over (to_z-of_z w64 z f), ap under (to_z-of_z w64 z f))

-- the same of an element of a slice, by what reading it gives: `read (get_or xs i (pos 0)) c.THING.given`
pub read : (z : ℤ) → mag z < 2 ^ 63 → (over (to_z w64 (of_z w64 z)) ≡ over z) × (under (to_z w64 (of_z w64 z)) ≡ under z)
read z h = plain {z = z} (record { sfits = h })

pub read_back : (z : ℤ) → mag z < 2 ^ 63 → to_z w64 (of_z w64 z) ≡ z
read_back z h = to_z-of_z w64 z (record { sfits = h })

-- an `i32` that was read and widened is itself
pub widened : (z : ℤ) → mag z < 2 ^ 31 → to_z w64 (of_z w64 (to_z w32 (of_z w32 z))) ≡ z
widened z h =
    let f : SFits w32 z = record { sfits = h } in
    ap (λ (v : ℤ). to_z w64 (of_z w64 v)) (to_z-of_z w32 z f) ∙ to_z-of_z w64 z (record { sfits = omega (arith, h) })

-- a test that was taken or left, by the equation of its flag
pub lt_z-true : (a b : ℤ) → lt_z a b ≡ true → over a + under b < over b + under a
lt_z-true a b e = lt-rule {a = a} {b = b} (record { lt = subst T (sym e) tt })

pub lt_z-false : (a b : ℤ) → lt_z a b ≡ false → over b + under a ≤ over a + under b
lt_z-false a b e = le-rule {a = b} {b = a} (lt_z_no {a = a} {b = b} (subst (λ (t : Bool). T (not t)) (sym e) tt))

pub le_z-true : (a b : ℤ) → le_z a b ≡ true → over a + under b ≤ over b + under a
le_z-true a b e = le-rule {a = a} {b = b} (record { le = subst T (sym e) tt })

pub le_z-false : (a b : ℤ) → le_z a b ≡ false → over b + under a < over a + under b
le_z-false (pos a) (pos b) e = omega (arith, leb-false a b e)
le_z-false (pos a) (negsuc b) e = omega arith
le_z-false (negsuc a) (pos b) e = absurd (subst T e tt)
le_z-false (negsuc a) (negsuc b) e = omega (arith, leb-false b a e)

-- the other way: a test's value from the parts
pub lt-lt_z : (a b : ℤ) → over a + under b < over b + under a → lt_z a b ≡ true
lt-lt_z a b h = go (lt_z a b) refl
  where
    go : (t : Bool) → lt_z a b ≡ t → t ≡ true
    go true e = refl
    go false e = absurd (omega (arith, lt_z-false a b e))

pub le-lt_z : (a b : ℤ) → over b + under a ≤ over a + under b → lt_z a b ≡ false
le-lt_z a b h = go (lt_z a b) refl
  where
    go : (t : Bool) → lt_z a b ≡ t → t ≡ false
    go true e = absurd (omega (arith, lt_z-true a b e))
    go false e = refl

-- The rules that `omega` goes by for signed numbers: of those that fit a hypothesis it takes the first. The parts of a sum or a difference go into its list with their arguments.
-- `SFits` needs no rule: omega reads its field `mag z < 2 ^ 63`, and `about z` says what `mag z` is
pub ruleset signed = (arith, from_zero, le-rule, parts-le, lt-rule, parts-lt, parts-eq, nonneg-parts, parts-nonneg, lt_z-true, lt_z-false, le_z-true, le_z-false)

-- ---- a difference of numbers that fit
pub sub-fits : (a b : ℕ) → a < 2 ^ 63 → b < 2 ^ 63 → SFits w64 (pos a -ℤ pos b)
sub-fits a b p q = omega (signed, minus-parts (pos a) (pos b), about (pos a -ℤ pos b), one-part (pos a -ℤ pos b))

pub sub_read : (a b : ℕ) (x y : ℤ) → a < 2 ^ 63 → b < 2 ^ 63 → x ≡ pos a → y ≡ pos b → to_z w64 (of_z w64 x) -ℤ to_z w64 (of_z w64 y) ≡ pos a -ℤ pos b
sub_read a b x y p q e f = ap₂ (λ u w. to_z w64 (of_z w64 u) -ℤ to_z w64 (of_z w64 w)) e f ∙ ap₂ ◌-ℤ◌ (to_z_pos w64 a p) (to_z_pos w64 b q)

-- ---- the smaller, the larger, and the difference of two natural numbers

pub over-min : (a b : ℤ) → over (min_ℤ a b) ≡ min (over a) (over b)
unfolding min_ℤ
over-min a b = go (le_z a b) refl
  where
    go : (t : Bool) → le_z a b ≡ t → over (cond t a b) ≡ min (over a) (over b)
    go true e = omega (arith, le_z-true a b e, one-part a, one-part b)
    go false e = omega (arith, le_z-false a b e, one-part a, one-part b)

pub over-max : (a b : ℤ) → over (max_ℤ a b) ≡ max (over a) (over b)
unfolding max_ℤ
over-max a b = go (le_z a b) refl
  where
    go : (t : Bool) → le_z a b ≡ t → over (cond t b a) ≡ max (over a) (over b)
    go true e = omega (arith, le_z-true a b e, one-part a, one-part b)
    go false e = omega (arith, le_z-false a b e, one-part a, one-part b)

-- the larger of a natural number and any other is not below 0
pub max-under : (n : ℕ) (b : ℤ) → under (max_ℤ (pos n) b) ≡ 0
unfolding max_ℤ
max-under n b = go (le_z (pos n) b) refl
  where
    go : (t : Bool) → le_z (pos n) b ≡ t → under (cond t b (pos n)) ≡ 0
    go true e = omega (arith, le_z-true (pos n) b e, one-part b)
    go false e = refl

-- the size and the sign of a difference
pub minus-size : (a b : ℕ) → nat_abs (pos a -ℤ pos b) ≡ gap a b
minus-size a b = omega (arith, minus-parts (pos a) (pos b), one-part (pos a -ℤ pos b), about (pos a -ℤ pos b))

pub minus-up : (a b : ℕ) → b ≤ a → lt_z (pos a -ℤ pos b) (pos 0) ≡ false
minus-up a b h = le-lt_z (pos a -ℤ pos b) (pos 0) (omega (arith, minus-parts (pos a) (pos b), one-part (pos a -ℤ pos b)))

pub minus-down : (a b : ℕ) → a < b → lt_z (pos a -ℤ pos b) (pos 0) ≡ true
minus-down a b h = lt-lt_z (pos a -ℤ pos b) (pos 0) (omega (arith, minus-parts (pos a) (pos b), one-part (pos a -ℤ pos b)))

-- how far a natural number is from a signed one
pub far-parts : (b : ℕ) (t : ℤ) → nat_abs (pos b -ℤ t) ≡ gap b (over t) + under t
far-parts b t = omega (arith, minus-parts (pos b) t, one-part t, one-part (pos b -ℤ t), about (pos b -ℤ t))

-- a number that is not below 0 is its part above
pub over-whole : (z : ℤ) → under z ≡ 0 → z ≡ pos (over z)
over-whole (pos n) e = refl
over-whole (negsuc n) e = absurd (omega arith)

pub from-zero-whole : (z : ℤ) → pos 0 ≤ℤ z → z ≡ pos (over z)
from-zero-whole z h = over-whole z (from_zero h)

-- tests and orders
pub le_z-means : (a b : ℤ) → (le_z a b ≡ true) ↔ (a ≤ℤ b)
le_z-means a b = (λ e. record { le = subst T (sym e) tt }, λ h. go (le_z a b) refl h)
  where
    go : (t : Bool) → le_z a b ≡ t → a ≤ℤ b → t ≡ true
    go true e h = refl
    go false e h = absurd (subst T e h.le)
