-- The form `fraction` sees only the value of a / b: equal fractions give the same. And what it gives at digits times a power of two, by the
-- tests that the code makes. Assumes nothing.
use mathlib.Core.Path.{◌≡◌, refl, sym, ap, ◌∙◌}
use mathlib.Core.Bool.{Bool, false}
use Prim.Native.Nat.{ℕ, ◌+◌, ◌-◌, ◌*◌, ◌/◌, ◌%◌, ◌^◌, ◌≤◌, ◌<◌, min, compare, Ordering}
use native.Mathlib.Nat.{mul_comm, mul_assoc, mul_right_comm, add-mul, zero-mul, mul-one, one-mul, div-one, mod-one, div-add-mod', mul-lt-mul_of_pos_right, div-eq_of_lt, mod-eq_of_lt, min-eq_left, min-eq_right, le_trans, lt_of_lt_of_le, le_of_lt, le-mul_of_pos_right}
use native.Mathlib.Omega.{arith}
use lib.Dec.{lit<, compare_is_eq, eqb}
use lib.Pow.{pow-add, pow_pos, pow_mono, shr_lt, shl_exact}
use lib.Ieee.Nearest.{div_same}
use Rattle.numbers.proofs.TestLaws.{Cmp, cmp, compare-is}
use Rattle.doubles_spec.specs.Forms.{product_of, rest_at, rest_by, rest_of, fraction}
use Rattle.doubles_spec.specs.declared.Rest.{Rest}
use Rattle.doubles_spec.specs.declared.Rest.TheVariants.{Nothing, LessThanHalf}

compare-scale : (a b c : ℕ) → 0 < c → compare (a * c) (b * c) ≡ compare a b
compare-scale a b c C = compare-is (compare a b) (a * c) (b * c) (go (compare a b) (cmp a b))
  where
    go : (o : Ordering) → Cmp o a b → Cmp o (a * c) (b * c)
    go Ordering.lt h = mul-lt-mul_of_pos_right h C
    go Ordering.eq h = ap (λ (z : ℕ). z * c) h
    go Ordering.gt h = mul-lt-mul_of_pos_right h C

-- ---- equal fractions leave remainders of the same size
rest-cross : (a b c d w : ℕ) → a / b ≡ w → c / d ≡ w → a * d ≡ c * b → a % b * d ≡ c % d * b
rest-cross a b c d w e f h =
    let x : w * b * d + a % b * d ≡ a * d = sym (add-mul (w * b) (a % b) d) ∙ ap (λ (z : ℕ). z * d) (ap (λ (z : ℕ). z * b + a % b) (sym e) ∙ div-add-mod' a b) in
    let y : w * d * b + c % d * b ≡ c * b = sym (add-mul (w * d) (c % d) b) ∙ ap (λ (z : ℕ). z * b) (ap (λ (z : ℕ). z * d + c % d) (sym f) ∙ div-add-mod' c d) in
    let s : w * b * d ≡ w * d * b = mul_right_comm w b d in
    omega arith

rest-same : (a b c d : ℕ) → 0 < b → 0 < d → a * d ≡ c * b → rest_of a b ≡ rest_of c d
rest-same a b c d B D h =
    let x = a % b in
    let y = c % d in
    let e : x * d ≡ y * b = rest-cross a b c d (c / d) (div_same a b c d B D h) refl h in
    let z : compare x 0 ≡ compare y 0 =
    sym (compare-scale x 0 d D) ∙ ap (λ (n : ℕ). compare n (0 * d)) e ∙ ap (λ (n : ℕ). compare (y * b) n) (zero-mul d ∙ sym (zero-mul b)) ∙ compare-scale y 0 b B in
    let o : compare (x * 2) b ≡ compare (y * 2) d =
    sym (compare-scale (x * 2) b d D)
    ∙ ap (λ (n : ℕ). compare n (b * d)) (mul_right_comm x 2 d ∙ ap (λ (n : ℕ). n * 2) e ∙ mul_right_comm y b 2)
    ∙ ap (λ (n : ℕ). compare (y * 2 * b) n) (mul_comm b d)
    ∙ compare-scale (y * 2) d b B in
    ap (λ (p : Ordering). rest_at (compare_is_eq p) (compare (x * 2) b)) z ∙ ap (λ (p : Ordering). rest_at (eqb y 0) p) o

pub fraction-same : (s : Bool) (a b c d : ℕ) → 0 < b → 0 < d → a * d ≡ c * b → fraction s a b ≡ fraction s c d
fraction-same s a b c d B D h =
    ap (λ (q : ℕ). product_of s (min q (2 ^ 52)) (rest_of a b)) (div_same a b c d B D h) ∙ ap (λ (r : Rest). product_of s (min (c / d) (2 ^ 52)) r) (rest-same a b c d B D h)

-- ---- zero, and a fraction below a half
pub zero-fraction : (s : Bool) (b : ℕ) → 0 < b → fraction s 0 b ≡ product_of s 0 Nothing
zero-fraction s b B = ap (λ (q : ℕ). product_of s (min q (2 ^ 52)) (rest_of 0 b)) (div-eq_of_lt B) ∙ ap (λ (r : ℕ). product_of s 0 (rest_by r b)) (mod-eq_of_lt B)

pub small-fraction : (s : Bool) (a b : ℕ) → 0 < a → a * 2 < b → fraction s a b ≡ product_of s 0 LessThanHalf
small-fraction s a b p h =
    let l : a < b = omega arith in
    ap (λ (q : ℕ). product_of s (min q (2 ^ 52)) (rest_of a b)) (div-eq_of_lt l)
    ∙ ap (λ (r : ℕ). product_of s 0 (rest_at (eqb r 0) (compare (r * 2) b))) (mod-eq_of_lt l)
    ∙ ap (λ (o : Ordering). product_of s 0 (rest_at (compare_is_eq o) (compare (a * 2) b))) (compare-is Ordering.gt a 0 p)
    ∙ ap (λ (o : Ordering). product_of s 0 (rest_at false o)) (compare-is Ordering.lt (a * 2) b h)

-- ---- digits * 2 ^ place / 2 ^ 1075
module _ (s : Bool) (digits place : ℕ) (lo : 2 ^ 52 ≤ digits) (hi : digits < 2 ^ 53) where
  pub large : 1075 ≤ place → fraction s (digits * 2 ^ place) (2 ^ 1075) ≡ product_of s (2 ^ 52) Nothing
  large h =
      let j = place - 1075 in
      let n = digits * 2 ^ j in
      let e : digits * 2 ^ place * 1 ≡ n * 2 ^ 1075 = mul-one (digits * 2 ^ place) ∙ ap (λ (p : ℕ). digits * 2 ^ p) (split h) ∙ ap (λ (p : ℕ). digits * p) (pow-add 2 j 1075) ∙ sym (mul_assoc digits (2 ^ j) (2 ^ 1075)) in
      fraction-same s (digits * 2 ^ place) (2 ^ 1075) n 1 (pow_pos 1075) (pow_pos 0) e
      ∙ ap (λ (q : ℕ). product_of s (min q (2 ^ 52)) (rest_of n 1)) (div-one n)
      ∙ ap (λ (q : ℕ). product_of s q (rest_of n 1)) (min-eq_right (le_trans lo (le-mul_of_pos_right digits (pow_pos j))))
      ∙ ap (λ (r : ℕ). product_of s (2 ^ 52) (rest_at (eqb r 0) (compare (r * 2) 1))) (mod-one n)
    where
      split : 1075 ≤ place → place ≡ place - 1075 + 1075
      split h = omega arith

  pub shifted : place < 1075 → fraction s (digits * 2 ^ place) (2 ^ 1075) ≡ fraction s digits (2 ^ (1075 - place))
  shifted h =
      let j = 1075 - place in
      let e : digits * 2 ^ place * 2 ^ j ≡ digits * 2 ^ 1075 = mul_assoc digits (2 ^ place) (2 ^ j) ∙ ap (λ (p : ℕ). digits * p) (sym (pow-add 2 place j) ∙ ap (λ (p : ℕ). 2 ^ p) (split h)) in
      fraction-same s (digits * 2 ^ place) (2 ^ 1075) digits (2 ^ j) (pow_pos 1075) (pow_pos j) e
    where
      split : place < 1075 → place + (1075 - place) ≡ 1075
      split h = omega arith

  pub tiny : (j : ℕ) → 55 ≤ j → fraction s digits (2 ^ j) ≡ product_of s 0 LessThanHalf
  tiny j h =
      let p : 2 ^ 55 ≤ 2 ^ j = pow_mono h in
      small-fraction s digits (2 ^ j) (omega arith) (omega arith)

  -- below 2 ^ 52 the whole part is not cut
  uncut : (j : ℕ) → 1 ≤ j → fraction s digits (2 ^ j) ≡ product_of s (digits / 2 ^ j) (rest_of digits (2 ^ j))
  uncut j h = ap (λ (q : ℕ). product_of s q (rest_of digits (2 ^ j))) (min-eq_left (le_of_lt (shr_lt 52 j (lt_of_lt_of_le hi (pow_mono (fit h))))))
    where
      fit : 1 ≤ j → 53 ≤ 52 + j
      fit h = omega arith

  -- the whole part and what is left, by the unit that the code divides by
  pub read_at : (u : ℕ) → u ≡ 2 ^ (1075 - place) → place < 1075 → product_of s (digits / u) (rest_of digits u) ≡ fraction s (digits * 2 ^ place) (2 ^ 1075)
  read_at u e h = sym (shifted h ∙ uncut (1075 - place) (some-place h) ∙ ap (λ (v : ℕ). product_of s (digits / v) (rest_of digits v)) (sym e))
    where
      some-place : place < 1075 → 1 ≤ 1075 - place
      some-place h = omega arith

-- the unit fits a u64
pub unit-is : (j : ℕ) → j < 55 → 1 * 2 ^ j % 2 ^ 64 ≡ 2 ^ j
unit-is j h = shl_exact 1 j 64 (lit< tt) (room h) ∙ one-mul (2 ^ j)
  where
    room : j < 55 → 1 + j ≤ 64
    room h = omega arith

-- ---- what is left, by the tests that the code makes
pub left-none : (r b : ℕ) → r ≡ 0 → rest_by r b ≡ Nothing
left-none r b h = ap (λ (q : ℕ). rest_by q b) h

pub left-some : (o : Ordering) (r b : ℕ) → (r ≡ 0 → ⊥) → Cmp o (r * 2) b → rest_by r b ≡ rest_at false o
left-some o r b h k =
    ap (λ (t : Bool). rest_at t (compare (r * 2) b)) (ap compare_is_eq (compare-is Ordering.gt r 0 (omega arith))) ∙ ap (λ (p : Ordering). rest_at false p) (compare-is o (r * 2) b k)
