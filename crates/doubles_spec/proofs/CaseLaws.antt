-- What `product` gives at a double of each class, which are the cases of the code. Assumes nothing.
use Rattle.std.specs.Prelude.{None}
use mathlib.Core.Path.{◌≡◌, refl, sym, ap, ◌∙◌, subst}
use mathlib.Core.Bool.{Bool, true, false, not}
use Prim.Native.Nat.{ℕ, zero, suc, ◌+◌, ◌*◌, ◌^◌, ◌≤◌, ◌<◌}
use native.Mathlib.Nat.{mul_comm, mul_assoc, mul_right_comm, zero-mul, add_comm, le-add_right, zero-lt-suc, lt_of_lt_of_le, mul-pos, mul-le-mul_left, le_of_eq, le_trans, lt_of_le_of_lt, lt_irrefl, pow-suc, pow-succ'}
use native.Mathlib.Omega.{arith}
use lib.Dec.{T, leb, eqb-suc-zero}
use lib.Pow.{pow-add, pow_pos, pow_mono}
use borrow.Author.Tests.{lt-ltb, le-ltb}
use lib.Ieee.{Float, nan, inf, fin, binary64, up, down, of_fields, of_bits, to_bits, fits, is_nan, lt}
use lib.Ieee.Fits.{up_pos, down_pos}
use lib.Ieee.Exact.{HasValue}
use Rattle.doubles_spec.specs.Classes.{SizeIn, InClass, is_below_zero, exponent_field, fraction_field}
use Rattle.doubles_spec.specs.Forms.{fraction, product, product_of}
use Rattle.doubles_spec.specs.declared.Class.TheVariants.{Zero, Subnormal, Normal, Infinity, NotANumber}
use Rattle.doubles_spec.specs.declared.Rest.TheVariants.{Nothing, LessThanHalf}
use Rattle.doubles_spec.proofs.Fractions.{fraction-same, zero-fraction, small-fraction}
use Rattle.doubles_spec.proofs.Patterns.{mid-value, by-fields, zero-sign}
use Rattle.doubles_spec.proofs.ClassLaws.{none, class-finite, double-class}

-- ---- zero
pub zero-product : (k : ℕ) (x : Float) → InClass Zero x → product k x ≡ product_of false 0 Nothing
zero-product k nan h = absurd (class-finite Zero nan (omega arith) h)
zero-product k (inf s) h = absurd (class-finite Zero (inf s) (omega arith) h)
zero-product k (fin s m e) h =
    ap (λ (n : ℕ). product k (fin s n e)) (none m (up e) (up_pos e) h)
    ∙ ap (λ (b : Bool). fraction b (0 * up e * 2 ^ k) (down e)) (zero-sign s e)
    ∙ ap (λ (a : ℕ). fraction false a (down e)) (ap (λ (n : ℕ). n * 2 ^ k) (zero-mul (up e)) ∙ zero-mul (2 ^ k))
    ∙ zero-fraction false (down e) (down_pos e)

-- ---- subnormal: times 2 ^ k it is above 0 and below a half
pub subnormal-size : (k a b : ℕ) → k ≤ 30 → SizeIn Subnormal a b → (0 < a * 2 ^ k) × (a * 2 ^ k * 2 < b)
subnormal-size k a b K h = (mul-pos h.0 (pow_pos k), lt_of_le_of_lt twice h.1)
  where
    room : k ≤ 30 → suc k ≤ 1022
    room l = omega arith

    twice : a * 2 ^ k * 2 ≤ a * 2 ^ 1022
    twice = le_trans (le_of_eq (mul_assoc a (2 ^ k) 2 ∙ ap (λ (z : ℕ). a * z) (sym (pow-suc 2 k)))) (mul-le-mul_left a (pow_mono (room K)))

pub subnormal-product : (k : ℕ) (x : Float) → k ≤ 30 → InClass Subnormal x → product k x ≡ product_of (is_below_zero x) 0 LessThanHalf
subnormal-product k nan K h = absurd (class-finite Subnormal nan (omega arith) h)
subnormal-product k (inf s) K h = absurd (class-finite Subnormal (inf s) (omega arith) h)
subnormal-product k (fin s m e) K h = let z = subnormal-size k (m * up e) (down e) K h in small-fraction (is_below_zero (fin s m e)) (m * up e * 2 ^ k) (down e) z.0 z.1

-- ---- normal: by the fields of its bits
value-fraction : (k : ℕ) (x : Float) (s : Bool) (a c : ℕ) → 0 < c → HasValue x s a c → product k x ≡ fraction (is_below_zero x) (a * 2 ^ k) c
value-fraction k nan s a c C v = absurd v
value-fraction k (inf t) s a c C v = absurd v
value-fraction k (fin t m e) s a c C v =
    fraction-same (is_below_zero (fin t m e)) (m * up e * 2 ^ k) (down e) (a * 2 ^ k) c (down_pos e) C
    (mul_right_comm (m * up e) (2 ^ k) c ∙ ap (λ (z : ℕ). z * 2 ^ k) v.1 ∙ mul_right_comm a (down e) (2 ^ k))

-- one place more in the size and in the unit
cross : (d y k : ℕ) → d * 2 ^ y * 2 ^ k * 2 ^ 1075 ≡ d * 2 ^ (suc y + k) * 2 ^ 1074
cross d y k =
    let e : 2 ^ (suc y + k) ≡ 2 * (2 ^ y * 2 ^ k) = pow-add 2 (suc y) k ∙ ap (λ (z : ℕ). z * 2 ^ k) (pow-succ' 2 y) ∙ mul_assoc 2 (2 ^ y) (2 ^ k) in
    let q = 2 ^ y * 2 ^ k in
    ap (λ (z : ℕ). z * 2 ^ 1075) (mul_assoc d (2 ^ y) (2 ^ k))
    ∙ sym (mul_assoc (d * q) 2 (2 ^ 1074))
    ∙ ap (λ (z : ℕ). z * 2 ^ 1074) (mul_assoc d q 2 ∙ ap (λ (z : ℕ). d * z) (mul_comm q 2 ∙ sym e))

fields-product : (k : ℕ) (x : Float) (s : Bool) (exponent t : ℕ) → (0 < exponent) × (exponent < 2047) → x ≡ of_fields binary64 s exponent t
    → product k x ≡ fraction (is_below_zero x) ((t + 2 ^ 52) * 2 ^ (exponent + k)) (2 ^ 1075)
fields-product k x s zero t h e = absurd (lt_irrefl 0 h.0)
fields-product k x s (suc y) t h e =
    let d = 2 ^ 52 + t in
    let v : HasValue x s (d * 2 ^ y) (2 ^ 1074) = subst (λ (z : Float). HasValue z s (d * 2 ^ y) (2 ^ 1074)) (sym e) (mid-value binary64 s y t h.1) in
    value-fraction k x s (d * 2 ^ y) (2 ^ 1074) (pow_pos 1074) v
    ∙ fraction-same (is_below_zero x) (d * 2 ^ y * 2 ^ k) (2 ^ 1074) (d * 2 ^ (suc y + k)) (2 ^ 1075) (pow_pos 1074) (pow_pos 1075) (cross d y k)
    ∙ ap (λ (z : ℕ). fraction (is_below_zero x) (z * 2 ^ (suc y + k)) (2 ^ 1075)) (add_comm (2 ^ 52) t)

pub normal-product : (k : ℕ) (x : Float) → T (fits binary64 x) → InClass Normal x
    → product k x ≡ fraction (is_below_zero x) ((fraction_field (to_bits binary64 x) + 2 ^ 52) * 2 ^ (exponent_field (to_bits binary64 x) + k)) (2 ^ 1075)
normal-product k x f h =
    let b = to_bits binary64 x in
    fields-product k x (leb (2 ^ 63) b) (exponent_field b) (fraction_field b) ((double-class x f Normal).1 h) (by-fields binary64 x f)

pub normal-no-nan : (x : Float) → InClass Normal x → T (not (is_nan x))
unfolding is_nan
normal-no-nan nan h = class-finite Normal nan (omega arith) h
normal-no-nan (inf s) h = tt
normal-no-nan (fin s m e) h = tt

-- ---- infinity, not a number
pub infinity-product : (k : ℕ) (x : Float) → InClass Infinity x → product k x ≡ None
infinity-product k nan h = refl
infinity-product k (inf s) h = refl
infinity-product k (fin s m e) h = absurd h

pub nan-product : (k : ℕ) (x : Float) → InClass NotANumber x → product k x ≡ None
nan-product k nan h = refl
nan-product k (inf s) h = refl
nan-product k (fin s m e) h = absurd h

-- ---- the test for a double below 0.0, whose bits are all 0
pub below-zero : (x : Float) → lt x (of_bits binary64 0) ≡ is_below_zero x
unfolding lt of_bits
below-zero nan = refl
below-zero (inf s) = refl
below-zero (fin false m e) = rw (zero-mul (down e)) (le-ltb (m * up e * 1) 0 (omega arith))
below-zero (fin true zero e) = rw (zero-mul (up e), zero-mul (down e)) refl
below-zero (fin true (suc m) e) = lt-ltb 0 (suc m * up e * 1 + 0 * down e) some ∙ sym (ap not (eqb-suc-zero m))
  where
    some : 0 < suc m * up e * 1 + 0 * down e
    some = lt_of_lt_of_le (mul-pos (mul-pos (zero-lt-suc m) (up_pos e)) (pow_pos 0)) (le-add_right (suc m * up e * 1) (0 * down e))
