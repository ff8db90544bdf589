-- A mass times 2 ^ −k in any format: exact if the format has room for the mass's digits, and then no other value is; of mass 0 plus zero.
-- Assumes nothing.
use mathlib.Core.Path.{◌≡◌, refl, sym, ◌∙◌, ap}
use mathlib.Core.Bool.{Bool, false, cond}
use Prim.Native.Nat.{ℕ, suc, ◌+◌, ◌-◌, ◌*◌, ◌/◌, ◌^◌, ◌≤◌, ◌<◌}
use native.Mathlib.Nat.{mul_assoc, mul-div_cancel, zero-lt-suc, lt_of_lt_of_le, le_trans}
use native.Mathlib.Omega.{arith}
use lib.IntN.{pos}
use lib.Dec.{T, lit≤}
use lib.Pow.{pow-add, pow_pos, pow_mono, shl_lt}
use lib.Ieee.{Float, nan, inf, fin, Format, binary32, binary64, prec, emax, low, hid, top, up, down, size, fits, to_bits, of_bits, round}
use lib.Ieee.Fits.{reach, down_pos, round-fits}
use lib.Ieee.Exact.{HasValue, round_exact}
use lib.Ieee.Scale.{round_same}
use lib.Ieee.Bits.{of_bits-to_bits}
use Rattle.doubles_spec.specs.Export.{export_value, Exact}
use Rattle.doubles_spec.proofs.Powers.{rescale}

-- ---- two values that a format holds and that are the same number with the same sign are equal
module _ (f : Format) (s : Bool) (a : ℕ) where
  bits_of : (x : Float) → HasValue x s a (2 ^ low f) → to_bits f x ≡ cond s (top f) 0 + (size a - prec f) * hid f + a / 2 ^ (size a - prec f)
  unfolding to_bits
  bits_of nan v = absurd v
  bits_of (inf t) v = absurd v
  bits_of (fin t m e) v =
      let n = m * up e * 2 ^ low f / down e in
      ap (λ (b : Bool). cond b (top f) 0 + (size n - prec f) * hid f + n / 2 ^ (size n - prec f)) v.0
      ∙ ap (λ (z : ℕ). cond s (top f) 0 + (size z - prec f) * hid f + z / 2 ^ (size z - prec f)) (ap (λ (z : ℕ). z / down e) v.1 ∙ mul-div_cancel a (down_pos e))

  pub value-unique : (x y : Float) → T (fits f x) → T (fits f y) → HasValue x s a (2 ^ low f) → HasValue y s a (2 ^ low f) → x ≡ y
  value-unique x y F G v w = sym (of_bits-to_bits f x F) ∙ ap (of_bits f) (bits_of x v ∙ sym (bits_of y w)) ∙ of_bits-to_bits f y G

-- ---- a scale is far above a format's smallest exponent
pub scale-low : (f : Format) {k : ℕ} → k ≤ 30 → k ≤ low f
scale-low binary32 h = le_trans h (lit≤ tt)
scale-low binary64 h = le_trans h (lit≤ tt)

module _ (f : Format) where
  pub value-fits : (mass k : ℕ) → T (fits f (export_value f mass k))
  unfolding export_value
  value-fits mass k = round-fits f false mass (2 ^ k)

  module _ {mass k : ℕ} (few : mass < 2 ^ prec f) (K : k ≤ 30) where
    -- over 2 ^ low f it is a whole number
    in-units : mass * 2 ^ low f ≡ mass * 2 ^ (low f - k) * 2 ^ k
    in-units =
        ap (λ (x : ℕ). mass * 2 ^ x) (sym (back (low f) (scale-low f K))) ∙ ap (λ (x : ℕ). mass * x) (pow-add 2 (low f - k) k) ∙ sym (mul_assoc mass (2 ^ (low f - k)) (2 ^ k))
      where
        back : (l : ℕ) → k ≤ l → l - k + k ≡ l
        back l h = omega arith

    pub value-exact : Exact mass k (export_value f mass k)
    unfolding export_value
    value-exact =
        round_exact f false mass (2 ^ k) mass (low f - k) (pow_pos k) few
        (lt_of_lt_of_le (shl_lt (prec f) (low f - k) few) (pow_mono (room (prec f) (low f) (suc (emax f)) (reach f)))) in-units
      where
        room : (p l t : ℕ) → p ≤ t → p + (l - k) ≤ l + t
        room p l t h = omega arith

    pub exact-unique : (x : Float) → T (fits f x) → Exact mass k x → x ≡ export_value f mass k
    exact-unique x F v =
        value-unique f false (mass * 2 ^ (low f - k)) x (export_value f mass k) F (value-fits mass k) (at_unit x v) (at_unit (export_value f mass k) value-exact)
      where
        at_unit : (y : Float) → Exact mass k y → HasValue y false (mass * 2 ^ (low f - k)) (2 ^ low f)
        at_unit y w = rescale y false mass (2 ^ k) (mass * 2 ^ (low f - k)) (2 ^ low f) (pow_pos k) (sym in-units) w

-- ---- mass 0
plus-zero : (f : Format) → round f false 0 1 ≡ fin false 0 (pos 0)
unfolding round
plus-zero binary32 = refl
plus-zero binary64 = refl

pub value-zero : (f : Format) (k : ℕ) → export_value f 0 k ≡ fin false 0 (pos 0)
unfolding export_value
value-zero f k = round_same f false 0 (2 ^ k) 0 1 (pow_pos k) (zero-lt-suc 0) (nothing (2 ^ k)) ∙ plus-zero f
  where
    nothing : (p : ℕ) → 0 * 1 ≡ 0 * p
    nothing p = omega arith
