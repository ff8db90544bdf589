-- What the kit's `round` gives, by its digits and its bit pattern; and the bit pattern of a mass times 2 ^ −k in any format, by the position of
-- the mass's highest set bit. Assumes nothing.
use mathlib.Core.Path.{◌≡◌, refl, sym, ◌∙◌, ap, subst}
use mathlib.Core.Bool.{false, not}
use Prim.Native.Nat.{ℕ, suc, ◌+◌, ◌-◌, ◌*◌, ◌/◌, ◌%◌, ◌^◌, ◌≤◌, ◌<◌, compare}
use native.Mathlib.Nat.{mul_assoc, mul_comm, suc-mul, mul-pos, mul-le-mul_right, mul-lt-mul_of_pos_right, le_trans, le_of_eq, le_antisymm, lt_of_lt_of_le, lt_of_le_of_lt, le_of_lt, le-div_iff_mul-le, div-le_self, div-lt_iff_lt-mul, div-div-eq-div-mul, not-le_of_lt, lt_of_not-le}
use native.Mathlib.Omega.{arith}
use lib.Dec.{T, lit≤}
use lib.Pow.{pow-add, pow_pos, pow_mono, pow-lt, shl_lt}
use lib.Ieee.{Float, nan, inf, fin, Format, binary32, binary64, prec, emax, low, hid, ones, size, fits, to_bits, of_bits, is_nan, round}
use lib.Ieee.Digits.{size-lt, size-le, size_reaches}
use lib.Ieee.Fits.{two, two-le_pos, nearest-le, kept-lt, round-fits}
use lib.Ieee.Exact.{HasValue}
use lib.Ieee.Nearest.{closest, closest_same}
use lib.Ieee.Order.{drop, kept}
use lib.Ieee.Scale.{round_val}
use lib.Ieee.Bits.{of_bits-fits, to_bits-of_bits}
use Rattle.numbers.specs.Checks.{max_total}
use Rattle.doubles_spec.specs.Export.{export_value}
use Rattle.doubles_spec.specs.Forms.{HighestBit}
use Rattle.doubles_spec.proofs.Patterns.{pattern-value}
use Rattle.doubles_spec.proofs.ValueLaws.{value-unique, scale-low}
use Rattle.doubles_spec.proofs.MultipleLaws.{lead}

-- ---- the bit pattern of q * 2 ^ d of the format's smallest values
in-range : (h d q o : ℕ) → 0 < h → q ≤ 2 * h → suc (suc d) < o → d * h + q < 2 * (h * suc o)
in-range h d q o H Q room = omega (arith, suc-mul d h, suc-mul (suc d) h, mul-le-mul_right h (le_of_lt room), mul_comm h (suc o), suc-mul o h)

number : (y : Float) (a l : ℕ) → HasValue y false a l → T (not (is_nan y))
unfolding is_nan
number nan a l w = w
number (inf s) a l w = tt
number (fin s m e) a l w = tt

module _ (f : Format) (x : Float) (q d : ℕ) (held : T (fits f x)) (value : HasValue x false (q * 2 ^ d) (2 ^ low f)) (lo : 0 < d → hid f ≤ q) (hi : q ≤ 2 * hid f) (room : suc (suc d) < ones f) where
  by_bits : x ≡ of_bits f (d * hid f + q)
  by_bits = value-unique f false (q * 2 ^ d) x (of_bits f (d * hid f + q)) held (of_bits-fits f (d * hid f + q)) value (pattern-value f d q lo hi room)

  pattern-of : to_bits f x ≡ d * hid f + q
  pattern-of =
      let n = d * hid f + q in
      ap (to_bits f) by_bits
      ∙ to_bits-of_bits f n (in-range (hid f) d q (ones f) (pow_pos (prec f - 1)) hi room) (number (of_bits f n) (q * 2 ^ d) (2 ^ low f) (pattern-value f d q lo hi room))

  -- it is as even as q
  pub pattern-parity : to_bits f x % 2 ≡ q % 2
  pattern-parity = ap (λ (n : ℕ). n % 2) pattern-of ∙ parity f d q
    where
      parity : (f : Format) (d q : ℕ) → (d * hid f + q) % 2 ≡ q % 2
      parity binary32 d q = omega arith
      parity binary64 d q = omega arith

-- ---- `round`, in units of the format's smallest value: it drops the last digits of n / c and keeps the others, rounded
wide : (f : Format) → 127 ≤ emax f
wide binary32 = lit≤ tt
wide binary64 = lit≤ tt

pub twice_hid : (f : Format) → 2 ^ prec f ≡ 2 * hid f
twice_hid binary32 = refl
twice_hid binary64 = refl

-- a fraction a / c whose numerator is far from the format's largest values
module _ (f : Format) (a c : ℕ) (C : 0 < c) (A : a < 2 ^ emax f) where
  abbrev n : ℕ
  n = a * 2 ^ low f

  abbrev dropped : ℕ
  dropped = drop (prec f) n c

  abbrev digits : ℕ
  digits = kept (prec f) n c

  some-digits : 0 < prec f
  some-digits = two-le_pos (prec f) (two f)

  pub all_digits : 0 < dropped → 2 ^ (prec f - 1) * (c * 2 ^ dropped) ≤ n
  all_digits D =
      let k = dropped in
      le_trans
      (le_of_eq (ap (λ (z : ℕ). 2 ^ (prec f - 1) * z) (mul_comm c (2 ^ k)) ∙ sym (mul_assoc (2 ^ (prec f - 1)) (2 ^ k) c) ∙ ap (λ (z : ℕ). z * c) (sym (pow-add 2 (prec f - 1) k))))
      ((le-div_iff_mul-le C).0 (size_reaches (n / c) (prec f - 1 + k) (in_use (size (n / c)) (prec f) some-digits D)))
    where
      in_use : (z p : ℕ) → 0 < p → 0 < z - p → p - 1 + (z - p) < z
      in_use z p P h = omega arith

  pub few-dropped : suc (suc dropped) < ones f
  few-dropped = room (size (n / c)) (prec f) (emax f) (two f) (wide f) (size-le (n / c) (emax f + low f) (lt_of_le_of_lt (div-le_self n c) (shl_lt (emax f) (low f) A)))
    where
      room : (z p e : ℕ) → 2 ≤ p → 127 ≤ e → z ≤ e + (e + p - 2) → suc (suc (z - p)) < 2 * e + 1
      room z p e P E h = omega arith

  top_digits : digits ≤ 2 ^ prec f
  top_digits =
      let k = dropped in
      let u = c * 2 ^ k in
      le_trans (nearest-le (n / u) (compare (n % u * 2) u)) (subst (λ (x : ℕ). x < 2 ^ prec f) (div-div-eq-div-mul n c (2 ^ k)) (kept-lt (prec f) (n / c)))

  lead-digits : 0 < dropped → hid f ≤ digits
  lead-digits = lead (prec f) n c dropped some-digits C all_digits digits refl

  pub round-value : HasValue (round f false a c) false (digits * 2 ^ dropped) (2 ^ low f)
  round-value = round_val f a c (lt_of_le_of_lt (mul-le-mul_right (2 ^ dropped) top_digits) (lt_of_le_of_lt (le_of_eq (sym (pow-add 2 (prec f) dropped))) (pow-lt (room dropped (prec f) (emax f) (two f) few-dropped))))
    where
      room : (d p e : ℕ) → 2 ≤ p → suc (suc d) < 2 * e + 1 → p + d < e + p - 2 + suc e
      room d p e P h = omega arith

  -- its bit pattern
  round-bits : round f false a c ≡ of_bits f (dropped * hid f + digits)
  round-bits = by_bits f (round f false a c) digits dropped (round-fits f false a c) round-value lead-digits (le_trans top_digits (le_of_eq (twice_hid f))) few-dropped

  -- it is as even as the digits kept
  pub round-parity : to_bits f (round f false a c) % 2 ≡ digits % 2
  round-parity = pattern-parity f (round f false a c) digits dropped (round-fits f false a c) round-value lead-digits (le_trans top_digits (le_of_eq (twice_hid f))) few-dropped

-- ---- a mass in any format: far from the largest values
pub far : (f : Format) {mass : ℕ} → mass ≤ max_total → mass < 2 ^ emax f
far f {mass} h = lt_of_lt_of_le below (pow_mono (le_trans some (wide f)))
  where
    below : mass < 2 ^ 31
    below = omega (arith, h)

    some : 31 ≤ 127
    some = lit≤ tt

-- ---- its bit pattern, by the position j of the mass's highest set bit
size_exact : (j n : ℕ) → 2 ^ j ≤ n → n < 2 ^ suc j → size n ≡ suc j
size_exact j n lo hi = le_antisymm (size-le n (suc j) hi) (lt_of_not-le (λ (g : size n ≤ j). not-le_of_lt (lt_of_lt_of_le (size-lt n) (pow_mono g)) lo))

module _ (f : Format) (mass k j : ℕ) (small : mass ≤ max_total) (K : k ≤ 30) (H : HighestBit mass j) where
  -- the biased exponent less 1
  abbrev place : ℕ
  place = emax f - 1 + j - k

  dropped-is : drop (prec f) (mass * 2 ^ low f) (2 ^ k) ≡ place
  dropped-is =
      less (size (mass * 2 ^ low f / 2 ^ k)) (prec f) (emax f) (two f) (wide f)
      (size_exact (j + low f - k) (mass * 2 ^ low f / 2 ^ k) ((le-div_iff_mul-le (pow_pos k)).1 under) ((div-lt_iff_lt-mul (pow_pos k)).1 above))
    where
      enough : k ≤ low f
      enough = scale-low f K

      joined : (i : ℕ) → 2 ^ (i + low f - k) * 2 ^ k ≡ 2 ^ i * 2 ^ low f
      joined i = sym (pow-add 2 (i + low f - k) k) ∙ ap (λ (x : ℕ). 2 ^ x) (back (low f) enough) ∙ pow-add 2 i (low f)
        where
          back : (l : ℕ) → k ≤ l → i + l - k + k ≡ i + l
          back l h = omega arith

      under : 2 ^ (j + low f - k) * 2 ^ k ≤ mass * 2 ^ low f
      under = le_trans (le_of_eq (joined j)) (mul-le-mul_right (2 ^ low f) H.0)

      above : mass * 2 ^ low f < 2 ^ suc (j + low f - k) * 2 ^ k
      above =
          lt_of_lt_of_le (mul-lt-mul_of_pos_right H.1 (pow_pos (low f)))
          (le_of_eq (sym (joined (suc j)) ∙ ap (λ (x : ℕ). 2 ^ x * 2 ^ k) (one_more (low f) enough)))
        where
          one_more : (l : ℕ) → k ≤ l → suc j + l - k ≡ suc (j + l - k)
          one_more l h = omega arith

      less : (z p e : ℕ) → 2 ≤ p → 127 ≤ e → z ≡ suc (j + (e + p - 2) - k) → z - p ≡ e - 1 + j - k
      less z p e P E h = omega (arith, K)

  digits-is : kept (prec f) (mass * 2 ^ low f) (2 ^ k) ≡ closest (mass * hid f) (2 ^ j)
  digits-is =
      ap (λ (z : ℕ). closest (mass * 2 ^ low f) (2 ^ k * 2 ^ z)) dropped-is
      ∙ closest_same (mass * 2 ^ low f) (2 ^ k * 2 ^ place) (mass * hid f) (2 ^ j) (mul-pos (pow_pos k) (pow_pos place)) (pow_pos j) cross
    where
      places : (e p : ℕ) → 2 ≤ p → 127 ≤ e → e + p - 2 + j ≡ p - 1 + (k + (e - 1 + j - k))
      places e p P E = omega (arith, K)

      cross : mass * 2 ^ low f * 2 ^ j ≡ mass * hid f * (2 ^ k * 2 ^ place)
      cross =
          mul_assoc mass (2 ^ low f) (2 ^ j)
          ∙ ap (λ (x : ℕ). mass * x) (sym (pow-add 2 (low f) j) ∙ ap (λ (x : ℕ). 2 ^ x) (places (emax f) (prec f) (two f) (wide f)) ∙ pow-add 2 (prec f - 1) (k + place) ∙ ap (λ (x : ℕ). hid f * x) (pow-add 2 k place))
          ∙ sym (mul_assoc mass (hid f) (2 ^ k * 2 ^ place))

  pub value-bits : export_value f mass k ≡ of_bits f (place * hid f + closest (mass * hid f) (2 ^ j))
  unfolding export_value
  value-bits =
      round-bits f mass (2 ^ k) (pow_pos k) (far f small)
      ∙ ap (λ (z : ℕ). of_bits f (z * hid f + kept (prec f) (mass * 2 ^ low f) (2 ^ k))) dropped-is
      ∙ ap (λ (z : ℕ). of_bits f (place * hid f + z)) digits-is
