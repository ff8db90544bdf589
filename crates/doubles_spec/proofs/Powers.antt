-- The double of a power of two from its bits, and the product of a mass with it. Assumes nothing.
use mathlib.Core.Path.{◌≡◌, sym, ap, ◌∙◌, subst}
use mathlib.Core.Bool.{Bool, false, not}
use Prim.Native.Nat.{ℕ, suc, ◌+◌, ◌-◌, ◌*◌, ◌%◌, ◌^◌, ◌≤◌, ◌<◌}
use native.Mathlib.Nat.{mul_right_comm, mul-mul-mul_comm, mul-one, one-mul, mul-pos, zero-lt-suc, lt_of_lt_of_le, le_of_lt, eq_of_mul-eq-mul_right}
use native.Mathlib.Omega.{arith}
use lib.IntN.{pos}
use lib.Dec.{T, lit≤}
use lib.Pow.{pow-add, pow_pos}
use lib.Ieee.{Float, nan, inf, fin, Format, binary64, prec, up, down, unlike, round, mul, of_int, of_bits, nan_bits}
use lib.Ieee.Fits.{down_pos}
use lib.Ieee.Exact.{HasValue}
use lib.Ieee.Back.{round_whole}
use lib.Ieee.Scale.{round_same}
use Rattle.doubles_spec.specs.Export.{export_value, export_double}
use Rattle.doubles_spec.proofs.Patterns.{pattern-no-nan, pattern-value}

-- from one fraction to another of the same size
pub rescale : (x : Float) (s : Bool) (w l num den : ℕ) → 0 < l → num * l ≡ w * den → HasValue x s w l → HasValue x s num den
rescale nan s w l num den p h v = v
rescale (inf t) s w l num den p h v = v
rescale (fin t m e) s w l num den p h v = (
  v.0,
  eq_of_mul-eq-mul_right l p (m * up e * den) (num * down e)
      (mul_right_comm (m * up e) den l
      ∙ ap (λ (x : ℕ). x * den) v.1
      ∙ mul_right_comm w (down e) den
      ∙ ap (λ (x : ℕ). x * down e) (sym h)
      ∙ mul_right_comm num l (down e)),
)

-- ---- 2 ^ -k from its bits
abbrev pub bits_at : ℕ → ℕ
bits_at k = (1023 - k) * 2 ^ 52 % 2 ^ 64

pub power-no-nan : (k : ℕ) → T (not (nan_bits binary64 (bits_at k)))
power-no-nan k = pattern-no-nan binary64 (bits_at k) (omega arith)

pub power-value : (k : ℕ) → k ≤ 30 → HasValue (of_bits binary64 (bits_at k)) false 1 (2 ^ k)
power-value k h =
    let y = 1022 - k in
    rescale (of_bits binary64 (bits_at k)) false (2 ^ 52 * 2 ^ y) (2 ^ 1074) 1 (2 ^ k) (pow_pos 1074)
    (one-mul (2 ^ 1074) ∙ ap (λ (x : ℕ). 2 ^ x) (places k h) ∙ pow-add 2 (52 + y) k ∙ ap (λ (x : ℕ). x * 2 ^ k) (pow-add 2 52 y))
    (subst (λ (b : ℕ). HasValue (of_bits binary64 b) false (2 ^ 52 * 2 ^ y) (2 ^ 1074)) (bits k h)
    (pattern-value binary64 y (2 ^ 52) (λ p. lit≤ tt) (lit≤ tt) (below k h)))
  where
    places : (k : ℕ) → k ≤ 30 → 1074 ≡ 52 + (1022 - k) + k
    places k h = omega arith

    bits : (k : ℕ) → k ≤ 30 → (1022 - k) * 2 ^ 52 + 2 ^ 52 ≡ (1023 - k) * 2 ^ 52 % 2 ^ 64
    bits k h = omega arith

    below : (k : ℕ) → k ≤ 30 → suc (suc (1022 - k)) < 2047
    below k h = omega arith

-- ---- a product, by the values
mul-value : (f : Format) (x y : Float) (a c b d : ℕ) → 0 < c → 0 < d → HasValue x false a c → HasValue y false b d → mul f x y ≡ round f false (a * b) (c * d)
unfolding mul
mul-value f nan y a c b d C D v w = absurd v
mul-value f (inf s) nan a c b d C D v w = absurd v
mul-value f (inf s) (inf t) a c b d C D v w = absurd v
mul-value f (inf s) (fin t n g) a c b d C D v w = absurd v
mul-value f (fin s m e) nan a c b d C D v w = absurd w
mul-value f (fin s m e) (inf t) a c b d C D v w = absurd w
mul-value f (fin s m e) (fin t n g) a c b d C D v w =
    ap (λ (u : Bool). round f (unlike u t) (m * up e * (n * up g)) (down e * down g)) v.0
    ∙ ap (λ (u : Bool). round f (unlike false u) (m * up e * (n * up g)) (down e * down g)) w.0
    ∙ round_same f false (m * up e * (n * up g)) (down e * down g) (a * b) (c * d) (mul-pos (down_pos e) (down_pos g)) (mul-pos C D)
    (mul-mul-mul_comm (m * up e) (n * up g) c d ∙ ap (λ (z : ℕ). z * (n * up g * d)) v.1 ∙ ap (λ (z : ℕ). a * down e * z) w.1 ∙ mul-mul-mul_comm a (down e) b (down g))

-- ---- a mass times 2 ^ -k
module _ (f : Format) where
  whole-value : (n : ℕ) → n ≤ 2 ^ prec f → HasValue (of_int f (pos n)) false n 1
  unfolding of_int
  whole-value n h = round_whole f false n h

  mul_power : (k mass : ℕ) (p : Float) → mass ≤ 2 ^ prec f → HasValue p false 1 (2 ^ k) → mul f (of_int f (pos mass)) p ≡ round f false mass (2 ^ k)
  mul_power k mass p h v =
      mul-value f (of_int f (pos mass)) p mass 1 1 (2 ^ k) (zero-lt-suc 0) (pow_pos k) (whole-value mass h) v
      ∙ ap (λ (a : ℕ). round f false a (1 * 2 ^ k)) (mul-one mass)
      ∙ ap (λ (c : ℕ). round f false mass c) (one-mul (2 ^ k))

pub product_is : (k mass : ℕ) (p : Float) → mass < 2 ^ 32 → HasValue p false 1 (2 ^ k) → mul binary64 (of_int binary64 (pos mass)) p ≡ export_double mass k
unfolding export_value
product_is k mass p h v = mul_power binary64 k mass p (le_of_lt (lt_of_lt_of_le h (lit≤ tt))) v
