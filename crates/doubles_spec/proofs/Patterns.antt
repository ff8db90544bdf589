-- The value that a bit pattern and its fields stand for, in any format, the fields of a double, and its sign. Assumes nothing.
use mathlib.Core.Path.{◌≡◌, refl, sym, ap, ◌∙◌, subst}
use mathlib.Core.Bool.{Bool, true, false, not, ◌&&◌, cond, false≢true}
use Prim.Native.Nat.{ℕ, suc, ◌+◌, ◌-◌, ◌*◌, ◌/◌, ◌%◌, ◌^◌, ◌≤◌, ◌<◌, compare, Ordering}
use native.Mathlib.Nat.{add-zero, suc-mul, mul_comm, mul_assoc, mul-le-mul_right, mul-add-div_right, mul-add-mod_self_right, mod-eq_of_lt, div-eq_of_lt, pow-succ'}
use native.Mathlib.Omega.{arith}
use lib.IntN.{ℤ}
use lib.Dec.{T, leb, eqb}
use lib.Arith.{le→nltb}
use lib.Pow.{pow_pos}
use borrow.Author.Tests.{ne_eqb, lt-leb}
use lib.Ieee.{Float, nan, inf, fin, Format, prec, low, hid, ones, top, odd, of_fields, of_bits, to_bits, fits, nan_bits, is_nan, eq, ne}
use lib.Ieee.Exact.{HasValue, odd_sign}
use lib.Ieee.Bits.{of_bits-to_bits, nan_bits_above}
use lib.Ieee.Compare.{differs_from_itself}
use Rattle.numbers.proofs.TestLaws.{Cmp, cmp}
use Rattle.doubles_spec.specs.Classes.{is_below_zero}

-- an exponent's field of 0, and one between 0 and all ones
pub low_value : (f : Format) (s : Bool) (t : ℕ) → HasValue (of_fields f s 0 t) s (t * 2 ^ 0) (2 ^ low f)
unfolding of_fields
low_value f s t = odd_sign (prec f) s t 0 (low f)

pub mid-value : (f : Format) (s : Bool) (y t : ℕ) → suc y < ones f → HasValue (of_fields f s (suc y) t) s ((hid f + t) * 2 ^ y) (2 ^ low f)
unfolding of_fields
mid-value f s y t h =
    subst (λ (b : Bool). HasValue (cond b (cond (eqb t 0) (inf s) nan) (odd (prec f) s (hid f + t) y (low f))) s ((hid f + t) * 2 ^ y) (2 ^ low f))
    (sym (ne_eqb (suc y) (ones f) (λ e. omega arith)))
    (odd_sign (prec f) s (hid f + t) y (low f))

-- ---- patterns with the sign plus, by their value: d * hid f + q stands for q * 2 ^ d of the format's smallest values. With q up to 2 * hid f
-- it is the next exponent's, whose fields come by themselves
under_top : (h y t o : ℕ) → y < o → t < h → y * h + t < h * suc o
under_top h y t o Y L = omega (arith, suc-mul y h, mul-le-mul_right h Y, mul_comm h (suc o), suc-mul o h)

module _ (f : Format) where
  -- without its sign at most the infinity's: no NaN's
  pub pattern-no-nan : (b : ℕ) → b % top f ≤ ones f * hid f → T (not (nan_bits f b))
  pattern-no-nan b h = subst (λ (t : Bool). T (not t)) (sym (nan_bits_above f b)) (le→nltb (ones f * hid f) (b % top f) h)

  pattern-fields : (y t : ℕ) → y < ones f → t < hid f → of_bits f (y * hid f + t) ≡ of_fields f false y t
  unfolding of_bits
  pattern-fields y t Y L =
      let b = y * hid f + t in
      let under : b < top f = under_top (hid f) y t (ones f) Y L in
      ap (λ (s : Bool). of_fields f s (b % top f / hid f) (b % hid f)) (lt-leb (top f) b under)
      ∙ ap (λ (x : ℕ). of_fields f false (x / hid f) (b % hid f)) (mod-eq_of_lt under)
      ∙ ap (λ (x : ℕ). of_fields f false x (b % hid f)) (mul-add-div_right (pow_pos (prec f - 1)) y t ∙ ap (λ (z : ℕ). y + z) (div-eq_of_lt L) ∙ add-zero y)
      ∙ ap (λ (x : ℕ). of_fields f false y x) (mul-add-mod_self_right y (hid f) t ∙ mod-eq_of_lt L)

  by-pattern : (b y t a : ℕ) → b ≡ y * hid f + t → y < ones f → t < hid f → HasValue (of_fields f false y t) false a (2 ^ low f) → HasValue (of_bits f b) false a (2 ^ low f)
  by-pattern b y t a e Y L v = subst (λ (x : Float). HasValue x false a (2 ^ low f)) (sym (ap (of_bits f) e ∙ pattern-fields y t Y L)) v

  pub pattern-value : (d q : ℕ) → (0 < d → hid f ≤ q) → q ≤ 2 * hid f → suc (suc d) < ones f → HasValue (of_bits f (d * hid f + q)) false (q * 2 ^ d) (2 ^ low f)
  pattern-value d q lo hi room = go (compare q (hid f)) (cmp q (hid f)) (compare q (2 * hid f)) (cmp q (2 * hid f))
    where
      -- with no leading digit
      none : q < hid f → d ≡ 0
      none l = at_zero d (λ p. omega (arith, lo p))
        where
          at_zero : (n : ℕ) → (0 < n → ⊥) → n ≡ 0
          at_zero n z = omega (arith, z)

      small : q < hid f → HasValue (of_bits f (d * hid f + q)) false (q * 2 ^ d) (2 ^ low f)
      small l =
          subst (λ (n : ℕ). HasValue (of_bits f (n * hid f + q)) false (q * 2 ^ n) (2 ^ low f)) (sym (none l))
          (by-pattern (0 * hid f + q) 0 q (q * 2 ^ 0) refl (omega (arith, room)) l (low_value f false q))

      -- with one
      lead : hid f ≤ q → q < 2 * hid f → HasValue (of_bits f (d * hid f + q)) false (q * 2 ^ d) (2 ^ low f)
      lead g l =
          by-pattern (d * hid f + q) (suc d) (q - hid f) (q * 2 ^ d) (omega (arith, suc-mul d (hid f))) (omega (arith, room)) (omega arith)
          (subst (λ (n : ℕ). HasValue (of_fields f false (suc d) (q - hid f)) false (n * 2 ^ d) (2 ^ low f)) (whole (hid f) g) (mid-value f false d (q - hid f) (omega (arith, room))))
        where
          whole : (n : ℕ) → n ≤ q → n + (q - n) ≡ q
          whole n e = omega arith

      -- the next exponent's
      carried : q ≡ 2 * hid f → HasValue (of_bits f (d * hid f + q)) false (q * 2 ^ d) (2 ^ low f)
      carried e =
          by-pattern (d * hid f + q) (suc (suc d)) 0 (q * 2 ^ d) (omega (arith, suc-mul d (hid f), suc-mul (suc d) (hid f))) room (pow_pos (prec f - 1))
          (subst (λ (n : ℕ). HasValue (of_fields f false (suc (suc d)) 0) false n (2 ^ low f)) twice (mid-value f false (suc d) 0 room))
        where
          twice : (hid f + 0) * 2 ^ suc d ≡ q * 2 ^ d
          twice =
              ap (λ (n : ℕ). n * 2 ^ suc d) (add-zero (hid f))
              ∙ ap (λ (n : ℕ). hid f * n) (pow-succ' 2 d)
              ∙ sym (mul_assoc (hid f) 2 (2 ^ d))
              ∙ ap (λ (n : ℕ). n * 2 ^ d) (mul_comm (hid f) 2 ∙ sym e)

      go : (o : Ordering) → Cmp o q (hid f) → (p : Ordering) → Cmp p q (2 * hid f) → HasValue (of_bits f (d * hid f + q)) false (q * 2 ^ d) (2 ^ low f)
      go Ordering.lt l p k = small l
      go Ordering.eq l Ordering.lt k = lead (omega arith) k
      go Ordering.eq l Ordering.eq k = carried k
      go Ordering.eq l Ordering.gt k = absurd (omega arith)
      go Ordering.gt l Ordering.lt k = lead (omega arith) k
      go Ordering.gt l Ordering.eq k = carried k
      go Ordering.gt l Ordering.gt k = absurd (omega arith)

-- a double is what its bits' fields say
pub by-fields : (f : Format) (x : Float) → T (fits f x) → x ≡ of_fields f (leb (top f) (to_bits f x)) (to_bits f x % top f / hid f) (to_bits f x % hid f)
unfolding of_bits
by-fields f x h = sym (of_bits-to_bits f x h)

-- the test that a program makes for what is not a number
pub no_nan : (x : Float) → eq x x ≡ true → T (not (is_nan x))
unfolding eq is_nan
no_nan nan h = absurd (false≢true h)
no_nan (inf s) h = tt
no_nan (fin s m e) h = tt

pub is-nan : (x : Float) → eq x x ≡ false → x ≡ nan
unfolding ne
is-nan x h = differs_from_itself x (subst (λ (b : Bool). T (not b)) (sym h) tt)

-- ---- the sign: minus zero has none
pub and-true : (b : Bool) → b && true ≡ b
and-true true = refl
and-true false = refl

pub zero-sign : (s : Bool) (e : ℤ) → is_below_zero (fin s 0 e) ≡ false
zero-sign true e = refl
zero-sign false e = refl

pub other_sign : (s : Bool) (m : ℕ) (e : ℤ) → 0 < m → is_below_zero (fin s m e) ≡ s
other_sign s m e p = ap (λ (b : Bool). s && not b) (ne_eqb m 0 (λ z. omega arith)) ∙ and-true s
