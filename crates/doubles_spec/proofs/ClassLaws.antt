-- Each double is in exactly one of the five classes, by its value and by its bit pattern, and both say the same class. Assumes nothing.
use mathlib.Core.Path.{◌≡◌, refl, sym, ap, ◌∙◌, subst}
use mathlib.Core.Logic.{◌↔◌}
use mathlib.Core.Bool.{Bool, not, cond}
use Prim.Native.Nat.{ℕ, zero, suc, ◌+◌, ◌*◌, ◌%◌, ◌^◌, ◌≤◌, ◌<◌}
use native.Mathlib.Nat.{mul_comm, mul_assoc, mul-one, zero-mul, mul-pos, mul-lt-mul_of_pos_right, mul-le-mul_right, lt_of_mul-lt-mul_right, le_of_mul-le-mul_right, le_of_eq, le_trans, lt_of_lt_of_le, lt_of_le_of_lt, le-add_right, le-mul_of_pos_right, lt_irrefl, zero-lt-suc}
use native.Mathlib.Omega.{arith}
use lib.Dec.{T, leb, ltb, eqb}
use lib.Pow.{pow_pos}
use borrow.Author.Tests.{ltb-true, ltb-false, eqb-true, eqb-false, lt-ltb, le-ltb, eq-eqb, ne_eqb}
use lib.Ieee.{Float, nan, inf, fin, binary64, up, down, of_fields, of_bits, to_bits, fits, is_nan}
use lib.Ieee.Fits.{down_pos}
use lib.Ieee.Exact.{HasValue}
use lib.Ieee.Bits.{of_bits-to_bits}
use Rattle.numbers.proofs.TestLaws.{Tested, holds, fails, tested}
use Rattle.doubles_spec.specs.Import.{IsFinite}
use Rattle.doubles_spec.specs.Classes.{SizeIn, InClass, FieldsIn, exponent_field, fraction_field, PatternIn, ExactlyOne}
use Rattle.doubles_spec.specs.declared.Class.{Class}
use Rattle.doubles_spec.specs.declared.Class.TheVariants.{Zero, Subnormal, Normal, Infinity, NotANumber}
use Rattle.doubles_spec.proofs.Patterns.{low_value, mid-value}

pub above : {n : ℕ} → (n ≡ 0 → ⊥) → 0 < n
above h = omega arith

pub not-zero : {n : ℕ} → 0 < n → n ≡ 0 → ⊥
not-zero p e = omega arith

pub none : (n c : ℕ) → 0 < c → n * c ≡ 0 → n ≡ 0
none zero c C h = refl
none (suc n) c C h = absurd (not-zero (mul-pos (zero-lt-suc n) C) h)

-- ---- by the value: the size a / b

abbrev size_class : ℕ → ℕ → Class
size_class a b = cond (eqb a 0) Zero (cond (ltb (a * 2 ^ 1022) b) Subnormal Normal)

size_in : (a b : ℕ) → SizeIn (size_class a b) a b
size_in a b = go (tested (eqb a 0)) (tested (ltb (a * 2 ^ 1022) b))
  where
    go : Tested (eqb a 0) → Tested (ltb (a * 2 ^ 1022) b) → SizeIn (size_class a b) a b
    go (holds z) t = rw z (eqb-true a 0 z)
    go (fails z) (holds l) = rw (z, l) (above (eqb-false a 0 z), ltb-true (a * 2 ^ 1022) b l)
    go (fails z) (fails l) = rw (z, l) (ltb-false (a * 2 ^ 1022) b l)

size_is : (a b : ℕ) → 0 < b → (d : Class) → SizeIn d a b → d ≡ size_class a b
size_is a b B Zero h = rw (eq-eqb a 0 h)
size_is a b B Subnormal h = rw (ne_eqb a 0 (not-zero h.0), lt-ltb (a * 2 ^ 1022) b h.1)
size_is a b B Normal h = rw (ne_eqb a 0 some, le-ltb (a * 2 ^ 1022) b h)
  where
    some : a ≡ 0 → ⊥
    some e = lt_irrefl 0 (lt_of_lt_of_le B (le_trans h (le_of_eq (ap (λ (n : ℕ). n * 2 ^ 1022) e ∙ zero-mul (2 ^ 1022)))))
size_is a b B Infinity h = absurd h
size_is a b B NotANumber h = absurd h

pub value-one : (x : Float) → ExactlyOne (λ c. InClass c x)
value-one (fin s m e) = (size_class (m * up e) (down e), (size_in (m * up e) (down e), size_is (m * up e) (down e) (down_pos e)))
value-one (inf s) = (Infinity, (refl, λ d h. h))
value-one nan = (NotANumber, (refl, λ d h. h))

-- the classes in their order; the first three are finite
abbrev pub place : Class → ℕ
place Zero = 0
place Subnormal = 1
place Normal = 2
place Infinity = 3
place NotANumber = 4

pub class-finite : (c : Class) (x : Float) → place c < 3 → InClass c x → IsFinite x
class-finite c (fin s m e) f h = tt
class-finite c (inf s) f h = absurd (omega (arith, ap place h))
class-finite c nan f h = absurd (omega (arith, ap place h))

-- ---- by the bit pattern: the fields x and t

abbrev fields_class : ℕ → ℕ → Class
fields_class x t = cond (eqb x 0) (cond (eqb t 0) Zero Subnormal) (cond (ltb x 2047) Normal (cond (eqb t 0) Infinity NotANumber))

fields_in : (x t : ℕ) → x ≤ 2047 → FieldsIn (fields_class x t) x t
fields_in x t l = go (tested (eqb x 0)) (tested (eqb t 0)) (tested (ltb x 2047))
  where
    go : Tested (eqb x 0) → Tested (eqb t 0) → Tested (ltb x 2047) → FieldsIn (fields_class x t) x t
    go (holds z) (holds n) b = rw (z, n) (eqb-true x 0 z, eqb-true t 0 n)
    go (holds z) (fails n) b = rw (z, n) (eqb-true x 0 z, above (eqb-false t 0 n))
    go (fails z) n (holds b) = rw (z, b) (above (eqb-false x 0 z), ltb-true x 2047 b)
    go (fails z) (holds n) (fails b) = rw (z, n, b) (omega (arith, ltb-false x 2047 b), eqb-true t 0 n)
    go (fails z) (fails n) (fails b) = rw (z, n, b) (omega (arith, ltb-false x 2047 b), above (eqb-false t 0 n))

fields-is : (x t : ℕ) (d : Class) → FieldsIn d x t → d ≡ fields_class x t
fields-is x t Zero h = rw (eq-eqb x 0 h.0, eq-eqb t 0 h.1)
fields-is x t Subnormal h = rw (eq-eqb x 0 h.0, ne_eqb t 0 (not-zero h.1))
fields-is x t Normal h = rw (ne_eqb x 0 (not-zero h.0), lt-ltb x 2047 h.1)
fields-is x t Infinity h = rw (h.0, eq-eqb t 0 h.1)
fields-is x t NotANumber h = rw (h.0, ne_eqb t 0 (not-zero h.1))

pub pattern-one : (bits : ℕ) → ExactlyOne (λ c. PatternIn c bits)
pattern-one bits =
    let x = exponent_field bits in
    let t = fraction_field bits in
    (fields_class x t, (fields_in x t (omega arith), fields-is x t))

-- ---- the class of a pattern is that of its value

-- a size of a * 2 ^ -1074, by a
abbrev UnitsIn : Class → ℕ → Type 0
UnitsIn Zero a = a ≡ 0
UnitsIn Subnormal a = (0 < a) × (a < 2 ^ 52)
UnitsIn Normal a = 2 ^ 52 ≤ a
UnitsIn Infinity a = ⊥
UnitsIn NotANumber a = ⊥

module _ (n d a : ℕ) (D : 0 < d) (e : n * 2 ^ 1074 ≡ a * d) where
  apart : n * 2 ^ 1022 * 2 ^ 52 ≡ a * d
  apart = mul_assoc n (2 ^ 1022) (2 ^ 52) ∙ e

  units-size : (c : Class) → UnitsIn c a → SizeIn c n d
  units-size Zero h = none n (2 ^ 1074) (pow_pos 1074) (e ∙ ap (λ (i : ℕ). i * d) h ∙ zero-mul d)
  units-size Subnormal h = (
    above (λ z. not-zero (mul-pos h.0 D) (sym e ∙ ap (λ (i : ℕ). i * 2 ^ 1074) z ∙ zero-mul (2 ^ 1074))),
    lt_of_mul-lt-mul_right (2 ^ 52) (lt_of_le_of_lt (le_of_eq apart) (lt_of_lt_of_le (mul-lt-mul_of_pos_right h.1 D) (le_of_eq (mul_comm (2 ^ 52) d)))),
  )
  units-size Normal h = le_of_mul-le-mul_right (le_trans (le_of_eq (mul_comm d (2 ^ 52))) (le_trans (mul-le-mul_right d h) (le_of_eq (sym apart)))) (pow_pos 52)
  units-size Infinity h = absurd h
  units-size NotANumber h = absurd h

value_in : (c : Class) (x : Float) (s : Bool) (a : ℕ) → HasValue x s a (2 ^ 1074) → UnitsIn c a → InClass c x
value_in c (fin t m e) s a v h = units-size (m * up e) (down e) a (down_pos e) v.1 c h
value_in c (inf t) s a v h = absurd v
value_in c nan s a v h = absurd v

-- the highest field
top-is : (s : Bool) (t : ℕ) → of_fields binary64 s 2047 t ≡ cond (eqb t 0) (inf s) nan
unfolding of_fields
top-is s t = refl

fields-class : (c : Class) (s : Bool) (x t : ℕ) → t < 2 ^ 52 → FieldsIn c x t → InClass c (of_fields binary64 s x t)
fields-class Zero s x t l h = rw h.0 (value_in Zero (of_fields binary64 s 0 t) s (t * 1) (low_value binary64 s t) (mul-one t ∙ h.1))
fields-class Subnormal s x t l h = rw h.0 (value_in Subnormal (of_fields binary64 s 0 t) s (t * 1) (low_value binary64 s t) (rw (mul-one t) (h.1, l)))
fields-class Normal s zero t l h = absurd (lt_irrefl 0 h.0)
fields-class Normal s (suc y) t l h =
    value_in Normal (of_fields binary64 s (suc y) t) s ((2 ^ 52 + t) * 2 ^ y) (mid-value binary64 s y t h.1)
    (le_trans (le-add_right (2 ^ 52) t) (le-mul_of_pos_right (2 ^ 52 + t) (pow_pos y)))
fields-class Infinity s x t l h = rw (h.0, top-is s t, eq-eqb t 0 h.1) refl
fields-class NotANumber s x t l h = rw (h.0, top-is s t, ne_eqb t 0 (not-zero h.1)) refl

-- of two predicates that hold of exactly one class, the first where the second does
one-both : {P Q : Class → Type 0} → ExactlyOne P → ExactlyOne Q → ((c : Class) → P c → Q c) → (c : Class) → P c ↔ Q c
one-both {P} p q f c = (f c, λ h. subst P (q.1.1 p.0 (f p.0 p.1.0) ∙ sym (q.1.1 c h)) p.1.0)

pub pattern-class : (bits : ℕ) (c : Class) → PatternIn c bits ↔ InClass c (of_bits binary64 bits)
unfolding of_bits
pattern-class bits = one-both (pattern-one bits) (value-one (of_bits binary64 bits)) (λ c. fields-class c (leb (2 ^ 63) bits) (exponent_field bits) (fraction_field bits) (omega arith))

-- the pattern of a double
pub double-class : (x : Float) → T (fits binary64 x) → (c : Class) → PatternIn c (to_bits binary64 x) ↔ InClass c x
double-class x h c = subst (λ (y : Float). PatternIn c (to_bits binary64 x) ↔ InClass c y) (of_bits-to_bits binary64 x h) (pattern-class (to_bits binary64 x) c)

-- ---- the tests of a program: on the pattern without its sign, of a double that is no NaN

module _ (bits : ℕ) where
  pub zero-tested : bits % 2 ^ 63 ≡ 0 → PatternIn Zero bits
  zero-tested h = (omega arith, omega arith)

  pub subnormal-tested : (bits % 2 ^ 63 ≡ 0 → ⊥) → bits % 2 ^ 63 < 2 ^ 52 → PatternIn Subnormal bits
  subnormal-tested z h = (omega arith, omega (arith, z))

  pub normal-tested : 2 ^ 52 ≤ bits % 2 ^ 63 → bits % 2 ^ 63 < 2047 * 2 ^ 52 → PatternIn Normal bits
  normal-tested l h = (omega arith, omega arith)

nan-only : (x : Float) → T (not (is_nan x)) → InClass NotANumber x → ⊥
unfolding is_nan
nan-only (fin s m e) n h = h
nan-only (inf s) n h = omega (arith, ap place h)
nan-only nan n h = n

pub infinity-tested : (x : Float) → T (fits binary64 x) → T (not (is_nan x)) → 2047 * 2 ^ 52 ≤ to_bits binary64 x % 2 ^ 63 → InClass Infinity x
infinity-tested x f n l = go (value-one x).0 (value-one x).1.0
  where
    go : (c : Class) → InClass c x → InClass Infinity x
    go Zero h = absurd (omega (arith, ((double-class x f Zero).1 h).0))
    go Subnormal h = absurd (omega (arith, ((double-class x f Subnormal).1 h).0))
    go Normal h = absurd (omega (arith, ((double-class x f Normal).1 h).1))
    go Infinity h = h
    go NotANumber h = absurd (nan-only x n h)
