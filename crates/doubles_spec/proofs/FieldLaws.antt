-- The three roundings, each from what `product` gives: the sign, the whole part cut at 2 ^ 52, and what is left. Assumes nothing.
use Rattle.std.specs.Prelude.{Option, Some, None, Ok, Err}
use mathlib.Core.Path.{◌≡◌, refl, sym, ap, ◌∙◌, subst}
use mathlib.Core.Bool.{Bool, true, false, cond}
use Prim.Native.Nat.{ℕ, zero, suc, ◌+◌, ◌-◌, ◌*◌, ◌/◌, ◌%◌, ◌^◌, ◌≤◌, ◌<◌, min, compare, Ordering}
use mir.Syntax.{w32}
use mir.Val.{SFits, to_z, of_z}
use mir.ValLaws.{to_z_pos, to_z-of_z}
use native.Mathlib.Nat.{add-zero, zero-mul, mul-div_cancel, mul-mod_left, mul-pos, zero-lt-suc, div-add-mod', min-eq_left, le_of_lt, zero-add}
use native.Mathlib.Numerals.{add-one}
use native.Mathlib.Omega.{arith}
use lib.IntN.{ℤ, pos, negsuc, ◌-ℤ◌}
use lib.Dec.{T, leb, ltb, eqb, eqb→eq}
use lib.Pow.{pow_pos}
use lib.Ieee.{Float, nan, inf, fin, up, down, nearest}
use lib.Ieee.Fits.{up_pos, down_pos}
use lib.Ieee.Nearest.{closest}
use borrow.Author.Tests.{ltb-true, ltb-false, leb-true, lt-ltb, le-ltb, ne_eqb}
use Rattle.numbers.specs.Roundings.{ceiling, signed, round_up, round_down, round_nearest}
use Rattle.doubles_spec.specs.Forms.{Field, rest_at, rest_of, added_away, added_nearest, fraction, product, field_by, low_field, high_field, target_field, in_bound, in_target}
use Rattle.doubles_spec.specs.declared.Rest.{Rest}
use Rattle.doubles_spec.specs.declared.Rest.TheVariants.{Nothing, LessThanHalf, Half, MoreThanHalf}
use Rattle.doubles_spec.specs.declared.Product.{Product}
use Rattle.doubles_spec.specs.declared.FieldFault.TheVariants.{NotFinite, OutOfRange}
use Rattle.numbers.proofs.TestLaws.{Tested, holds, fails, tested, compare-is}
use Rattle.doubles_spec.proofs.Patterns.{zero-sign, other_sign}

-- ---- the roundings of a product
abbrev pub low_from : Option Product → Field ℕ
low_from (Some p) = cond p.negative (cond (eqb p.whole 0) (Ok 0) (Err OutOfRange)) (cond (leb (2 ^ 31) p.whole) (Err OutOfRange) (in_bound (pos (p.whole + added_away p.rest))))
low_from None = Err NotFinite

abbrev pub high_from : Option Product → Field ℕ
high_from (Some p) = cond p.negative (Err OutOfRange) (in_bound (pos p.whole))
high_from None = Err NotFinite

abbrev pub target_from : Option Product → Field ℤ
target_from (Some p) = cond (leb (2 ^ 32) p.whole) (Err OutOfRange) (in_target (signed p.negative (p.whole + added_nearest p.whole p.rest)))
target_from None = Err NotFinite

-- what a rounding adds is at most 1
pub away-le : (r : Rest) → added_away r ≤ 1
away-le Nothing = omega arith
away-le LessThanHalf = omega arith
away-le Half = omega arith
away-le MoreThanHalf = omega arith

pub nearest_le : (w : ℕ) (r : Rest) → added_nearest w r ≤ 1
unfolding added_nearest
nearest_le w Nothing = omega arith
nearest_le w LessThanHalf = omega arith
nearest_le w Half = omega arith
nearest_le w MoreThanHalf = omega arith

-- ---- the ranges: below 2 ^ 31, or not
module _ {F : Type 0} (n : ℕ) (units bad : F) where
  pub in-range : n < 2 ^ 31 → cond (ltb n (2 ^ 31)) units bad ≡ units
  in-range h = ap (λ (b : Bool). cond b units bad) (lt-ltb n (2 ^ 31) h)

  pub out_of_range : 2 ^ 31 ≤ n → cond (ltb n (2 ^ 31)) units bad ≡ bad
  out_of_range h = ap (λ (b : Bool). cond b units bad) (le-ltb n (2 ^ 31) h)

-- a target of a size above 2 ^ 31 is out of range, whatever its sign
far-out : (s : Bool) (n : ℕ) → 2 ^ 31 < n → in_target (signed s n) ≡ Err OutOfRange
far-out false n h = out_of_range n (Ok (pos n)) (Err OutOfRange) (omega arith)
far-out true zero h = absurd (omega arith)
far-out true (suc n) h = out_of_range n (Ok (negsuc n)) (Err OutOfRange) (omega arith)

-- ---- what is bad from a limit on: the whole part may be cut above the limit, and tested against it first
module _ {F : Type 0} (f : ℕ → F) (bad : F) (limit : ℕ) (past : (q : ℕ) → limit ≤ q → f q ≡ bad) where
  cut : limit ≤ 2 ^ 52 → (q : ℕ) → f q ≡ f (min q (2 ^ 52))
  cut l q = go (tested (ltb q (2 ^ 52)))
    where
      go : Tested (ltb q (2 ^ 52)) → f q ≡ f (min q (2 ^ 52))
      go (holds h) = ap f (sym (min-eq_left (le_of_lt (ltb-true q (2 ^ 52) h))))
      go (fails h) =
          let a : 2 ^ 52 ≤ q = ltb-false q (2 ^ 52) h in
          past q (omega arith) ∙ sym (past (min q (2 ^ 52)) (omega arith))

  tested-first : (q : ℕ) → f q ≡ cond (leb limit q) bad (f q)
  tested-first q = go (tested (leb limit q))
    where
      go : Tested (leb limit q) → f q ≡ cond (leb limit q) bad (f q)
      go (holds h) = rw h (past q (leb-true limit q h))
      go (fails h) = rw h

-- ---- each rounding leaves a whole number as it is
abbrev pub KeepsWhole : (Bool → ℕ → ℕ → ℤ) → Type 0
KeepsWhole rounding = (s : Bool) (n b : ℕ) → 0 < b → rounding s (n * b) b ≡ signed s n

closest-whole : (n b : ℕ) → 0 < b → closest (n * b) b ≡ n
closest-whole n b B =
    ap (λ (r : ℕ). nearest (n * b / b) (compare (r * 2) b)) (mul-mod_left n b)
    ∙ ap (λ (o : Ordering). nearest (n * b / b) o) (compare-is Ordering.lt 0 b B)
    ∙ mul-div_cancel n B

ceiling-whole : (n b : ℕ) → 0 < b → ceiling (n * b) b ≡ n
ceiling-whole n b B = ap (λ (r : ℕ). n * b / b + cond (eqb r 0) 0 1) (mul-mod_left n b) ∙ add-zero (n * b / b) ∙ mul-div_cancel n B

pub nearest-whole : KeepsWhole round_nearest
nearest-whole s n b B = ap (signed s) (closest-whole n b B)

pub up-whole : KeepsWhole round_up
up-whole false n b B = ap pos (ceiling-whole n b B)
up-whole true n b B = ap (signed true) (mul-div_cancel n B)

pub down-whole : KeepsWhole round_down
down-whole false n b B = ap pos (mul-div_cancel n B)
down-whole true n b B = ap (signed true) (ceiling-whole n b B)

-- zero is rounded to 0, whatever its sign
pub no_sign : (s : Bool) → signed s 0 ≡ pos 0
no_sign true = refl
no_sign false = refl

pub zero-whole : (rounding : Bool → ℕ → ℕ → ℤ) → KeepsWhole rounding → (s : Bool) (b : ℕ) → 0 < b → rounding s 0 b ≡ pos 0
zero-whole rounding whole s b B = ap (λ (a : ℕ). rounding s a b) (sym (zero-mul b)) ∙ whole s 0 b B ∙ no_sign s

-- ---- a field by its product, if its rounding is what `from` says of a fraction that is not minus zero
module _ {F : Type 0} (in_range : ℤ → Field F) (rounding : Bool → ℕ → ℕ → ℤ) (from : Option Product → Field F) (none-refused : from None ≡ Err NotFinite) (whole : KeepsWhole rounding) (rounds : (s : Bool) (a b : ℕ) → (T s → 0 < a) → 0 < b → in_range (rounding s a b) ≡ from (fraction s a b)) where
  by_product : (k : ℕ) (x : Float) → field_by in_range rounding k x ≡ from (product k x)
  by_product k nan = sym none-refused
  by_product k (inf s) = sym none-refused
  by_product k (fin s zero e) =
      let b = down e in
      let none : 0 * up e * 2 ^ k ≡ 0 = ap (λ (n : ℕ). n * 2 ^ k) (zero-mul (up e)) ∙ zero-mul (2 ^ k) in
      rw (none, zero-sign s e) (ap in_range (zero-whole rounding whole s b (down_pos e) ∙ sym (zero-whole rounding whole false b (down_pos e))) ∙ rounds false 0 b (λ t. absurd t) (down_pos e))
  by_product k (fin s (suc m) e) =
      let a = suc m * up e * 2 ^ k in
      rounds s a (down e) (λ t. mul-pos (mul-pos (zero-lt-suc m) (up_pos e)) (pow_pos k)) (down_pos e)
      ∙ ap (λ (t : Bool). from (fraction t a (down e))) (sym (other_sign s (suc m) e (zero-lt-suc m)))

-- ---- the bounds
past_bound : (q : ℕ) → 2 ^ 31 ≤ q → in_bound (pos q) ≡ Err OutOfRange
past_bound q h = out_of_range q (Ok q) (Err OutOfRange) h

-- below 0 a bound is out of range
minus-bound : (q : ℕ) → in_bound (signed true q) ≡ cond (eqb (min q (2 ^ 52)) 0) (Ok 0) (Err OutOfRange)
minus-bound zero = refl
minus-bound (suc n) = sym (ap (λ (b : Bool). cond b (Ok 0) (Err OutOfRange)) (ne_eqb (min (suc n) (2 ^ 52)) 0 (λ e. omega arith)))

-- what rounding away from zero adds to the whole part, by the remainder and by what is left
added : (a b : ℕ) → cond (eqb (a % b) 0) 0 1 ≡ added_away (rest_of a b)
added a b = go (eqb (a % b) 0) (compare (a % b * 2) b)
  where
    go : (t : Bool) (o : Ordering) → cond t 0 1 ≡ added_away (rest_at t o)
    go true o = refl
    go false Ordering.lt = refl
    go false Ordering.eq = refl
    go false Ordering.gt = refl

-- low: up
low-fraction : (s : Bool) (a b : ℕ) → (T s → 0 < a) → 0 < b → in_bound (round_up s a b) ≡ low_from (fraction s a b)
low-fraction true a b A B = minus-bound (a / b)
low-fraction false a b A B =
    let d = added_away (rest_of a b) in
    let f : ℕ → Field ℕ = λ q. in_bound (pos (q + d)) in
    let past : (q : ℕ) → 2 ^ 31 ≤ q → f q ≡ Err OutOfRange = λ q l. past_bound (q + d) (omega arith) in
    ap (λ (z : ℕ). in_bound (pos (a / b + z))) (added a b)
    ∙ cut f (Err OutOfRange) (2 ^ 31) past (omega arith) (a / b)
    ∙ tested-first f (Err OutOfRange) (2 ^ 31) past (min (a / b) (2 ^ 52))

pub low_product : (k : ℕ) (x : Float) → low_field k x ≡ low_from (product k x)
low_product = by_product in_bound round_up low_from refl up-whole low-fraction

-- high: down
ceiling-pos : (a b : ℕ) → 0 < a → 0 < b → 0 < ceiling a b
ceiling-pos a b A B = go (a / b) (eqb (a % b) 0) (λ t. eqb→eq (a % b) 0 t) (div-add-mod' a b)
  where
    go : (q : ℕ) (t : Bool) → (T t → a % b ≡ 0) → q * b + a % b ≡ a → 0 < q + cond t 0 1
    go zero true n e = absurd (omega (arith, n tt, zero-mul b))
    go (suc q) true n e = omega arith
    go q false n e = omega arith

high-fraction : (s : Bool) (a b : ℕ) → (T s → 0 < a) → 0 < b → in_bound (round_down s a b) ≡ high_from (fraction s a b)
high-fraction true a b A B = below (ceiling a b) (ceiling-pos a b (A tt) B)
  where
    below : (n : ℕ) → 0 < n → in_bound (signed true n) ≡ Err OutOfRange
    below zero h = absurd (omega arith)
    below (suc n) h = refl
high-fraction false a b A B = cut (λ q. in_bound (pos q)) (Err OutOfRange) (2 ^ 31) past_bound (omega arith) (a / b)

pub high_product : (k : ℕ) (x : Float) → high_field k x ≡ high_from (product k x)
high_product = by_product in_bound round_down high_from refl down-whole high-fraction

-- ---- the target: to nearest

-- a whole part of which nothing is left compares as less
near-is : (q : ℕ) (t : Bool) (o : Ordering) → (T t → o ≡ Ordering.lt) → nearest q o ≡ q + added_nearest q (rest_at t o)
unfolding added_nearest
near-is q true o h = ap (nearest q) (h tt) ∙ sym (add-zero q)
near-is q false Ordering.lt h = sym (add-zero q)
near-is q false Ordering.eq h = refl
near-is q false Ordering.gt h = sym (add-one q)

pub closest-is : (a b : ℕ) → 0 < b → closest a b ≡ a / b + added_nearest (a / b) (rest_of a b)
closest-is a b B = near-is (a / b) (eqb (a % b) 0) (compare (a % b * 2) b) none
  where
    none : T (eqb (a % b) 0) → compare (a % b * 2) b ≡ Ordering.lt
    none t = ap (λ (r : ℕ). compare (r * 2) b) (eqb→eq (a % b) 0 t) ∙ compare-is Ordering.lt 0 b B

target-fraction : (s : Bool) (a b : ℕ) → (T s → 0 < a) → 0 < b → in_target (round_nearest s a b) ≡ target_from (fraction s a b)
target-fraction s a b A B =
    let f : ℕ → Field ℤ = λ q. in_target (signed s (q + added_nearest q (rest_of a b))) in
    let past : (q : ℕ) → 2 ^ 32 ≤ q → f q ≡ Err OutOfRange = λ q l. far-out s (q + added_nearest q (rest_of a b)) (omega arith) in
    ap (λ (q : ℕ). in_target (signed s q)) (closest-is a b B)
    ∙ cut f (Err OutOfRange) (2 ^ 32) past (omega arith) (a / b)
    ∙ tested-first f (Err OutOfRange) (2 ^ 32) past (min (a / b) (2 ^ 52))

pub target_product : (k : ℕ) (x : Float) → target_field k x ≡ target_from (product k x)
target_product = by_product in_target round_nearest target_from refl nearest-whole target-fraction

-- ---- -1 - (q - 1) in an i32
minus-one-less : (n : ℕ) → negsuc 0 -ℤ pos n ≡ negsuc n
minus-one-less zero = refl
minus-one-less (suc n) = ap (λ (z : ℕ). negsuc (suc z)) (zero-add n)

minus-size : (n : ℕ) → n < 2 ^ 31 → negsuc 0 -ℤ to_z w32 n ≡ negsuc n
minus-size n h = ap (λ (z : ℤ). negsuc 0 -ℤ z) (to_z_pos w32 n h) ∙ minus-one-less n

pub minus-fits : (n : ℕ) → n < 2 ^ 31 → SFits w32 (negsuc 0 -ℤ to_z w32 n)
minus-fits n h = subst (λ (z : ℤ). SFits w32 z) (sym (minus-size n h)) (record { sfits = h })

pub minus-back : (n : ℕ) → n < 2 ^ 31 → to_z w32 (of_z w32 (negsuc 0 -ℤ to_z w32 n)) ≡ negsuc n
minus-back n h = to_z-of_z w32 (negsuc 0 -ℤ to_z w32 n) (minus-fits n h) ∙ minus-size n h

-- a size above 0 with the sign minus
pub minus-signed : (q : ℕ) → (q ≡ 0 → ⊥) → signed true q ≡ negsuc (q - 1)
minus-signed zero h = absurd (h refl)
minus-signed (suc n) h = ap negsuc (one-off n)
  where
    one-off : (n : ℕ) → n ≡ suc n - 1
    one-off n = omega arith
