-- An argument's number: digits are read back, anything else counts as too large, and how code may add digits up without passing the limit.
-- Assumes nothing.
use mathlib.Core.Path.{◌≡◌, refl, sym, ◌∙◌, ap}
use mathlib.Core.Logic.{◌⊎◌, inl, inr, ◌↔◌}
use mathlib.Core.Bool.{true}
use mathlib.Core.List.{List, [], ◌∷◌}
use Prim.Native.Nat.{ℕ, zero, suc, ◌+◌, ◌*◌, ◌-◌, ◌≤◌, ◌<◌, min}
use native.Mathlib.Omega.{arith}
use lib.ListN.{length, take}
use lib.Seq.{take-suc, take_all}
use native.Mathlib.Decide.{ℕ_discrete}
use Rattle.numbers.specs.Lists.{at}
use Rattle.numbers.proofs.TestLaws.{Tested, holds, fails, tested, clash, not_so, and-means, and_intro, le-means}
use Rattle.text.specs.Text.{digits, value_from, Digits}
use Rattle.text.proofs.TextLaws.{value-last, decimal}
use Rattle.arguments.specs.Argument.{too_large, is_digit, all_digits, in_digits, argument, InDigits}

-- ---- the test, in plain facts

digit-means : (d : ℕ) → (is_digit d ≡ true) ↔ ((48 ≤ d) × (d ≤ 57))
digit-means d = and-means (le-means 48 d) (le-means d 57)

all-means : (ds : List ℕ) → (all_digits ds ≡ true) ↔ Digits ds
unfolding all_digits
all-means [] = (λ e i l. absurd (omega arith), λ h. refl)
all-means (d ∷ ds) = (λ e. to ((and-means (digit-means d) (all-means ds)).0 e), λ h. and_intro ((digit-means d).1 (h 0 (omega arith))) ((all-means ds).1 (λ i l. h (suc i) (omega arith))))
  where
    to : ((48 ≤ d) × (d ≤ 57)) × Digits ds → Digits (d ∷ ds)
    to h zero l = h.0
    to h (suc i) l = h.1 i (omega arith)

pub in-digits-means : (ds : List ℕ) → (in_digits ds ≡ true) ↔ InDigits ds
in-digits-means [] = (λ e. absurd (clash e refl), λ h. absurd (omega (arith, h.some)))
in-digits-means (d ∷ ds) = (λ e. record { some = omega arith; digits = (all-means (d ∷ ds)).0 e }, λ h. (all-means (d ∷ ds)).1 h.digits)

-- ---- what is read

-- decimal digits give their value, up to the limit
pub argument-value : (ds : List ℕ) → InDigits ds → argument ds ≡ min (value_from 0 ds) too_large
unfolding argument
argument-value ds h = rw ((in-digits-means ds).1 h)

-- no byte, or one that is no digit, counts as too large
pub argument-other : (ds : List ℕ) → (InDigits ds → ⊥) → argument ds ≡ too_large
unfolding argument
argument-other ds h = rw (not_so (in_digits ds) (λ e. h ((in-digits-means ds).0 e)))

pub argument-missing : argument [] ≡ too_large
argument-missing = argument-other [] (λ h. omega (arith, h.some))

pub argument-strange : (ds : List ℕ) (i : ℕ) → i < length ds → (at ds i < 48) ⊎ (57 < at ds i) → argument ds ≡ too_large
argument-strange ds i l (inl h) = argument-other ds (λ p. omega (arith, p.digits i l))
argument-strange ds i l (inr h) = argument-other ds (λ p. omega (arith, p.digits i l))

-- a number's decimal form is read back
pub argument-digits : (n : ℕ) → n ≤ too_large → argument (digits n) ≡ n
argument-digits n h =
    let d = decimal n (omega arith) in
    argument-value (digits n) (record { some = d.some; digits = d.digit }) ∙ ap (λ x. min x too_large) d.value ∙ omega arith

-- leading zeros are digits
pub argument-zero : (d : ℕ) (ds : List ℕ) → argument (48 ∷ d ∷ ds) ≡ argument (d ∷ ds)
unfolding argument all_digits value_from
argument-zero d ds = refl

-- below a number that a tool has a use for lies exactly what is in digits and has a value below it
pub argument-below : (ds : List ℕ) (k : ℕ) → k ≤ too_large → (argument ds < k) ↔ (InDigits ds × (value_from 0 ds < k))
argument-below ds k h = (λ l. to l (tested (in_digits ds)), λ p. omega (arith, argument-value ds p.0, p.1))
  where
    to : argument ds < k → Tested (in_digits ds) → InDigits ds × (value_from 0 ds < k)
    to l (holds e) = let p = (in-digits-means ds).0 e in (p, omega (arith, argument-value ds p))
    to l (fails e) = absurd (omega (arith, argument-other ds (λ p. clash ((in-digits-means ds).1 p) e)))

-- ---- for code: the value of the first digits, held down to the limit, goes on by one digit

held_next :
    (ds : List ℕ) (i v : ℕ) → i < length ds → v ≡ min (value_from 0 (take i ds)) too_large
    → min (10 * v + (at ds i - 48)) too_large ≡ min (value_from 0 (take (suc i) ds)) too_large
held_next ds i v l e =
    let f : value_from 0 (take (suc i) ds) ≡ 10 * value_from 0 (take i ds) + (at ds i - 48) = ap (value_from 0) (take-suc ds i 0 l) ∙ value-last (take i ds) 0 (at ds i) in
    step (value_from 0 (take i ds)) v (at ds i - 48) (value_from 0 (take (suc i) ds)) e f
  where
    step : (x v d y : ℕ) → v ≡ min x too_large → y ≡ 10 * x + d → min (10 * v + d) too_large ≡ min y too_large
    step x v d y e f = omega arith

-- the first i bytes are digits, and this is their value, held down to the limit
pub record ReadTo (ds : List ℕ) (i v : ℕ) : Type 0 where
  pub within : i ≤ length ds
  pub value : v ≡ min (value_from 0 (take i ds)) too_large
  pub digit : (j : ℕ) → j < i → (48 ≤ at ds j) × (at ds j ≤ 57)

pub read-start : (ds : List ℕ) → ReadTo ds 0 0
unfolding value_from
read-start ds = record { within = omega arith; value = refl; digit = λ j l. absurd (omega arith) }

pub read-turn : (ds : List ℕ) (i v d r : ℕ) → ReadTo ds i v → i < length ds → d ≡ at ds i → 48 ≤ d → d ≤ 57 → r ≡ min (10 * v + (d - 48)) too_large → ReadTo ds (i + 1) r
read-turn ds i v d r p l e h k f =
    record {
      within = omega arith;
      value = f ∙ ap (λ x. min (10 * v + (x - 48)) too_large) e ∙ held_next ds i v l p.value ∙ ap (λ j. min (value_from 0 (take j ds)) too_large) next;
      digit = λ j m. go j (ℕ_discrete j i) m;
    }
  where
    next : suc i ≡ i + 1
    next = omega arith

    go : (j : ℕ) → Dec (j ≡ i) → j < i + 1 → (48 ≤ at ds j) × (at ds j ≤ 57)
    go j (yes q) m = rw q (omega (arith, e, h), omega (arith, e, k))
    go j (no q) m = p.digit j (omega arith)

pub read-end : (ds : List ℕ) (i v : ℕ) → ReadTo ds i v → length ds ≤ i → 0 < length ds → v ≡ argument ds
read-end ds i v p h k =
    p.value
    ∙ ap (λ l. min (value_from 0 l) too_large) (take_all i ds h)
    ∙ sym (argument-value ds (record { some = k; digits = λ j l. p.digit j (omega (arith, p.within)) }))
