-- Laws of text: pieces put one after another, the digits of a number and what they mean, and signed numbers by the code's test of their sign.
-- Assumes nothing.
use mathlib.Core.Path.{◌≡◌, refl, sym, ap, ap₂, ◌∙◌}
use mathlib.Core.Bool.{true, false, false≢true}
use mathlib.Core.List.{List, [], ◌∷◌, ◌++◌}
use Prim.Native.Nat.{ℕ, zero, suc, ◌+◌, ◌*◌, ◌-◌, ◌/◌, ◌%◌, ◌^◌, ◌≤◌, ◌<◌}
use native.Mathlib.Nat.{pow-suc}
use native.Mathlib.Numerals.{sub-one}
use native.Mathlib.Decide.{dec_lt}
use native.Mathlib.Omega.{arith}
use borrow.Author.Tests.{lt-ltb, le-ltb, ltb-true}
use lib.IntN.{ℤ, pos, negsuc, nat_abs}
use lib.ListN.{length, set, take, length-append, get_or-append}
use lib.Seq.{drop-drop, get_or-append_seam}
use lib.Signed.{lt_z}
use mir.Syntax.{w64}
use mir.Val.{SFits, to_z, of_z}
use mir.ValLaws.{to_z-of_z}
use borrow.Rule.Slice.PartMut.{put_mid}
use Rattle.numbers.specs.Lists.{at, written}
use Rattle.numbers.proofs.PartLaws.{written-empty, front-written, sets-written, written_on}
use Rattle.text.specs.Text.{digits_of, digits, number, signed_number, value_from, Digits, Decimal, Put}

-- ---- text in a list of bytes

-- one piece after another
pub then : {d d' d'' a b : List ℕ} {from end last : ℕ} → from ≤ length d → Put d d' from end a → Put d' d'' end last b → Put d d'' from last (a ++ b)
then {d} {d'} {d''} {a} {b} {from} {end} {last} h p q =
    record {
      next = omega (arith, length-append a b);
      bytes = q.bytes ∙ ap (λ l. written l end b) p.bytes ∙ written_on d a b from end h p.next;
    }

pub none : (d : List ℕ) (from : ℕ) → Put d d from from []
none d from = record { next = omega arith; bytes = written-empty d from [] refl }

pub byte : (d : List ℕ) (from v : ℕ) → from < length d → Put d (set d from v) from (from + 1) (v ∷ [])
byte d from v h = record { next = omega arith; bytes = sets-written (v ∷ []) d from (omega arith) }

-- a text that was put at the front is what stands there
pub front : {d d' text : List ℕ} {n : ℕ} → Put d d' 0 n text → take n d' ≡ text
front {d} {text = text} {n} p = ap (take n) p.bytes ∙ front-written d text n (omega arith)

-- a word copied over the part that begins at `from` and has its length
pub copied : (d word part : List ℕ) (from : ℕ) → from + length word ≤ length d → part ≡ word → Put d (put_mid from (from + length word - from) d part) from (from + length word) word
unfolding written
copied d word part from h e =
    let n : from + (from + length word - from) ≡ from + length word = omega arith in
    record { next = refl; bytes = rw (e, drop-drop, n) }

-- ---- digits as the code puts them

pub one-digit : (k n : ℕ) → 0 < k → n < 10 → digits_of k n ≡ (48 + n) ∷ []
unfolding digits_of
one-digit zero n h l = absurd (omega arith)
one-digit (suc k) n h l = rw (lt-ltb n 10 l)

pub more-digits : (k n : ℕ) → 0 < k → 10 ≤ n → digits_of k n ≡ digits_of (k - 1) (n / 10) ++ ((48 + n % 10) ∷ [])
unfolding digits_of
more-digits zero n h l = absurd (omega arith)
more-digits (suc k) n h l = rw (le-ltb n 10 l, sub-one)

-- the tenth of a number from ten on has a digit, and at most one fewer
pub tenth-some : (k n : ℕ) → 10 ≤ n → n < 10 ^ k → 0 < k - 1
tenth-some zero n l h = absurd (omega arith)
tenth-some (suc zero) n l h = absurd (omega arith)
tenth-some (suc (suc k)) n l h = omega arith

pub tenth-fits : (k n : ℕ) → 10 ≤ n → n < 10 ^ k → n / 10 < 10 ^ (k - 1)
tenth-fits zero n l h = absurd (omega arith)
tenth-fits (suc k) n l h = rw sub-one (let m : n < 10 ^ k * 10 = rw pow-suc at h in omega arith)

-- ---- how long they are

few : (k j n : ℕ) → 0 < k → n < 10 ^ k → length (digits_of j n) ≤ k
unfolding digits_of
few k zero n z h = omega arith
few k (suc j) n z h = go (λ l. few (k - 1) j (n / 10) (tenth-some k n l h) (tenth-fits k n l h)) (dec_lt n 10)
  where
    go : (10 ≤ n → length (digits_of j (n / 10)) ≤ k - 1) → Dec (n < 10) → length (digits_of (suc j) n) ≤ k
    go ih (yes l) = rw (lt-ltb n 10 l) (omega arith)
    go ih (no l) =
        let m : 10 ≤ n = omega arith in
        rw (le-ltb n 10 m) (omega (arith, ih m, tenth-some k n m h, length-append (digits_of j (n / 10)) ((48 + n % 10) ∷ [])))

pub number-few : (k n after : ℕ) → 0 < k → n < 10 ^ k → length (number n after) ≤ k + 1
number-few k n after z h = omega (arith, few k 20 n z h, length-append (digits n) (after ∷ []))

pub signed-few : (k : ℕ) (z : ℤ) (after : ℕ) → 0 < k → nat_abs z < 10 ^ k → length (signed_number z after) ≤ k + 2
unfolding signed_number
signed-few k (pos n) after h l = omega (arith, number-few k n after h l)
signed-few k (negsuc n) after h l = omega (arith, number-few k (suc n) after h l)

-- ---- what they mean

pub value-last : (ds : List ℕ) (x d : ℕ) → value_from x (ds ++ (d ∷ [])) ≡ 10 * value_from x ds + (d - 48)
unfolding value_from
value-last [] x d = refl
value-last (e ∷ ds) x d = value-last ds (10 * x + (e - 48)) d

digits_last : (ds : List ℕ) (d : ℕ) → Digits ds → 48 ≤ d → d ≤ 57 → Digits (ds ++ (d ∷ []))
digits_last ds d h a b i l = go (dec_lt i (length ds))
  where
    go : Dec (i < length ds) → (48 ≤ at (ds ++ (d ∷ [])) i) × (at (ds ++ (d ∷ [])) i ≤ 57)
    go (yes m) = rw (get_or-append ds (d ∷ []) 0 i m) (h i m)
    go (no m) = let e : i ≡ length ds = omega (arith, length-append ds (d ∷ [])) in rw (e, get_or-append_seam ds d [] 0) (a, b)

-- a number that is not 0 has no leading zero
leading : (n : ℕ) (ds : List ℕ) → 0 < n → Decimal n ds → at ds 0 ≡ 48 → ⊥
unfolding value_from
leading n [] z p e = omega (arith, p.some)
leading n (d ∷ []) z p e = omega (arith, p.value)
leading n (d ∷ d' ∷ ds) z p e = omega (arith, p.shortest e)

decimal-one : (n : ℕ) → n < 10 → Decimal n ((48 + n) ∷ [])
unfolding value_from
decimal-one n h =
    record {
      some = omega arith;
      digit = first;
      value = omega arith;
      shortest = λ e. refl;
    }
  where
    first : Digits ((48 + n) ∷ [])
    first zero l = omega arith
    first (suc i) l = absurd (omega arith)

decimal-last : (n : ℕ) (ds : List ℕ) → 10 ≤ n → Decimal (n / 10) ds → Decimal n (ds ++ ((48 + n % 10) ∷ []))
decimal-last n ds h p =
    let l = length-append ds ((48 + n % 10) ∷ []) in
    record {
      some = omega (arith, l);
      digit = digits_last ds (48 + n % 10) p.digit (omega arith) (omega arith);
      value = value-last ds 0 (48 + n % 10) ∙ omega (arith, p.value);
      shortest = λ e. absurd (leading (n / 10) ds (omega arith) p (sym (get_or-append ds ((48 + n % 10) ∷ []) 0 0 p.some) ∙ e));
    }

-- the digits of a number that has at most k are its decimal form
decimal-of : (k n : ℕ) → 0 < k → n < 10 ^ k → Decimal n (digits_of k n)
unfolding digits_of
decimal-of zero n z h = absurd (omega arith)
decimal-of (suc k) n z h = go (λ l. decimal-of k (n / 10) (rw sub-one at (tenth-some (suc k) n l h)) (rw sub-one at (tenth-fits (suc k) n l h))) (dec_lt n 10)
  where
    go : (10 ≤ n → Decimal (n / 10) (digits_of k (n / 10))) → Dec (n < 10) → Decimal n (digits_of (suc k) n)
    go ih (yes l) = rw (lt-ltb n 10 l) (decimal-one n l)
    go ih (no l) = let m : 10 ≤ n = omega arith in rw (le-ltb n 10 m) (decimal-last n (digits_of k (n / 10)) m (ih m))

pub decimal : (n : ℕ) → n < 10 ^ 20 → Decimal n (digits n)
decimal n h = decimal-of 20 n (omega arith) h

-- ---- a number has one decimal form

-- as many digits with the same value are the same
same_digits : (ds es : List ℕ) (x y : ℕ) → length ds ≡ length es → Digits ds → Digits es → value_from x ds ≡ value_from y es → (x ≡ y) × (ds ≡ es)
unfolding value_from
same_digits [] [] x y l h j e = (e, refl)
same_digits [] (d ∷ es) x y l h j e = absurd (omega arith)
same_digits (d ∷ ds) [] x y l h j e = absurd (omega arith)
same_digits (d ∷ ds) (d' ∷ es) x y l h j e =
    let r = same_digits ds es (10 * x + (d - 48)) (10 * y + (d' - 48)) (omega arith) (λ i m. h (suc i) (omega arith)) (λ i m. j (suc i) (omega arith)) e in
    let s : d ≡ d' = omega (arith, r.0, h 0 (omega arith), j 0 (omega arith)) in
    (omega (arith, r.0, h 0 (omega arith), j 0 (omega arith)), ap₂ (λ a b. a ∷ b) s r.1)

-- zeros before the digits
abbrev zeros : ℕ → List ℕ → List ℕ
zeros zero ds = ds
zeros (suc k) ds = 48 ∷ zeros k ds

length-zeros : (k : ℕ) (ds : List ℕ) → length (zeros k ds) ≡ k + length ds
length-zeros zero ds = omega arith
length-zeros (suc k) ds = omega (arith, length-zeros k ds)

value-zeros : (k : ℕ) (ds : List ℕ) → value_from 0 (zeros k ds) ≡ value_from 0 ds
unfolding value_from
value-zeros zero ds = refl
value-zeros (suc k) ds = value-zeros k ds

digits-zeros : (k : ℕ) (ds : List ℕ) → Digits ds → Digits (zeros k ds)
digits-zeros zero ds h i l = h i l
digits-zeros (suc k) ds h zero l = omega arith
digits-zeros (suc k) ds h (suc i) l = digits-zeros k ds h i (omega arith)

-- so of two decimal forms none is longer
no_longer : (n : ℕ) (ds es : List ℕ) → Decimal n ds → Decimal n es → length ds < length es → ⊥
no_longer n ds es p q l = go (length es - suc (length ds)) (omega arith)
  where
    go : (k : ℕ) → length es ≡ suc k + length ds → ⊥
    go k e =
        let r = same_digits (zeros (suc k) ds) es 0 0 (length-zeros (suc k) ds ∙ sym e) (digits-zeros (suc k) ds p.digit) q.digit (value-zeros (suc k) ds ∙ p.value ∙ sym q.value) in
        omega (arith, p.some, q.shortest (sym (ap (λ l. at l 0) r.1)))

pub digits-unique : (n : ℕ) (ds es : List ℕ) → Decimal n ds → Decimal n es → ds ≡ es
digits-unique n ds es p q = (same_digits ds es 0 0 (go (dec_lt (length ds) (length es)) (dec_lt (length es) (length ds))) p.digit q.digit (p.value ∙ sym q.value)).1
  where
    go : Dec (length ds < length es) → Dec (length es < length ds) → length ds ≡ length es
    go (yes a) b = absurd (no_longer n ds es p q a)
    go (no a) (yes b) = absurd (no_longer n es ds q p b)
    go (no a) (no b) = omega arith

-- ---- signed numbers, by the code's test of the sign and the size that it computes

abbrev back : ℤ → ℤ
back z = to_z w64 (of_z w64 z)

pub below-zero : (z : ℤ) (n after : ℕ) → SFits w64 z → lt_z (back z) (pos 0) ≡ true → n ≡ nat_abs (back z) → (45 ∷ []) ++ number n after ≡ signed_number z after
unfolding signed_number
below-zero (pos m) n after f h e = absurd (omega (arith, ltb-true m 0 (rw (to_z-of_z w64 (pos m) f) at h)))
below-zero (negsuc m) n after f h e = rw (e, to_z-of_z w64 (negsuc m) f)

pub from_zero : (z : ℤ) (n after : ℕ) → SFits w64 z → lt_z (back z) (pos 0) ≡ false → n ≡ nat_abs (back z) → number n after ≡ signed_number z after
unfolding signed_number
from_zero (pos m) n after f h e = rw (e, to_z-of_z w64 (pos m) f)
from_zero (negsuc m) n after f h e = absurd (false≢true (sym (rw (to_z-of_z w64 (negsuc m) f) at h)))
