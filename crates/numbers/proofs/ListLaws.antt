-- Laws of lists by index and of written parts, for elements of any type. Assumes nothing.
use mathlib.Core.Path.{◌≡◌, refl, sym, ◌∙◌, ap}
use mathlib.Core.List.{List, [], ◌∷◌, ◌++◌, append_assoc, append-nil}
use Prim.Native.Nat.{ℕ, zero, suc, ◌+◌, ◌≤◌, ◌<◌}
use native.Mathlib.Nat.{zero-add}
use native.Mathlib.Numerals.{add-one}
use native.Mathlib.Omega.{arith}
use native.Mathlib.Decide.{ℕ_discrete}
use lib.ListN.{length, get_or, take, drop, set, length-append, drop_of_length-le, get_or-append}
use lib.Seq.{get_or-append_seam, length-take-le, drop-cons, set_at}
use Rattle.numbers.specs.Lists.{list_to, written}
use Rattle.numbers.proofs.PartLaws.{written-empty, length-kept}

pub length-list_to {ℓ} : {X : Type ℓ} (k : ℕ) (f : ℕ → X) → length (list_to k f) ≡ k
unfolding list_to
length-list_to zero f = refl
length-list_to (suc k) f = length-append (list_to k f) (f k ∷ []) ∙ omega (arith, length-list_to k f)

at_last {ℓ} : {X : Type ℓ} (xs : List X) (x d : X) (c : ℕ) → c ≡ length xs → get_or (xs ++ (x ∷ [])) c d ≡ x
at_last xs x d c e = rw e (get_or-append_seam xs x [] d)

pub get_d-list_to {ℓ} : {X : Type ℓ} (k : ℕ) (f : ℕ → X) (c : ℕ) (d : X) → c < k → get_or (list_to k f) c d ≡ f c
unfolding list_to
get_d-list_to zero f c d l = absurd (omega arith)
get_d-list_to (suc k) f c d l = go (ℕ_discrete c k) (λ l'. get_d-list_to k f c d l')
  where
    go : Dec (c ≡ k) → (c < k → get_or (list_to k f) c d ≡ f c) → get_or (list_to k f ++ (f k ∷ [])) c d ≡ f c
    go (yes e) r = at_last (list_to k f) (f k) d c (e ∙ sym (length-list_to k f)) ∙ ap f (sym e)
    go (no e) r = get_or-append (list_to k f) (f k ∷ []) d c (omega (arith, length-list_to k f)) ∙ r (omega arith)

pub list_to-ext {ℓ} : {X : Type ℓ} (k : ℕ) (f g : ℕ → X) → ((i : ℕ) → i < k → f i ≡ g i) → list_to k f ≡ list_to k g
unfolding list_to
list_to-ext zero f g h = refl
list_to-ext (suc k) f g h = rw (list_to-ext k f g (λ i l. h i (omega arith)), h k (omega arith))

-- ---- written parts

module _ {ℓ} {X : Type ℓ} (l : List X) (from : ℕ) (f : ℕ → X) where
  -- none of it is written
  pub written_none : l ≡ written l from (list_to 0 f)
  written_none = written-empty l from (list_to 0 f) (length-list_to 0 f)

  pub length-written : (n : ℕ) → from + n ≤ length l → length (written l from (list_to n f)) ≡ length l
  length-written n h = length-kept l from (list_to n f) (omega (arith, length-list_to n f))

  -- one element more is written
  pub written_next : (n : ℕ) → from + n < length l → set (written l from (list_to n f)) (from + n) (f n) ≡ written l from (list_to (n + 1) f)
  unfolding written list_to
  written_next n h =
      let y : X = get_or l (from + n) (f n) in
      let r : List X = drop (suc (from + n)) l in
      let p : List X = take from l ++ list_to n f in
      let len : length p ≡ from + n = length-append (take from l) (list_to n f) ∙ omega (arith, length-take-le from l (omega arith), length-list_to n f) in
      let one : length (list_to n f ++ (f n ∷ [])) ≡ suc n = length-append (list_to n f) (f n ∷ []) ∙ omega (arith, length-list_to n f) in
      let e : from + suc n ≡ suc (from + n) = omega arith in
      ap (λ (k : ℕ). set (take from l ++ (list_to n f ++ drop (from + k) l)) (from + n) (f n)) (length-list_to n f)
      ∙ ap (λ (x : List X). set (take from l ++ (list_to n f ++ x)) (from + n) (f n)) (drop-cons l (from + n) (f n) h)
      ∙ ap (λ (x : List X). set x (from + n) (f n)) (sym (append_assoc (take from l) (list_to n f) (y ∷ r)))
      ∙ set_at p y r (f n) (from + n) len
      ∙ rw (add-one, list_to, one, e) (simp append_assoc)

-- all of it is written
pub written_all {ℓ} : {X : Type ℓ} (l : List X) (f : ℕ → X) (n : ℕ) → length l ≡ n → written l 0 (list_to n f) ≡ list_to n f
unfolding written
written_all l f n e = rw (drop_of_length-le l {i = 0 + length (list_to n f)} (omega (arith, length-list_to n f)), append-nil)

-- a list t that is filled from the front: one entry more, and all of them
pub next-entry {ℓ} : {X : Type ℓ} (l : List X) (f : ℕ → X) (i : ℕ) {t : List X} {x : X} → i < length l → t ≡ written l 0 (list_to i f) → x ≡ f i → set t i x ≡ written l 0 (list_to (i + 1) f)
next-entry l f i {t} {x} h e g = rw (e, g) (ap (λ k. set (written l 0 (list_to i f)) k (f i)) (sym (zero-add i)) ∙ written_next l 0 f i (omega arith))

pub all-entries {ℓ} : {X : Type ℓ} (l : List X) (f : ℕ → X) (i n : ℕ) {t : List X} → i ≡ n → length l ≡ n → t ≡ written l 0 (list_to i f) → t ≡ list_to n f
all-entries l f i n e h p = p ∙ ap (λ k. written l 0 (list_to k f)) e ∙ written_all l f n h
