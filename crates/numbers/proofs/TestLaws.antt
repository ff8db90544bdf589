-- Tests and the facts that they stand for. Assumes nothing.
use mathlib.Core.Path.{◌≡◌, refl, sym, ap, ◌∙◌, subst}
use mathlib.Core.Logic.{◌↔◌}
use mathlib.Core.Bool.{Bool, true, false, not, ◌&&◌, true≢false}
use Prim.Native.Nat.{ℕ, ◌≤◌, ◌<◌, compare, Ordering}
use native.Mathlib.Omega.{arith}
use lib.Arith.{lt_of_le-ne}
use lib.Dec.{T, is_le, compare_is_eq, ltb, leb, eqb, leb→le, nleb→lt, eqb→eq, eqb_refl}
use borrow.Author.Tests.{ltb-true, leb-true, eqb-true, lt-ltb, le-leb, eq-eqb}

-- cases on a test
pub data Tested (b : Bool) : Type 0 where
  holds : b ≡ true → Tested b
  fails : b ≡ false → Tested b

pub tested : (b : Bool) → Tested b
tested true = holds refl
tested false = fails refl

-- a test that is not false holds, and one that does not hold is false
pub not_so : (b : Bool) → (b ≡ true → ⊥) → b ≡ false
not_so true h = absurd (h refl)
not_so false h = refl

pub clash : {b : Bool} → b ≡ true → b ≡ false → ⊥
clash e f = true≢false (sym e ∙ f)

-- each test holds exactly if its fact does
pub lt-means : (a b : ℕ) → (ltb a b ≡ true) ↔ (a < b)
lt-means a b = (ltb-true a b, lt-ltb a b)

pub le-means : (a b : ℕ) → (leb a b ≡ true) ↔ (a ≤ b)
le-means a b = (leb-true a b, le-leb a b)

pub eq-means : (a b : ℕ) → (eqb a b ≡ true) ↔ (a ≡ b)
eq-means a b = (eqb-true a b, eq-eqb a b)

pub and_intro : {a b : Bool} → a ≡ true → b ≡ true → a && b ≡ true
and_intro {a} {b} e f = rw (e, f)

pub and_first : (a b : Bool) → a && b ≡ true → a ≡ true
and_first true b e = refl
and_first false b e = e

pub and_second : (a b : Bool) → a && b ≡ true → b ≡ true
and_second true b e = e
and_second false b e = absurd (true≢false (sym e))

pub and-means : {a b : Bool} {P Q : Type 0} → (a ≡ true) ↔ P → (b ≡ true) ↔ Q → (a && b ≡ true) ↔ (P × Q)
and-means {a} {b} p q = (λ e. (p.0 (and_first a b e), q.0 (and_second a b e)), λ h. and_intro (p.1 h.0) (q.1 h.1))

-- ---- what `compare` says
abbrev pub Cmp : Ordering → ℕ → ℕ → Type 0
Cmp Ordering.lt a b = a < b
Cmp Ordering.eq a b = a ≡ b
Cmp Ordering.gt a b = b < a

pub cmp : (a b : ℕ) → Cmp (compare a b) a b
cmp a b = go (compare a b) (leb→le a b) (nleb→lt a b) (eqb→eq a b) (λ (e : a ≡ b). subst (λ (x : ℕ). T (eqb a x)) e (eqb_refl a))
  where
    go : (o : Ordering) → (T (is_le o) → a ≤ b) → (T (not (is_le o)) → b < a) → (T (compare_is_eq o) → a ≡ b) → (a ≡ b → T (compare_is_eq o)) → Cmp o a b
    go Ordering.lt h k e n = lt_of_le-ne (h tt) n
    go Ordering.eq h k e n = e tt
    go Ordering.gt h k e n = k tt

only_one : (o p : Ordering) (a b : ℕ) → Cmp o a b → Cmp p a b → o ≡ p
only_one Ordering.lt Ordering.lt a b h k = refl
only_one Ordering.lt Ordering.eq a b h k = absurd (omega arith)
only_one Ordering.lt Ordering.gt a b h k = absurd (omega arith)
only_one Ordering.eq Ordering.lt a b h k = absurd (omega arith)
only_one Ordering.eq Ordering.eq a b h k = refl
only_one Ordering.eq Ordering.gt a b h k = absurd (omega arith)
only_one Ordering.gt Ordering.lt a b h k = absurd (omega arith)
only_one Ordering.gt Ordering.eq a b h k = absurd (omega arith)
only_one Ordering.gt Ordering.gt a b h k = refl

pub compare-is : (o : Ordering) (a b : ℕ) → Cmp o a b → compare a b ≡ o
compare-is o a b h = only_one (compare a b) o a b (cmp a b) h

-- ---- a function with a left inverse is injective
pub injective : {A B : Type 0} {f : A → B} (back : B → A) → ((a : A) → back (f a) ≡ a) → (a b : A) → f a ≡ f b → a ≡ b
injective back inverse a b e = sym (inverse a) ∙ ap back e ∙ inverse b
