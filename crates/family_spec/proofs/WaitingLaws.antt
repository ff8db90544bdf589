-- Who is next: the first that waits, found from where the search begins; and the laws that the code's search goes by. Assumes nothing.
use Rattle.std.specs.Prelude.{Some, None}
use mathlib.Core.Path.{◌≡◌, refl, sym, ◌∙◌, ap}
use mathlib.Core.Logic.{◌≢◌, ◌↔◌}
use mathlib.Core.Bool.{true, false, cond}
use Prim.Native.Nat.{ℕ, zero, suc, ◌+◌, ◌-◌, ◌%◌, ◌≤◌, ◌<◌}
use native.Mathlib.Omega.{arith}
use native.Mathlib.Decide.{ℕ_discrete}
use lib.Dec.{ltb}
use borrow.Author.Tests.{ltb-true, ltb-false}
use Rattle.numbers.proofs.TestLaws.{Tested, holds, fails, tested, not_so, clash}
use Rattle.family_spec.specs.declared.Family.{Family}
use Rattle.family_spec.specs.Waiting.{waits, with_bit, first_waiting}
use Rattle.family_spec.specs.Operations.{next_member}
use Rattle.family_spec.specs.Claims.{NobodyWaits, FirstAmong}
use Rattle.family_spec.proofs.TurnLaws.{nobody-apart, member-same}

-- ---- who is next

-- how many members stand from x, below 8, to i, going round
abbrev pub ahead : ℕ → ℕ → ℕ
ahead i x = (i + 8 - x) % 8

pub ahead-reaches : (i x : ℕ) → i < 8 → x < 8 → (x + ahead i x) % 8 ≡ i
ahead-reaches i x a b = omega arith

-- from any x on
reaches : (i x : ℕ) → i < 8 → (x + ahead i (x % 8)) % 8 ≡ i
reaches i x a =
    let e : (x + ahead i (x % 8)) % 8 ≡ (x % 8 + ahead i (x % 8)) % 8 = rounds x (ahead i (x % 8)) in
    e ∙ ahead-reaches i (x % 8) a (omega arith)
  where
    rounds : (x d : ℕ) → (x + d) % 8 ≡ (x % 8 + d) % 8
    rounds x d = omega arith

-- d places on from x, one stands that much nearer
pub nearer : (i x d m : ℕ) → i < 8 → x < 8 → m ≡ (x + d) % 8 → d ≤ ahead i x → ahead i m ≤ ahead i x
nearer i x d m a b c e = omega arith

pub behind : (i m : ℕ) → i < 8 → m < 8 → m ≢ i → suc (ahead i (suc m % 8)) ≡ ahead i m
behind i m a b n = omega arith

-- looking from x on, a member that waits D places ahead is found, or one before it
pub record Found (byte x k D : ℕ) : Type 0 where
  pub member : ℕ
  pub places : ℕ
  pub found : first_waiting byte x k ≡ Some member
  pub at : member ≡ (x + places) % 8
  pub near : places ≤ D

-- one place on: the first one does not wait, so D is not 0
found-later : (byte x k D : ℕ) → D ≢ 0 → waits byte (x % 8) ≡ false → Found byte (suc x) k (D - 1) → Found byte x (suc k) D
unfolding first_waiting
found-later byte x k D n e r =
    let u = r.at in
    let v = r.near in
    record {
      member = r.member;
      places = suc r.places;
      found = ap (λ b. cond b (Some (x % 8)) (first_waiting byte (suc x) k)) e ∙ r.found;
      at = omega arith;
      near = omega arith;
    }

pub finds : (byte x k D : ℕ) → D < k → waits byte ((x + D) % 8) ≡ true → Found byte x k D
unfolding first_waiting
finds byte x zero D l w = absurd (omega arith)
finds byte x (suc k) D l w = by-test (tested (waits byte (x % 8))) (λ a b. finds byte (suc x) k (D - 1) a b)
  where
    at_once : (x + D) % 8 ≡ x % 8 → waits byte (x % 8) ≡ false → ⊥
    at_once s e = clash (ap (waits byte) (sym s) ∙ w) e

    on : (suc x + (D - 1)) % 8 ≡ (x + D) % 8 → waits byte ((suc x + (D - 1)) % 8) ≡ true
    on s = ap (waits byte) s ∙ w

    by-test : Tested (waits byte (x % 8)) → (D - 1 < k → waits byte ((suc x + (D - 1)) % 8) ≡ true → Found byte (suc x) k (D - 1)) → Found byte x (suc k) D
    by-test (holds e) ih =
        record {
          member = x % 8;
          places = 0;
          found = ap (λ b. cond b (Some (x % 8)) (first_waiting byte (suc x) k)) e;
          at = omega arith;
          near = omega arith;
        }
    by-test (fails e) ih = by_place (ℕ_discrete D 0)
      where
        by_place : Dec (D ≡ 0) → Found byte x (suc k) D
        by_place (yes z) = absurd (at_once (omega arith) e)
        by_place (no n) = found-later byte x k D n e (ih (omega arith) (on (omega arith)))

none_found : (byte x k : ℕ) → ((i : ℕ) → i < 8 → waits byte i ≡ false) → first_waiting byte x k ≡ None
unfolding first_waiting
none_found byte x zero h = refl
none_found byte x (suc k) h = ap (λ b. cond b (Some (x % 8)) (first_waiting byte (suc x) k)) (h (x % 8) (omega arith)) ∙ none_found byte (suc x) k h

-- the number of the member that is next is below 8
next-below : (byte x k : ℕ) {m : ℕ} → first_waiting byte x k ≡ Some m → m < 8
unfolding first_waiting
next-below byte x zero e = absurd (nobody-apart refl e)
next-below byte x (suc k) {m} e = by-test (tested (waits byte (x % 8))) (next-below byte (suc x) k)
  where
    by-test : Tested (waits byte (x % 8)) → (first_waiting byte (suc x) k ≡ Some m → m < 8) → m < 8
    by-test (holds b) ih = let s : m ≡ x % 8 = member-same (sym (ap (λ t. cond t (Some (x % 8)) (first_waiting byte (suc x) k)) b) ∙ e) refl in omega arith
    by-test (fails b) ih = ih (sym (ap (λ t. cond t (Some (x % 8)) (first_waiting byte (suc x) k)) b) ∙ e)

pub next-number : (f : Family) {m : ℕ} → next_member f ≡ Some m → m < 8
unfolding next_member
next-number f e = next-below _ _ 8 e

-- ---- the first that waits

first-is : (byte x k m : ℕ) → first_waiting byte x k ≡ Some m → FirstAmong byte x k m
unfolding first_waiting
first-is byte x zero m e = absurd (nobody-apart refl e)
first-is byte x (suc k) m e = by-test (tested (waits byte (x % 8))) (λ h. first-is byte (suc x) k m h)
  where
    by-test : Tested (waits byte (x % 8)) → (first_waiting byte (suc x) k ≡ Some m → FirstAmong byte (suc x) k m) → FirstAmong byte x (suc k) m
    by-test (holds b) ih =
        let s : m ≡ x % 8 = member-same (sym (ap (λ t. cond t (Some (x % 8)) (first_waiting byte (suc x) k)) b) ∙ e) refl in
        record { places = 0; near = omega arith; reached = omega arith; waiting = ap (waits byte) s ∙ b; before = λ d l. absurd (omega arith) }
    by-test (fails b) ih =
        let r = ih (sym (ap (λ t. cond t (Some (x % 8)) (first_waiting byte (suc x) k)) b) ∙ e) in
        let u = r.reached in
        let v = r.near in
        record { places = suc r.places; near = omega arith; reached = omega arith; waiting = r.waiting; before = λ d l. earlier d r.places l r.before }
      where
        earlier : (d : ℕ) → (p : ℕ) → d < suc p → ((d : ℕ) → d < p → waits byte ((suc x + d) % 8) ≡ false) → waits byte ((x + d) % 8) ≡ false
        earlier zero p l h = let s : (x + 0) % 8 ≡ x % 8 = omega arith in ap (waits byte) s ∙ b
        earlier (suc d) p l h = let s : (x + suc d) % 8 ≡ (suc x + d) % 8 = omega arith in ap (waits byte) s ∙ h d (omega arith)

-- there is but one
first_one : (byte x k a b : ℕ) → FirstAmong byte x k a → FirstAmong byte x k b → a ≡ b
first_one byte x k a b p q = by_place p.places q.places p.reached q.reached p.waiting q.waiting p.before q.before
  where
    by_place :
        (c d : ℕ) → a ≡ (x + c) % 8 → b ≡ (x + d) % 8 → waits byte a ≡ true → waits byte b ≡ true
        → ((e : ℕ) → e < c → waits byte ((x + e) % 8) ≡ false) → ((e : ℕ) → e < d → waits byte ((x + e) % 8) ≡ false) → a ≡ b
    by_place c d r s u v f g = by-test (tested (ltb c d)) (tested (ltb d c))
      where
        by-test : Tested (ltb c d) → Tested (ltb d c) → a ≡ b
        by-test (holds t) w = absurd (clash (ap (waits byte) (sym r) ∙ u) (g c (ltb-true c d t)))
        by-test (fails t) (holds w) = absurd (clash (ap (waits byte) (sym s) ∙ v) (f d (ltb-true d c w)))
        by-test (fails t) (fails w) = let e : c ≡ d = omega (arith, ltb-false c d t, ltb-false d c w) in r ∙ ap (λ y. (x + y) % 8) e ∙ sym s

-- a member is next exactly if it is the first that waits
pub next-is : (f : Family) (m : ℕ) → (next_member f ≡ Some m) ↔ FirstAmong f.waiting f.from 8 m
unfolding next_member
next-is f m = (first-is f.waiting f.from 8 m, from)
  where
    from : FirstAmong f.waiting f.from 8 m → first_waiting f.waiting f.from 8 ≡ Some m
    from p =
        let r = finds f.waiting f.from 8 p.places p.near (ap (waits f.waiting) (sym p.reached) ∙ p.waiting) in
        r.found ∙ ap (λ k. Some k) (first_one f.waiting f.from 8 r.member m (first-is f.waiting f.from 8 r.member r.found) p)

-- nobody is next exactly if nobody waits
pub nobody_next : (f : Family) → (next_member f ≡ None) ↔ NobodyWaits f
nobody_next f = (to, from)
  where
    to : next_member f ≡ None → NobodyWaits f
    to e i l = not_so (waits f.waiting i) (λ w. unfold next_member in (
        let r = finds f.waiting f.from 8 (ahead i (f.from % 8)) (omega arith) (ap (waits f.waiting) (reaches i f.from l) ∙ w) in nobody-apart e r.found))

    from : NobodyWaits f → next_member f ≡ None
    from h = unfold next_member in (none_found f.waiting f.from 8 h)

-- ---- as the code goes

-- k members passed: the next one waits, or it does not and the search goes on, or all 8 are passed
module _ (byte from k : ℕ) where
  more : k < 8 → 8 - k ≡ suc (8 - (k + 1))
  more l = omega arith

  pub next_here : k < 8 → waits byte ((from + k) % 8) ≡ true → first_waiting byte (from + k) (8 - k) ≡ Some ((from + k) % 8)
  unfolding first_waiting
  next_here l w = rw (more l, w) refl

  pub next-on : k < 8 → waits byte ((from + k) % 8) ≡ false → first_waiting byte (from + k) (8 - k) ≡ first_waiting byte (from + (k + 1)) (8 - (k + 1))
  unfolding first_waiting
  next-on l w = let e : suc (from + k) ≡ from + (k + 1) = omega arith in rw (more l, w, e) refl

  pub next-none : k ≡ 8 → first_waiting byte (from + k) (8 - k) ≡ None
  unfolding first_waiting
  next-none e = rw e refl

-- a bit that is set stays so
pub set-has : (byte i : ℕ) → waits byte i ≡ true → with_bit byte i ≡ byte
unfolding with_bit
set-has byte i w = rw w refl
