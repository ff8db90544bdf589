-- Chains of checks and their rules as a whole: a chain by its checks, a chain that is another with checks of its own put in, and the numbers
-- that rules refuse with, which are computed. Assumes nothing.
use Rattle.std.specs.Prelude.{Ok, Err}
use mathlib.Core.Path.{◌≡◌, refl, sym, ◌∙◌, ap, subst}
use mathlib.Core.Logic.{◌⊎◌, inl, inr, ⊎_elim, ◌↔◌}
use mathlib.Core.Bool.{Bool, true, false, ◌&&◌, ◌||◌, or-true}
use mathlib.Core.List.{List, [], ◌∷◌, ◌++◌}
use Prim.Native.Nat.{ℕ, zero, suc}
use lib.Dec.{eqb}
use borrow.Author.Tests.{eqb-true, eq-eqb}
use Rattle.numbers.specs.Lists.{All}
use Rattle.numbers.specs.Checks.{Checked, refused, both, first, Rule, Holds, Broken, DecidesAll, rules_from, numbers_of, OneOf, RefuseWith, Extends}
use Rattle.numbers.proofs.TestLaws.{clash, and_first, and_second}
use Rattle.numbers.proofs.CheckLaws.{on, both_first, both-second, no-pass, broken-append}

-- ---- a chain by its checks

-- cases on a verdict
pub data Verdict (v : Checked) : Type 0 where
  passed : v ≡ Ok tt → Verdict v
  failed : (number place : ℕ) → v ≡ refused number place → Verdict v

pub verdict : (v : Checked) → Verdict v
verdict (Ok tt) = passed refl
verdict (Err r) = failed r.number r.place refl

-- a chain passes exactly if each of its checks does
abbrev pub Passes : Checked → Type 0
Passes v = v ≡ Ok tt

pub pass_all : (vs : List Checked) → first vs ≡ Ok tt → All Passes vs
pass_all [] e = All.none
pass_all (v ∷ vs) e = All.more (both_first v (first vs) e) (pass_all vs (both-second v (first vs) e))

pub all_pass : (vs : List Checked) → All Passes vs → first vs ≡ Ok tt
all_pass [] All.none = refl
all_pass (v ∷ vs) (All.more h hs) = sym (on h (sym (all_pass vs hs)))

-- ---- a chain that is another with checks of its own put in

-- several of its own one after another
pub extends-own : {Own : ℕ → Type 0} {vs ws : List Checked} (own : List Checked) → All (λ v. (number place : ℕ) → v ≡ refused number place → Own number) own → Extends Own vs ws → Extends Own (own ++ vs) ws
extends-own [] All.none z = z
extends-own (v ∷ own) (All.more h hs) z = Extends.extra h (extends-own own hs z)

-- where it passes, the other passes
pub extends-pass : {Own : ℕ → Type 0} {vs ws : List Checked} → Extends Own vs ws → first vs ≡ Ok tt → first ws ≡ Ok tt
extends-pass Extends.end e = e
extends-pass (Extends.shared {v} {vs} {ws} z) e = sym (on (both_first v (first vs) e) (sym (extends-pass z (both-second v (first vs) e))))
extends-pass (Extends.extra {v} {vs} {ws} o z) e = extends-pass z (both-second v (first vs) e)

-- where it fails, it is with a number of its own, or the other fails the same
pub extends-fail : {Own : ℕ → Type 0} {vs ws : List Checked} {number place : ℕ} → Extends Own vs ws → first vs ≡ refused number place → Own number ⊎ (first ws ≡ refused number place)
extends-fail Extends.end e = absurd (no-pass refl e)
extends-fail {Own = Own} {number = number} {place} (Extends.shared {v} {vs} {ws} z) e = by_first v e (λ x. extends-fail z x)
  where
    by_first : (u : Checked) → both u (first vs) ≡ refused number place → (first vs ≡ refused number place → Own number ⊎ (first ws ≡ refused number place)) → Own number ⊎ (both u (first ws) ≡ refused number place)
    by_first (Ok tt) x ih = ih x
    by_first (Err r) x ih = inr x
extends-fail {Own = Own} {number = number} {place} (Extends.extra {v} {vs} {ws} o z) e = by_first v o e (λ x. extends-fail z x)
  where
    by_first : (u : Checked) → ((n p : ℕ) → u ≡ refused n p → Own n) → both u (first vs) ≡ refused number place → (first vs ≡ refused number place → Own number ⊎ (first ws ≡ refused number place)) → Own number ⊎ (first ws ≡ refused number place)
    by_first (Ok tt) q x ih = ih x
    by_first (Err r) q x ih = inl (q number place x)

-- ---- the numbers that rules refuse with

pub broken-number : (rs : List Rule) (n p : ℕ) → Broken rs n p → OneOf (numbers_of rs) n
unfolding Broken OneOf
broken-number [] n p h = h
broken-number (r ∷ rs) n p h = ⊎_elim (λ f. inl f.0) (λ g. inr (broken-number rs n p g.1)) h

-- a verdict fails with a number of its rules
pub fails-number : {v : Checked} {rs : List Rule} {n p : ℕ} → DecidesAll v rs → v ≡ refused n p → OneOf (numbers_of rs) n
fails-number {rs = rs} {n} {p} d e = broken-number rs n p ((d.fails n p).0 e)

pub one-append : (ms ns : List ℕ) (n : ℕ) → OneOf (ms ++ ns) n ↔ (OneOf ms n ⊎ OneOf ns n)
unfolding OneOf
one-append [] ns n = (λ h. inr h, λ h. ⊎_elim (λ f. absurd f) (λ g. g) h)
one-append (m ∷ ms) ns n = (
  λ h. ⊎_elim (λ e. inl (inl e)) (λ g. ⊎_elim (λ x. inl (inr x)) inr ((one-append ms ns n).0 g)) h,
  λ h. ⊎_elim (λ f. ⊎_elim inl (λ g. inr ((one-append ms ns n).1 (inl g))) f) (λ g. inr ((one-append ms ns n).1 (inr g))) h,
)

pub numbers-append : (rs ss : List Rule) → numbers_of (rs ++ ss) ≡ numbers_of rs ++ numbers_of ss
numbers-append [] ss = refl
numbers-append (r ∷ rs) ss = ap (λ ns. r.number ∷ ns) (numbers-append rs ss)

-- a computed test of two lists of numbers: each number of the first is one of the second
abbrev pub is_one : List ℕ → ℕ → Bool
is_one [] n = false
is_one (k ∷ ks) n = eqb n k || is_one ks n

abbrev pub are_of : List ℕ → List ℕ → Bool
are_of ns [] = true
are_of ns (m ∷ ms) = is_one ns m && are_of ns ms

pub OneOf-is_one : (ks : List ℕ) (n : ℕ) → is_one ks n ≡ true → OneOf ks n
unfolding OneOf
OneOf-is_one [] n e = absurd (clash e refl)
OneOf-is_one (k ∷ ks) n e = go (eqb n k) refl e (OneOf-is_one ks n)
  where
    go : (b : Bool) → eqb n k ≡ b → b || is_one ks n ≡ true → (is_one ks n ≡ true → OneOf ks n) → (n ≡ k) ⊎ OneOf ks n
    go true t f later = inl (eqb-true n k t)
    go false t f later = inr (later f)

one-is : (ks : List ℕ) (n : ℕ) → OneOf ks n → is_one ks n ≡ true
unfolding OneOf
one-is [] n h = absurd h
one-is (k ∷ ks) n h = ⊎_elim (λ e. ap (λ b. b || is_one ks n) (eq-eqb n k e)) (λ g. ap (λ b. eqb n k || b) (one-is ks n g) ∙ or-true (eqb n k)) h

-- a number that is none of a list's: `no_number ns k refl`
pub no_number : (ns : List ℕ) (k : ℕ) → is_one ns k ≡ false → OneOf ns k → ⊥
no_number ns k f h = clash (one-is ns k h) f

-- rules are not broken with a number that none of them has: `not-broken rs k refl`
pub not-broken : (rs : List Rule) (k : ℕ) → is_one (numbers_of rs) k ≡ false → (n p : ℕ) → n ≡ k → Broken rs n p → ⊥
not-broken rs k f n p e h = no_number (numbers_of rs) k f (subst (OneOf (numbers_of rs)) e (broken-number rs n p h))

-- and with a number that none of the first has, these hold, and one of the others is broken
pub broken-later : (rs ss : List Rule) (k p : ℕ) → (OneOf (numbers_of rs) k → ⊥) → Broken (rs ++ ss) k p → Holds rs × Broken ss k p
broken-later rs ss k p f h = ⊎_elim (λ x. absurd (f (broken-number rs k p x))) (λ y. y) ((broken-append rs ss k p).0 h)

-- and with a number that the first alone has, the first is broken
pub broken-first : (r : Rule) (rs : List Rule) (k : ℕ) → is_one (numbers_of rs) k ≡ false → (n p : ℕ) → n ≡ k → Broken (r ∷ rs) n p → r.fault p
unfolding Broken
broken-first r rs k f n p e h = ⊎_elim (λ x. x.1) (λ y. absurd (not-broken rs k f n p e y.1)) h

pub are-of : (ns ms : List ℕ) → are_of ns ms ≡ true → (n : ℕ) → OneOf ms n → OneOf ns n
unfolding OneOf
are-of ns [] e n h = absurd h
are-of ns (m ∷ ms) e n h =
    ⊎_elim (λ q. rw q (OneOf-is_one ns m (and_first (is_one ns m) (are_of ns ms) e))) (λ g. are-of ns ms (and_second (is_one ns m) (are_of ns ms) e) n g) h

-- the numbers of rules are exactly these: `refuse-with rs ns refl refl`
pub refuse-with : (rs : List Rule) (ns : List ℕ) → are_of ns (numbers_of rs) ≡ true → are_of (numbers_of rs) ns ≡ true → RefuseWith rs ns
refuse-with rs ns a b n = (are-of ns (numbers_of rs) a n, are-of (numbers_of rs) ns b n)

-- the same of one list of rules after another
pub refuse-append :
    (rs ss : List Rule) (ms ns ks : List ℕ) → RefuseWith rs ms → RefuseWith ss ns → are_of ks (ms ++ ns) ≡ true → are_of (ms ++ ns) ks ≡ true
    → RefuseWith (rs ++ ss) ks
refuse-append rs ss ms ns ks d e a b n = (
  λ h. are-of ks (ms ++ ns) a n ((one-append ms ns n).1 (⊎_elim (λ x. inl ((d n).0 x)) (λ y. inr ((e n).0 y)) ((one-append (numbers_of rs) (numbers_of ss) n).0 (subst (λ l. OneOf l n) (numbers-append rs ss) h)))),
  λ h. subst (λ l. OneOf l n) (sym (numbers-append rs ss)) ((one-append (numbers_of rs) (numbers_of ss) n).1 (⊎_elim (λ x. inl ((d n).1 x)) (λ y. inr ((e n).1 y)) ((one-append ms ns n).0 (are-of (ms ++ ns) ks b n h)))),
)

-- and of the rules of places in turn after others, if these have no number more
pub each_number : (rules : ℕ → List Rule) (ns : List ℕ) (n : ℕ) → ((i : ℕ) → are_of ns (numbers_of (rules i)) ≡ true) → (i k : ℕ) → OneOf (numbers_of (rules_from rules i k)) n → OneOf ns n
unfolding rules_from OneOf
each_number rules ns n h i zero o = absurd o
each_number rules ns n h i (suc k) o =
    let p = subst (λ l. OneOf l n) (numbers-append (rules i) (rules_from rules (suc i) k)) o in
    ⊎_elim (are-of ns (numbers_of (rules i)) (h i) n) (each_number rules ns n h (suc i) k) ((one-append (numbers_of (rules i)) (numbers_of (rules_from rules (suc i) k)) n).0 p)

pub refuse-each :
    (rs : List Rule) (rules : ℕ → List Rule) (i k : ℕ) (ns : List ℕ) → RefuseWith rs ns → ((j : ℕ) → are_of ns (numbers_of (rules j)) ≡ true)
    → RefuseWith (rs ++ rules_from rules i k) ns
refuse-each rs rules i k ns d h n =
    let a = one-append (numbers_of rs) (numbers_of (rules_from rules i k)) n in
    let e = numbers-append rs (rules_from rules i k) in (
      λ o. ⊎_elim (d n).0 (each_number rules ns n h i k) (a.0 (subst (λ l. OneOf l n) e o)),
      λ o. subst (λ l. OneOf l n) (sym e) (a.1 (inl ((d n).1 o))),
    )
