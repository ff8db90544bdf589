-- Checks in their order: each has a number and a place, the first that fails decides, and a rule says what it means. Assumes nothing.
use Rattle.std.specs.Prelude.{◌≡◌, ◌⊎◌, ◌↔◌, Bool, true, false, ◌&&◌, List, [], ◌∷◌, ◌++◌, ℕ, zero, suc, ◌<◌, ltb, leb, eqb, ℤ, pos, ◌≤ℤ◌, Result, Ok, Err}
use Rattle.std.specs.Int.Signed.{le_z}
use Rattle.numbers.specs.declared.Refusal.{Refusal}

-- ---- answers

-- what an operation answers: its values, or why it is refused
abbrev pub Answered : Type 0 → Type 0
Answered X = Result X Refusal

-- what a check finds: it passes, or it is why the call is refused
abbrev pub Checked : Type 0
Checked = Answered Unit

abbrev pub refusal : ℕ → ℕ → Refusal
refusal number place = record { number = number; place = place }

abbrev pub refused : {X : Type 0} → ℕ → ℕ → Answered X
refused number place = Err (record { number = number; place = place })

-- ---- verdicts

-- passes if the test holds, else fails with the number and the place
abbrev pub unless : Bool → ℕ → ℕ → Checked
unless true number place = Ok tt
unless false number place = refused number place

-- the first of two that fails
abbrev pub both : Checked → Checked → Checked
both (Ok tt) v = v
both (Err r) v = Err r

-- the first of a list that fails: the list is the order of the checks
abbrev pub first : List Checked → Checked
first [] = Ok tt
first (v ∷ vs) = both v (first vs)

-- the checks of the k places from i on, in turn
unfoldable pub each_from : (ℕ → Checked) → ℕ → ℕ → Checked
each_from check i zero = Ok tt
each_from check i (suc k) = both (check i) (each_from check (suc i) k)

-- of the k places from i on, the first that fails its test
unfoldable pub first_from : (ℕ → Bool) → ℕ → ℕ → ℕ → Checked
first_from good number i k = each_from (λ j. unless (good j) number j) i k

-- each of the k places from i on passes its test
unfoldable pub every_from : (ℕ → Bool) → ℕ → ℕ → Bool
every_from good i zero = true
every_from good i (suc k) = good i && every_from good (suc i) k

-- the values of a call by its verdict
abbrev pub answered : {X : Type 0} → Checked → X → Answered X
answered (Ok tt) values = Ok values
answered (Err r) values = Err r

-- what a lent list holds afterwards: what an accepted call writes; what it held, if the call is refused
abbrev pub after : {X : Type 0} → Checked → X → X → X
after (Ok tt) new old = new
after (Err r) new old = old

-- ---- what verdicts mean

-- a check in plain facts: its number, the fact that it passes by, and what breaks it at a place
pub record Rule : Type 1 where
  pub number : ℕ
  pub fact : Type 0
  pub fault : ℕ → Type 0

-- a verdict decides a rule: it passes exactly if the fact holds, and fails with a number at a place exactly if this is the rule's number
-- and the rule is broken there
pub record Decides (v : Checked) (r : Rule) : Type 0 where
  pub passes : (v ≡ Ok tt) ↔ r.fact
  pub fails : (number place : ℕ) → (v ≡ refused number place) ↔ ((number ≡ r.number) × r.fault place)

-- one fact: broken, it fails at this place
abbrev pub rule_for : ℕ → ℕ → Type 0 → Rule
rule_for number place P = record { number = number; fact = P; fault = λ p. (p ≡ place) × (P → ⊥) }

-- the same at place 0
abbrev pub rule : ℕ → Type 0 → Rule
rule number P = rule_for number 0 P

-- a fact of each place below k: broken, it fails at the least place that breaks it
abbrev pub rule_at : ℕ → ℕ → (ℕ → Type 0) → Rule
rule_at number k P =
    record {
      number = number;
      fact = (i : ℕ) → i < k → P i;
      fault = λ p. (p < k) × ((P p → ⊥) × ((i : ℕ) → i < p → P i));
    }

-- rules in order: all hold; or those before one hold, and this one is broken
unfoldable pub Holds : List Rule → Type 0
Holds [] = Unit
Holds (r ∷ rs) = r.fact × Holds rs

unfoldable pub Broken : List Rule → ℕ → ℕ → Type 0
Broken [] number place = ⊥
Broken (r ∷ rs) number place = ((number ≡ r.number) × r.fault place) ⊎ (r.fact × Broken rs number place)

-- a verdict decides rules in order
pub record DecidesAll (v : Checked) (rs : List Rule) : Type 0 where
  pub passes : (v ≡ Ok tt) ↔ Holds rs
  pub fails : (number place : ℕ) → (v ≡ refused number place) ↔ Broken rs number place

-- the rules of the k places from i on, in turn
unfoldable pub rules_from : (ℕ → List Rule) → ℕ → ℕ → List Rule
rules_from rules i zero = []
rules_from rules i (suc k) = rules i ++ rules_from rules (suc i) k

-- ---- the numbers that rules refuse with

abbrev pub numbers_of : List Rule → List ℕ
numbers_of [] = []
numbers_of (r ∷ rs) = r.number ∷ numbers_of rs

-- n is one of a list's numbers
unfoldable pub OneOf : List ℕ → ℕ → Type 0
OneOf [] n = ⊥
OneOf (k ∷ ks) n = (n ≡ k) ⊎ OneOf ks n

-- these rules have these numbers and no others, whatever their order and however often
abbrev pub RefuseWith : List Rule → List ℕ → Type 0
RefuseWith rs ns = (n : ℕ) → OneOf (numbers_of rs) n ↔ OneOf ns n

-- ---- a chain of checks that is another one with checks of its own put in, which fail with numbers of their own

pub data Extends (Own : ℕ → Type 0) : List Checked → List Checked → Type 0 where
  end : Extends Own [] []
  shared : {v : Checked} {vs ws : List Checked} → Extends Own vs ws → Extends Own (v ∷ vs) (v ∷ ws)
  extra : {v : Checked} {vs ws : List Checked} → ((number place : ℕ) → v ≡ refused number place → Own number) → Extends Own vs ws → Extends Own (v ∷ vs) ws

-- ---- checks that several operations share

-- 1: the number of items or cells is 1 to 512
unfoldable pub check_count : ℕ → Checked
check_count n = unless (ltb 0 n && leb n 512) 1 0

-- 9: the scale is at most 30
unfoldable pub check_scale : ℕ → Checked
check_scale k = unless (leb k 30) 9 0

-- 3: a list has the length n
unfoldable pub check_length : ℕ → ℕ → Checked
check_length k n = unless (eqb k n) 3 0

-- 3: a list of k entries has room for n
unfoldable pub check_long : ℕ → ℕ → Checked
check_long k n = unless (leb n k) 3 0

-- the largest sum that 01 allows of highs, safe highs, weights and kept masses
abbrev pub max_total : ℕ
max_total = 2147483647

-- 13: a total below 0 or above 2147483647
unfoldable pub check_total : ℤ → Checked
check_total z = unless (le_z (pos 0) z && le_z z (pos max_total)) 13 0

abbrev pub total_rule : ℤ → Rule
total_rule z = rule 13 ((pos 0 ≤ℤ z) × (z ≤ℤ pos max_total))
