-- Laws of checks: how a proof goes along a chain, how a loop looks for the first place that fails, and what each verdict means. Assumes nothing.
use Rattle.std.specs.Prelude.{Ok, Err}
use mathlib.Core.Path.{◌≡◌, refl, sym, ◌∙◌, ap, ap₂, subst}
use mathlib.Core.Logic.{◌⊎◌, inl, inr, ⊎_elim, ◌↔◌}
use mathlib.Core.Bool.{Bool, true, false, ◌&&◌}
use mathlib.Core.List.{List, [], ◌∷◌, ◌++◌}
use Prim.Native.Nat.{ℕ, zero, suc, ◌+◌, ◌-◌, ◌≤◌, ◌<◌}
use native.Mathlib.Omega.{arith}
use native.Mathlib.Numerals.{add-one}
use native.Mathlib.Decide.{ℕ_discrete}
use lib.Dec.{eqb}
use lib.IntN.{ℤ, pos}
use Rattle.numbers.specs.declared.Refusal.{Refusal}
use Rattle.numbers.specs.Checks.{Answered, Checked, refused, answered, after, unless, both, first, each_from, first_from, every_from, Rule, Decides, rule, rule_for, rule_at, Holds, Broken, DecidesAll, rules_from, check_count, check_scale, check_length, check_long, check_total, total_rule, max_total}
use Rattle.numbers.proofs.SignedLaws.{le_z-means}
use Rattle.numbers.proofs.TestLaws.{Tested, holds, fails, tested, clash, and-means, lt-means, le-means, and_first, and_second, and_intro}

-- ---- a refusal's number and place

abbrev number_in : {X : Type 0} → Answered X → ℕ
number_in (Ok x) = 0
number_in (Err r) = r.number

abbrev place_in : {X : Type 0} → Answered X → ℕ
place_in (Ok x) = 0
place_in (Err r) = r.place

pub refused-number : {X : Type 0} {n m p q : ℕ} → ◌≡◌ {A = Answered X} (refused n p) (refused m q) → n ≡ m
refused-number e = ap number_in e

pub refused-place : {X : Type 0} {n m p q : ℕ} → ◌≡◌ {A = Answered X} (refused n p) (refused m q) → p ≡ q
refused-place e = ap place_in e

-- ---- along a chain: the first passes and the rest decides; the first fails and that is it; the last decides

pub on : {u v w : Checked} → v ≡ Ok tt → u ≡ w → u ≡ both v w
on {w = w} p q = q ∙ ap (λ x. both x w) (sym p)

pub stop : {v : Checked} (w : Checked) {r : Refusal} → v ≡ Err r → Err r ≡ both v w
stop w p = ap (λ x. both x w) (sym p)

pub last : {u : Checked} (v : Checked) → u ≡ v → u ≡ both v (Ok tt)
last (Ok tt) e = e
last (Err r) e = e

pub both-assoc : (u v w : Checked) → both (both u v) w ≡ both u (both v w)
both-assoc (Ok tt) v w = refl
both-assoc (Err r) v w = refl

pub both-pass : (v : Checked) → both v (Ok tt) ≡ v
both-pass (Ok tt) = refl
both-pass (Err r) = refl

-- one chain after another
pub first-append : (vs ws : List Checked) → both (first vs) (first ws) ≡ first (vs ++ ws)
first-append [] ws = refl
first-append (v ∷ vs) ws = both-assoc v (first vs) (first ws) ∙ ap (both v) (first-append vs ws)

-- two tests with one number and place are one test of both
pub unless-and : (a b : Bool) (number place : ℕ) → both (unless a number place) (unless b number place) ≡ unless (a && b) number place
unless-and true b number place = refl
unless-and false b number place = refl

-- so the lengths of several lists are one check
pub then-length : (k n : ℕ) (b : Bool) (v : Checked) → v ≡ unless b 3 0 → both (check_length k n) v ≡ unless (eqb k n && b) 3 0
unfolding check_length
then-length k n b v e = ap (both (unless (eqb k n) 3 0)) e ∙ unless-and (eqb k n) b 3 0

-- what a chain that passed says of its parts
pub both_first : (v w : Checked) → both v w ≡ Ok tt → v ≡ Ok tt
both_first (Ok tt) w e = refl
both_first (Err r) w e = e

pub both-second : (v w : Checked) → both v w ≡ Ok tt → w ≡ Ok tt
both-second (Ok tt) w e = e
both-second (Err r) w e = let z : ◌≡◌ {A = ℕ} 0 1 = cc in absurd (omega arith)

-- a verdict is one thing
pub no-pass : {v : Checked} {number place : ℕ} → v ≡ Ok tt → v ≡ refused number place → ⊥
no-pass p f = let z : ◌≡◌ {A = ℕ} 0 1 = cc in omega arith

-- ---- a loop that looks for the first place that fails

one_less : (i k : ℕ) → i < k → k - i ≡ suc (k - (i + 1))
one_less i k h = omega arith

-- a check at each place, in turn
module _ (check : ℕ → Checked) where
  pub each_on : (i k : ℕ) → i < k → check i ≡ Ok tt → each_from check i (k - i) ≡ each_from check (i + 1) (k - (i + 1))
  unfolding each_from
  each_on i k h e = rw (one_less i k h, e, add-one) refl

  pub each-here : (i k : ℕ) {number place : ℕ} → i < k → check i ≡ refused number place → each_from check i (k - i) ≡ refused number place
  unfolding each_from
  each-here i k h e = rw (one_less i k h, e) refl

  pub each_none : (i k : ℕ) → k ≤ i → each_from check i (k - i) ≡ Ok tt
  unfolding each_from
  each_none i k h = let none : k - i ≡ 0 = omega arith in rw none refl

-- one number, and a test at each place
module _ (good : ℕ → Bool) (number : ℕ) where
  pub first_on : (i k : ℕ) → i < k → good i ≡ true → first_from good number i (k - i) ≡ first_from good number (i + 1) (k - (i + 1))
  unfolding first_from
  first_on i k h e = each_on (λ j. unless (good j) number j) i k h (ap (λ b. unless b number i) e)

  pub first-here : (i k : ℕ) → i < k → good i ≡ false → first_from good number i (k - i) ≡ refused number i
  unfolding first_from
  first-here i k h e = each-here (λ j. unless (good j) number j) i k h (ap (λ b. unless b number i) e)

  pub first-none : (i k : ℕ) → k ≤ i → first_from good number i (k - i) ≡ Ok tt
  unfolding first_from
  first-none i k h = each_none (λ j. unless (good j) number j) i k h

pub every-on : (good : ℕ → Bool) (i k : ℕ) → i < k → good i ≡ true → every_from good i (k - i) ≡ every_from good (i + 1) (k - (i + 1))
unfolding every_from
every-on good i k h e = rw (one_less i k h, e, add-one) refl

pub every_here : (good : ℕ → Bool) (i k : ℕ) → i < k → good i ≡ false → every_from good i (k - i) ≡ false
unfolding every_from
every_here good i k h e = rw (one_less i k h, e) refl

pub every-none : (good : ℕ → Bool) (i k : ℕ) → k ≤ i → every_from good i (k - i) ≡ true
unfolding every_from
every-none good i k h = let none : k - i ≡ 0 = omega arith in rw none refl

-- ---- answers

pub answered-accepted : {X : Type 0} (v : Checked) (x y : X) → Ok x ≡ answered v y → (v ≡ Ok tt) × (x ≡ y)
answered-accepted (Ok tt) x y e = (refl, cc)
answered-accepted (Err r) x y e = let z : ◌≡◌ {A = ℕ} 0 1 = cc in absurd (omega arith)

pub answered-refused : {X : Type 0} (v : Checked) (y : X) (number place : ℕ) → refused number place ≡ answered v y → v ≡ refused number place
answered-refused (Ok tt) y number place e = let z : ◌≡◌ {A = ℕ} 0 1 = cc in absurd (omega arith)
answered-refused (Err r) y number place e = cc

-- and the other way round
pub accepted-answered : {X : Type 0} {v : Checked} {x y : X} → v ≡ Ok tt → x ≡ y → Ok x ≡ answered v y
accepted-answered e h = rw (e, h)

pub refused-answered : {X : Type 0} {v : Checked} (y : X) {number place : ℕ} → v ≡ refused number place → refused number place ≡ answered v y
refused-answered y e = rw e

-- what an accepted call leaves, and a refused one
pub after-pass : {X : Type 0} {v : Checked} {x new : X} (old : X) → v ≡ Ok tt → x ≡ new → x ≡ after v new old
after-pass {new = new} old p e = e ∙ ap (λ w. after w new old) (sym p)

pub after-fail : {X : Type 0} {v : Checked} (new old : X) {number place : ℕ} → v ≡ refused number place → old ≡ after v new old
after-fail new old f = ap (λ w. after w new old) (sym f)

-- ---- what verdicts mean

-- one test
pub decides-for : (b : Bool) (number place : ℕ) {P : Type 0} → (b ≡ true) ↔ P → Decides (unless b number place) (rule_for number place P)
decides-for true number place e =
    record {
      passes = (λ q. e.0 refl, λ q. refl);
      fails = λ n p. (λ q. absurd (no-pass refl q), λ q. absurd (q.1.1 (e.0 refl)));
    }
decides-for false number place e =
    record {
      passes = (λ q. absurd (no-pass q refl), λ q. absurd (clash (e.1 q) refl));
      fails = λ n p. (λ q. (sym (refused-number q), (sym (refused-place q), λ h. absurd (clash (e.1 h) refl))), λ q. cc (q.0, q.1.0));
    }

pub decides-unless : (b : Bool) (number : ℕ) {P : Type 0} → (b ≡ true) ↔ P → Decides (unless b number 0) (rule number P)
decides-unless b number e = decides-for b number 0 e

-- rules in order
pub decides-none : DecidesAll (Ok tt) []
unfolding Holds Broken
decides-none = record { passes = (λ q. tt, λ q. refl); fails = λ n p. (λ q. no-pass refl q, λ q. absurd q) }

pub decides-then : (v w : Checked) (r : Rule) (rs : List Rule) → Decides v r → DecidesAll w rs → DecidesAll (both v w) (r ∷ rs)
unfolding Holds Broken
decides-then (Ok tt) w r rs d e =
    record {
      passes = (λ q. (d.passes.0 refl, e.passes.0 q), λ h. e.passes.1 h.1);
      fails =
          λ n p. (
            λ q. inr (d.passes.0 refl, (e.fails n p).0 q),
            λ h. ⊎_elim (λ f. absurd (no-pass refl ((d.fails n p).1 f))) (λ g. (e.fails n p).1 g.1) h,
          );
    }
decides-then (Err s) w r rs d e =
    record {
      passes = (λ q. absurd (no-pass q refl), λ h. absurd (no-pass (d.passes.1 h.0) refl));
      fails =
          λ n p. (
            λ q. inl ((d.fails n p).0 q),
            λ h. ⊎_elim (λ f. (d.fails n p).1 f) (λ g. absurd (no-pass (d.passes.1 g.0) refl)) h,
          );
    }

-- one rule alone, as a list of rules
pub alone : (v : Checked) (r : Rule) → Decides v r → DecidesAll v (r ∷ [])
alone v r d = subst (λ x. DecidesAll x (r ∷ [])) (both-pass v) (decides-then v (Ok tt) r [] d decides-none)

-- one list of rules after another
pub holds-append : (rs ss : List Rule) → Holds (rs ++ ss) ↔ (Holds rs × Holds ss)
unfolding Holds
holds-append [] ss = (λ h. (tt, h), λ h. h.1)
holds-append (r ∷ rs) ss = (
  λ h. ((h.0, ((holds-append rs ss).0 h.1).0), ((holds-append rs ss).0 h.1).1),
  λ h. (h.0.0, (holds-append rs ss).1 (h.0.1, h.1)),
)

-- a rule broken with a number at a place
abbrev Here : Rule → ℕ → ℕ → Type 0
Here r n p = (n ≡ r.number) × r.fault p

pub broken-append : (rs ss : List Rule) (n p : ℕ) → Broken (rs ++ ss) n p ↔ (Broken rs n p ⊎ (Holds rs × Broken ss n p))
unfolding Holds Broken
broken-append [] ss n p = (λ h. inr (tt, h), λ h. ⊎_elim (λ f. absurd f) (λ g. g.1) h)
broken-append (r ∷ rs) ss n p = (to (broken-append rs ss n p).0, from (broken-append rs ss n p).1)
  where
    to : (Broken (rs ++ ss) n p → Broken rs n p ⊎ (Holds rs × Broken ss n p)) → Here r n p ⊎ (r.fact × Broken (rs ++ ss) n p) → (Here r n p ⊎ (r.fact × Broken rs n p)) ⊎ ((r.fact × Holds rs) × Broken ss n p)
    to k (inl f) = inl (inl f)
    to k (inr g) = ⊎_elim (λ x. inl (inr (g.0, x))) (λ y. inr ((g.0, y.0), y.1)) (k g.1)

    from : (Broken rs n p ⊎ (Holds rs × Broken ss n p) → Broken (rs ++ ss) n p) → (Here r n p ⊎ (r.fact × Broken rs n p)) ⊎ ((r.fact × Holds rs) × Broken ss n p) → Here r n p ⊎ (r.fact × Broken (rs ++ ss) n p)
    from k (inl (inl f)) = inl f
    from k (inl (inr g)) = inr (g.0, k (inl g.1))
    from k (inr h) = inr (h.0.0, k (inr (h.0.1, h.1)))

-- the second verdict counts only where the first passed, so only there it has to decide its rules
pub decides-after : (v w : Checked) (rs ss : List Rule) → DecidesAll v rs → (v ≡ Ok tt → DecidesAll w ss) → DecidesAll (both v w) (rs ++ ss)
decides-after (Ok tt) w rs ss d e =
    record {
      passes = (λ q. (holds-append rs ss).1 (d.passes.0 refl, (e refl).passes.0 q), λ h. (e refl).passes.1 ((holds-append rs ss).0 h).1);
      fails =
          λ n p. (
            λ q. (broken-append rs ss n p).1 (inr (d.passes.0 refl, ((e refl).fails n p).0 q)),
            λ h. ⊎_elim (λ f. absurd (no-pass refl ((d.fails n p).1 f))) (λ g. ((e refl).fails n p).1 g.1) ((broken-append rs ss n p).0 h),
          );
    }
decides-after (Err r) w rs ss d e =
    record {
      passes = (λ q. absurd (no-pass q refl), λ h. absurd (no-pass (d.passes.1 ((holds-append rs ss).0 h).0) refl));
      fails =
          λ n p. (
            λ q. (broken-append rs ss n p).1 (inl ((d.fails n p).0 q)),
            λ h. ⊎_elim (λ f. (d.fails n p).1 f) (λ g. absurd (no-pass (d.passes.1 g.0) refl)) ((broken-append rs ss n p).0 h),
          );
    }

pub decides-append : (v w : Checked) (rs ss : List Rule) → DecidesAll v rs → DecidesAll w ss → DecidesAll (both v w) (rs ++ ss)
decides-append v w rs ss d e = decides-after v w rs ss d (λ p. e)

-- checks that agree at each place
pub each-ext : (f g : ℕ → Checked) (i k : ℕ) → ((j : ℕ) → i ≤ j → j < i + k → f j ≡ g j) → each_from f i k ≡ each_from g i k
unfolding each_from
each-ext f g i zero h = refl
each-ext f g i (suc k) h = ap₂ both (h i (omega arith) (omega arith)) (each-ext f g (suc i) k (λ j a b. h j (omega arith) (omega arith)))

-- the checks of several places in turn
module _ (check : ℕ → Checked) where
  pub decides-each : (rules : ℕ → List Rule) → ((i : ℕ) → DecidesAll (check i) (rules i)) → (i k : ℕ) → DecidesAll (each_from check i k) (rules_from rules i k)
  unfolding each_from rules_from
  decides-each rules d i zero = decides-none
  decides-each rules d i (suc k) = decides-append (check i) (each_from check (suc i) k) (rules i) (rules_from rules (suc i) k) (d i) (decides-each rules d (suc i) k)

  -- one run of places after another
  pub each_append : (i k l : ℕ) → each_from check i (k + l) ≡ both (each_from check i k) (each_from check (i + k) l)
  unfolding each_from
  each_append i zero l =
      let e : i + 0 ≡ i = omega arith in
      let z : 0 + l ≡ l = omega arith in
      rw (e, z)
  each_append i (suc k) l =
      let e : i + suc k ≡ suc i + k = omega arith in
      let z : suc k + l ≡ suc (k + l) = omega arith in
      rw (e, z) (ap (both (check i)) (each_append (suc i) k l) ∙ sym (both-assoc (check i) (each_from check (suc i) k) (each_from check (suc i + k) l)))

  -- all pass exactly if each does
  pub each-passes : (i k : ℕ) → (each_from check i k ≡ Ok tt) ↔ ((j : ℕ) → i ≤ j → j < i + k → check j ≡ Ok tt)
  unfolding each_from
  each-passes i zero = (λ q j a b. absurd (omega arith), λ h. refl)
  each-passes i (suc k) = (
    λ q j a b. go j a b (both_first (check i) _ q) (λ l m. (each-passes (suc i) k).0 (both-second (check i) _ q) j l m) (ℕ_discrete i j),
    λ h. rw (h i (omega arith) (omega arith)) ((each-passes (suc i) k).1 (λ j a b. h j (omega arith) (omega arith))),
  )
    where
      go : (j : ℕ) → i ≤ j → j < i + suc k → check i ≡ Ok tt → (suc i ≤ j → j < suc i + k → check j ≡ Ok tt) → Dec (i ≡ j) → check j ≡ Ok tt
      go j a b p q (yes e) = subst (λ x. check x ≡ Ok tt) e p
      go j a b p q (no e) = q (omega arith) (omega arith)

-- every place of a range passes its test, and every place below k
module _ (good : ℕ → Bool) (P : ℕ → Type 0) (e : (i : ℕ) → (good i ≡ true) ↔ P i) where
  abbrev From : ℕ → ℕ → Type 0
  From i k = (j : ℕ) → i ≤ j → j < i + k → P j

  from_next : (i k : ℕ) → P i → From (suc i) k → From i (suc k)
  from_next i k h r j a b = go (ℕ_discrete i j)
    where
      go : Dec (i ≡ j) → P j
      go (yes s) = subst P s h
      go (no s) = r j (omega arith) (omega arith)

  pub every-from : (i k : ℕ) → (every_from good i k ≡ true) ↔ ((j : ℕ) → i ≤ j → j < i + k → P j)
  unfolding every_from
  every-from i zero = (λ q j a b. absurd (omega arith), λ h. refl)
  every-from i (suc k) = (
    λ q. from_next i k ((e i).0 (and_first (good i) _ q)) ((every-from (suc i) k).0 (and_second (good i) _ q)),
    λ h. and_intro ((e i).1 (h i (omega arith) (omega arith))) ((every-from (suc i) k).1 (λ j a b. h j (omega arith) (omega arith))),
  )

  pub every-means : (k : ℕ) → (every_from good 0 k ≡ true) ↔ ((i : ℕ) → i < k → P i)
  every-means k = (λ q i l. (every-from 0 k).0 q i (omega arith) (omega arith), λ h. (every-from 0 k).1 (λ j a b. h j (omega arith)))

  -- the first place that fails its test
  module _ (number : ℕ) where
    abbrev from_rule : ℕ → ℕ → Rule
    from_rule i k =
        record {
          number = number;
          fact = From i k;
          fault = λ p. ((i ≤ p) × (p < i + k)) × ((P p → ⊥) × ((j : ℕ) → i ≤ j → j < p → P j));
        }

    from_step : (i k : ℕ) → Decides (first_from good number (suc i) k) (from_rule (suc i) k) → Tested (good i) → Decides (both (unless (good i) number i) (first_from good number (suc i) k)) (from_rule i (suc k))
    from_step i k d (holds s) =
        rw s
        (record {
          passes = (λ q. from_next i k ((e i).0 s) (d.passes.0 q), λ h. d.passes.1 (λ j a b. h j (omega arith) (omega arith)));
          fails =
              λ n p. (
                λ q.
                    let f = (d.fails n p).0 q in
                    let l = f.1.0 in
                    (f.0, ((omega (arith, l), omega (arith, l)), (f.1.1.0, λ j a b. from_next i (p - suc i) ((e i).0 s) (λ x y z. f.1.1.1 x y (omega arith)) j a (omega (arith, l))))),
                λ h. (d.fails n p).1 (h.0, ((not_first h.1.0.0 h.1.1.0, omega (arith, h.1.0)), (h.1.1.0, λ j a b. h.1.1.1 j (omega arith) b))),
              );
        })
      where
        not_first : {p : ℕ} → i ≤ p → (P p → ⊥) → suc i ≤ p
        not_first {p} a b = go (ℕ_discrete i p)
          where
            go : Dec (i ≡ p) → suc i ≤ p
            go (yes t) = absurd (b (subst P t ((e i).0 s)))
            go (no t) = omega arith
    from_step i k d (fails s) =
        rw s
        (record {
          passes = (λ q. absurd (no-pass q refl), λ h. absurd (clash ((e i).1 (h i (omega arith) (omega arith))) s));
          fails =
              λ n p. (
                λ q. let a : number ≡ n = refused-number q in let b : i ≡ p = refused-place q in (sym a, ((omega arith, omega arith), (subst (λ x. P x → ⊥) b (λ h. clash ((e i).1 h) s), λ j x y. absurd (omega arith)))),
                λ h. let b : p ≡ i = here h.1 in cc (h.0, b),
              );
        })
      where
        here : {p : ℕ} → ((i ≤ p) × (p < i + suc k)) × ((P p → ⊥) × ((j : ℕ) → i ≤ j → j < p → P j)) → p ≡ i
        here {p} h = go (ℕ_discrete p i)
          where
            go : Dec (p ≡ i) → p ≡ i
            go (yes t) = t
            go (no t) = absurd (clash ((e i).1 (h.1.1 i (omega arith) (omega (arith, h.0)))) s)

    from-decides : (i k : ℕ) → Decides (first_from good number i k) (from_rule i k)
    unfolding first_from each_from
    from-decides i zero =
        record {
          passes = (λ q j a b. absurd (omega arith), λ h. refl);
          fails = λ n p. (λ q. absurd (no-pass refl q), λ h. absurd (omega (arith, h.1.0)));
        }
    from-decides i (suc k) = from_step i k (from-decides (suc i) k) (tested (good i))

    pub decides-from : (k : ℕ) → Decides (first_from good number 0 k) (rule_at number k P)
    decides-from k =
        let d = from-decides 0 k in
        record {
          passes = (λ q i l. d.passes.0 q i (omega arith) (omega arith), λ h. d.passes.1 (λ j a b. h j (omega arith)));
          fails =
              λ n p. (
                λ q. let f = (d.fails n p).0 q in (f.0, (omega (arith, f.1.0), (f.1.1.0, λ i l. f.1.1.1 i (omega arith) l))),
                λ h. (d.fails n p).1 (h.0, ((omega arith, omega (arith, h.1.0)), (h.1.1.0, λ j a b. h.1.1.1 j b))),
              );
        }

-- ---- checks that several operations share

pub count-decides : (n : ℕ) → Decides (check_count n) (rule 1 ((0 < n) × (n ≤ 512)))
unfolding check_count
count-decides n = decides-unless _ 1 (and-means (lt-means 0 n) (le-means n 512))

pub scale-decides : (k : ℕ) → Decides (check_scale k) (rule 9 (k ≤ 30))
unfolding check_scale
scale-decides k = decides-unless _ 9 (le-means k 30)

pub long-decides : (k n : ℕ) → Decides (check_long k n) (rule 3 (n ≤ k))
unfolding check_long
long-decides k n = decides-unless _ 3 (le-means n k)

pub total-decides : (z : ℤ) → Decides (check_total z) (total_rule z)
unfolding check_total
total-decides z = decides-unless _ 13 (and-means (le_z-means (pos 0) z) (le_z-means z (pos max_total)))
