-- What Split's verdict means, and what the masses and d of an accepted call are.
-- Assumes nothing.
use Rattle.std.specs.Prelude.{Ok}
use mathlib.Core.Path.{◌≡◌, refl, sym, ◌∙◌, ap, ap₂, subst}
use mathlib.Core.Logic.{◌↔◌}
use mathlib.Core.Bool.{true, ◌&&◌}
use mathlib.Core.List.{List, [], ◌∷◌}
use Prim.Native.Nat.{ℕ, ◌≤◌, ◌<◌}
use native.Mathlib.Omega.{arith}
use lib.Dec.{eqb}
use lib.IntN.{ℤ, pos, nat_abs, ◌-ℤ◌}
use lib.Signed.{◌≤ℤ◌}
use lib.ListN.{length}
use mir.Syntax.{w64}
use mir.Val.{to_z, of_z}
use Rattle.numbers.specs.Sums.{ℕ_adds, ℤ_adds, sum_to}
use Rattle.numbers.specs.Lists.{at_ℤ}
use Rattle.numbers.specs.Signed.{over, under, min_ℤ, max_ℤ}
use Rattle.numbers.specs.Checks.{refused, answered, after, first, check_count, Decides, rule, rule_at, Holds, Broken, max_total, DecidesAll, RefuseWith}
use Rattle.numbers.proofs.TestLaws.{and-means, eq-means}
use Rattle.numbers.proofs.SumLaws.{sum_to-ext, sum_to-none, sum_to-over, sum_to-pos}
use Rattle.numbers.proofs.ListLaws.{length-list_to, get_d-list_to}
use Rattle.numbers.proofs.SignedLaws.{about, read_back, le_parts, from_zero, over-whole, from-zero-whole, le_z-means, max-under}
use Rattle.numbers.proofs.CheckLaws.{answered-accepted, answered-refused, after-pass, after-fail, both_first, both-second, decides-unless, decides-from, decides-none, decides-then, every-means, count-decides}
use Rattle.numbers.proofs.ChainLaws.{refuse-with}
use Rattle.caas_spec.specs.Group.{Group, Splits, Divides, distance, sum_in}
use Rattle.caas_spec.specs.Split.{clip, clipped, deficit, result, Proportional}
use Rattle.caas_spec.specs.Operation.{SplitCall, items, sum_ℤ, check_lengths, check_split_order, check_highs, check_weights, check_split_reach, split_shape_checks, split_verdict, SplitLengths, split_rules, SplitFits, item_group, split_masses, split_deficit, SplitContract, Divided, distance_of, clipped_at, SplitFacts}
use Rattle.caas_spec.proofs.SplitLaws.{deficit-most, moved-adds, result-divides, result-nearest, result-proportional}

-- ---- each check, and the verdict

lengths-test : (n l h w m : ℕ) → (eqb l n && (eqb h n && (eqb w n && eqb m n)) ≡ true) ↔ ((l ≡ n) × ((h ≡ n) × ((w ≡ n) × (m ≡ n))))
lengths-test n l h w m = and-means (eq-means l n) (and-means (eq-means h n) (and-means (eq-means w n) (eq-means m n)))

-- what 1 and 3 leave to the checks after them
pub shape-passed : (n l h w m : ℕ) → first (split_shape_checks n l h w m) ≡ Ok tt → (n ≤ 512) × ((l ≡ n) × ((h ≡ n) × ((w ≡ n) × (m ≡ n))))
unfolding check_lengths
shape-passed n l h w m e = (
  ((count-decides n).passes.0 (both_first (check_count n) _ e)).1,
  (decides-unless _ 3 (lengths-test n l h w m)).passes.0 (both_first _ (Ok tt) (both-second (check_count n) _ e)),
)

pub split-order-decides : (n : ℕ) (lows highs : List ℤ) → Decides (check_split_order n lows highs) (rule_at 5 n (λ u. (pos 0 ≤ℤ at_ℤ lows u) × (at_ℤ lows u ≤ℤ at_ℤ highs u)))
unfolding check_split_order
split-order-decides n lows highs = decides-from _ _ (λ u. and-means (le_z-means (pos 0) (at_ℤ lows u)) (le_z-means (at_ℤ lows u) (at_ℤ highs u))) 5 n

pub highs-decides : (n : ℕ) (highs : List ℤ) → Decides (check_highs n highs) (rule 6 (sum_ℤ n highs ≤ℤ pos max_total))
unfolding check_highs
highs-decides n highs = decides-unless _ 6 (le_z-means (sum_ℤ n highs) (pos max_total))

pub weights-decides : (n : ℕ) (weights : List ℤ) → Decides (check_weights n weights) (rule 7 (((u : ℕ) → u < n → pos 0 ≤ℤ at_ℤ weights u) × (sum_ℤ n weights ≤ℤ pos max_total)))
unfolding check_weights
weights-decides n weights =
    decides-unless _ 7
    (and-means (every-means _ (λ u. pos 0 ≤ℤ at_ℤ weights u) (λ u. le_z-means (pos 0) (at_ℤ weights u)) n) (le_z-means (sum_ℤ n weights) (pos max_total)))

pub split-reach-decides : (n : ℕ) (lows highs : List ℤ) (total : ℤ) → Decides (check_split_reach n lows highs total) (rule 8 ((sum_ℤ n lows ≤ℤ total) × (total ≤ℤ sum_ℤ n highs)))
unfolding check_split_reach
split-reach-decides n lows highs total = decides-unless _ 8 (and-means (le_z-means (sum_ℤ n lows) total) (le_z-means total (sum_ℤ n highs)))

module _ (c : SplitCall) where
  abbrev n : ℕ
  n = items c

  lengths-decides : Decides (check_lengths n (length c.lows) (length c.highs) (length c.weights) (length c.masses)) (rule 3 (SplitLengths c))
  unfolding check_lengths
  lengths-decides =
      let t = lengths-test n (length c.lows) (length c.highs) (length c.weights) (length c.masses) in
      decides-unless _ 3 (λ e. to (t.0 e), λ l. t.1 (l.lows, (l.highs, (l.weights, l.masses))))
    where
      to : (length c.lows ≡ n) × ((length c.highs ≡ n) × ((length c.weights ≡ n) × (length c.masses ≡ n))) → SplitLengths c
      to h = record { lows = h.0; highs = h.1.0; weights = h.1.1.0; masses = h.1.1.1 }

  -- accepted if every rule holds; refused with a number at a place if those before it hold and this one is broken there
  pub split-decides : DecidesAll (split_verdict c) (split_rules c)
  unfolding split_verdict split_rules
  split-decides =
      decides-then _ _ _ _ (count-decides n)
      (decides-then _ _ _ _ lengths-decides
      (decides-then _ _ _ _ (split-order-decides n c.lows c.highs)
      (decides-then _ _ _ _ (highs-decides n c.highs)
      (decides-then _ _ _ _ (weights-decides n c.weights)
      (decides-then _ _ _ _ (split-reach-decides n c.lows c.highs c.total) decides-none)))))

  -- the numbers that Split refuses with
  pub split-numbers : RefuseWith (split_rules c) (1 ∷ 3 ∷ 5 ∷ 6 ∷ 7 ∷ 8 ∷ [])
  unfolding split_rules
  split-numbers = refuse-with (split_rules c) (1 ∷ 3 ∷ 5 ∷ 6 ∷ 7 ∷ 8 ∷ []) refl refl

  pub split-refuses : (number place : ℕ) → (split_verdict c ≡ refused number place) ↔ Broken (split_rules c) number place
  split-refuses = split-decides.fails

  fits-holds : Holds (split_rules c) ↔ SplitFits c
  unfolding split_rules Holds
  fits-holds = (
    λ h.
        record {
          some = h.0.0;
          few = h.0.1;
          lengths = h.1.0;
          nonneg = λ u l. (h.1.1.0 u l).0;
          order = λ u l. (h.1.1.0 u l).1;
          highs = h.1.1.1.0;
          weights = h.1.1.1.1.0.0;
          weighs = h.1.1.1.1.0.1;
          least = h.1.1.1.1.1.0.0;
          most = h.1.1.1.1.1.0.1;
        },
    λ f. ((f.some, f.few), (f.lengths, ((λ u l. (f.nonneg u l, f.order u l)), (f.highs, ((f.weights, f.weighs), ((f.least, f.most), tt)))))),
  )

  pub split-accepts : (split_verdict c ≡ Ok tt) ↔ SplitFits c
  split-accepts = (λ e. fits-holds.0 (split-decides.passes.0 e), λ f. split-decides.passes.1 (fits-holds.1 f))

-- ---- an accepted call

module _ (c : SplitCall) (fits : SplitFits c) where
  abbrev pub G : Group
  G = item_group c

  abbrev pub M : ℕ
  M = over c.total

  abbrev k : ℕ
  k = items c

  high-nonneg : (u : ℕ) → u < k → under (at_ℤ c.highs u) ≡ 0
  high-nonneg u l = omega (arith, le_parts (fits.nonneg u l), le_parts (fits.order u l))

  pub lows-sum : sum_ℤ k c.lows ≡ pos (sum_in ℕ_adds G G.low)
  lows-sum = sum_to-over k (at_ℤ c.lows) (λ u l. from_zero (fits.nonneg u l))

  pub highs-sum : sum_ℤ k c.highs ≡ pos (sum_in ℕ_adds G G.high)
  highs-sum = sum_to-over k (at_ℤ c.highs) high-nonneg

  pub weights-sum : sum_ℤ k c.weights ≡ pos (sum_in ℕ_adds G G.weight)
  weights-sum = sum_to-over k (at_ℤ c.weights) (λ u l. from_zero (fits.weights u l))

  pub total-whole : c.total ≡ pos (over c.total)
  total-whole = over-whole c.total (let h : pos (sum_in ℕ_adds G G.low) ≤ℤ c.total = subst (λ z. z ≤ℤ c.total) lows-sum fits.least in omega (arith, le_parts h))

  -- M can be split among the items
  pub items-splits : Splits G M
  items-splits =
      record {
        order = λ u l e. omega (arith, le_parts (fits.order u l));
        least = let h : pos (sum_in ℕ_adds G G.low) ≤ℤ c.total = subst (λ z. z ≤ℤ c.total) lows-sum fits.least in omega (arith, le_parts h);
        most = let h : c.total ≤ℤ pos (sum_in ℕ_adds G G.high) = subst (λ z. c.total ≤ℤ z) highs-sum fits.most in omega (arith, le_parts h);
      }

  pub highs-small : sum_in ℕ_adds G G.high ≤ max_total
  highs-small = let h : pos (sum_in ℕ_adds G G.high) ≤ℤ pos max_total = subst (λ z. z ≤ℤ pos max_total) highs-sum fits.highs in omega (arith, le_parts h)

  pub weights-small : sum_in ℕ_adds G G.weight ≤ max_total
  weights-small = let h : pos (sum_in ℕ_adds G G.weight) ≤ℤ pos max_total = subst (λ z. z ≤ℤ pos max_total) weights-sum fits.weighs in omega (arith, le_parts h)

  -- d is read as it is from 64 bits
  pub split-deficit-read : {d : ℤ} → d ≡ split_deficit c → to_z w64 (of_z w64 d) ≡ split_deficit c
  unfolding split_deficit
  split-deficit-read e =
      ap (λ z. to_z w64 (of_z w64 z)) e ∙ read_back (deficit G M) (omega (arith, about (deficit G M), deficit-most G M items-splits, highs-small))

  mass-at : (u : ℕ) → u < k → at_ℤ (split_masses c) u ≡ pos (result G M u)
  unfolding split_masses
  mass-at u l = get_d-list_to k (λ w. pos (result G M w)) u (pos 0) l

  mass-within : (u : ℕ) → u < k → (at_ℤ c.lows u ≤ℤ at_ℤ (split_masses c) u) × (at_ℤ (split_masses c) u ≤ℤ at_ℤ c.highs u)
  mass-within u l =
      let r = (result-divides G M items-splits).within u l refl in
      rw (mass-at u l) (
        subst (λ z. z ≤ℤ pos (result G M u)) (sym (from-zero-whole (at_ℤ c.lows u) (fits.nonneg u l))) r.0,
        subst (λ z. pos (result G M u) ≤ℤ z) (sym (over-whole (at_ℤ c.highs u) (high-nonneg u l))) r.1,
      )

  masses-sum : sum_to ℤ_adds k (at_ℤ (split_masses c)) ≡ c.total
  masses-sum = sum_to-ext ℤ_adds k _ (λ u. pos (result G M u)) mass-at ∙ (result-divides G M items-splits).sum ∙ sym total-whole

  divided-divides : (y : ℕ → ℤ) → Divided c y → Divides G M y
  divided-divides y d =
      record {
        within = λ u l e. (subst (λ z. z ≤ℤ y u) (from-zero-whole (at_ℤ c.lows u) (fits.nonneg u l)) (d.within u l).0, subst (λ z. y u ≤ℤ z) (over-whole (at_ℤ c.highs u) (high-nonneg u l)) (d.within u l).1);
        sum = d.sum ∙ total-whole;
      }

  distance_is : (y : ℕ → ℤ) → distance_of c y ≡ distance G y
  unfolding distance_of distance
  distance_is y = refl

  distance-masses : distance_of c (at_ℤ (split_masses c)) ≡ distance G (λ u. pos (result G M u))
  unfolding distance_of distance
  distance-masses = sum_to-ext ℕ_adds k _ _ (λ u l. ap (λ z. nat_abs (z -ℤ at_ℤ c.targets u)) (mass-at u l))

  weightless : ((u : ℕ) → u < k → at_ℤ c.weights u ≡ pos 0) → sum_in ℕ_adds G G.weight ≡ 0
  weightless h = sum_to-none ℕ_adds k _ (λ u l. ap over (h u l))

  -- the clipped targets are the group's
  clipped-is : (u : ℕ) → u < k → clipped_at c u ≡ pos (clipped G u)
  unfolding clipped clip
  clipped-is u l =
      let lo = from-zero-whole (at_ℤ c.lows u) (fits.nonneg u l) in
      let hi = over-whole (at_ℤ c.highs u) (high-nonneg u l) in
      ap₂ (λ a b. max_ℤ a (min_ℤ (at_ℤ c.targets u) b)) lo hi ∙ over-whole _ (max-under (G.low u) (min_ℤ (at_ℤ c.targets u) (pos (G.high u))))

  clipped-sum : sum_to ℤ_adds k (clipped_at c) ≡ pos (sum_in ℕ_adds G (clipped G))
  clipped-sum = sum_to-ext ℤ_adds k (clipped_at c) (λ u. pos (clipped G u)) clipped-is ∙ sum_to-pos k (clipped G)

  deficit-is : split_deficit c ≡ c.total -ℤ sum_to ℤ_adds k (clipped_at c)
  unfolding split_deficit deficit
  deficit-is = ap₂ ◌-ℤ◌ (sym total-whole) (sym clipped-sum)

  moves-is : sum_to ℕ_adds k (λ u. nat_abs (at_ℤ (split_masses c) u -ℤ clipped_at c u)) ≡ nat_abs (split_deficit c)
  unfolding split_deficit
  moves-is =
      sum_to-ext ℕ_adds k _ (λ u. nat_abs (pos (result G M u) -ℤ pos (clipped G u))) (λ u l. ap₂ (λ x y. nat_abs (x -ℤ y)) (mass-at u l) (clipped-is u l))
      ∙ moved-adds G M items-splits

  pub fits-facts : SplitFacts c (split_deficit c) (split_masses c)
  fits-facts =
      record {
        count = unfold split_masses in (length-list_to k (λ w. pos (result G M w)));
        divides = record { within = mass-within; sum = masses-sum };
        nearest = λ y d. rw (distance-masses, distance_is y) (result-nearest G M items-splits y (divided-divides y d));
        proportional = λ h u l. subst (λ z. Proportional G M z u) (sym (mass-at u l)) (result-proportional G M items-splits (weightless h) u l refl);
        deficit = deficit-is;
        moves = moves-is;
      }

-- ---- from the contract alone

-- a call answered Ok fits, and its masses and d have every fact
module _ (c : SplitCall) (d : ℤ) (masses : List ℤ) (p : SplitContract c (Ok d) masses) where
  done-told : (split_verdict c ≡ Ok tt) × (d ≡ split_deficit c)
  done-told = answered-accepted (split_verdict c) d (split_deficit c) p.answers

  pub done-fits : SplitFits c
  done-fits = (split-accepts c).0 done-told.0

  pub split-done-facts : SplitFacts c d masses
  split-done-facts =
      let e = p.writes ∙ ap (λ v. after v (split_masses c) c.masses) done-told.0 in
      subst (λ z. SplitFacts c z masses) (sym done-told.1) (subst (SplitFacts c (split_deficit c)) (sym e) (fits-facts c done-fits))

-- a refused call left the masses as they were, and broke the rule of its number
pub split-refused-keeps : (c : SplitCall) (number place : ℕ) (masses : List ℤ) → SplitContract c (refused number place) masses → (masses ≡ c.masses) × Broken (split_rules c) number place
split-refused-keeps c number place masses p =
    let e = answered-refused (split_verdict c) (split_deficit c) number place p.answers in
    (p.writes ∙ ap (λ v. after v (split_masses c) c.masses) e, (split-refuses c number place).0 e)

-- and the contract by the verdict: of a call that is refused, and of one that is accepted
pub contract-refused : (c : SplitCall) {number place : ℕ} → split_verdict c ≡ refused number place → SplitContract c (refused number place) c.masses
contract-refused c e = record { answers = ap (λ v. answered v (split_deficit c)) (sym e); writes = after-fail _ c.masses e }

pub contract-done : (c : SplitCall) {d : ℤ} {masses : List ℤ} → split_verdict c ≡ Ok tt → d ≡ split_deficit c → masses ≡ split_masses c → SplitContract c (Ok d) masses
contract-done c e t w = record { answers = ap Ok t ∙ ap (λ v. answered v (split_deficit c)) (sym e); writes = after-pass c.masses e w }
