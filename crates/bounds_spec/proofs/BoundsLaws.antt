-- What the verdict of Bounds means, and what a call leaves, from the contract alone. The bounds that it makes cross only where a low is above
-- its high. Assumes nothing.
use Rattle.std.specs.Prelude.{Ok}
use mathlib.Core.Path.{◌≡◌, refl, ◌∙◌, ap}
use mathlib.Core.Logic.{◌↔◌}
use mathlib.Core.Bool.{true, ◌&&◌}
use mathlib.Core.List.{[], ◌∷◌}
use Prim.Native.Nat.{ℕ, ◌≤◌, ◌<◌}
use native.Mathlib.Omega.{arith}
use lib.Dec.{eqb}
use lib.ListN.{length}
use Rattle.numbers.specs.Lists.{at}
use Rattle.numbers.specs.Checks.{refused, after, Decides, DecidesAll, rule, rule_at, Holds, Broken, RefuseWith}
use Rattle.numbers.proofs.TestLaws.{and-means, le-means, eq-means}
use Rattle.numbers.proofs.CheckLaws.{decides-unless, decides-from, decides-then, decides-none, count-decides, answered-accepted, answered-refused}
use Rattle.numbers.proofs.ChainLaws.{refuse-with}
use Rattle.numbers.proofs.ListLaws.{get_d-list_to}
use Rattle.qlt_spec.specs.Field.{Lists, field, Ordered}
use Rattle.bounds_spec.specs.Ratios.{parts, air_of, ratio_of}
use Rattle.bounds_spec.specs.Bounds.{Mixing, cells, Bounds, bounds_of, BoundsCall, field_ratios, bounds_at, converted, check_bounds_lengths, ratios_ok, check_ratios, bounds_verdict, BoundsLengths, RatiosFit, bounds_rules, BoundsFits, BoundsContract}
use Rattle.bounds_spec.proofs.RatioLaws.{low-mono, high-mono, least-is, most-is}

-- ---- the verdict

-- six lengths are all n
lengths-test : (n p q r s t u : ℕ) → (eqb p n && (eqb q n && (eqb r n && (eqb s n && (eqb t n && eqb u n)))) ≡ true) ↔ ((p ≡ n) × ((q ≡ n) × ((r ≡ n) × ((s ≡ n) × ((t ≡ n) × (u ≡ n))))))
lengths-test n p q r s t u =
    and-means (eq-means p n) (and-means (eq-means q n) (and-means (eq-means r n) (and-means (eq-means s n) (and-means (eq-means t n) (eq-means u n)))))

-- past 3 there are as many ratios as air masses
pub lengths-passed : (n p q r s t u : ℕ) → check_bounds_lengths n p q r s t u ≡ Ok tt → (p ≡ n) × (q ≡ n)
unfolding check_bounds_lengths
lengths-passed n p q r s t u e = let h = (decides-unless _ 3 (lengths-test n p q r s t u)).passes.0 e in (h.0, h.1.0)

module _ (c : BoundsCall) where
  abbrev x : Mixing
  x = c.given

  abbrev b : Bounds
  b = c.lent

  lengths-decides : Decides (check_bounds_lengths (cells x) (length x.low_ratios) (length x.high_ratios) (length b.lows) (length b.highs) (length b.safe_lows) (length b.safe_highs)) (rule 3 (BoundsLengths c))
  unfolding check_bounds_lengths
  lengths-decides =
      let t = lengths-test (cells x) (length x.low_ratios) (length x.high_ratios) (length b.lows) (length b.highs) (length b.safe_lows) (length b.safe_highs) in
      decides-unless _ 3 (
        λ e. let h = t.0 e in record { low_ratios = h.0; high_ratios = h.1.0; lows = h.1.1.0; highs = h.1.1.1.0; safe_lows = h.1.1.1.1.0; safe_highs = h.1.1.1.1.1 },
        λ l. t.1 (l.low_ratios, (l.high_ratios, (l.lows, (l.highs, (l.safe_lows, l.safe_highs))))),
      )

  ratios-fit : (i : ℕ) → (ratios_ok (ratio_of (at x.low_ratios i)) (ratio_of (at x.high_ratios i)) ≡ true) ↔ RatiosFit x i
  unfolding ratios_ok
  ratios-fit i =
      let t = and-means (le-means (at x.low_ratios i) parts) (le-means (at x.high_ratios i) parts) in
      (λ e. let h = t.0 e in record { low = h.0; high = h.1 }, λ f. t.1 (f.low, f.high))

  ratios-decides : Decides (check_ratios (cells x) x.low_ratios x.high_ratios) (rule_at 18 (cells x) (RatiosFit x))
  unfolding check_ratios
  ratios-decides = decides-from _ (RatiosFit x) ratios-fit 18 (cells x)

  -- accepted if every rule holds; refused with a number at a place if those before it hold and this one is broken there
  pub bounds-decides : DecidesAll (bounds_verdict c) (bounds_rules c)
  unfolding bounds_verdict
  bounds-decides =
      decides-then _ _ _ _ (count-decides (cells x))
      (decides-then _ _ _ _ lengths-decides (decides-then _ _ _ _ ratios-decides decides-none))

  rules-fit : Holds (bounds_rules c) ↔ BoundsFits c
  unfolding Holds
  rules-fit = (
    λ h. record { some = h.0.0; few = h.0.1; lengths = h.1.0; ratios = h.1.1.0 },
    λ f. ((f.some, f.few), (f.lengths, (f.ratios, tt))),
  )

  pub bounds-accepts : (bounds_verdict c ≡ Ok tt) ↔ BoundsFits c
  bounds-accepts = (λ e. rules-fit.0 (bounds-decides.passes.0 e), λ f. bounds-decides.passes.1 (rules-fit.1 f))

  pub bounds-refuses : (number place : ℕ) → (bounds_verdict c ≡ refused number place) ↔ Broken (bounds_rules c) number place
  bounds-refuses = bounds-decides.fails

  -- it refuses with 02's numbers and no others
  pub bounds-numbers : RefuseWith (bounds_rules c) (1 ∷ 3 ∷ 18 ∷ [])
  bounds-numbers = refuse-with (bounds_rules c) _ refl refl

  -- ---- from the contract alone

  -- an accepted call fits, and leaves the conversion
  pub done-bounds : {left : Bounds} → BoundsContract c (Ok tt) left → BoundsFits c × (left ≡ converted x)
  done-bounds p =
      let e = (answered-accepted (bounds_verdict c) tt tt p.answers).0 in
      (bounds-accepts.0 e, p.writes ∙ ap (λ v. after v (converted x) b) e)

  -- a refused one breaks that rule, and leaves the lists as they were
  pub refused-bounds : {number place : ℕ} {left : Bounds} → BoundsContract c (refused number place) left → Broken (bounds_rules c) number place × (left ≡ b)
  refused-bounds {number} {place} p =
      let e = answered-refused (bounds_verdict c) tt number place p.answers in
      ((bounds-refuses number place).0 e, p.writes ∙ ap (λ v. after v (converted x) b) e)

-- ---- the ratios of the field, and the order of a cell's bounds

module _ (x : Mixing) where
  -- the smallest low ratio and the largest high ratio of a call that fits are none above 1048576
  pub field_fits : 0 < cells x → ((i : ℕ) → i < cells x → RatiosFit x i) → ((field_ratios x).smallest_low.0 ≤ parts) × ((field_ratios x).largest_high.0 ≤ parts)
  field_fits h f =
      let l = least-is (at x.low_ratios) (cells x) h in
      let m = most-is (at x.high_ratios) (cells x) h in
      (omega (arith, l.one, (f l.place l.inside).low), omega (arith, m.one, (f m.place m.inside).high))

  module _ (c : ℕ) (l : c < cells x) where
    at_low : at (converted x).lows c ≡ (bounds_at x c).low.0
    at_low = get_d-list_to (cells x) (λ k. (bounds_at x k).low.0) c 0 l

    at_high : at (converted x).highs c ≡ (bounds_at x c).high.0
    at_high = get_d-list_to (cells x) (λ k. (bounds_at x k).high.0) c 0 l

    pub at-safe-low : at (converted x).safe_lows c ≡ (bounds_at x c).safe_low.0
    at-safe-low = get_d-list_to (cells x) (λ k. (bounds_at x k).safe_low.0) c 0 l

    pub at-safe-high : at (converted x).safe_highs c ≡ (bounds_at x c).safe_high.0
    at-safe-high = get_d-list_to (cells x) (λ k. (bounds_at x k).safe_high.0) c 0 l

    -- the safety bounds never cross the bounds
    pub safe-outside : ((bounds_at x c).safe_low.0 ≤ (bounds_at x c).low.0) × ((bounds_at x c).high.0 ≤ (bounds_at x c).safe_high.0)
    safe-outside =
        let a = air_of (at x.air c) in (
          low-mono a _ (ratio_of (at x.low_ratios c)) ((least-is (at x.low_ratios) (cells x) (omega arith)).before c l),
          high-mono a (ratio_of (at x.high_ratios c)) _ ((most-is (at x.high_ratios) (cells x) (omega arith)).before c l),
        )

    -- so in a field with these bounds a cell meets 5 exactly if its low is above its high
    pub ordered-is : (f : Lists) → bounds_of f ≡ converted x → Ordered (field f) c ↔ (at f.lows c ≤ at f.highs c)
    ordered-is f e =
        let lo = ap (λ y. at y.lows c) e ∙ at_low in
        let hi = ap (λ y. at y.highs c) e ∙ at_high in
        let sl = ap (λ y. at y.safe_lows c) e ∙ at-safe-low in
        let sh = ap (λ y. at y.safe_highs c) e ∙ at-safe-high in
        (λ o. o.high, λ h. record { low = omega (arith, sl, lo, safe-outside.0); high = h; safe = omega (arith, hi, sh, safe-outside.1) })
