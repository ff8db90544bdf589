-- A split goes by a group's items alone: groups of one size whose items, and the items' values, agree have the same results. Assumes nothing.
use mathlib.Core.Path.{◌≡◌, sym, ◌∙◌, ap, ap₂}
use mathlib.Core.Bool.{true}
use Prim.Native.Nat.{ℕ, suc, ◌+◌, ◌-◌, ◌*◌, ◌≤◌, ◌<◌, min}
use native.Mathlib.Omega.{arith}
use lib.IntN.{ℤ, pos, nat_abs, ◌-ℤ◌}
use Rattle.numbers.specs.Sums.{ℕ_adds, pick}
use Rattle.numbers.specs.Quota.{quota}
use Rattle.numbers.proofs.SumLaws.{sum_to-ext, pick-ext}
use Rattle.caas_spec.specs.Group.{Group, Each, Splits, sum_before, sum_in}
use Rattle.caas_spec.specs.Split.{clip, clipped, deficit, surplus, room, capacity, portion, first_share, remainder, left, second_share, moved, shares, result, after_first}
use Rattle.caas_spec.proofs.PortionLaws.{first-is, second_is}

module _ (G H : Group) (es : G.size ≡ H.size) (eh : (u : ℕ) → u < G.size → G.has u ≡ H.has u) where
  pub before-ext : (k : ℕ) (f g : ℕ → ℕ) → k ≤ G.size → Each G (λ u. f u ≡ g u) → sum_before ℕ_adds G k f ≡ sum_before ℕ_adds H k g
  before-ext k f g l h = sum_to-ext ℕ_adds k _ _ (λ u i. pick-ext ℕ_adds (G.has u) (f u) (g u) (h u (omega arith)) ∙ ap (λ b. pick ℕ_adds b (g u)) (eh u (omega arith)))

  pub all-ext : (f g : ℕ → ℕ) → Each G (λ u. f u ≡ g u) → sum_in ℕ_adds G f ≡ sum_in ℕ_adds H g
  all-ext f g h = before-ext G.size f g (omega arith) h ∙ ap (λ k. sum_before ℕ_adds H k g) es

  pub portion-ext : (s t : ℕ → ℕ) (D u : ℕ) → u < G.size → Each G (λ w. s w ≡ t w) → portion G s D u ≡ portion H t D u
  unfolding portion
  portion-ext s t D u l h =
      ap₂ ◌-◌
      (ap₂ (λ x y. quota (D * x) y) (before-ext (suc u) s t (omega arith) h) (all-ext s t h))
      (ap₂ (λ x y. quota (D * x) y) (before-ext u s t (omega arith) h) (all-ext s t h))

  module _ (ew : Each G (λ u. G.weight u ≡ H.weight u)) (c d : ℕ → ℕ) (D : ℕ) (ec : Each G (λ u. c u ≡ d u)) where
    pub first-ext : Each G (λ u. first_share G c D u ≡ first_share H d D u)
    first-ext u l e = first-is G c D u ∙ ap₂ min (ec u l e) (portion-ext G.weight H.weight D u l ew) ∙ sym (first-is H d D u)

    pub left-ext : Each G (λ u. left G c D u ≡ left H d D u)
    unfolding left
    left-ext u l e = ap₂ ◌-◌ (ec u l e) (first-ext u l e)

    pub remainder-ext : remainder G c D ≡ remainder H d D
    unfolding remainder
    remainder-ext = ap (λ x. D - x) (all-ext (first_share G c D) (first_share H d D) first-ext)

    pub second-ext : Each G (λ u. second_share G c D u ≡ second_share H d D u)
    second-ext u l e =
        second_is G c D u
        ∙ portion-ext (left G c D) (left H d D) (remainder G c D) u l left-ext
        ∙ ap (λ x. portion H (left H d D) x u) remainder-ext
        ∙ sym (second_is H d D u)

  module _
      (et : Each G (λ u. G.target u ≡ H.target u))
      (el : Each G (λ u. G.low u ≡ H.low u))
      (eg : Each G (λ u. G.high u ≡ H.high u))
      (ew : Each G (λ u. G.weight u ≡ H.weight u)) where
    pub clipped-ext : Each G (λ u. clipped G u ≡ clipped H u)
    unfolding clipped
    clipped-ext u l e = ap₂ (λ a b. clip a b (G.target u)) (el u l e) (eg u l e) ∙ ap (clip (H.low u) (H.high u)) (et u l e)

    pub deficit-ext : (M : ℕ) → deficit G M ≡ deficit H M
    unfolding deficit
    deficit-ext M = ap (λ x. pos M -ℤ pos x) (all-ext (clipped G) (clipped H) clipped-ext)

    pub capacity-ext : (d : ℤ) → Each G (λ u. capacity G d u ≡ capacity H d u)
    unfolding capacity
    capacity-ext d u l e =
        ap₂ (λ a b. room (surplus d) a b (clipped G u)) (el u l e) (eg u l e) ∙ ap (room (surplus d) (H.low u) (H.high u)) (clipped-ext u l e)

    pub shares-ext : (M : ℕ) → Each G (λ u. shares G M u ≡ shares H M u)
    unfolding shares
    shares-ext M u l e =
        ap (λ d. first_share G (capacity G d) (nat_abs d) u + second_share G (capacity G d) (nat_abs d) u) (deficit-ext M)
        ∙ ap₂ ◌+◌
        (first-ext ew (capacity G (deficit H M)) (capacity H (deficit H M)) (nat_abs (deficit H M)) (capacity-ext (deficit H M)) u l e)
        (second-ext ew (capacity G (deficit H M)) (capacity H (deficit H M)) (nat_abs (deficit H M)) (capacity-ext (deficit H M)) u l e)

    pub after-ext : (M : ℕ) → Each G (λ u. after_first G M u ≡ after_first H M u)
    unfolding after_first
    after-ext M u l e =
        ap (λ d. moved (surplus d) (clipped G u) (first_share G (capacity G d) (nat_abs d) u)) (deficit-ext M)
        ∙ ap₂ (moved (surplus (deficit H M)))
        (clipped-ext u l e)
        (first-ext ew (capacity G (deficit H M)) (capacity H (deficit H M)) (nat_abs (deficit H M)) (capacity-ext (deficit H M)) u l e)

    pub result-ext : (M : ℕ) → Each G (λ u. result G M u ≡ result H M u)
    unfolding result
    result-ext M u l e =
        ap (λ d. moved (surplus d) (clipped G u) (shares G M u)) (deficit-ext M)
        ∙ ap₂ (moved (surplus (deficit H M))) (clipped-ext u l e) (shares-ext M u l e)

    pub splits-ext : (M : ℕ) → Splits G M → Splits H M
    splits-ext M p =
        record {
          order = λ u l e. let i : u < G.size = omega (arith, es) in let j : G.has u ≡ true = eh u i ∙ e in omega (arith, el u i j, eg u i j, p.order u i j);
          least = omega (arith, p.least, all-ext G.low H.low el);
          most = omega (arith, p.most, all-ext G.high H.high eg);
        }
