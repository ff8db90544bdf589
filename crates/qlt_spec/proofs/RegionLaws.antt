-- Two fields that differ only below v, where their sums agree: the masses outside v and v's own, the outcome and check 8 are the same. Of the
-- checks 1 to 7 only the tree's is used, and 8 need not pass. Assumes nothing.
use mathlib.Core.Path.{◌≡◌, refl, sym, ◌∙◌, ap, ap₂}
use mathlib.Core.Bool.{true, false}
use Prim.Native.Nat.{ℕ, ◌-◌, ◌<◌}
use native.Mathlib.Omega.{arith}
use lib.IntN.{ℤ}
use Rattle.numbers.specs.Sums.{Adds, ℕ_adds, ℤ_adds, sum_to}
use Rattle.caas_spec.specs.Split.{result}
use Rattle.caas_spec.proofs.ExtLaws.{result-ext}
use Rattle.qlt_spec.specs.Tree.{leads, child_of, node_sum, Valid}
use Rattle.qlt_spec.specs.Field.{Field, outcome, outcome_by, low_in, high_in, sum_cells}
use Rattle.qlt_spec.specs.declared.Outcome.{Outcome}
use Rattle.qlt_spec.specs.declared.Outcome.TheVariants.{Attainable, Below, Above}
use Rattle.qlt_spec.specs.Masses.{mass_between, tree_mass}
use Rattle.qlt_spec.specs.Region.{sum_below, Outside, EditedField, AgreeOutside}
use Rattle.qlt_spec.proofs.TreeLaws.{up-ind, child-parent, node_sum-root}
use Rattle.qlt_spec.proofs.BelowLaws.{Clear, out-clear, top-clear, parent-out, child-clear, SumsAgree, sums-agree}
use Rattle.qlt_spec.proofs.BetweenLaws.{group, between, between-root, between-up}

-- ---- between any bounds of the cells: where the sums at v and at every node outside it agree, so do the masses

module _
    {up : ℕ → ℕ} {n m : ℕ} (ok : Valid up n m) (v : ℕ) (target target' : ℕ → ℤ) (weight weight' low low' high high' : ℕ → ℕ)
    (targets : SumsAgree ok v ℤ_adds target target')
    (weights : SumsAgree ok v ℕ_adds weight weight')
    (lows : SumsAgree ok v ℕ_adds low low')
    (highs : SumsAgree ok v ℕ_adds high high') where
  -- the children of a node outside v get the same of the same mass
  split-same :
      (p : ℕ) → leads up m p v ≡ false → (x u : ℕ) → u < m → child_of up u p ≡ true
      → result (group ok target weight low high p) x u ≡ result (group ok target' weight' low' high' p) x u
  split-same p h x u l e =
      result-ext (group ok target weight low high p) (group ok target' weight' low' high' p) refl (λ w k. refl)
      (λ w k f. targets w (free w k f))
      (λ w k f. lows w (free w k f))
      (λ w k f. highs w (free w k f))
      (λ w k f. weights w (free w k f))
      x u l e
    where
      free : (w : ℕ) → w < m → child_of up w p ≡ true → Clear up m v w
      free = child-clear ok v p h

  -- from the root down
  pub between-same : (M u : ℕ) → u < m → Clear up m v u → between ok target weight low high M u ≡ between ok target' weight' low' high' M u
  between-same M =
      up-ind ok (λ u. Clear up m v u → between ok target weight low high M u ≡ between ok target' weight' low' high' M u)
      (λ k. between-root ok target weight low high M ∙ sym (between-root ok target' weight' low' high' M))
      step
    where
      step :
          (u : ℕ) → u < m - 1 → (Clear up m v (up u) → between ok target weight low high M (up u) ≡ between ok target' weight' low' high' M (up u))
          → Clear up m v u → between ok target weight low high M u ≡ between ok target' weight' low' high' M u
      step u l r k =
          let h = parent-out ok v u l k in
          between-up ok target weight low high M u l
          ∙ split-same (up u) h (between ok target weight low high M (up u)) u (omega arith) (child-parent ok u l)
          ∙ ap (λ x. result (group ok target' weight' low' high' (up u)) x u) (r (out-clear up m v (up u) h))
          ∙ sym (between-up ok target' weight' low' high' M u l)

-- ---- of two fields

module _ {F G : Field} {v : ℕ} (ok : Valid F.up F.n F.m) (s : EditedField F G v) where
  -- a sum by the one field's tree and by the other's
  pub carry : (A : Adds) (f : ℕ → A.Num) (u : ℕ) → sum_below A F f u ≡ sum_below A G f u
  carry A f u i = node_sum A (s.tree.parents i) (s.tree.cells i) (s.tree.nodes i) f u

  -- a value that agrees outside v, and whose sum below v does
  agree :
      (A : Adds) (f g : ℕ → A.Num) → ((c : ℕ) → c < F.n → Outside F v c → f c ≡ g c) → sum_below A F f v ≡ sum_below A G g v
      → SumsAgree ok v A f g
  agree A f g out same = sums-agree ok v A f g out (same ∙ sym (carry A g v))

  targets-agree : SumsAgree ok v ℤ_adds F.target G.target
  targets-agree = agree ℤ_adds F.target G.target (λ c l e. (s.outside c l e).target) s.sums.target

  lows-agree : SumsAgree ok v ℕ_adds F.low G.low
  lows-agree = agree ℕ_adds F.low G.low (λ c l e. (s.outside c l e).low) s.sums.low

  highs-agree : SumsAgree ok v ℕ_adds F.high G.high
  highs-agree = agree ℕ_adds F.high G.high (λ c l e. (s.outside c l e).high) s.sums.high

  safe-lows-agree : SumsAgree ok v ℕ_adds F.safe_low G.safe_low
  safe-lows-agree = agree ℕ_adds F.safe_low G.safe_low (λ c l e. (s.outside c l e).safe_low) s.sums.safe_low

  safe-highs-agree : SumsAgree ok v ℕ_adds F.safe_high G.safe_high
  safe-highs-agree = agree ℕ_adds F.safe_high G.safe_high (λ c l e. (s.outside c l e).safe_high) s.sums.safe_high

  weights-agree : SumsAgree ok v ℕ_adds F.weight G.weight
  weights-agree = agree ℕ_adds F.weight G.weight (λ c l e. (s.outside c l e).weight) s.sums.weight

  -- the bounds in force
  in-lows-agree : (o : Outcome) → SumsAgree ok v ℕ_adds (low_in o F) (low_in o G)
  unfolding low_in
  in-lows-agree Attainable = lows-agree
  in-lows-agree Below = safe-lows-agree
  in-lows-agree Above = highs-agree

  in-highs-agree : (o : Outcome) → SumsAgree ok v ℕ_adds (high_in o F) (high_in o G)
  unfolding high_in
  in-highs-agree Attainable = highs-agree
  in-highs-agree Below = lows-agree
  in-highs-agree Above = safe-highs-agree

  -- sums over all cells are the root's
  all_same : (f g : ℕ → ℕ) → SumsAgree ok v ℕ_adds f g → sum_cells F f ≡ sum_cells G g
  all_same f g h =
      sym (node_sum-root ok ℕ_adds f)
      ∙ h (F.m - 1) (top-clear ok v)
      ∙ node_sum-root ok ℕ_adds g
      ∙ ap (λ n. sum_to ℕ_adds n g) s.tree.cells

  pub safe-lows-same : sum_cells F F.safe_low ≡ sum_cells G G.safe_low
  safe-lows-same = all_same F.safe_low G.safe_low safe-lows-agree

  pub safe-highs-same : sum_cells F F.safe_high ≡ sum_cells G G.safe_high
  safe-highs-same = all_same F.safe_high G.safe_high safe-highs-agree

  module _ (M : ℕ) where
    outcome-same : outcome F M ≡ outcome G M
    unfolding outcome
    outcome-same =
        ap₂ (λ low high. outcome_by low high M) (all_same F.low G.low lows-agree) (all_same F.high G.high highs-agree)

    mass-same : (u : ℕ) → u < F.m → Clear F.up F.m v u → tree_mass F M u ≡ tree_mass G M u
    unfolding tree_mass
    mass-same u l k =
        between-same ok v F.target G.target F.weight G.weight
        (low_in (outcome F M) F) (low_in (outcome F M) G) (high_in (outcome F M) F) (high_in (outcome F M) G)
        targets-agree weights-agree (in-lows-agree (outcome F M)) (in-highs-agree (outcome F M)) M u l k
        ∙ other
      where
        -- by the other field's tree and outcome
        other :
            between ok G.target G.weight (low_in (outcome F M) G) (high_in (outcome F M) G) M u
            ≡ mass_between G.up G.n G.m G.target G.weight (low_in (outcome G M) G) (high_in (outcome G M) G) M u
        other i =
            mass_between (s.tree.parents i) (s.tree.cells i) (s.tree.nodes i) G.target G.weight (low_in (outcome-same i) G)
            (high_in (outcome-same i) G) M u

    -- the claim, of the definitions
    pub agree-outside : AgreeOutside F G M v
    agree-outside =
        record {
          masses = record { outside = λ u l h. mass-same u l (out-clear F.up F.m v u h); here = mass-same v s.node (λ e. refl) };
          outcome = outcome-same;
          reach = (
            λ h. (omega (arith, h, safe-lows-same), omega (arith, h, safe-highs-same)),
            λ h. (omega (arith, h, safe-lows-same), omega (arith, h, safe-highs-same)),
          );
        }
