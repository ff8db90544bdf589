-- Edits stay in their region, of the operations that repair: two calls of Reconstruct, from their contracts alone; and what Step and the call on
-- files share with it. Assumes nothing.
use Rattle.std.specs.Prelude.{Ok, Err}
use mathlib.Core.Path.{◌≡◌, refl, sym, ◌∙◌, ap, ap₂, subst}
use Rattle.qlt_spec.specs.declared.Repair.{Repair}
use mathlib.Core.Logic.{◌↔◌}
use mathlib.Core.Bool.{◌&&◌}
use mathlib.Core.List.{List}
use Prim.Native.Nat.{ℕ, ◌<◌}
use native.Mathlib.Omega.{arith}
use lib.Dec.{leb}
use lib.IntN.{ℤ}
use lib.ListN.{length}
use Rattle.numbers.specs.Sums.{ℕ_adds}
use Rattle.numbers.specs.Lists.{at}
use Rattle.numbers.specs.Checks.{Checked, Answered, refused, answered, after, unless}
use Rattle.numbers.proofs.CheckLaws.{on, last, answered-refused}
use Rattle.qlt_spec.specs.Field.{Lists, cells, field, outcome_number}
use Rattle.qlt_spec.specs.Masses.{tree_mass, tree_masses}
use Rattle.qlt_spec.specs.Checks.{shape_of, check_values, check_reach}
use Rattle.qlt_spec.specs.Facts.{FieldFacts}
use Rattle.qlt_spec.specs.Operation.{ReconstructCall, reconstruct_verdict, ReconstructFits, repair, RepairTells, ReconstructContract}
use Rattle.qlt_spec.specs.Region.{sum_below, Outside, SameTree, EditedField, PastSeven, InReach, SameMasses, AgreeOutside, SameRepair, SameTold, both_accepted, both_refused}
use Rattle.qlt_spec.proofs.FactLaws.{list_at}
use Rattle.qlt_spec.proofs.CheckLaws.{shape-fits, values-fit, reach-decides, reaches}
use Rattle.qlt_spec.proofs.OperationLaws.{fits-valid, safe-lows-sum, safe-highs-sum, fits-facts}
use Rattle.qlt_spec.proofs.RegionLaws.{carry, safe-lows-same, safe-highs-same, agree-outside}

-- lists with as many cells and with the same parents have the same tree
pub same-tree : (f g : Lists) → cells f ≡ cells g → f.parents ≡ g.parents → SameTree (field f) (field g)
same-tree f g e p = record { cells = e; nodes = ap length p; parents = ap at p }

-- ---- two fields past checks 1 to 7

module _ {f : Lists} {k s : ℕ} (p : PastSeven f k s) where
  pub shape-passes : shape_of k f s ≡ Ok tt
  shape-passes = (shape-fits f k s).1 p.shape

  pub values-pass : check_values f ≡ Ok tt
  values-pass = (values-fit f).1 p.values

module _ {f g : Lists} {k j s t : ℕ} {v : ℕ} (p : PastSeven f k s) (q : PastSeven g j t) (o : EditedField (field f) (field g) v) where
  -- all of it, of the definitions
  pub region : (M : ℕ) → AgreeOutside (field f) (field g) M v
  region = agree-outside (fits-valid p.shape p.values) o

  -- check 8
  pub reach-same : (M : ℕ) → check_reach f.safe_lows f.safe_highs M ≡ check_reach g.safe_lows g.safe_highs M
  unfolding check_reach
  reach-same M =
      let ok = fits-valid p.shape p.values in
      ap₂ (λ a b. unless (leb a M && leb M b) 8 0)
      (safe-lows-sum p.shape.lengths ∙ safe-lows-same ok o ∙ sym (safe-lows-sum q.shape.lengths))
      (safe-highs-sum p.shape.lengths ∙ safe-highs-same ok o ∙ sym (safe-highs-sum q.shape.lengths))

  -- the masses that are written where both are accepted, and what is told beside them
  module _ {M : ℕ} {xs ys : List ℕ} (a : FieldFacts (field f) M xs) (b : FieldFacts (field g) M ys) where
    cells_same : (c : ℕ) → c < (field f).n → Outside (field f) v c → at xs c ≡ at ys c
    cells_same c l e =
        ap (λ zs. at zs c) a.tree
        ∙ list_at (field f) M c l
        ∙ (region M).masses.outside c (omega (arith, p.shape.nodes_room)) e
        ∙ sym (ap (λ zs. at zs c) b.tree ∙ list_at (field g) M c (omega (arith, o.tree.cells)))

    nodes-same : SameMasses (field f) v (sum_below ℕ_adds (field f) (at xs)) (sum_below ℕ_adds (field f) (at ys))
    nodes-same = record { outside = λ u l e. by u l ((region M).masses.outside u l e); here = by v o.node (region M).masses.here }
      where
        by :
            (u : ℕ) → u < (field f).m → tree_mass (field f) M u ≡ tree_mass (field g) M u
            → sum_below ℕ_adds (field f) (at xs) u ≡ sum_below ℕ_adds (field f) (at ys) u
        by u l e =
            a.node u l ∙ e ∙ sym (carry (fits-valid p.shape p.values) o ℕ_adds (at ys) u ∙ b.node u (omega (arith, o.tree.nodes)))

    pub repair-same : SameRepair (field f) v (repair f M) (repair g M) xs ys
    unfolding repair
    repair-same = record { outcome = ap outcome_number (region M).outcome; total = refl; cells = cells_same; nodes = nodes-same }

-- ---- two calls with one verdict tell the same, if their results are the same where they pass
pub told_same :
    {X : Type 0} {Same : X → X → Type 0} {v w : Checked} (x y : X) {a b : Answered X} → v ≡ w → a ≡ answered v x → b ≡ answered w y → (v ≡ Ok tt → Same x y)
    → SameTold Same a b
told_same {Same = Same} {v} {w} x y {a} {b} e p q h =
    subst (λ t. SameTold Same t b) (sym p) (subst (SameTold Same (answered v x)) (sym (q ∙ ap (λ u. answered u y) (sym e))) (go v h))
  where
    go : (v : Checked) → (v ≡ Ok tt → Same x y) → SameTold Same (answered v x) (answered v y)
    go (Ok tt) h = both_accepted (h refl)
    go (Err r) h = both_refused

-- ---- Reconstruct

abbrev Past : ReconstructCall → Type 0
Past c = PastSeven c.lists (length c.masses) (length c.scratch)

-- past checks 1 to 7 the verdict is check 8 alone
pub past-seven : (c : ReconstructCall) → Past c → reconstruct_verdict c ≡ check_reach c.lists.safe_lows c.lists.safe_highs c.total
unfolding reconstruct_verdict
past-seven c p = sym (on (shape-passes p) (on (values-pass p) (last _ refl)))

-- masses that a call left by a verdict that passes have every fact, if its repair fits
pub left-facts :
    {X : Type 0} {v : Checked} {c : ReconstructCall} {x : X} {told : Answered X} {masses : List ℕ} {scratch : List ℤ}
    → RepairTells v c x told masses scratch → v ≡ Ok tt → ReconstructFits c → FieldFacts (field c.lists) c.total masses
left-facts {c = c} k e f =
    subst (FieldFacts (field c.lists) c.total)
    (sym (k.leaves.writes ∙ ap (λ w. after w (tree_masses (field c.lists) c.total) c.masses) e))
    (fits-facts c f)

-- so it is refused with 8 alone, exactly if M is out of reach
pub refused-8 :
    (c : ReconstructCall) → Past c → (a : Answered Repair) {xs : List ℕ} {scratch : List ℤ} → ReconstructContract c a xs scratch → (number place : ℕ)
    → (a ≡ refused number place) ↔ ((number ≡ 8) × ((place ≡ 0) × (InReach (field c.lists) c.total → ⊥)))
refused-8 c p a k number place =
    let d = (reach-decides c.lists.safe_lows c.lists.safe_highs c.total).fails number place in
    let low = safe-lows-sum p.shape.lengths in
    let high = safe-highs-sum p.shape.lengths in (
      λ t.
          let z = d.0 (sym (past-seven c p) ∙ answered-refused (reconstruct_verdict c) _ number place (sym t ∙ k.answers)) in
          (z.0, (z.1.0, λ h. z.1.1 (omega (arith, h, low), omega (arith, h, high)))),
      λ z. k.answers ∙ ap (λ w. answered w (repair c.lists c.total)) (past-seven c p ∙ d.1 (z.0, (z.1.0, λ h. z.1.1 (omega (arith, h, low), omega (arith, h, high))))),
    )

module _ (c d : ReconstructCall) {v : ℕ} (p : Past c) (q : Past d) (total : c.total ≡ d.total) (o : EditedField (field c.lists) (field d.lists) v) where
  -- both are accepted, or both are refused with 8
  pub verdict-same : reconstruct_verdict c ≡ reconstruct_verdict d
  verdict-same =
      past-seven c p
      ∙ reach-same p q o c.total
      ∙ ap (check_reach d.lists.safe_lows d.lists.safe_highs) total
      ∙ sym (past-seven d q)

  pub reconstruct-region :
      (a b : Answered Repair) {xs ys : List ℕ} {scratch scratch' : List ℤ}
      → ReconstructContract c a xs scratch → ReconstructContract d b ys scratch'
      → SameTold (λ r z. SameRepair (field c.lists) v r z xs ys) a b
  reconstruct-region a b {xs} {ys} k l =
      told_same (repair c.lists c.total) (repair d.lists c.total) verdict-same k.answers
      (l.answers ∙ ap (λ M. answered (reconstruct_verdict d) (repair d.lists M)) (sym total)) same
    where
      fits : (c : ReconstructCall) → Past c → reconstruct_verdict c ≡ Ok tt → ReconstructFits c
      fits c p e = record { shape = p.shape; values = p.values; reach = (reaches c.lists c.total).0 (sym (past-seven c p) ∙ e) }

      same : reconstruct_verdict c ≡ Ok tt → SameRepair (field c.lists) v (repair c.lists c.total) (repair d.lists c.total) xs ys
      same e =
          repair-same p q o (left-facts k e (fits c p e))
          (subst (λ M. FieldFacts (field d.lists) M ys) (sym total)
          (left-facts l (sym verdict-same ∙ e) (fits d q (sym verdict-same ∙ e))))
