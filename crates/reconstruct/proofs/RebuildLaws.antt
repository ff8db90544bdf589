-- A call that fits can be solved by its bounds in force, and what solving gives is what the call's contract says. Assumes nothing.
use Rattle.std.specs.Prelude.{Ok}
use mathlib.Core.Path.{◌≡◌, refl, sym, ◌∙◌, ap, ap₂, subst}
use mathlib.Core.List.{List}
use Prim.Native.Nat.{ℕ, ◌≤◌, ◌<◌}
use native.Mathlib.Omega.{arith}
use lib.IntN.{ℤ, pos, nat_abs, ◌-ℤ◌}
use lib.ListN.{length}
use Rattle.numbers.specs.Sums.{ℕ_adds, sum_to}
use Rattle.numbers.specs.Lists.{at, at_ℤ, sum}
use Rattle.numbers.proofs.SumLaws.{sum_to-ext, sum_to-le}
use Rattle.numbers.proofs.ListLaws.{list_to-ext}
use Rattle.qlt_spec.specs.Field.{Lists, Field, cells, nodes, field, sum_cells, outcome_by, outcome, outcome_number, low_in, high_in, change_of}
use Rattle.qlt_spec.specs.declared.Outcome.{Outcome}
use Rattle.qlt_spec.specs.declared.Outcome.TheVariants.{Attainable, Below, Above}
use Rattle.qlt_spec.specs.Masses.{children_between, mass_between, group_of, tree_mass, tree_masses, shared_of, tree_shared}
use Rattle.qlt_spec.specs.Operation.{ReconstructCall, FieldLengths, ReconstructFits, repair, RepairContract}
use Rattle.qlt_spec.proofs.FieldLaws.{force-room, force-order, force-safe-high}
use Rattle.qlt_spec.proofs.OperationLaws.{fits-valid}
use Rattle.solve_spec.specs.Solve.{node_group, mass_of, Solvable, Solved}
use Rattle.field_checks.proofs.CodeLaws.{outcome-is}
use Rattle.solve.specs.declared.whole_tree.InForce.{InForce}
use Rattle.reconstruct.specs.Rebuild.{low_list, high_list, ForcedBy}

-- ---- the bounds in force, as lists

low-is : (o : Outcome) (f : Lists) → low_in o (field f) ≡ at (low_list o f)
unfolding low_in
low-is Attainable f = refl
low-is Below f = refl
low-is Above f = refl

high_is : (o : Outcome) (f : Lists) → high_in o (field f) ≡ at (high_list o f)
unfolding high_in
high_is Attainable f = refl
high_is Below f = refl
high_is Above f = refl

low-long : (o : Outcome) (f : Lists) {k s : ℕ} → FieldLengths f k s → length (low_list o f) ≡ cells f
low-long Attainable f l = l.lows
low-long Below f l = l.safe_lows
low-long Above f l = l.highs

high-long : (o : Outcome) (f : Lists) {k s : ℕ} → FieldLengths f k s → length (high_list o f) ≡ cells f
high-long Attainable f l = l.highs
high-long Below f l = l.lows
high-long Above f l = l.safe_highs

-- a list's sum, by the number of cells
sum-cells : (xs : List ℕ) (n : ℕ) → length xs ≡ n → sum xs ≡ sum_to ℕ_adds n (at xs)
sum-cells xs n e = ap (λ k. sum_to ℕ_adds k (at xs)) e

-- ---- a call that fits, by its outcome o

module _ (c : ReconstructCall) (ok : ReconstructFits c) (o : Outcome) (e : outcome (field c.lists) c.total ≡ o) where
  abbrev pub f : Lists
  f = c.lists

  abbrev pub F : Field
  F = field c.lists

  lens : FieldLengths f (length c.masses) (length c.scratch)
  lens = ok.shape.lengths

  pub lows-are : low_in (outcome F c.total) F ≡ at (low_list o f)
  lows-are = ap (λ q. low_in q F) e ∙ low-is o f

  pub highs-are : high_in (outcome F c.total) F ≡ at (high_list o f)
  highs-are = ap (λ q. high_in q F) e ∙ high_is o f

  -- the bounds in force have room for the total
  room : (sum_cells F (low_in (outcome F c.total) F) ≤ c.total) × (c.total ≤ sum_cells F (high_in (outcome F c.total) F))
  room =
      force-room F c.total
      (omega (arith, ok.reach.least, sum-cells f.safe_lows (cells f) lens.safe_lows))
      (omega (arith, ok.reach.most, sum-cells f.safe_highs (cells f) lens.safe_highs))

  order : (i : ℕ) → i < cells f → at (low_list o f) i ≤ at (high_list o f) i
  order i l =
      subst (λ g. g i ≤ at (high_list o f) i) (low-is o f)
      (subst (λ g. low_in o F i ≤ g i) (high_is o f) (force-order F ok.values.order o i l))

  below-safe : (i : ℕ) → i < cells f → at (high_list o f) i ≤ at f.safe_highs i
  below-safe i l = subst (λ g. g i ≤ at f.safe_highs i) (high_is o f) (force-safe-high F ok.values.order o i l)

  pub solvable : Solvable f.parents f.targets (low_list o f) (high_list o f) f.weights c.total c.scratch
  solvable =
      record {
        valid = fits-valid ok.shape ok.values;
        few = ok.shape.few;
        nodes_few = ok.shape.nodes_few;
        lows_long = low-long o f lens;
        highs_long = high-long o f lens;
        weights_long = lens.weights;
        size = lens.scratch;
        order = order;
        small =
            omega (
              arith,
              ok.values.safe_highs,
              sum-cells f.safe_highs (cells f) lens.safe_highs,
              sum_to-le (cells f) (at (high_list o f)) (at f.safe_highs) below-safe,
            );
        light = omega (arith, ok.values.weights, sum-cells f.weights (cells f) lens.weights);
        least = subst (λ g. sum_to ℕ_adds (cells f) g ≤ c.total) lows-are room.0;
        most = subst (λ g. c.total ≤ sum_to ℕ_adds (cells f) g) highs-are room.1;
      }

  -- the same of what is solved
  module _ {r : InForce} (q : ForcedBy o f c.total r) where
    pub forced-solvable : Solvable r.parents.now r.targets.now r.lows.now r.highs.now r.weights.now r.mass c.scratch
    forced-solvable = rw (q.parents, q.targets, q.lows, q.highs, q.weights, q.mass) solvable

    pub forced-long : length c.masses ≡ length r.targets.now
    forced-long = lens.masses ∙ ap length (sym q.targets)

  -- the masses that solving gives are those of the whole tree
  pub mass-same : (i : ℕ) → mass_of f.parents f.targets (low_list o f) (high_list o f) f.weights c.total i ≡ tree_mass F c.total i
  unfolding tree_mass
  mass-same i = sym (ap₂ (λ lo hi. mass_between F.up F.n F.m F.target F.weight lo hi c.total i) lows-are highs-are)

  -- and what it shares out
  shared_same : shared_of (cells f) (nodes f) (node_group f.parents f.targets (low_list o f) (high_list o f) f.weights) (mass_of f.parents f.targets (low_list o f) (high_list o f) f.weights c.total) ≡ tree_shared F c.total
  unfolding tree_shared group_of tree_mass
  shared_same = sym (ap₂ (λ lo hi. shared_of F.n F.m (children_between F.up F.n F.m F.target F.weight lo hi) (mass_between F.up F.n F.m F.target F.weight lo hi c.total)) lows-are highs-are)

  -- what is told of a call that was solved by them, o being the outcome that the code finds
  solved :
      {change shared : ℕ} {masses : List ℕ} {scratch : List ℤ}
      → Solved f.parents f.targets (low_list o f) (high_list o f) f.weights c.total c.scratch scratch masses change shared
      → RepairContract (Ok tt) c (Ok (record { outcome = outcome_number o; total = c.total; change = change; shared = shared })) masses scratch
  unfolding repair tree_masses change_of
  solved {shared = shared} p =
      let moves = p.moves ∙ sum_to-ext ℕ_adds (cells f) _ _ (λ i l. ap (λ x. nat_abs (pos x -ℤ at_ℤ f.targets i)) (mass-same i)) in
      record {
        answers =
            ap₂ (λ x y. Ok (record { outcome = outcome_number x; total = c.total; change = y; shared = shared })) (sym e) moves
            ∙ ap (λ w. Ok (record { outcome = outcome_number (outcome F c.total); total = c.total; change = change_of F (tree_mass F c.total); shared = w })) (p.shares ∙ shared_same);
        leaves = record { writes = p.gives ∙ list_to-ext (cells f) _ _ (λ i l. mass-same i); clears = p.leaves };
      }

  pub repaired :
      {r : InForce} {change shared : ℕ} {masses : List ℕ} {scratch : List ℤ}
      → ForcedBy o f c.total r
      → Solved r.parents.now r.targets.now r.lows.now r.highs.now r.weights.now r.mass c.scratch scratch masses change shared
      → RepairContract (Ok tt) c (Ok (record { outcome = outcome_number o; total = c.total; change = change; shared = shared })) masses scratch
  repaired q p = solved (rw (q.parents, q.targets, q.lows, q.highs, q.weights, q.mass) at p)

-- the outcome that the code finds is the call's
pub outcome-found : (c : ReconstructCall) → ReconstructFits c → outcome (field c.lists) c.total ≡ outcome_by (sum c.lists.lows) (sum c.lists.highs) c.total
outcome-found c ok = let l = ok.shape.lengths in sym (outcome-is c.lists c.total l.lows l.highs)
