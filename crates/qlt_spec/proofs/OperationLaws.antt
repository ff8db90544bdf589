-- What Reconstruct's verdict means, and what the contract alone says of an accepted and of a refused call. Assumes nothing.
use Rattle.std.specs.Prelude.{Ok}
use mathlib.Core.Path.{◌≡◌, refl, sym, ◌∙◌, ap, subst}
use mathlib.Core.Logic.{◌↔◌}
use mathlib.Core.List.{List, [], ◌∷◌}
use Prim.Native.Nat.{ℕ, ◌*◌}
use native.Mathlib.Omega.{arith}
use lib.Dec.{leb}
use lib.IntN.{ℤ}
use lib.ListN.{length}
use Rattle.numbers.specs.Sums.{ℕ_adds, sum_to}
use Rattle.numbers.specs.Lists.{at, sum}
use Rattle.numbers.specs.Checks.{Checked, Answered, refused, answered, after, first, both, DecidesAll, Broken, RefuseWith}
use Rattle.numbers.proofs.CheckLaws.{answered-accepted, answered-refused, after-fail, on, last, both_first, both-second, decides-append}
use Rattle.numbers.proofs.ChainLaws.{refuse-with}
use Rattle.qlt_spec.specs.declared.Repair.{Repair}
use Rattle.qlt_spec.specs.Tree.{Valid}
use Rattle.qlt_spec.specs.Field.{Lists, cells, nodes, scratch_per_node, field, sum_cells}
use Rattle.qlt_spec.specs.Masses.{tree_masses}
use Rattle.qlt_spec.specs.Checks.{shape_with, shape_of, check_values, check_reach}
use Rattle.qlt_spec.specs.Operation.{ReconstructCall, reconstruct_call, reconstruct_checks_with, reconstruct_verdict, FieldLengths, shape_rules, value_rules, reconstruct_rules, ShapeFits, ValuesFit, ReconstructFits, repair, cleared, Leaves, RepairTells, ReconstructContract}
use Rattle.qlt_spec.specs.Facts.{shared_by, FieldFacts}
use Rattle.qlt_spec.proofs.FactLaws.{facts}
use Rattle.qlt_spec.proofs.CheckLaws.{shape-decides, shape-fits, shape-by, values-decides, values-fit, reaches-decides, reaches, valid}

pub fits-valid : {f : Lists} {k s : ℕ} → ShapeFits f k s → ValuesFit f → Valid (at f.parents) (cells f) (nodes f)
fits-valid h r = valid h.some h.nodes_room r.tree

-- ---- the verdict

module _ (c : ReconstructCall) where
  abbrev k : ℕ
  k = length c.masses

  abbrev s : ℕ
  s = length c.scratch

  abbrev reach : Checked
  reach = check_reach c.lists.safe_lows c.lists.safe_highs c.total

  -- accepted if every rule holds; refused with a number at a place if those before it hold and this one is broken there
  pub reconstruct-decides : DecidesAll (reconstruct_verdict c) (reconstruct_rules c)
  unfolding reconstruct_verdict
  reconstruct-decides =
      decides-append (shape_of k c.lists s) (both (check_values c.lists) (both reach (Ok tt))) (shape_rules c.lists k s) _ (shape-decides c.lists k s)
      (decides-append (check_values c.lists) (both reach (Ok tt)) (value_rules c.lists) _ (values-decides c.lists) (reaches-decides c.lists c.total))

  pub reconstruct-refuses : (number place : ℕ) → (reconstruct_verdict c ≡ refused number place) ↔ Broken (reconstruct_rules c) number place
  reconstruct-refuses = reconstruct-decides.fails

  pub reconstruct-accepts : (reconstruct_verdict c ≡ Ok tt) ↔ ReconstructFits c
  unfolding reconstruct_verdict
  reconstruct-accepts = (
    λ e.
        let p = both-second (shape_of k c.lists s) _ e in
        record {
          shape = (shape-fits c.lists k s).0 (both_first (shape_of k c.lists s) _ e);
          values = (values-fit c.lists).0 (both_first (check_values c.lists) _ p);
          reach = (reaches c.lists c.total).0 (both_first reach (Ok tt) (both-second (check_values c.lists) _ p));
        },
    λ r.
        sym (on ((shape-fits c.lists k s).1 r.shape)
        (on ((values-fit c.lists).1 r.values) (last reach (sym ((reaches c.lists c.total).1 r.reach))))),
  )

  -- it refuses with 01's numbers and no others
  pub reconstruct-numbers : RefuseWith (reconstruct_rules c) (1 ∷ 2 ∷ 3 ∷ 4 ∷ 5 ∷ 6 ∷ 7 ∷ 8 ∷ [])
  unfolding shape_rules value_rules
  reconstruct-numbers = refuse-with (reconstruct_rules c) _ refl refl

-- the checks look at the masses by their length, and at the scratch by the test of 3 alone
pub checks-by :
    (p p' : ℕ) (f : Lists) (M : ℕ) (masses masses' : List ℕ) (scratch scratch' : List ℤ)
    → length masses ≡ length masses' → leb (p * nodes f) (length scratch) ≡ leb (p' * nodes f) (length scratch')
    → first (reconstruct_checks_with p (reconstruct_call f M masses scratch)) ≡ first (reconstruct_checks_with p' (reconstruct_call f M masses' scratch'))
checks-by p p' f M masses masses' scratch scratch' e h =
    ap (λ v. first (v ∷ check_values f ∷ check_reach f.safe_lows f.safe_highs M ∷ []))
    (ap (λ k. shape_with p k f (length scratch)) e ∙ shape-by p p' (length masses') f (length scratch) (length scratch') h)

-- ---- what an accepted and a refused call tells

-- the sums of the safety bounds are those over the cells
module _ {f : Lists} {k s : ℕ} (l : FieldLengths f k s) where
  pub safe-lows-sum : sum f.safe_lows ≡ sum_cells (field f) (at f.safe_lows)
  safe-lows-sum = ap (λ n. sum_to ℕ_adds n (at f.safe_lows)) l.safe_lows

  pub safe-highs-sum : sum f.safe_highs ≡ sum_cells (field f) (at f.safe_highs)
  safe-highs-sum = ap (λ n. sum_to ℕ_adds n (at f.safe_highs)) l.safe_highs

-- an accepted call's masses have every fact
pub fits-facts : (c : ReconstructCall) → ReconstructFits c → FieldFacts (field c.lists) c.total (tree_masses (field c.lists) c.total)
fits-facts c f =
    let l = f.shape.lengths in
    facts (field c.lists) (fits-valid f.shape f.values) f.values.order c.total
    (omega (arith, f.reach.least, safe-lows-sum l))
    (omega (arith, f.reach.most, safe-highs-sum l))

-- ---- from the contract alone, by any verdict: Reconstruct's and Step's alike

module _ {X : Type 0} {v : Checked} {c : ReconstructCall} {x : X} {masses : List ℕ} {scratch : List ℤ} where
  -- a call that told a result passed; its answer, its masses and its scratch are what the definitions say
  module _ {r : X} (p : RepairTells v c x (Ok r) masses scratch) where
    pub told-passed : v ≡ Ok tt
    told-passed = (answered-accepted v r x p.answers).0

    pub told-result : r ≡ x
    told-result = (answered-accepted v r x p.answers).1

    pub told-masses : masses ≡ tree_masses (field c.lists) c.total
    told-masses = p.leaves.writes ∙ ap (λ w. after w (tree_masses (field c.lists) c.total) c.masses) told-passed

    pub told-scratch : scratch ≡ cleared (scratch_per_node * nodes c.lists) c.scratch
    told-scratch = p.leaves.clears ∙ ap (λ w. after w (cleared (scratch_per_node * nodes c.lists) c.scratch) c.scratch) told-passed

  -- one that told a refusal was refused so, and left both lists as they were
  module _ {number place : ℕ} (p : RepairTells v c x (refused number place) masses scratch) where
    pub told-failed : v ≡ refused number place
    told-failed = answered-refused v x number place p.answers

    pub told-kept : (masses ≡ c.masses) × (scratch ≡ c.scratch)
    told-kept = (
      p.leaves.writes ∙ ap (λ w. after w (tree_masses (field c.lists) c.total) c.masses) told-failed,
      p.leaves.clears ∙ ap (λ w. after w (cleared (scratch_per_node * nodes c.lists) c.scratch) c.scratch) told-failed,
    )

-- and the contract by the verdict: of a call that is refused, and of one that is accepted
pub leaves-refused : {v : Checked} (c : ReconstructCall) {number place : ℕ} → v ≡ refused number place → Leaves v c c.masses c.scratch
leaves-refused c e = record { writes = after-fail _ _ e; clears = after-fail _ _ e }

pub contract-refused :
    {X : Type 0} {v : Checked} (c : ReconstructCall) (x : X) {number place : ℕ} → v ≡ refused number place
    → RepairTells v c x (refused number place) c.masses c.scratch
contract-refused c x e = record { answers = ap (λ w. answered w x) (sym e); leaves = leaves-refused c e }

pub contract-done :
    {X : Type 0} {v : Checked} (c : ReconstructCall) (x : X) {told : Answered X} {masses : List ℕ} {scratch : List ℤ} → v ≡ Ok tt
    → RepairTells (Ok tt) c x told masses scratch → RepairTells v c x told masses scratch
contract-done c x {told} {masses} {scratch} e p = subst (λ w. RepairTells w c x told masses scratch) (sym e) p

-- every fact of the whole tree of a call that was accepted
pub done-facts : {c : ReconstructCall} (r : Repair) {masses : List ℕ} {scratch : List ℤ} → ReconstructContract c (Ok r) masses scratch → FieldFacts (field c.lists) c.total masses
done-facts {c} r p = subst (FieldFacts (field c.lists) c.total) (sym (told-masses p)) (fits-facts c ((reconstruct-accepts c).0 (told-passed p)))

-- what is told to be shared out, by the masses written: of Reconstruct's answer and of an accepted step's alike
pub told-shared :
    (f : Lists) (M : ℕ) {r : Repair} {x : List ℕ} → r ≡ repair f M → FieldFacts (field f) M x
    → r.shared ≡ shared_by (field f) M x
unfolding repair
told-shared f M e p = ap (λ q. q.shared) e ∙ p.shared
