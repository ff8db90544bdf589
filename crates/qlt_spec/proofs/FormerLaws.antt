-- Reconstruct agrees with its former version: only the bound of check 3 differs, and with scratch enough for each the two refuse alike, give
-- one answer and leave the same masses. Assumes nothing.
use mathlib.Core.Path.{◌≡◌, refl, sym, ◌∙◌, ap}
use Rattle.qlt_spec.specs.declared.Repair.{Repair}
use mathlib.Core.Logic.{inl, inr}
use mathlib.Core.List.{List, [], ◌∷◌}
use Prim.Native.Nat.{ℕ, ◌*◌, ◌≤◌, ◌<◌}
use native.Mathlib.Omega.{arith}
use lib.Dec.{leb}
use lib.IntN.{ℤ}
use lib.ListN.{length}
use borrow.Author.Tests.{le-leb, lt-leb}
use Rattle.numbers.specs.Checks.{Checked, refused, Answered, answered, after, first, Broken}
use Rattle.qlt_spec.specs.Field.{Lists, nodes, scratch_per_node, field}
use Rattle.qlt_spec.specs.Masses.{tree_masses}
use Rattle.qlt_spec.specs.Checks.{shape_with, check_values, check_reach}
use Rattle.qlt_spec.specs.Operation.{ReconstructCall, reconstruct_call, reconstruct_verdict, shape_rules, ShapeFits, cleared, RepairTellsWith, ReconstructContract}
use Rattle.qlt_spec.specs.Former.{former_per_node, former_verdict, FormerContract}
use Rattle.qlt_spec.proofs.CheckLaws.{shape-decides, shape-by}
use Rattle.qlt_spec.proofs.OperationLaws.{checks-by}

-- the test of 3, where both have enough scratch and where both have too little
pub both-enough : (f : Lists) {s s' : ℕ} → former_per_node * nodes f ≤ s → scratch_per_node * nodes f ≤ s' → leb (former_per_node * nodes f) s ≡ leb (scratch_per_node * nodes f) s'
both-enough f {s} {s'} h h' = le-leb _ s h ∙ sym (le-leb _ s' h')

pub both-short : (f : Lists) {s s' : ℕ} → s < former_per_node * nodes f → s' < scratch_per_node * nodes f → leb (former_per_node * nodes f) s ≡ leb (scratch_per_node * nodes f) s'
both-short f {s} {s'} h h' = lt-leb _ s h ∙ sym (lt-leb _ s' h')

-- ---- two versions of an operation, Reconstruct or Step, that give x where they accept and clear p and p' numbers for each node

module _ {X : Type 0} {p p' : ℕ} {v v' : Checked} {x : X} {f : Lists} {M : ℕ} {masses : List ℕ} {s s' : List ℤ} (e : v ≡ v') where
  -- by one verdict both tell the same and leave the same masses
  pub tells-agree :
      {told told' : Answered X} {y y' : List ℕ} {t t' : List ℤ}
      → RepairTellsWith p v (reconstruct_call f M masses s) x told y t
      → RepairTellsWith p' v' (reconstruct_call f M masses s') x told' y' t' → (told ≡ told') × (y ≡ y')
  tells-agree q q' = (
    q.answers ∙ ap (λ w. answered w x) e ∙ sym q'.answers,
    q.leaves.writes ∙ ap (λ w. after w (tree_masses (field f) M) masses) e ∙ sym q'.leaves.writes,
  )

  -- and what the one tells and writes, the other does
  pub tells_alike :
      {told : Answered X} {y : List ℕ} {t : List ℤ} → RepairTellsWith p' v' (reconstruct_call f M masses s') x told y t
      → RepairTellsWith p v (reconstruct_call f M masses s) x told y (after v (cleared (p * nodes f) s) s)
  tells_alike q =
      record {
        answers = q.answers ∙ ap (λ w. answered w x) (sym e);
        leaves = record { writes = q.leaves.writes ∙ ap (λ w. after w (tree_masses (field f) M) masses) (sym e); clears = refl };
      }

-- ---- Reconstruct

module _ (f : Lists) (M : ℕ) (masses : List ℕ) (s s' : List ℤ) where
  -- only the bound differs: by scratches of which the test of 3 decides alike, the verdict is the same
  pub former-by :
      leb (former_per_node * nodes f) (length s) ≡ leb (scratch_per_node * nodes f) (length s')
      → former_verdict (reconstruct_call f M masses s) ≡ reconstruct_verdict (reconstruct_call f M masses s')
  unfolding former_verdict reconstruct_verdict
  former-by e = checks-by former_per_node scratch_per_node f M masses masses s s' refl e

  module _ (enough : former_per_node * nodes f ≤ length s) (enough' : scratch_per_node * nodes f ≤ length s') where
    -- the same answer, so the same outcome, change, sum shared out or refusal, and the same masses
    pub former-agrees :
        (answer answer' : Answered Repair) {y y' : List ℕ} {t t' : List ℤ}
        → FormerContract (reconstruct_call f M masses s) answer y t
        → ReconstructContract (reconstruct_call f M masses s') answer' y' t' → (answer ≡ answer') × (y ≡ y')
    former-agrees answer answer' p q = tells-agree (former-by (both-enough f enough enough')) p q

    -- what this version answers and writes, the former one does
    pub former-holds :
        (answer : Answered Repair) {y : List ℕ} {t : List ℤ} → ReconstructContract (reconstruct_call f M masses s') answer y t
        → FormerContract (reconstruct_call f M masses s) answer y (after (former_verdict (reconstruct_call f M masses s)) (cleared (former_per_node * nodes f) s) s)
    former-holds answer q = tells_alike (former-by (both-enough f enough enough')) q

-- of one call, with any scratch of 6 × m numbers or more
pub former-verdict : (c : ReconstructCall) → former_per_node * nodes c.lists ≤ length c.scratch → former_verdict c ≡ reconstruct_verdict c
former-verdict c h = former-by c.lists c.total c.masses c.scratch c.scratch (both-enough c.lists h (omega arith))

-- ---- where this version finds enough scratch and the former one too little, that one refuses with 3

pub former-shape : (f : Lists) (k s : ℕ) → ShapeFits f k s → s < former_per_node * nodes f → shape_with former_per_node k f s ≡ refused 3 0
unfolding shape_rules Broken
former-shape f k s h l =
    shape-by former_per_node scratch_per_node k f s 0 (both-short f l none)
    ∙ ((shape-decides f k 0).fails 3 0).1 (inr ((h.some, h.few), inr ((h.nodes_room, h.nodes_few), inl (refl, (refl, λ r. absurd (omega (arith, none, r.scratch)))))))
  where
    -- no scratch at all is too little for this version too
    none : 0 < scratch_per_node * nodes f
    none = omega (arith, h.some, h.nodes_room)

pub former-refuses :
    (c : ReconstructCall) → ShapeFits c.lists (length c.masses) (length c.scratch) → length c.scratch < former_per_node * nodes c.lists
    → former_verdict c ≡ refused 3 0
unfolding former_verdict
former-refuses c h l =
    ap (λ v. first (v ∷ check_values c.lists ∷ check_reach c.lists.safe_lows c.lists.safe_highs c.total ∷ []))
    (former-shape c.lists (length c.masses) (length c.scratch) h l)
