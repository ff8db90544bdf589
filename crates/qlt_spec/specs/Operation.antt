-- The operation Reconstruct: what it is given, its verdict, its answer, and the lists it leaves. Assumes nothing.
use Rattle.std.specs.Prelude.{◌≡◌, List, [], ◌∷◌, ◌++◌, ℕ, ◌*◌, ◌≤◌, ◌<◌, ℤ, pos, length}
use Rattle.numbers.specs.Lists.{at, list_to, written, sum}
use Rattle.numbers.specs.Checks.{Checked, Answered, answered, after, first, Rule, rule, rule_at, max_total}
use Rattle.qlt_spec.specs.declared.Repair.{Repair}
use Rattle.qlt_spec.specs.Tree.{NodeRules}
use Rattle.qlt_spec.specs.Field.{Lists, cells, nodes, scratch_per_node, field, Ordered, outcome, outcome_number, change_of}
use Rattle.qlt_spec.specs.Masses.{tree_mass, tree_masses, tree_shared}
use Rattle.qlt_spec.specs.Checks.{shape_with, check_values, check_reach}

-- all that a call is given
pub record ReconstructCall : Type 0 where
  pub lists : Lists
  pub total : ℕ
  pub masses : List ℕ
  pub scratch : List ℤ

abbrev pub reconstruct_call : Lists → ℕ → List ℕ → List ℤ → ReconstructCall
reconstruct_call lists total masses scratch = record { lists = lists; total = total; masses = masses; scratch = scratch }

-- 1 to 3; 4 to 7; 8, where 3 asks for p numbers of scratch for each node
abbrev pub reconstruct_checks_with : ℕ → ReconstructCall → List Checked
reconstruct_checks_with p c =
    shape_with p (length c.masses) c.lists (length c.scratch)
    ∷ check_values c.lists
    ∷ check_reach c.lists.safe_lows c.lists.safe_highs c.total
    ∷ []

abbrev pub reconstruct_checks : ReconstructCall → List Checked
reconstruct_checks c = reconstruct_checks_with scratch_per_node c

unfoldable pub reconstruct_verdict : ReconstructCall → Checked
reconstruct_verdict c = first (reconstruct_checks c)

-- ---- what the checks mean

-- k and s are the lengths of the list of masses and of the scratch
pub record FieldLengths (f : Lists) (k s : ℕ) : Type 0 where
  pub masses : k ≡ cells f
  pub lows : length f.lows ≡ cells f
  pub highs : length f.highs ≡ cells f
  pub safe_lows : length f.safe_lows ≡ cells f
  pub safe_highs : length f.safe_highs ≡ cells f
  pub weights : length f.weights ≡ cells f
  pub scratch : scratch_per_node * nodes f ≤ s

-- the rules of 1 to 3, of 4 to 7, and of 8, which Step shares, in 01's order
unfoldable pub shape_rules : Lists → ℕ → ℕ → List Rule
shape_rules f k s =
    rule 1 ((0 < cells f) × (cells f ≤ 512))
    ∷ rule 2 ((cells f ≤ nodes f) × (nodes f ≤ 1024))
    ∷ rule 3 (FieldLengths f k s)
    ∷ []

unfoldable pub value_rules : Lists → List Rule
value_rules f =
    rule_at 4 (nodes f) (NodeRules (at f.parents) (cells f) (nodes f))
    ∷ rule_at 5 (cells f) (Ordered (field f))
    ∷ rule 6 (sum f.safe_highs ≤ max_total)
    ∷ rule 7 (sum f.weights ≤ max_total)
    ∷ []

abbrev pub reach_rule : Lists → ℕ → Rule
reach_rule f M = rule 8 ((sum f.safe_lows ≤ M) × (M ≤ sum f.safe_highs))

abbrev pub reconstruct_rules : ReconstructCall → List Rule
reconstruct_rules c = shape_rules c.lists (length c.masses) (length c.scratch) ++ (value_rules c.lists ++ (reach_rule c.lists c.total ∷ []))

-- a field that breaks none of 1 to 3
pub record ShapeFits (f : Lists) (k s : ℕ) : Type 0 where
  pub some : 0 < cells f
  pub few : cells f ≤ 512
  pub nodes_room : cells f ≤ nodes f
  pub nodes_few : nodes f ≤ 1024
  pub lengths : FieldLengths f k s

-- none of 4 to 7
pub record ValuesFit (f : Lists) : Type 0 where
  pub tree : (v : ℕ) → v < nodes f → NodeRules (at f.parents) (cells f) (nodes f) v
  pub order : (c : ℕ) → c < cells f → Ordered (field f) c
  pub safe_highs : sum f.safe_highs ≤ max_total
  pub weights : sum f.weights ≤ max_total

-- a total that does not break 8
pub record Reaches (f : Lists) (M : ℕ) : Type 0 where
  pub least : sum f.safe_lows ≤ M
  pub most : M ≤ sum f.safe_highs

-- a call that breaks none
pub record ReconstructFits (c : ReconstructCall) : Type 0 where
  pub shape : ShapeFits c.lists (length c.masses) (length c.scratch)
  pub values : ValuesFit c.lists
  pub reach : Reaches c.lists c.total

-- ---- the answer, and the lists at exit

-- what an accepted call gives beside the masses
unfoldable pub repair : Lists → ℕ → Repair
repair f M = record { outcome = outcome_number (outcome (field f) M); total = M; change = change_of (field f) (tree_mass (field f) M); shared = tree_shared (field f) M }

-- the first k numbers are 0, the others as they were
unfoldable pub cleared : ℕ → List ℤ → List ℤ
cleared k s = written s 0 (list_to k (λ i. pos 0))

-- what a call leaves in its lists by a verdict: the masses of its field for its total and a scratch of which p numbers for each node are
-- cleared, or both as they were
pub record LeavesWith (p : ℕ) (v : Checked) (c : ReconstructCall) (masses : List ℕ) (scratch : List ℤ) : Type 0 where
  pub writes : masses ≡ after v (tree_masses (field c.lists) c.total) c.masses
  pub clears : scratch ≡ after v (cleared (p * nodes c.lists) c.scratch) c.scratch

abbrev pub Leaves : Checked → ReconstructCall → List ℕ → List ℤ → Type 0
Leaves v c masses scratch = LeavesWith scratch_per_node v c masses scratch

-- and what it tells, of an operation that gives x where it is accepted
pub record RepairTellsWith (p : ℕ) {X : Type 0} (v : Checked) (c : ReconstructCall) (x : X) (told : Answered X) (masses : List ℕ) (scratch : List ℤ) : Type 0 where
  pub answers : told ≡ answered v x
  pub leaves : LeavesWith p v c masses scratch

abbrev pub RepairTells : {X : Type 0} → Checked → ReconstructCall → X → Answered X → List ℕ → List ℤ → Type 0
RepairTells v c x told masses scratch = RepairTellsWith scratch_per_node v c x told masses scratch

-- the contract of a repair
abbrev pub RepairContract : Checked → ReconstructCall → Answered Repair → List ℕ → List ℤ → Type 0
RepairContract v c told masses scratch = RepairTells v c (repair c.lists c.total) told masses scratch

-- the whole contract of the operation
abbrev pub ReconstructContract : ReconstructCall → Answered Repair → List ℕ → List ℤ → Type 0
ReconstructContract c answer masses scratch = RepairContract (reconstruct_verdict c) c answer masses scratch
