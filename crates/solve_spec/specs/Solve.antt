-- The masses of a whole tree by the bounds that are in force, given as lists: what solving needs, what it leaves, and the columns
-- before the root's mass is split. Assumes nothing.
use Rattle.std.specs.Prelude.{◌≡◌, List, ℕ, ◌-◌, ◌*◌, ◌^◌, ◌≤◌, ◌<◌, ℤ, pos, nat_abs, ◌-ℤ◌, length}
use Rattle.numbers.specs.Sums.{ℕ_adds, ℤ_adds, sum_to}
use Rattle.numbers.specs.Lists.{at, at_ℤ, list_to}
use Rattle.caas_spec.specs.Group.{Group}
use Rattle.caas_spec.specs.Split.{clipped, after_first}
use Rattle.scratch_spec.specs.Columns.{width, MASS, LOW, HIGH, WEIGHT, FIRST, col, num}
use Rattle.qlt_spec.specs.Tree.{node_sum, Valid}
use Rattle.qlt_spec.specs.Masses.{children_between, mass_between, shared_of}
use Rattle.qlt_spec.specs.Operation.{cleared}

module _ (parents : List ℕ) (targets : List ℤ) where
  -- a node's sum over its cells, in ℕ
  abbrev pub node_of : List ℕ → ℕ → ℕ
  node_of xs = node_sum ℕ_adds (at parents) (length targets) (length parents) (at xs)

  -- and that of its targets
  abbrev pub target_of : ℕ → ℤ
  target_of = node_sum ℤ_adds (at parents) (length targets) (length parents) (at_ℤ targets)

module _ (parents : List ℕ) (targets : List ℤ) (lows highs weights : List ℕ) where
  -- a node's children, and its mass, where the root has M
  abbrev pub node_group : ℕ → Group
  node_group v = children_between (at parents) (length targets) (length parents) (at_ℤ targets) (at weights) (at lows) (at highs) v

  abbrev pub mass_of : ℕ → ℕ → ℕ
  mass_of M u = mass_between (at parents) (length targets) (length parents) (at_ℤ targets) (at weights) (at lows) (at highs) M u

  -- what solving needs: a tree without a fault, lists of one length, room in the scratch, bounds in order and sums that fit, and a total
  -- within the bounds
  pub record Solvable (M : ℕ) (s : List ℤ) : Type 0 where
    pub valid : Valid (at parents) (length targets) (length parents)
    pub few : length targets ≤ 512
    pub nodes_few : length parents ≤ 1024
    pub lows_long : length lows ≡ length targets
    pub highs_long : length highs ≡ length targets
    pub weights_long : length weights ≡ length targets
    pub size : width * length parents ≤ length s
    pub order : (c : ℕ) → c < length targets → at lows c ≤ at highs c
    pub small : sum_to ℕ_adds (length targets) (at highs) < 2 ^ 31
    pub light : sum_to ℕ_adds (length targets) (at weights) < 2 ^ 31
    pub least : sum_to ℕ_adds (length targets) (at lows) ≤ M
    pub most : M ≤ sum_to ℕ_adds (length targets) (at highs)

  -- the columns before the root's mass is split: sums over the cells, but M at the root; no node has a first child yet
  pub record Prepared (M : ℕ) (old s : List ℤ) : Type 0 where
    pub long : length s ≡ length old
    pub far : (i : ℕ) → width * length parents ≤ i → at_ℤ s i ≡ at_ℤ old i
    pub root : col MASS s (length parents - 1) ≡ pos M
    pub target : (u : ℕ) → u < length parents - 1 → col MASS s u ≡ target_of parents targets u
    pub low : (u : ℕ) → u < length parents → num LOW s u ≡ node_of parents targets lows u
    pub high : (u : ℕ) → u < length parents → num HIGH s u ≡ node_of parents targets highs u
    pub weight : (u : ℕ) → u < length parents → num WEIGHT s u ≡ node_of parents targets weights u
    pub first : (u : ℕ) → u < length parents → num FIRST s u ≡ length parents

  -- what solving leaves: the cells' masses, the scratch cleared; and the two sums that it gives, the change and what is shared out
  pub record Solved (M : ℕ) (old s : List ℤ) (masses : List ℕ) (change shared : ℕ) : Type 0 where
    pub gives : masses ≡ list_to (length targets) (mass_of M)
    pub moves : change ≡ sum_to ℕ_adds (length targets) (λ c. nat_abs (pos (mass_of M c) -ℤ at_ℤ targets c))
    pub shares : shared ≡ shared_of (length targets) (length parents) node_group (mass_of M)
    pub leaves : s ≡ cleared (width * length parents) old

  -- of one node alone: what it has after each step of the split of its parent's mass; the scratch is cleared
  pub record NodeWatched (M u : ℕ) (old s : List ℤ) (clip first both : ℕ) : Type 0 where
    pub clips : clip ≡ clipped (node_group (at parents u)) u
    pub firsts : first ≡ after_first (node_group (at parents u)) (mass_of M (at parents u)) u
    pub gives : both ≡ mass_of M u
    pub small : (clip < 2 ^ 31) × ((first < 2 ^ 31) × (both < 2 ^ 31))
    pub leaves : s ≡ cleared (width * length parents) old
