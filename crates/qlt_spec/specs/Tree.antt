-- The tree of parents ('The field' of 01): nodes 0 to m − 1, cells 0 to n − 1, root m − 1; `up v` is v's parent. Assumes nothing.
use Rattle.std.specs.Prelude.{◌≡◌, ◌≢◌, Bool, true, false, not, cond, ◌&&◌, ◌||◌, ℕ, zero, suc, ◌-◌, ◌<◌, ◌≤◌, eqb, leb, ltb}
use Rattle.numbers.specs.Sums.{Adds, sum_to, pick}

module _ (up : ℕ → ℕ) where
  -- parents lead from c up to v, in at most k steps; m steps are always enough (proofs/TreeLaws.antt)
  unfoldable pub leads : ℕ → ℕ → ℕ → Bool
  leads zero c v = eqb c v
  leads (suc k) c v = elim (eqb c v) [ true ↦ true | false ↦ leads k (up c) v ]

  -- u is a child of v: another node that names v as its parent
  unfoldable pub child_of : ℕ → ℕ → Bool
  child_of u v = not (eqb u v) && eqb (up u) v

  -- v has a child among the first k nodes
  unfoldable pub any_child : ℕ → ℕ → Bool
  any_child zero v = false
  any_child (suc k) v = child_of k v || any_child k v

-- a node's sum over its cells, those from which parents lead up to it; a cell has itself
unfoldable pub node_sum : (A : Adds) (up : ℕ → ℕ) (n m : ℕ) → (ℕ → A.Num) → ℕ → A.Num
node_sum A up n m f v = sum_to A n (λ c. pick A (leads up m c v) (f c))

-- ---- the rules

module _ (up : ℕ → ℕ) (n m : ℕ) where
  -- the root is its own parent; every other node's parent has a larger number than the node, is at least n and at most m − 1
  unfoldable pub parent_ok : ℕ → Bool
  parent_ok v = cond (eqb v (m - 1)) (eqb (up v) v) (ltb v (up v) && (leb n (up v) && leb (up v) (m - 1)))

  -- and every inner node has a child
  unfoldable pub node_ok : ℕ → Bool
  node_ok v = parent_ok v && (ltb v n || any_child up m v)

  -- the same in plain facts
  pub record NodeRules (v : ℕ) : Type 0 where
    pub root : v ≡ m - 1 → up v ≡ v
    pub parent : v ≢ m - 1 → (v < up v) × ((n ≤ up v) × (up v ≤ m - 1))
    pub child : n ≤ v → (u : ℕ) × ((u < m) × ((u ≢ v) × (up u ≡ v)))

  -- what a tree that breaks no rule has
  pub record Valid : Type 0 where
    pub some : 0 < n
    pub room : n ≤ m
    pub top : up (m - 1) ≡ m - 1
    pub rises : (v : ℕ) → v < m - 1 → v < up v
    pub inner : (v : ℕ) → v < m - 1 → n ≤ up v
    pub inside : (v : ℕ) → v < m - 1 → up v < m

-- ---- masses, root to leaves

-- the root has M; any other node has what the share of its parent's mass gives it: `share v M u` is what the child u gets of v's mass M
unfoldable pub mass_from : (up : ℕ → ℕ) (m : ℕ) (share : ℕ → ℕ → ℕ → ℕ) (M : ℕ) → ℕ → ℕ → ℕ
mass_from up m share M zero v = M
mass_from up m share M (suc k) v = elim (eqb v (m - 1)) [ true ↦ M | false ↦ share (up v) (mass_from up m share M k (up v)) v ]

unfoldable pub mass_at : (up : ℕ → ℕ) (m : ℕ) (share : ℕ → ℕ → ℕ → ℕ) (M : ℕ) → ℕ → ℕ
mass_at up m share M v = mass_from up m share M m v
