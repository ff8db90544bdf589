-- What holds of the masses of an accepted field, as one record of named facts. Assumes nothing.
use Rattle.std.specs.Prelude.{◌≡◌, ◌↔◌, List, ℕ, ◌-◌, ◌≤◌, ◌<◌, ℤ, pos, nat_abs, ◌-ℤ◌, length}
use Rattle.numbers.specs.Sums.{ℕ_adds, ℤ_adds, sum_to, sum_from}
use Rattle.numbers.specs.Lists.{at}
use Rattle.caas_spec.specs.Group.{Group, Each, Divides, sum_in, distance}
use Rattle.caas_spec.specs.Split.{clipped, deficit, result, Proportional}
use Rattle.qlt_spec.specs.Tree.{node_sum}
use Rattle.qlt_spec.specs.Field.{Field, outcome, Meets, miss_of, change_of, sum_cells, low_in, high_in}
use Rattle.qlt_spec.specs.Masses.{group_of, tree_mass, tree_masses, tree_shared}

module _ (F : Field) (M : ℕ) (x : List ℕ) where
  -- a node's mass: the sum of the cells' masses over its cells
  abbrev pub node_mass : ℕ → ℕ
  node_mass v = node_sum ℕ_adds F.up F.n F.m (at x) v

  -- a node's children with their bounds in force
  abbrev pub children : ℕ → Group
  children v = group_of F (outcome F M) v

  -- what is shared out: the sum over inner nodes of the absolute difference between the node's mass and the sum of its children's clipped
  -- targets
  abbrev pub shared_by : ℕ
  shared_by = sum_from ℕ_adds F.n F.m (λ v. nat_abs (pos (node_mass v) -ℤ pos (sum_in ℕ_adds (children v) (clipped (children v)))))

  -- a fact of each inner node
  abbrev pub AtInner : (ℕ → Type 0) → Type 0
  AtInner P = (v : ℕ) → F.n ≤ v → v < F.m → P v

  -- a child's target, bounds in force and weight are the sums over its cells, as the cells have them
  pub record Summed (v u : ℕ) : Type 0 where
    pub target : (children v).target u ≡ node_sum ℤ_adds F.up F.n F.m F.target u
    pub low : (children v).low u ≡ node_sum ℕ_adds F.up F.n F.m (low_in (outcome F M) F) u
    pub high : (children v).high u ≡ node_sum ℕ_adds F.up F.n F.m (high_in (outcome F M) F) u
    pub weight : (children v).weight u ≡ node_sum ℕ_adds F.up F.n F.m F.weight u

  pub record FieldFacts : Type 0 where
    -- the answer is the whole tree's; the root has M, any other node what the split of its parent's mass gives it
    pub tree : x ≡ tree_masses F M
    pub root : tree_mass F M (F.m - 1) ≡ M
    pub below : (u : ℕ) → u < F.m - 1 → tree_mass F M u ≡ result (children (F.up u)) (tree_mass F M (F.up u)) u
    -- children are taken with the sums over their cells
    pub sums : AtInner (λ v. Each (children v) (λ u. Summed v u))
    -- a node's mass is the sum over its cells, so all masses add up to M; the children's masses are the split's, and a division
    pub node : (v : ℕ) → v < F.m → node_mass v ≡ tree_mass F M v
    pub count : length x ≡ F.n
    pub total : sum_cells F (at x) ≡ M
    pub splits : AtInner (λ v. Each (children v) (λ u. node_mass u ≡ result (children v) (node_mass v) u))
    pub divides : AtInner (λ v. Divides (children v) (node_mass v) (λ u. pos (node_mass u)))
    -- within the bounds exactly if some whole numbers within them have that total; else within the safety bounds, and none miss by less
    pub attains :
        ((c : ℕ) → c < F.n → (F.low c ≤ at x c) × (at x c ≤ F.high c))
        ↔ ((y : ℕ → ℤ) × Meets F.n F.low F.high (pos M) y)
    pub safe : (c : ℕ) → c < F.n → (F.safe_low c ≤ at x c) × (at x c ≤ F.safe_high c)
    pub least : (y : ℕ → ℤ) → sum_to ℤ_adds F.n y ≡ pos M → miss_of F (λ c. pos (at x c)) ≤ miss_of F y
    -- no other division of a node's mass lies nearer to the children's targets
    pub nearest : AtInner (λ v. (y : ℕ → ℤ) → Divides (children v) (node_mass v) y → distance (children v) (λ u. pos (node_mass u)) ≤ distance (children v) y)
    -- some masses within the safety bounds have the total exactly if it lies between their sums
    pub reachable : ((y : ℕ → ℤ) × Meets F.n F.safe_low F.safe_high (pos M) y) ↔ ((sum_cells F F.safe_low ≤ M) × (M ≤ sum_cells F F.safe_high))
    -- the change that is told is the sum over cells of the absolute mass minus target, of these very masses
    pub change : change_of F (tree_mass F M) ≡ change_of F (at x)
    -- what is told to be shared out is that of these very masses; a field of one node shares out 0
    pub shared : tree_shared F M ≡ shared_by
    pub alone : F.m ≡ 1 → tree_shared F M ≡ 0
    -- at each inner node the difference is what the children's masses differ from their clipped targets by, in sum
    pub moves :
        AtInner (λ v. sum_in ℕ_adds (children v) (λ u. nat_abs (pos (node_mass u) -ℤ pos (clipped (children v) u))) ≡ nat_abs (deficit (children v) (node_mass v)))
    -- where the children have no weight, each share is less than one unit from the published proportion
    pub proportional :
        AtInner (λ v. Each (children v) (λ u. (children v).weight u ≡ 0) → Each (children v) (λ u. Proportional (children v) (node_mass v) (pos (node_mass u)) u))
