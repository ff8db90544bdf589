-- The whole tree: the root has mass M, and each inner node's mass is split among its children, bounds in force summed; and how much the
-- splits share out. Assumes nothing.
use Rattle.std.specs.Prelude.{List, ℕ, ℤ, nat_abs}
use Rattle.numbers.specs.Sums.{ℕ_adds, ℤ_adds, sum_from}
use Rattle.numbers.specs.Lists.{list_to}
use Rattle.caas_spec.specs.Group.{Group}
use Rattle.caas_spec.specs.Split.{deficit, result}
use Rattle.qlt_spec.specs.Tree.{child_of, node_sum, mass_at}
use Rattle.qlt_spec.specs.Field.{Field, outcome, low_in, high_in}
use Rattle.qlt_spec.specs.declared.Outcome.{Outcome}

-- ---- between any bounds of the cells

module _ (up : ℕ → ℕ) (n m : ℕ) (target : ℕ → ℤ) (weight low high : ℕ → ℕ) where
  -- a node's children in rising number, each with the sums over its cells
  abbrev pub children_between : ℕ → Group
  children_between v =
      record {
        size = m;
        has = λ u. child_of up u v;
        target = node_sum ℤ_adds up n m target;
        low = node_sum ℕ_adds up n m low;
        high = node_sum ℕ_adds up n m high;
        weight = node_sum ℕ_adds up n m weight;
      }

  -- a node's mass, where the root has M
  unfoldable pub mass_between : ℕ → ℕ → ℕ
  mass_between M = mass_at up m (λ v. result (children_between v)) M

-- ---- by the bounds in force

-- a node's children
unfoldable pub group_of : Field → Outcome → ℕ → Group
group_of F o v = children_between F.up F.n F.m F.target F.weight (low_in o F) (high_in o F) v

-- a node's mass, and the cells' masses
unfoldable pub tree_mass : Field → ℕ → ℕ → ℕ
tree_mass F M = mass_between F.up F.n F.m F.target F.weight (low_in (outcome F M) F) (high_in (outcome F M) F) M

unfoldable pub tree_masses : Field → ℕ → List ℕ
tree_masses F M = list_to F.n (tree_mass F M)

-- ---- how much is shared out (ticket 2 of 02)

-- the sum of the sizes of d over the inner nodes, n to m − 1, where node v has the mass `mass v` and the children `children v`
unfoldable pub shared_of : (n m : ℕ) (children : ℕ → Group) (mass : ℕ → ℕ) → ℕ
shared_of n m children mass = sum_from ℕ_adds n m (λ v. nat_abs (deficit (children v) (mass v)))

-- that of the whole tree
unfoldable pub tree_shared : Field → ℕ → ℕ
tree_shared F M = shared_of F.n F.m (group_of F (outcome F M)) (tree_mass F M)
