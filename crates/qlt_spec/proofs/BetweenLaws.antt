-- The masses of a tree between any bounds of its cells that are in order and have room for M: each node's mass lies within its bounds, can be
-- split among its children, and is the sum over its cells. Assumes nothing.
use mathlib.Core.Path.{◌≡◌}
use mathlib.Core.Bool.{true}
use Prim.Native.Nat.{ℕ, ◌-◌, ◌≤◌, ◌<◌}
use lib.IntN.{ℤ}
use Rattle.numbers.specs.Sums.{ℕ_adds, sum_to}
use Rattle.caas_spec.specs.Group.{Group, Splits}
use Rattle.caas_spec.specs.Split.{result}
use Rattle.caas_spec.proofs.SplitLaws.{result-adds, result-within}
use Rattle.qlt_spec.specs.Tree.{child_of, Valid}
use Rattle.qlt_spec.specs.Masses.{children_between, mass_between}
use Rattle.qlt_spec.proofs.TreeLaws.{node_sum-inner}
use Rattle.qlt_spec.proofs.MassLaws.{node, InBounds, Apportions, node_sum-le, mass-root, mass-up, mass-child, mass-within, mass-sums, cells-sum}

module _ {up : ℕ → ℕ} {n m : ℕ} (ok : Valid up n m) (target : ℕ → ℤ) (weight low high : ℕ → ℕ) where
  -- a node's children, and its mass
  abbrev pub group : ℕ → Group
  group v = children_between up n m target weight low high v

  abbrev pub between : ℕ → ℕ → ℕ
  between M v = mass_between up n m target weight low high M v

  module _ (M : ℕ) where
    -- the root has M
    pub between-root : between M (m - 1) ≡ M
    unfolding mass_between
    between-root = mass-root ok (λ v. result (group v)) M

    -- any other node has what the split of its parent's mass gives it
    pub between-up : (u : ℕ) → u < m - 1 → between M u ≡ result (group (up u)) (between M (up u)) u
    unfolding mass_between
    between-up = mass-up ok (λ v. result (group v)) M

    -- the same, said of a child
    pub between-child : (v u : ℕ) → u < m → child_of up u v ≡ true → between M u ≡ result (group v) (between M v) u
    unfolding mass_between
    between-child = mass-child ok (λ v. result (group v)) M

  module _ (order : (c : ℕ) → c < n → low c ≤ high c) where
    -- a mass within a node's bounds can be split among its children
    pub can-split : (v x : ℕ) → n ≤ v → v < m → InBounds up n m low high v x → Splits (group v) x
    can-split v x h l b =
        record {
          order = λ u k e. node_sum-le up n m low high order u;
          least = rw (node_sum-inner ok ℕ_adds low v h l) at b.0;
          most = rw (node_sum-inner ok ℕ_adds high v h l) at b.1;
        }

    -- so the split is a share as MassLaws asks for
    sharing : Apportions up n m low high (λ v. result (group v))
    sharing =
        record {
          adds = λ v x h l b. result-adds (group v) x (can-split v x h l b);
          within = λ v x h l b. result-within (group v) x (can-split v x h l b);
        }

    module _ (M : ℕ) (least : sum_to ℕ_adds n low ≤ M) (most : M ≤ sum_to ℕ_adds n high) where
      -- each node's mass lies within its bounds
      pub between_in : (v : ℕ) → v < m → InBounds up n m low high v (between M v)
      unfolding mass_between
      between_in = mass-within ok (λ v. result (group v)) M sharing least most

      -- so it can be split among the node's children
      pub between-can : (v : ℕ) → n ≤ v → v < m → Splits (group v) (between M v)
      between-can v h l = can-split v (between M v) h l (between_in v l)

      -- it is the sum over the node's cells
      pub between-sum : (v : ℕ) → v < m → node up n m (between M) v ≡ between M v
      unfolding mass_between
      between-sum = mass-sums ok (λ v. result (group v)) M sharing least most

      -- the cells' masses add up to M
      pub between-all : sum_to ℕ_adds n (between M) ≡ M
      unfolding mass_between
      between-all = cells-sum ok (λ v. result (group v)) M sharing least most
