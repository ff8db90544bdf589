-- `solve::whole_tree::node_stages` meets its contract: the columns are those of the tree, so what the node has in its row is what the split of its
-- parent's mass gives it step by step (`node-watched`).
use mathlib.Core.Path.{◌≡◌, sym, subst}
use mathlib.Core.List.{List}
use Prim.Native.Nat.{ℕ, ◌+◌, ◌-◌, ◌<◌}
use native.Mathlib.Omega.{arith}
use lib.IntN.{ℤ}
use lib.ListN.{length}
use Rattle.solve_spec.specs.Descent.{Descending, ChildWatched}
use Rattle.solve_spec.proofs.SolveLaws.{root_in, descending, node-watched}
use Rattle.solve.proofs.whole_tree.node_stages.Goals as goal

-- the nodes up to the root are all nodes
all : {m : ℕ} → 0 < m → m - 1 + 1 ≡ m
all h = omega arith

up-to-root : {up : ℕ → ℕ} {n m : ℕ} {s : List ℤ} → 0 < m → Descending up n m s → Descending up n (m - 1 + 1) s
up-to-root {up} {n} {m} {s} h d = subst (λ k. Descending up n k s) (sym (all h)) d

of-all : {up : ℕ → ℕ} {m u x y z : ℕ} {s t : List ℤ} → 0 < m → ChildWatched up (m - 1 + 1) u s t x y z → ChildWatched up m u s t x y z
of-all {up} {m} {u} {x} {y} {z} {s} {t} h w = subst (λ k. ChildWatched up k u s t x y z) (all h) w

pub child_stages-stages-requires : goal.child_stages-stages-requires
child_stages-stages-requires c =
    let n = length c.args.in_force.now.targets.now in record { u_lt_root = (c.requires.u_in_bounds, omega (arith, root_in c.requires.solvable)); by_index = (n, up-to-root (root_in c.requires.solvable) (descending c.requires.solvable c.prepare.ensures)) }

pub returns : goal.returns
returns c =
    node-watched c.requires.solvable c.prepare.ensures
    (of-all (root_in c.requires.solvable) c.child_stages-stages.ensures)
    c.requires.u_in_bounds
    c.clear.ensures
