-- `solve::descend::child_stages` meets its contract: the descent stops above the parent, so that it is the next node to be split
-- (`next-splitting`), and its split is watched (`child-watched`).
use mathlib.Core.Path.{refl}
use mathlib.Core.List.{List}
use Prim.Native.Nat.{ℕ, ◌≤◌, ◌<◌, ◌+◌}
use native.Mathlib.Omega.{arith}
use lib.IntN.{ℤ}
use Rattle.solve_spec.specs.Descent.{Descending}
use Rattle.solve_spec.proofs.DescentLaws.{up-inner, next-splitting, child-watched}
use Rattle.solve.proofs.descend.child_stages.Goals as goal

-- the parent of a node below the root is an inner node
parent-inner : {up : ℕ → ℕ} {n root u : ℕ} {s : List ℤ} → Descending up n (root + 1) s → u < root → (n ≤ up u) × (up u < root + 1)
parent-inner {u = u} d l = up-inner {i = u} d.plan.valid (omega arith) refl (omega arith)

pub bounds-parents-u : goal.bounds-parents-u
bounds-parents-u c = omega (arith, c.requires.u_lt_root)

pub overflow_add-v : goal.overflow_add-v
overflow_add-v c = record { fits = omega (arith, parent-inner c.requires.by_index.1 c.requires.u_lt_root.0, c.requires.u_lt_root) }

pub descend-requires : goal.descend-requires
descend-requires c =
    let i = parent-inner c.requires.by_index.1 c.requires.u_lt_root.0 in
    record { k_le_m = (omega (arith, i), omega (arith, c.requires.u_lt_root)); by_index = (c.requires.by_index.0, (omega (arith, i), c.requires.by_index.1)) }

pub split_watched-watched-requires : goal.split_watched-watched-requires
split_watched-watched-requires c =
    let plan = c.requires.by_index.1.plan in
    let d = c.descend.ensures in
    record {
      splitting = next-splitting plan d (parent-inner c.requires.by_index.1 c.requires.u_lt_root.0).0;
      in_row = record { column = omega arith; row = omega (arith, c.requires.u_lt_root, plan.size, d.state.kept.long, d.same.long) };
    }

pub returns : goal.returns
returns c =
    child-watched c.requires.by_index.1.plan c.descend.ensures (parent-inner c.requires.by_index.1 c.requires.u_lt_root.0).0
    c.split_watched-watched.ensures.split_watched
    (omega (arith, c.requires.u_lt_root))
    refl
