-- What a cell has after each step of the split of its parent's mass gives its parts; the split between the lists of the bounds in force is
-- that of the field. Assumes nothing.
use mathlib.Core.Path.{◌≡◌, sym, ◌∙◌, ap, ap₂}
use mathlib.Core.List.{List}
use Prim.Native.Nat.{ℕ, ◌-◌, ◌^◌, ◌<◌}
use native.Mathlib.Omega.{arith}
use lib.IntN.{ℤ, pos, ◌-ℤ◌}
use lib.ListN.{length}
use lib.Signed.{mag}
use mir.Syntax.{w64}
use mir.Val.{SFits}
use borrow.Author.Tests.{ne_eqb}
use Rattle.numbers.specs.Sums.{ℤ_adds}
use Rattle.numbers.specs.Lists.{at, at_ℤ}
use Rattle.numbers.proofs.SignedLaws.{signed, about, one-part, minus-parts}
use Rattle.caas_spec.specs.Group.{Group}
use Rattle.qlt_spec.specs.Field.{Lists, Field, nodes, field, outcome}
use Rattle.qlt_spec.specs.declared.Outcome.{Outcome}
use Rattle.qlt_spec.specs.Masses.{children_between, group_of}
use Rattle.qlt_spec.specs.Operation.{ReconstructCall, ReconstructFits}
use Rattle.qlt_spec.proofs.TreeLaws.{child-parent, node_sum-cell}
use Rattle.qlt_spec.proofs.BetweenLaws.{between-up}
use Rattle.solve_spec.specs.Solve.{node_group, mass_of, Solvable, NodeWatched}
use Rattle.solve_spec.proofs.SolveLaws.{mass-can}
use Rattle.solve.specs.declared.whole_tree.InForce.{InForce}
use Rattle.reconstruct.specs.Rebuild.{low_list, high_list, ForcedBy}
use Rattle.reconstruct.proofs.RebuildLaws.{lows-are, highs-are, mass-same}
use Rattle.query_spec.specs.declared.Parts.{Parts}
use Rattle.query_spec.specs.Parts.{split_parts, alone_parts, cell_parts, parts_by}
use Rattle.query_spec.proofs.PartsLaws.{parts-read, parts-alone}

-- a correction fits 64 bits
pub correction-fits : (m : ℕ) (t : ℤ) → m < 2 ^ 32 → mag t < 2 ^ 31 → SFits w64 (pos m -ℤ t)
correction-fits m t h k = omega (signed, minus-parts (pos m) t, about (pos m -ℤ t), one-part (pos m -ℤ t), about t, h, k)

-- ---- between bounds

module _ {parents : List ℕ} {targets : List ℤ} {lows highs weights : List ℕ} {M : ℕ} {s : List ℤ} (ok : Solvable parents targets lows highs weights M s) where
  -- the children of a node, and its mass
  abbrev group : ℕ → Group
  group = node_group parents targets lows highs weights

  abbrev mass : ℕ → ℕ
  mass = mass_of parents targets lows highs weights M

  pub between :
      {u x y z : ℕ} {s' : List ℤ} → u < length parents - 1 → u < length targets → NodeWatched parents targets lows highs weights M u s s' x y z
      → parts_by x y z (at_ℤ targets u) ≡ split_parts (group (at parents u)) (mass (at parents u)) u
  between {u} {x} {y} {z} i l p =
      let v = at parents u in
      let can = mass-can ok v (ok.valid.inner u i) (ok.valid.inside u i) in
      ap₂ (λ a b. parts_by a b z (at_ℤ targets u)) p.clips p.firsts
      ∙ ap₂ (parts_by _ _)
      (p.gives ∙ between-up ok.valid (at_ℤ targets) (at weights) (at lows) (at highs) M u i)
      (sym (node_sum-cell ok.valid ℤ_adds (at_ℤ targets) u l))
      ∙ parts-read (group v) (mass v) can u (omega arith) (child-parent ok.valid u i)

-- ---- of a call that fits, by its outcome o, and what is solved of it

module _ (c : ReconstructCall) (ok : ReconstructFits c) (o : Outcome) (e : outcome (field c.lists) c.total ≡ o) {r : InForce} (q : ForcedBy o c.lists c.total r) where
  abbrev f : Lists
  f = c.lists

  abbrev F : Field
  F = field c.lists

  group-same : (v : ℕ) → node_group f.parents f.targets (low_list o f) (high_list o f) f.weights v ≡ group_of F (outcome F c.total) v
  unfolding group_of
  group-same v = sym (ap₂ (λ lo hi. children_between F.up F.n F.m F.target F.weight lo hi v) (lows-are c ok o e) (highs-are c ok o e))

  pub in-force :
      (u : ℕ) → 1 < nodes f
      → split_parts (node_group r.parents.now r.targets.now r.lows.now r.highs.now r.weights.now (at r.parents.now u)) (mass_of r.parents.now r.targets.now r.lows.now r.highs.now r.weights.now r.mass (at r.parents.now u)) u
      ≡ cell_parts F c.total u
  unfolding cell_parts
  in-force u h =
      rw (q.parents, q.targets, q.lows, q.highs, q.weights, q.mass)
      (ap₂ (λ G M. split_parts G M u) (group-same (F.up u)) (mass-same c ok o e (F.up u)) ∙ rw (ne_eqb (nodes f) 1 (omega arith)))

-- in a field of one node
pub alone-told : (F : Field) (M u : ℕ) → F.m ≡ 1 → (z : ℤ) → z ≡ pos M -ℤ F.target u → ◌≡◌ {A = Parts} (record { clipping = pos 0; first = pos 0; second = z }) (cell_parts F M u)
unfolding alone_parts
alone-told F M u e z d =
    ap (λ (x : ℤ). let r : Parts = record { clipping = pos 0; first = pos 0; second = x } in r) d ∙ sym (parts-alone F M u e)
