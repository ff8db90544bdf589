-- The parts of a cell's correction add up to it: mass minus target. Assumes nothing.
use mathlib.Core.Path.{◌≡◌, refl, sym, ◌∙◌, ap, ap₂}
use Prim.Native.Nat.{ℕ, ◌-◌, ◌≤◌, ◌<◌}
use native.Mathlib.Omega.{arith}
use native.Mathlib.Decide.{ℕ_discrete}
use lib.IntN.{ℤ, pos, ◌+ℤ◌, ◌-ℤ◌, +ℤ_idl}
use borrow.Author.Tests.{eq-eqb, ne_eqb}
use Rattle.numbers.specs.Sums.{ℤ_adds}
use Rattle.numbers.proofs.SignedLaws.{add_parts, minus-parts, parts-eq}
use Rattle.caas_spec.specs.Group.{Group, Each, Splits}
use Rattle.caas_spec.specs.Split.{clipped, result, after_first}
use Rattle.caas_spec.proofs.SplitLaws.{first-shift, second-shift}
use Rattle.qlt_spec.specs.Tree.{Valid}
use Rattle.qlt_spec.specs.Field.{Field, Ordered, sum_cells}
use Rattle.qlt_spec.specs.Masses.{group_of, tree_mass}
use Rattle.qlt_spec.proofs.TreeLaws.{child-parent, node_sum-cell}
use Rattle.qlt_spec.proofs.FactLaws.{group, node-root, node-up, node-can}
use Rattle.query_spec.specs.declared.Parts.{Parts}
use Rattle.query_spec.specs.Parts.{split_parts, alone_parts, cell_parts, parts_sum, parts_by}

-- ---- one split

pub parts-path : (p q : Parts) → p.clipping ≡ q.clipping → p.first ≡ q.first → p.second ≡ q.second → p ≡ q
parts-path p q a b c i = record { clipping = a i; first = b i; second = c i }

-- the parts are what stands in an item's place after each step, less what stood there before
pub parts-read : (G : Group) (M : ℕ) → Splits G M → Each G (λ u. parts_by (clipped G u) (after_first G M u) (result G M u) (G.target u) ≡ split_parts G M u)
unfolding parts_by split_parts
parts-read G M can u l e = parts-path _ _ refl (first-shift G M can u l e) (second-shift G M can u l e)

-- so they add up to what stands there at the end, less the target
steps-add : (clip first both : ℕ) (t : ℤ) → parts_sum (parts_by clip first both t) ≡ pos both -ℤ t
unfolding parts_by
steps-add clip first both t =
    let a = pos clip -ℤ t in
    let b = pos first -ℤ pos clip in
    let c = pos both -ℤ pos first in
    parts-eq (omega (arith, minus-parts (pos clip) t, minus-parts (pos first) (pos clip), minus-parts (pos both) (pos first), add_parts a b, add_parts (a +ℤ b) c, minus-parts (pos both) t))

pub split-total : (G : Group) (M : ℕ) → Splits G M → Each G (λ u. parts_sum (split_parts G M u) ≡ pos (result G M u) -ℤ G.target u)
split-total G M can u l e =
    ap parts_sum (sym (parts-read G M can u l e)) ∙ steps-add (clipped G u) (after_first G M u) (result G M u) (G.target u)

-- ---- a cell

-- in a field of one node all is second share, and with more it is the split at the parent
pub parts-alone : (F : Field) (M c : ℕ) → F.m ≡ 1 → cell_parts F M c ≡ alone_parts F M c
unfolding cell_parts
parts-alone F M c e = rw (eq-eqb F.m 1 e)

module _ (F : Field) (ok : Valid F.up F.n F.m) where
  -- a cell of a field of more than one node is not the root
  pub cell-low : (c : ℕ) → c < F.n → 1 < F.m → c < F.m - 1
  cell-low c l h = omega (arith, ok.room, ok.inner 0 (omega arith), ok.inside 0 (omega arith))

  module _ (ordered : (c : ℕ) → c < F.n → Ordered F c) (M : ℕ) (least : sum_cells F F.safe_low ≤ M) (most : M ≤ sum_cells F F.safe_high) where
    -- the parts add up to mass minus target
    pub parts-total : (c : ℕ) → c < F.n → parts_sum (cell_parts F M c) ≡ pos (tree_mass F M c) -ℤ F.target c
    unfolding cell_parts alone_parts group_of
    parts-total c l = go (ℕ_discrete F.m 1)
      where
        go : Dec (F.m ≡ 1) → parts_sum (cell_parts F M c) ≡ pos (tree_mass F M c) -ℤ F.target c
        go (yes e) =
            let top : c ≡ F.m - 1 = omega (arith, ok.room) in
            rw (eq-eqb F.m 1 e, ap (tree_mass F M) top ∙ node-root F M ok)
            (ap (λ z. z +ℤ (pos M -ℤ F.target c)) (+ℤ_idl (pos 0)) ∙ +ℤ_idl (pos M -ℤ F.target c))
        go (no e) =
            let k : c < F.m - 1 = cell-low c l (omega (arith, ok.some, ok.room)) in
            rw (ne_eqb F.m 1 e)
            (split-total (group F M (F.up c)) (tree_mass F M (F.up c)) (node-can F ok ordered M least most (F.up c) (ok.inner c k) (ok.inside c k)) c (omega arith) (child-parent ok c k)
            ∙ ap₂ (λ x t. pos x -ℤ t) (sym (node-up F M ok c k)) (node_sum-cell ok ℤ_adds F.target c l))
