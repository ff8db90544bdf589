-- Laws for the checks in code: lengths, marks, a node's rules by its parent alone, and the outcome by sums. Assumes nothing.
use Rattle.std.specs.Prelude.{Ok}
use mathlib.Core.Path.{◌≡◌, refl, sym, ◌∙◌, ap, ap₂}
use mathlib.Core.Logic.{◌≢◌}
use mathlib.Core.Bool.{Bool, true, false, not, ◌&&◌, ◌||◌, and-false}
use mathlib.Core.List.{List}
use Prim.Native.Nat.{ℕ, zero, suc, ◌+◌, ◌<◌}
use native.Mathlib.Omega.{arith}
use native.Mathlib.Numerals.{add-one}
use native.Mathlib.Decide.{ℕ_discrete}
use lib.Dec.{eqb, ltb}
use borrow.Author.Tests.{eq-eqb, ne_eqb}
use lib.ListN.{length, set, replicate}
use lib.Seq.{get_or-set_same, get_or-set_other}
use Rattle.numbers.specs.Sums.{ℕ_adds, sum_to}
use Rattle.numbers.specs.Lists.{at, sum}
use Rattle.qlt_spec.specs.Tree.{child_of, any_child, parent_ok, node_ok}
use Rattle.qlt_spec.specs.Field.{Lists, cells, field, outcome_by, outcome}
use Rattle.qlt_spec.specs.Checks.{shape_of}
use Rattle.qlt_spec.proofs.CheckLaws.{shape-fits}
use Rattle.field_checks.specs.Lists.{Sized, Marks}

-- ---- 1 to 3

-- what 1 to 3 have shown, for the checks after them
pub sized : (f : Lists) (k s : ℕ) → shape_of k f s ≡ Ok tt → Sized f
sized f k s e =
    let p = (shape-fits f k s).0 e in
    let l = p.lengths in
    record { few = p.few; nodes_few = p.nodes_few; lows = l.lows; highs = l.highs; safe_lows = l.safe_lows; safe_highs = l.safe_highs; weights = l.weights }

-- ---- 4: the marks

-- a node that names itself marks nothing; no node but the one named is marked
pub no-mark : (u p v x : ℕ) → p ≡ u → eqb x 1 ≡ (child_of (λ w. p) u v || eqb x 1)
unfolding child_of
no-mark u p v x e = rw e (go (eqb u v))
  where
    go : (b : Bool) → eqb x 1 ≡ ((not b && b) || eqb x 1)
    go true = refl
    go false = refl

pub far-mark : (u p v x : ℕ) → p ≢ v → eqb x 1 ≡ (child_of (λ w. p) u v || eqb x 1)
unfolding child_of
far-mark u p v x h = sym (rw (ne_eqb p v h, and-false (not (eqb u v))))

pub one-mark : (seen : List ℕ) (u p v : ℕ) → p < length seen → p ≢ u → eqb (at (set seen p 1) v) 1 ≡ (child_of (λ w. p) u v || eqb (at seen v) 1)
unfolding child_of
one-mark seen u p v l h = go (ℕ_discrete v p)
  where
    go : Dec (v ≡ p) → eqb (at (set seen p 1) v) 1 ≡ ((not (eqb u v) && eqb p v) || eqb (at seen v) 1)
    go (yes e) = rw e (ap (λ x. eqb x 1) (get_or-set_same seen p 1 0 l) ∙ sym (rw (ne_eqb u p (λ q. h (sym q)), eq-eqb p p refl)))
    go (no e) = ap (λ x. eqb x 1) (get_or-set_other seen p v 1 0 e) ∙ far-mark u p v (at seen v) (λ q. e (sym q))

at_zero : (k v : ℕ) → at (replicate k 0) v ≡ 0
at_zero zero v = refl
at_zero (suc k) zero = refl
at_zero (suc k) (suc v) = at_zero k v

pub marks-start : (up : ℕ → ℕ) (k : ℕ) → Marks up 0 (replicate k 0)
unfolding any_child
marks-start up k = record { each = λ v l. rw (at_zero k v) }

pub marks-turn : (up : ℕ → ℕ) (u p : ℕ) (old new : List ℕ) → p ≡ up u → length new ≡ length old → ((v : ℕ) → v < length old → eqb (at new v) 1 ≡ (child_of (λ w. p) u v || eqb (at old v) 1)) → Marks up u old → Marks up (u + 1) new
unfolding any_child child_of
marks-turn up u p old new e long h m =
    record { each = λ v l. rw add-one (h v (omega arith) ∙ ap₂ (λ x y. (not (eqb u v) && eqb x v) || y) e (m.each v (omega arith))) }

-- ---- 4: a node's rules

parent-here : (up : ℕ → ℕ) (n m v p : ℕ) → p ≡ up v → parent_ok (λ w. p) n m v ≡ parent_ok up n m v
unfolding parent_ok
parent-here up n m v p e = rw e

pub good-is : (up : ℕ → ℕ) (n m v p x : ℕ) (r : Bool) → r ≡ (parent_ok (λ w. p) n m v && (ltb v n || eqb x 1)) → p ≡ up v → eqb x 1 ≡ any_child up m v → r ≡ node_ok up n m v
unfolding node_ok
good-is up n m v p x r e f g = e ∙ ap₂ (λ a b. a && (ltb v n || b)) (parent-here up n m v p f) g

-- ---- the outcome by sums is that of the field

pub outcome-is : (f : Lists) (M : ℕ) → length f.lows ≡ cells f → length f.highs ≡ cells f → outcome_by (sum f.lows) (sum f.highs) M ≡ outcome (field f) M
unfolding outcome
outcome-is f M l h =
    ap₂ (λ a b. outcome_by a b M) (ap (λ k. sum_to ℕ_adds k (at f.lows)) l) (ap (λ k. sum_to ℕ_adds k (at f.highs)) h)
