-- Sums at a node v and at every node outside it: two assignments of values to the cells that agree outside v and have the same sum below v have
-- the same sums there. For every kind of number at once. Assumes nothing.
use mathlib.Core.Path.{◌≡◌, sym, ◌∙◌, ap, ap₂, subst}
use mathlib.Core.Bool.{true, false, not}
use Prim.Native.Nat.{ℕ, ◌-◌, ◌<◌}
use native.Mathlib.Omega.{arith}
use native.Mathlib.Decide.{ℕ_discrete}
use borrow.Author.Tests.{not-true}
use Rattle.numbers.specs.Sums.{Adds, sum_to, pick}
use Rattle.numbers.proofs.TestLaws.{Tested, holds, fails, tested, clash, not_so}
use Rattle.numbers.proofs.SumLaws.{idr, sum_to-ext, sum_to-plus, pick-ext, pick-none, pick-sum}
use Rattle.qlt_spec.specs.Tree.{leads, child_of, node_sum, Valid}
use Rattle.qlt_spec.proofs.TreeLaws.{up-ind, leads-up, leads-top, leads-low, child-up}

module _ (up : ℕ → ℕ) (m v : ℕ) where
  -- u is v or lies outside it
  abbrev pub Clear : ℕ → Type 0
  Clear u = leads up m u v ≡ true → u ≡ v

  -- what lies outside is clear
  pub out-clear : (u : ℕ) → leads up m u v ≡ false → Clear u
  out-clear u h e = absurd (clash e h)

module _ {up : ℕ → ℕ} {n m : ℕ} (ok : Valid up n m) (v : ℕ) where
  -- the root is clear
  pub top-clear : Clear up m v (m - 1)
  top-clear e = go (ℕ_discrete (m - 1) v)
    where
      go : Dec (m - 1 ≡ v) → m - 1 ≡ v
      go (yes d) = d
      go (no d) = absurd (clash e (leads-top ok v d))

  -- the parent of a clear node lies outside
  pub parent-out : (u : ℕ) → u < m - 1 → Clear up m v u → leads up m (up u) v ≡ false
  parent-out u l k = not_so (leads up m (up u) v) (λ e. go e (ℕ_discrete u v))
    where
      go : leads up m (up u) v ≡ true → Dec (u ≡ v) → ⊥
      go e (yes d) = clash e (leads-low ok v (up u) (ok.inside u l) (omega (arith, ok.rises u l)))
      go e (no d) = d (k (leads-up ok u v (omega arith) d ∙ e))

  -- the children of a node outside are clear
  pub child-clear : (p : ℕ) → leads up m p v ≡ false → (w : ℕ) → w < m → child_of up w p ≡ true → Clear up m v w
  child-clear p h w l e f = go (ℕ_discrete w v)
    where
      go : Dec (w ≡ v) → w ≡ v
      go (yes d) = d
      go (no d) = absurd (clash (sym (leads-up ok w v l d) ∙ f) (ap (λ x. leads up m x v) (child-up up w p e) ∙ h))

  -- from a cell below v parents lead to a clear node exactly if they do from v
  through : (u : ℕ) → Clear up m v u → (c : ℕ) → c < m → leads up m c v ≡ true → leads up m c u ≡ leads up m v u
  through u k = up-ind ok (λ c. leads up m c v ≡ true → leads up m c u ≡ leads up m v u) (λ e. ap (λ w. leads up m w u) (top-clear e)) step
    where
      step :
          (c : ℕ) → c < m - 1 → (leads up m (up c) v ≡ true → leads up m (up c) u ≡ leads up m v u) → leads up m c v ≡ true
          → leads up m c u ≡ leads up m v u
      step c l r e = go (ℕ_discrete c v)
        where
          go : Dec (c ≡ v) → leads up m c u ≡ leads up m v u
          go (yes d) = ap (λ w. leads up m w u) d
          go (no d) =
              leads-up ok c u (omega arith) (λ q. d (q ∙ k (subst (λ w. leads up m w v ≡ true) q e)))
              ∙ r (sym (leads-up ok c v (omega arith) d) ∙ e)

  module _ (A : Adds) where
    -- what the cells outside v add to u's sum
    rest : (ℕ → A.Num) → ℕ → ℕ → A.Num
    rest f u c = pick A (not (leads up m c v)) (pick A (leads up m c u) (f c))

    -- a clear node's sum: that of v if v lies below it, and what the cells outside v add
    parted :
        (f : ℕ → A.Num) (u : ℕ) → Clear up m v u
        → node_sum A up n m f u ≡ A.plus (pick A (leads up m v u) (node_sum A up n m f v)) (sum_to A n (rest f u))
    unfolding node_sum rest
    parted f u k =
        sum_to-ext A n _ _ (λ c l. one c l (tested (leads up m c v)))
        ∙ sum_to-plus A n (λ c. pick A (leads up m v u) (pick A (leads up m c v) (f c))) (rest f u)
        ∙ ap (λ x. A.plus x (sum_to A n (rest f u))) (sym (pick-sum A (leads up m v u) n (λ c. pick A (leads up m c v) (f c))))
      where
        one :
            (c : ℕ) → c < n → Tested (leads up m c v)
            → pick A (leads up m c u) (f c)
            ≡ A.plus (pick A (leads up m v u) (pick A (leads up m c v) (f c))) (pick A (not (leads up m c v)) (pick A (leads up m c u) (f c)))
        one c l (holds e) = rw (e, through u k c (omega (arith, ok.room)) e) (sym (idr A _))
        one c l (fails e) = rw (e, pick-none A (leads up m v u)) (sym (A.idl _))

    -- the sums agree at every clear node
    abbrev pub SumsAgree : (f g : ℕ → A.Num) → Type 0
    SumsAgree f g = (u : ℕ) → Clear up m v u → node_sum A up n m f u ≡ node_sum A up n m g u

    pub sums-agree :
        (f g : ℕ → A.Num) → ((c : ℕ) → c < n → leads up m c v ≡ false → f c ≡ g c) → node_sum A up n m f v ≡ node_sum A up n m g v
        → SumsAgree f g
    unfolding rest
    sums-agree f g out same u k =
        parted f u k
        ∙ ap₂ A.plus (ap (pick A (leads up m v u)) same)
        (sum_to-ext A n _ _ (λ c l. pick-ext A (not (leads up m c v)) _ _ (λ e. ap (pick A (leads up m c u)) (out c l (not-true _ e)))))
        ∙ sym (parted g u k)
