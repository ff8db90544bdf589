-- Laws of the tree: parents lead from every node to the root, and to an inner node through exactly one of its children. So an inner
-- node's sum is the sum of its children's sums, the root's is that of all cells, and a cell's is its own value. Assumes nothing.
use mathlib.Core.Path.{◌≡◌, refl, sym, ◌∙◌, ap, subst}
use mathlib.Core.Logic.{◌≢◌, ◌⊎◌, inl, inr, ◌↔◌}
use mathlib.Core.Bool.{true, false, not}
use Prim.Native.Nat.{ℕ, zero, suc, ◌+◌, ◌-◌, ◌≤◌, ◌<◌}
use native.Mathlib.Omega.{arith}
use native.Mathlib.Decide.{ℕ_discrete}
use lib.Dec.{eqb}
use borrow.Author.Tests.{eqb-true, eq-eqb, ne_eqb}
use Rattle.numbers.specs.Sums.{Adds, sum_to, pick}
use Rattle.numbers.proofs.TestLaws.{not_so, clash, and_second}
use Rattle.numbers.proofs.SumLaws.{sum_to-ext, sum_to-none, sum_to-swap, sum_to-one, pick-ext, pick-skip, pick-sum}
use Rattle.qlt_spec.specs.Tree.{leads, child_of, node_sum, Valid}

module _ (up : ℕ → ℕ) where
  -- ---- the test of a child, by facts

  -- another node that names v as its parent is a child of v
  pub child-yes : (u v : ℕ) → u ≢ v → up u ≡ v → child_of up u v ≡ true
  unfolding child_of
  child-yes u v h e = rw (ne_eqb u v h, eq-eqb (up u) v e)

  -- a child names v as its parent
  pub child-up : (u v : ℕ) → child_of up u v ≡ true → up u ≡ v
  unfolding child_of
  child-up u v e = eqb-true (up u) v (and_second (not (eqb u v)) (eqb (up u) v) e)

  -- what does not is no child
  pub child-other : (u v : ℕ) → up u ≢ v → child_of up u v ≡ false
  child-other u v h = not_so (child_of up u v) (λ e. h (child-up u v e))

  -- no node is its own child
  pub child-self : (v : ℕ) → child_of up v v ≡ false
  unfolding child_of
  child-self v = rw (eq-eqb v v refl)

  -- so a child is another node
  pub child-ne : (u v : ℕ) → child_of up u v ≡ true → u ≢ v
  child-ne u v e h = clash e (rw h (child-self v))

  -- ---- where parents lead in at most k steps

  -- to the node itself, whatever k is
  leads-here : (k c : ℕ) → leads up k c c ≡ true
  unfolding leads
  leads-here zero c = eq-eqb c c refl
  leads-here (suc k) c = rw (eq-eqb c c refl, leads)

  -- to another node exactly if they do from the parent, in one step less
  leads-step : (k c v : ℕ) → c ≢ v → leads up (suc k) c v ≡ leads up k (up c) v
  unfolding leads
  leads-step k c v h = rw (ne_eqb c v h, leads)

  -- ---- sums

  -- what c adds to v's sum, by the child u of v that c leads to
  by : (A : Adds) → ℕ → ℕ → ℕ → A.Num → ℕ → A.Num
  by A m v c x u = pick A (child_of up u v) (pick A (leads up m c u) x)

  -- a node's sum goes by the values of the cells alone
  pub node_sum-ext : (n m : ℕ) (A : Adds) (f g : ℕ → A.Num) (v : ℕ) → ((c : ℕ) → c < n → f c ≡ g c) → node_sum A up n m f v ≡ node_sum A up n m g v
  unfolding node_sum
  node_sum-ext n m A f g v h = sum_to-ext A n _ _ (λ c l. ap (pick A (leads up m c v)) (h c l))

module _ {up : ℕ → ℕ} {n m : ℕ} (ok : Valid up n m) where
  -- by the number of steps that are enough
  up-ind-from : (P : ℕ → Type 0) → P (m - 1) → ((c : ℕ) → c < m - 1 → P (up c) → P c) → (k c : ℕ) → m ≤ k + c → c < m → P c
  up-ind-from P root step zero c h l = absurd (omega arith)
  up-ind-from P root step (suc k) c h l = go (ℕ_discrete c (m - 1)) (λ c' h' l'. up-ind-from P root step k c' h' l')
    where
      go : Dec (c ≡ m - 1) → ((c' : ℕ) → m ≤ k + c' → c' < m → P c') → P c
      go (yes e) r = subst P (sym e) root
      go (no e) r =
          let i : c < m - 1 = omega arith in
          step c i (r (up c) (omega (arith, ok.rises c i)) (ok.inside c i))

  -- induction up the parents: what holds of the root, and of a node if it holds of its parent, holds of every node
  pub up-ind : (P : ℕ → Type 0) → P (m - 1) → ((c : ℕ) → c < m - 1 → P (up c) → P c) → (c : ℕ) → c < m → P c
  up-ind P root step c l = up-ind-from P root step m c (omega arith) l

  -- ---- where parents lead

  -- from the root they lead to no other node
  top_from : (k v : ℕ) → m - 1 ≢ v → leads up k (m - 1) v ≡ false
  unfolding leads
  top_from zero v h = ne_eqb (m - 1) v h
  top_from (suc k) v h = leads-step up k (m - 1) v h ∙ ap (λ x. leads up k x v) ok.top ∙ top_from k v h

  -- where k steps are enough, one step more changes nothing
  leads-more : (k c v : ℕ) → m ≤ k + c → c < m → leads up (suc k) c v ≡ leads up k c v
  leads-more zero c v h l = absurd (omega arith)
  leads-more (suc k) c v h l = go (ℕ_discrete c v) (ℕ_discrete c (m - 1)) (λ c' h' l'. leads-more k c' v h' l')
    where
      go :
          Dec (c ≡ v) → Dec (c ≡ m - 1) → ((c' : ℕ) → m ≤ k + c' → c' < m → leads up (suc k) c' v ≡ leads up k c' v)
          → leads up (suc (suc k)) c v ≡ leads up (suc k) c v
      go (yes e) d r = rw e (leads-here up (suc (suc k)) v ∙ sym (leads-here up (suc k) v))
      go (no e) (yes d) r = rw d (top_from (suc (suc k)) v (omega arith) ∙ sym (top_from (suc k) v (omega arith)))
      go (no e) (no d) r =
          let i : c < m - 1 = omega arith in
          leads-step up (suc k) c v e ∙ r (up c) (omega (arith, ok.rises c i)) (ok.inside c i) ∙ sym (leads-step up k c v e)

  -- to the node itself
  pub leads-self : (v : ℕ) → leads up m v v ≡ true
  leads-self v = leads-here up m v

  -- to another node exactly if they do from the parent
  pub leads-up : (c v : ℕ) → c < m → c ≢ v → leads up m c v ≡ leads up m (up c) v
  leads-up c v l h = sym (leads-more m c v (omega arith) l) ∙ leads-step up m c v h

  -- from the root to no other node
  pub leads-top : (v : ℕ) → m - 1 ≢ v → leads up m (m - 1) v ≡ false
  leads-top v h = top_from m v h

  -- 01's 'cells from which parents lead up to it', with no count of steps: v itself, and what has a parent from which they lead to v
  pub leads-means : (c v : ℕ) → c < m → v < m → (leads up m c v ≡ true) ↔ ((c ≡ v) ⊎ ((c ≢ m - 1) × (leads up m (up c) v ≡ true)))
  leads-means c v l k = (to (ℕ_discrete c v), from (ℕ_discrete c v))
    where
      to : Dec (c ≡ v) → leads up m c v ≡ true → (c ≡ v) ⊎ ((c ≢ m - 1) × (leads up m (up c) v ≡ true))
      to (yes e) h = inl e
      to (no e) h = inr ((λ d. clash h (rw d (leads-top v (omega arith)))), sym (leads-up c v l e) ∙ h)

      from : Dec (c ≡ v) → (c ≡ v) ⊎ ((c ≢ m - 1) × (leads up m (up c) v ≡ true)) → leads up m c v ≡ true
      from (yes e) h = rw e (leads-self v)
      from (no e) (inl d) = absurd (e d)
      from (no e) (inr h) = leads-up c v l e ∙ h.1

  -- to no smaller number
  pub leads-low : (v c : ℕ) → c < m → v < c → leads up m c v ≡ false
  leads-low v =
      up-ind (λ c. v < c → leads up m c v ≡ false)
      (λ h. leads-top v (omega arith))
      (λ c l r h. leads-up c v (omega arith) (omega arith) ∙ r (omega (arith, ok.rises c l)))

  -- from every node to the root
  pub leads-root : (c : ℕ) → c < m → leads up m c (m - 1) ≡ true
  leads-root =
      up-ind (λ c. leads up m c (m - 1) ≡ true)
      (leads-self (m - 1))
      (λ c l r. leads-up c (m - 1) (omega arith) (omega arith) ∙ r)

  -- to a cell from itself alone
  pub leads-cell : (c v : ℕ) → c < m → v < n → c ≢ v → leads up m c v ≡ false
  leads-cell c v l h e = go (ℕ_discrete c (m - 1))
    where
      go : Dec (c ≡ m - 1) → leads up m c v ≡ false
      go (yes d) = rw d (leads-top v (omega arith))
      go (no d) =
          let i : c < m - 1 = omega arith in
          leads-up c v l e ∙ leads-low v (up c) (ok.inside c i) (omega (arith, ok.inner c i))

  -- ---- children

  -- a child is not the root
  pub child-low : (u v : ℕ) → u < m → child_of up u v ≡ true → u < m - 1
  child-low u v l e = go (ℕ_discrete u (m - 1))
    where
      go : Dec (u ≡ m - 1) → u < m - 1
      go (yes d) = absurd (child-ne up u v e (d ∙ sym ok.top ∙ ap up (sym d) ∙ child-up up u v e))
      go (no d) = omega arith

  -- a child has a smaller number than its parent
  pub child-less : (u v : ℕ) → u < m → child_of up u v ≡ true → u < v
  child-less u v l e = omega (arith, ok.rises u (child-low u v l e), child-up up u v e)

  -- every node but the root is a child of its parent
  pub child-parent : (u : ℕ) → u < m - 1 → child_of up u (up u) ≡ true
  child-parent u l = child-yes up u (up u) (omega (arith, ok.rises u l)) refl

  -- ---- sums: what a node adds to that of another, it adds by exactly one child

  module _ (A : Adds) where
    -- the root leads to no child of v
    branch-top : (v : ℕ) (x : A.Num) → m - 1 ≢ v → sum_to A m (by up A m v (m - 1) x) ≡ pick A (leads up m (m - 1) v) x
    unfolding by
    branch-top v x h =
        sum_to-none A m _ (λ u l. pick-skip A (child_of up u v) _ (λ e. rw (leads-top u (omega (arith, child-low u v l e)))))
        ∙ rw (leads-top v h)

    -- the parent is v: the child is c itself
    branch-last : (v : ℕ) (x : A.Num) (c : ℕ) → c < m - 1 → up c ≡ v → c ≢ v → sum_to A m (by up A m v c x) ≡ pick A (leads up m c v) x
    unfolding by
    branch-last v x c l p h =
        sum_to-one A m _ c (omega arith) (λ u k d. pick-skip A (child_of up u v) _ (λ e. rw (skip u k d e)))
        ∙ rw (child-yes up c v h p, leads-self c, leads-up c v (omega arith) h, p, leads-self v)
      where
        skip : (u : ℕ) → u < m → u ≢ c → child_of up u v ≡ true → leads up m c u ≡ false
        skip u k d e =
            leads-up c u (omega arith) (omega arith) ∙ rw p (leads-low u v (omega (arith, ok.inside c l)) (child-less u v k e))

    -- it is not: the child is the one by which the parent adds
    branch-on :
        (v : ℕ) (x : A.Num) (c : ℕ) → c < m - 1 → up c ≢ v → c ≢ v → sum_to A m (by up A m v (up c) x) ≡ pick A (leads up m (up c) v) x
        → sum_to A m (by up A m v c x) ≡ pick A (leads up m c v) x
    unfolding by
    branch-on v x c l p h r =
        sum_to-ext A m _ _ (λ u k. pick-ext A (child_of up u v) _ _ (λ e. rw (leads-up c u (omega arith) (λ d. p (ap up d ∙ child-up up u v e)))))
        ∙ r
        ∙ rw (← leads-up c v (omega arith) h)

    -- by induction up the parents
    branch : (v : ℕ) (x : A.Num) (c : ℕ) → c < m → c ≢ v → sum_to A m (by up A m v c x) ≡ pick A (leads up m c v) x
    branch v x = up-ind (λ c. c ≢ v → sum_to A m (by up A m v c x) ≡ pick A (leads up m c v) x) (branch-top v x) step
      where
        step :
            (c : ℕ) → c < m - 1 → (up c ≢ v → sum_to A m (by up A m v (up c) x) ≡ pick A (leads up m (up c) v) x)
            → c ≢ v → sum_to A m (by up A m v c x) ≡ pick A (leads up m c v) x
        step c l r h = go (ℕ_discrete (up c) v)
          where
            go : Dec (up c ≡ v) → sum_to A m (by up A m v c x) ≡ pick A (leads up m c v) x
            go (yes p) = branch-last v x c l p h
            go (no p) = branch-on v x c l p h (r p)

    -- an inner node's sum is the sum of its children's sums
    pub node_sum-inner :
        (f : ℕ → A.Num) (v : ℕ) → n ≤ v → v < m → node_sum A up n m f v ≡ sum_to A m (λ u. pick A (child_of up u v) (node_sum A up n m f u))
    unfolding node_sum by
    node_sum-inner f v h l =
        sum_to-ext A n _ _ (λ c k. sym (branch v (f c) c (omega (arith, ok.room)) (omega arith)))
        ∙ sum_to-swap A n m (λ c u. by up A m v c (f c) u)
        ∙ sum_to-ext A m _ _ (λ u k. sym (pick-sum A (child_of up u v) n (λ c. pick A (leads up m c u) (f c))))

    -- the root's is the sum over all cells
    pub node_sum-root : (f : ℕ → A.Num) → node_sum A up n m f (m - 1) ≡ sum_to A n f
    unfolding node_sum
    node_sum-root f = sum_to-ext A n _ _ (λ c k. rw (leads-root c (omega (arith, ok.room))))

    -- a cell's is its own value
    pub node_sum-cell : (f : ℕ → A.Num) (v : ℕ) → v < n → node_sum A up n m f v ≡ f v
    unfolding node_sum
    node_sum-cell f v h = sum_to-one A n _ v h (λ c k d. rw (leads-cell c v (omega (arith, ok.room)) h d)) ∙ rw (leads-self v)
