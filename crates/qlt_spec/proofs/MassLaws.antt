-- Masses from the root down to the cells, for any share: `share v M u` is what the child u gets of v's mass M. Where the shares of each
-- mass within a node's bounds add up to it and lie within the children's bounds, every node's mass lies within its bounds and is the
-- sum over its cells. Assumes nothing.
use mathlib.Core.Path.{◌≡◌, refl, sym, ◌∙◌, ap}
use mathlib.Core.Bool.{true}
use Prim.Native.Nat.{ℕ, zero, suc, ◌+◌, ◌-◌, ◌≤◌, ◌<◌}
use native.Mathlib.Omega.{arith}
use native.Mathlib.Decide.{ℕ_discrete, dec_lt}
use borrow.Author.Tests.{eq-eqb, ne_eqb}
use Rattle.numbers.specs.Sums.{ℕ_adds, sum_to, pick}
use Rattle.numbers.proofs.SumLaws.{sum_to-ext, sum_to-le, pick-ext, pick-le}
use Rattle.qlt_spec.specs.Tree.{leads, child_of, node_sum, mass_from, mass_at, Valid}
use Rattle.qlt_spec.proofs.TreeLaws.{up-ind, child-up, child-low, child-less, child-parent, node_sum-inner, node_sum-root, node_sum-cell}

-- the sum over a node's children
abbrev pub sum_children : (up : ℕ → ℕ) (m : ℕ) → ℕ → (ℕ → ℕ) → ℕ
sum_children up m v f = sum_to ℕ_adds m (λ u. pick ℕ_adds (child_of up u v) (f u))

module _ (up : ℕ → ℕ) (n m : ℕ) where
  -- a node's sum over its cells, in ℕ
  abbrev pub node : (ℕ → ℕ) → ℕ → ℕ
  node f v = node_sum ℕ_adds up n m f v

  -- a mass lies within a node's bounds, which are the sums of its cells' bounds
  abbrev pub InBounds : (low high : ℕ → ℕ) → ℕ → ℕ → Type 0
  InBounds low high v x = (node low v ≤ x) × (x ≤ node high v)

  -- larger values have larger sums
  pub node_sum-le : (f g : ℕ → ℕ) → ((c : ℕ) → c < n → f c ≤ g c) → (v : ℕ) → node f v ≤ node g v
  unfolding node_sum
  node_sum-le f g h v = sum_to-le n _ _ (λ c l. pick-le (leads up m c v) (f c) (g c) (λ e. h c l))

  -- what is asked of a share: wherever a mass lies within a node's bounds, what its children get adds up to it and lies within their bounds
  pub record Apportions (low high : ℕ → ℕ) (share : ℕ → ℕ → ℕ → ℕ) : Type 0 where
    pub adds : (v x : ℕ) → n ≤ v → v < m → InBounds low high v x → sum_children up m v (share v x) ≡ x
    pub within : (v x : ℕ) → n ≤ v → v < m → InBounds low high v x → (u : ℕ) → u < m → child_of up u v ≡ true → InBounds low high u (share v x u)

module _ {up : ℕ → ℕ} {n m : ℕ} (ok : Valid up n m) (share : ℕ → ℕ → ℕ → ℕ) (M : ℕ) where
  -- a node's mass
  abbrev pub mass : ℕ → ℕ
  mass v = mass_at up m share M v

  -- the root has M, whatever the number of steps
  from-root : (k : ℕ) → mass_from up m share M k (m - 1) ≡ M
  unfolding mass_from
  from-root zero = refl
  from-root (suc k) = rw (eq-eqb (m - 1) (m - 1) refl, mass_from)

  -- any other node has its share of what its parent has by one step less
  from_up : (k v : ℕ) → v < m - 1 → mass_from up m share M (suc k) v ≡ share (up v) (mass_from up m share M k (up v)) v
  unfolding mass_from
  from_up k v l = rw (ne_eqb v (m - 1) (omega arith), mass_from)

  -- where k steps are enough, one step more changes nothing
  from_more : (k v : ℕ) → m ≤ k + v → v < m → mass_from up m share M (suc k) v ≡ mass_from up m share M k v
  from_more zero v h l = absurd (omega arith)
  from_more (suc k) v h l = go (ℕ_discrete v (m - 1)) (λ v' h' l'. from_more k v' h' l')
    where
      go :
          Dec (v ≡ m - 1) → ((v' : ℕ) → m ≤ k + v' → v' < m → mass_from up m share M (suc k) v' ≡ mass_from up m share M k v')
          → mass_from up m share M (suc (suc k)) v ≡ mass_from up m share M (suc k) v
      go (yes e) r = rw e (from-root (suc (suc k)) ∙ sym (from-root (suc k)))
      go (no e) r =
          let i : v < m - 1 = omega arith in
          from_up (suc k) v i
          ∙ ap (λ x. share (up v) x v) (r (up v) (omega (arith, ok.rises v i)) (ok.inside v i))
          ∙ sym (from_up k v i)

  -- the root has M
  pub mass-root : mass (m - 1) ≡ M
  unfolding mass_at
  mass-root = from-root m

  -- any other node has what its parent's mass gives it
  pub mass-up : (v : ℕ) → v < m - 1 → mass v ≡ share (up v) (mass (up v)) v
  unfolding mass_at
  mass-up v l = sym (from_more m v (omega arith) (omega arith)) ∙ from_up m v l

  -- the same, said of a child
  pub mass-child : (v u : ℕ) → u < m → child_of up u v ≡ true → mass u ≡ share v (mass v) u
  mass-child v u l e = mass-up u (child-low ok u v l e) ∙ rw (child-up up u v e)

  module _ {low high : ℕ → ℕ} (s : Apportions up n m low high share) (least : sum_to ℕ_adds n low ≤ M) (most : M ≤ sum_to ℕ_adds n high) where
    -- each node's mass lies within its bounds
    pub mass-within : (v : ℕ) → v < m → InBounds up n m low high v (mass v)
    mass-within =
        up-ind ok (λ v. InBounds up n m low high v (mass v))
        (rw (mass-root, node_sum-root ok ℕ_adds low, node_sum-root ok ℕ_adds high) (least, most))
        (λ v l r. rw (mass-up v l) (s.within (up v) (mass (up v)) (ok.inner v l) (ok.inside v l) r v (omega arith) (child-parent ok v l)))

    -- the children's masses add up to the node's
    pub mass-children : (v : ℕ) → n ≤ v → v < m → sum_children up m v mass ≡ mass v
    mass-children v h l =
        sum_to-ext ℕ_adds m _ _ (λ u k. pick-ext ℕ_adds (child_of up u v) _ _ (mass-child v u k))
        ∙ s.adds v (mass v) h l (mass-within v l)

    -- by induction on the node's number
    sums-below : (k v : ℕ) → v < k → v < m → node up n m mass v ≡ mass v
    sums-below zero v h l = absurd (omega arith)
    sums-below (suc k) v h l = go (dec_lt v n) (λ u h' l'. sums-below k u h' l')
      where
        go : Dec (v < n) → ((u : ℕ) → u < k → u < m → node up n m mass u ≡ mass u) → node up n m mass v ≡ mass v
        go (yes c) r = node_sum-cell ok ℕ_adds mass v c
        go (no c) r =
            node_sum-inner ok ℕ_adds mass v (omega arith) l
            ∙ sum_to-ext ℕ_adds m _ _ (λ u j. pick-ext ℕ_adds (child_of up u v) _ _ (λ e. r u (omega (arith, child-less ok u v j e)) j))
            ∙ mass-children v (omega arith) l

    -- the masses of a node's cells add up to the node's mass
    pub mass-sums : (v : ℕ) → v < m → node up n m mass v ≡ mass v
    mass-sums v l = sums-below (suc v) v (omega arith) l

    -- so the masses of all cells add up to M
    pub cells-sum : sum_to ℕ_adds n mass ≡ M
    cells-sum = sym (node_sum-root ok ℕ_adds mass) ∙ mass-sums (m - 1) (omega (arith, ok.some, ok.room)) ∙ mass-root
