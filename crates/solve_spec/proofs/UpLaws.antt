-- Sums from the leaves to the root: each node's sum is added to its parent's place, in rising number. What a place holds after k turns,
-- that it is complete when its own turn comes, and that it never is larger than the sum of all sizes. Assumes nothing.
use mathlib.Core.Path.{◌≡◌, refl, sym, ◌∙◌, ap, ap₂}
use mathlib.Core.Logic.{◌≢◌}
use mathlib.Core.Bool.{Bool, true, false}
use Prim.Native.Nat.{ℕ, zero, suc, ◌+◌, ◌-◌, ◌≤◌, ◌<◌}
use native.Mathlib.Nat.{le_of_eq, le_trans}
use native.Mathlib.Omega.{arith}
use native.Mathlib.Decide.{dec_lt}
use lib.Dec.{ltb}
use lib.IntN.{ℤ, pos, nat_abs, ◌+ℤ◌}
use borrow.Author.Tests.{lt-ltb, le-ltb}
use Rattle.numbers.specs.Sums.{Adds, ℕ_adds, ℤ_adds, sum_to, pick}
use Rattle.numbers.proofs.SignedLaws.{add_parts, about}
use Rattle.numbers.proofs.SumLaws.{idr, sum_to-next, sum_to-ext, sum_to-stop, sum_to-none, sum_to-le, sum_to-grows, sum_to-pos, pick-skip, pick-le, pick_pos}
use Rattle.qlt_spec.specs.Tree.{leads, child_of, node_sum, Valid}
use Rattle.qlt_spec.proofs.TreeLaws.{child-other, child-up, child-low, child-less, child-parent, node_sum-inner, node_sum-cell}

-- ---- the place of a node after k turns: its own value if it is a cell, and the sums of those of its children that are below k

unfoldable pub up_to : (A : Adds) (up : ℕ → ℕ) (n m : ℕ) → (ℕ → A.Num) → ℕ → ℕ → A.Num
up_to A up n m f k v = A.plus (pick A (ltb v n) (f v)) (sum_to A k (λ u. pick A (child_of up u v) (node_sum A up n m f u)))

module _ {up : ℕ → ℕ} {n m : ℕ} (ok : Valid up n m) (A : Adds) (f : ℕ → A.Num) where
  -- what v gets of the child u, and what it has of its own
  part : ℕ → ℕ → A.Num
  part v u = pick A (child_of up u v) (node_sum A up n m f u)

  own : ℕ → A.Num
  own v = pick A (ltb v n) (f v)

  -- at the start a cell has its value
  pub up_to-cell : (v : ℕ) → v < n → up_to A up n m f 0 v ≡ f v
  unfolding up_to sum_to
  up_to-cell v l = ap (λ b. A.plus (pick A b (f v)) A.none) (lt-ltb v n l) ∙ idr A (f v)

  -- and an inner node nothing
  pub up_to-inner : (v : ℕ) → n ≤ v → up_to A up n m f 0 v ≡ A.none
  unfolding up_to sum_to
  up_to-inner v l = ap (λ b. A.plus (pick A b (f v)) A.none) (le-ltb v n l) ∙ idr A A.none

  -- the turn at k adds k's sum to its parent's place
  pub up_to-parent : (k : ℕ) → k < m - 1 → up_to A up n m f (suc k) (up k) ≡ A.plus (up_to A up n m f k (up k)) (node_sum A up n m f k)
  unfolding up_to own part
  up_to-parent k l =
      ap (A.plus (own (up k)))
      (sum_to-next A k (part (up k)) ∙ ap (λ b. A.plus (sum_to A k (part (up k))) (pick A b (node_sum A up n m f k))) (child-parent ok k l))
      ∙ sym (A.assoc (own (up k)) (sum_to A k (part (up k))) (node_sum A up n m f k))

  -- and leaves the other places
  pub up_to-other : (k v : ℕ) → up k ≢ v → up_to A up n m f (suc k) v ≡ up_to A up n m f k v
  unfolding up_to own part
  up_to-other k v h =
      ap (A.plus (own v))
      (sum_to-next A k (part v)
      ∙ ap (λ b. A.plus (sum_to A k (part v)) (pick A b (node_sum A up n m f k))) (child-other up k v h)
      ∙ idr A (sum_to A k (part v)))

  -- no child of a cell, and none of v from v on
  cell-none : (v : ℕ) → v < n → (u : ℕ) → u < m → part v u ≡ A.none
  unfolding part
  cell-none v c u l =
      pick-skip A (child_of up u v) _ (λ e. absurd (omega (arith, child-up up u v e, ok.inner u (child-low ok u v l e))))

  rest-none : (v u : ℕ) → v ≤ u → u < m → part v u ≡ A.none
  unfolding part
  rest-none v u i l = pick-skip A (child_of up u v) _ (λ e. absurd (omega (arith, child-less ok u v l e)))

  -- a place is complete once the turns have come to it
  pub up_to-done : (k v : ℕ) → v ≤ k → k ≤ m → v < m → up_to A up n m f k v ≡ node_sum A up n m f v
  unfolding up_to own part
  up_to-done k v a b l = go (dec_lt v n)
    where
      go : Dec (v < n) → A.plus (own v) (sum_to A k (part v)) ≡ node_sum A up n m f v
      go (yes c) =
          ap₂ A.plus
          (ap (λ t. pick A t (f v)) (lt-ltb v n c))
          (sum_to-none A k (part v) (λ u i. cell-none v c u (omega arith)))
          ∙ idr A (f v)
          ∙ sym (node_sum-cell ok A f v c)
      go (no c) =
          ap₂ A.plus
          (ap (λ t. pick A t (f v)) (le-ltb v n (omega arith)))
          (sym (sum_to-stop A (part v) k m b (λ u i j. rest-none v u (omega arith) j)))
          ∙ A.idl (sum_to A m (part v))
          ∙ sym (node_sum-inner ok A f v (omega arith) l)

-- ---- sizes

-- a sum is at most as large as its summands together
abs-add : (a b : ℤ) → nat_abs (a +ℤ b) ≤ nat_abs a + nat_abs b
abs-add a b = omega (arith, add_parts a b, about a, about b, about (a +ℤ b))

abs-pick : (b : Bool) (z : ℤ) → nat_abs (pick ℤ_adds b z) ≡ pick ℕ_adds b (nat_abs z)
abs-pick true z = refl
abs-pick false z = refl

abs-sum : (k : ℕ) (f : ℕ → ℤ) (g : ℕ → ℕ) → ((i : ℕ) → i < k → nat_abs (f i) ≤ g i) → nat_abs (sum_to ℤ_adds k f) ≤ sum_to ℕ_adds k g
unfolding sum_to
abs-sum zero f g h = omega arith
abs-sum (suc k) f g h = omega (arith, abs-add (sum_to ℤ_adds k f) (f k), abs-sum k f g (λ i l. h i (omega arith)), h k (omega arith))

pick-most : (b : Bool) (x : ℕ) → pick ℕ_adds b x ≤ x
pick-most true x = omega arith
pick-most false x = omega arith

module _ (up : ℕ → ℕ) (n m : ℕ) where
  -- a node's sum is at most that of all cells
  pub node-most : (f : ℕ → ℕ) (v : ℕ) → node_sum ℕ_adds up n m f v ≤ sum_to ℕ_adds n f
  unfolding node_sum
  node-most f v = sum_to-le n _ f (λ c l. pick-most (leads up m c v) (f c))

  -- in size too
  node-abs : (f : ℕ → ℤ) (v : ℕ) → nat_abs (node_sum ℤ_adds up n m f v) ≤ node_sum ℕ_adds up n m (λ c. nat_abs (f c)) v
  unfolding node_sum
  node-abs f v = abs-sum n _ _ (λ c l. le_of_eq (abs-pick (leads up m c v) (f c)))

  -- naturals add up as they do among whole numbers
  pub node-pos : (f : ℕ → ℕ) (v : ℕ) → node_sum ℤ_adds up n m (λ c. pos (f c)) v ≡ pos (node_sum ℕ_adds up n m f v)
  unfolding node_sum
  node-pos f v = sum_to-ext ℤ_adds n _ _ (λ c l. pick_pos (leads up m c v) (f c)) ∙ sum_to-pos n (λ c. pick ℕ_adds (leads up m c v) (f c))

-- a place has at no time more than the sum of all sizes
pub up_to-size :
    {up : ℕ → ℕ} {n m : ℕ} → Valid up n m → (f : ℕ → ℤ) (k v : ℕ)
    → k ≤ m → v < m → nat_abs (up_to ℤ_adds up n m f k v) ≤ sum_to ℕ_adds n (λ c. nat_abs (f c))
unfolding up_to
up_to-size {up} {n} {m} ok f k v l j =
    let size : ℕ → ℕ = λ c. nat_abs (f c) in
    let parts : ℕ → ℤ = λ u. pick ℤ_adds (child_of up u v) (node_sum ℤ_adds up n m f u) in
    let sizes : ℕ → ℕ = λ u. pick ℕ_adds (child_of up u v) (node_sum ℕ_adds up n m size u) in
    omega (
      arith,
      abs-add (pick ℤ_adds (ltb v n) (f v)) (sum_to ℤ_adds k parts),
      abs-pick (ltb v n) (f v),
      abs-sum k parts sizes (λ u i. le_trans (le_of_eq (abs-pick (child_of up u v) _)) (pick-le (child_of up u v) _ _ (λ e. node-abs up n m f u))),
      sum_to-grows sizes k m l,
      up_to-done ok ℕ_adds size m v (omega arith) (omega arith) j,
      node-most up n m size v,
    )
