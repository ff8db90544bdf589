-- Laws of sums, for every kind of number at once; then those of order, in ℕ. Assumes nothing.
use mathlib.Core.Path.{◌≡◌, refl, sym, ◌∙◌, ap, ap₂}
use mathlib.Core.Logic.{◌≢◌}
use mathlib.Core.Bool.{Bool, true, false}
use Prim.Native.Nat.{ℕ, zero, suc, ◌+◌, ◌-◌, ◌*◌, ◌≤◌, ◌<◌}
use native.Mathlib.Nat.{suc-mul}
use native.Mathlib.Omega.{arith}
use native.Mathlib.Decide.{ℕ_discrete}
use lib.IntN.{ℤ, pos, ◌+ℤ◌}
use Rattle.numbers.specs.Sums.{Adds, ℕ_adds, ℤ_adds, sum_to, sum_from, pick}
use Rattle.numbers.specs.Signed.{over, under, gap}
use Rattle.numbers.proofs.SignedLaws.{add_parts, over-whole}

module _ (A : Adds) where
  open A use {plus, none, assoc, comm, idl}

  pub idr : (a : A.Num) → plus a none ≡ a
  idr a = comm a none ∙ idl a

  swap4 : (a b c d : A.Num) → plus (plus a b) (plus c d) ≡ plus (plus a c) (plus b d)
  swap4 a b c d =
      assoc a b (plus c d)
      ∙ ap (plus a) (sym (assoc b c d) ∙ ap (λ x. plus x d) (comm b c) ∙ assoc c b d)
      ∙ sym (assoc a c (plus b d))

  -- one summand more
  pub sum_to-next : (k : ℕ) (f : ℕ → A.Num) → sum_to A (suc k) f ≡ plus (sum_to A k f) (f k)
  unfolding sum_to
  sum_to-next k f = refl

  -- or one before all others
  pub sum_to-first : (k : ℕ) (f : ℕ → A.Num) → sum_to A (suc k) f ≡ plus (f 0) (sum_to A k (λ i. f (suc i)))
  unfolding sum_to
  sum_to-first zero f = comm none (f 0)
  sum_to-first (suc k) f = ap (λ x. plus x (f (suc k))) (sum_to-first k f) ∙ assoc (f 0) (sum_to A k (λ i. f (suc i))) (f (suc k))

  pub sum_to-ext : (k : ℕ) (f g : ℕ → A.Num) → ((i : ℕ) → i < k → f i ≡ g i) → sum_to A k f ≡ sum_to A k g
  unfolding sum_to
  sum_to-ext zero f g h = refl
  sum_to-ext (suc k) f g h = ap₂ plus (sum_to-ext k f g (λ i l. h i (omega arith))) (h k (omega arith))

  -- a sum may stop where nothing follows
  stop : (f : ℕ → A.Num) (k d : ℕ) → ((i : ℕ) → k ≤ i → i < k + d → f i ≡ none) → sum_to A (k + d) f ≡ sum_to A k f
  stop f k zero h = let e : k + 0 ≡ k = omega arith in rw e
  stop f k (suc d) h =
      let e : k + suc d ≡ suc (k + d) = omega arith in
      ap (λ i. sum_to A i f) e
      ∙ sum_to-next (k + d) f
      ∙ ap₂ plus (stop f k d (λ i a b. h i a (omega arith))) (h (k + d) (omega arith) (omega arith))
      ∙ idr (sum_to A k f)

  pub sum_to-stop : (f : ℕ → A.Num) (k m : ℕ) → k ≤ m → ((i : ℕ) → k ≤ i → i < m → f i ≡ none) → sum_to A m f ≡ sum_to A k f
  sum_to-stop f k m l h = let e : m ≡ k + (m - k) = omega arith in ap (λ i. sum_to A i f) e ∙ stop f k (m - k) (λ i a b. h i a (omega arith))

  pub sum_to-none : (k : ℕ) (f : ℕ → A.Num) → ((i : ℕ) → i < k → f i ≡ none) → sum_to A k f ≡ none
  unfolding sum_to
  sum_to-none k f h = sum_to-stop f 0 k (omega arith) (λ i a b. h i b)

  pub sum_to-plus : (k : ℕ) (f g : ℕ → A.Num) → sum_to A k (λ i. plus (f i) (g i)) ≡ plus (sum_to A k f) (sum_to A k g)
  unfolding sum_to
  sum_to-plus zero f g = sym (idl none)
  sum_to-plus (suc k) f g = ap (λ x. plus x (plus (f k) (g k))) (sum_to-plus k f g) ∙ swap4 (sum_to A k f) (sum_to A k g) (f k) (g k)

  -- what is picked counts only if the test holds
  pub pick-ext : (b : Bool) (x y : A.Num) → (b ≡ true → x ≡ y) → pick A b x ≡ pick A b y
  pick-ext true x y h = h refl
  pick-ext false x y h = refl

  pub pick-plus : (b : Bool) (x y : A.Num) → pick A b (plus x y) ≡ plus (pick A b x) (pick A b y)
  pick-plus true x y = refl
  pick-plus false x y = sym (idl none)

  pub pick-none : (b : Bool) → pick A b none ≡ none
  pick-none true = refl
  pick-none false = refl

  pub pick-skip : (b : Bool) (x : A.Num) → (b ≡ true → x ≡ none) → pick A b x ≡ none
  pick-skip b x h = pick-ext b x none h ∙ pick-none b

  pub pick-sum : (b : Bool) (k : ℕ) (f : ℕ → A.Num) → pick A b (sum_to A k f) ≡ sum_to A k (λ i. pick A b (f i))
  pick-sum true k f = refl
  pick-sum false k f = sym (sum_to-none k (λ i. none) (λ i l. refl))

  -- a sum of sums, in either order
  pub sum_to-swap : (k l : ℕ) (f : ℕ → ℕ → A.Num) → sum_to A k (λ i. sum_to A l (λ j. f i j)) ≡ sum_to A l (λ j. sum_to A k (λ i. f i j))
  unfolding sum_to
  sum_to-swap zero l f = sym (sum_to-none l (λ j. none) (λ j h. refl))
  sum_to-swap (suc k) l f = ap (λ x. plus x (sum_to A l (f k))) (sum_to-swap k l f) ∙ sym (sum_to-plus l (λ j. sum_to A k (λ i. f i j)) (f k))

  -- a sum from a on, with one summand more before the others; one without summands
  pub sum_from-first : (a k : ℕ) (f : ℕ → A.Num) → a < k → sum_from A a k f ≡ plus (f a) (sum_from A (suc a) k f)
  sum_from-first a k f l =
      let e : k - a ≡ suc (k - suc a) = omega arith in
      let z : a + 0 ≡ a = omega arith in
      ap (λ j. sum_to A j (λ i. f (a + i))) e
      ∙ sum_to-first (k - suc a) (λ i. f (a + i))
      ∙ ap₂ plus (ap f z) (sum_to-ext (k - suc a) _ _ (λ i h. let s : a + suc i ≡ suc a + i = omega arith in ap f s))

  pub sum_from-none : (a k : ℕ) (f : ℕ → A.Num) → k ≤ a → sum_from A a k f ≡ none
  sum_from-none a k f l = let e : k - a ≡ 0 = omega arith in ap (λ j. sum_to A j (λ i. f (a + i))) e ∙ sum_to-none 0 (λ i. f (a + i)) (λ i h. absurd (omega arith))

  pub sum_from-ext : (a k : ℕ) (f g : ℕ → A.Num) → ((i : ℕ) → a ≤ i → i < k → f i ≡ g i) → sum_from A a k f ≡ sum_from A a k g
  sum_from-ext a k f g h = sum_to-ext (k - a) _ _ (λ i l. h (a + i) (omega arith) (omega arith))

  -- a sum of which one summand alone counts
  pub sum_to-one : (k : ℕ) (f : ℕ → A.Num) (w : ℕ) → w < k → ((i : ℕ) → i < k → i ≢ w → f i ≡ none) → sum_to A k f ≡ f w
  unfolding sum_to
  sum_to-one zero f w l h = absurd (omega arith)
  sum_to-one (suc k) f w l h = go (ℕ_discrete k w) (λ l'. sum_to-one k f w l' (λ i j. h i (omega arith)))
    where
      go : Dec (k ≡ w) → (w < k → sum_to A k f ≡ f w) → plus (sum_to A k f) (f k) ≡ f w
      go (yes e) r = ap₂ plus (sum_to-none k f (λ i j. h i (omega arith) (omega arith))) (ap f e) ∙ idl (f w)
      go (no e) r = ap₂ plus (r (omega arith)) (h k (omega arith) e) ∙ idr (f w)

-- ---- order, in ℕ

pub sum_to-le : (k : ℕ) (f g : ℕ → ℕ) → ((i : ℕ) → i < k → f i ≤ g i) → sum_to ℕ_adds k f ≤ sum_to ℕ_adds k g
unfolding sum_to
sum_to-le zero f g h = omega arith
sum_to-le (suc k) f g h = omega (arith, sum_to-le k f g (λ i l. h i (omega arith)), h k (omega arith))

pub pick-le : (b : Bool) (x y : ℕ) → (b ≡ true → x ≤ y) → pick ℕ_adds b x ≤ pick ℕ_adds b y
pick-le true x y h = h refl
pick-le false x y h = omega arith

-- more summands make no less
grows : (f : ℕ → ℕ) (k d : ℕ) → sum_to ℕ_adds k f ≤ sum_to ℕ_adds (d + k) f
grows f k zero = let e : 0 + k ≡ k = omega arith in rw e (omega arith)
grows f k (suc d) = let e : suc d + k ≡ suc (d + k) = omega arith in rw (e, sum_to-next ℕ_adds (d + k) f) (omega (arith, grows f k d))

pub sum_to-grows : (f : ℕ → ℕ) (k m : ℕ) → k ≤ m → sum_to ℕ_adds k f ≤ sum_to ℕ_adds m f
sum_to-grows f k m l = let e : m ≡ (m - k) + k = omega arith in rw e (grows f k (m - k))

-- a summand is at most the sum
pub sum_to-summand : (k : ℕ) (f : ℕ → ℕ) (u : ℕ) → u < k → f u ≤ sum_to ℕ_adds k f
sum_to-summand k f u l = omega (arith, sum_to-next ℕ_adds u f, sum_to-grows f (suc u) k l)

-- at most as many times the largest summand as there are summands
sum_to-most : (k b : ℕ) (f : ℕ → ℕ) → ((i : ℕ) → i < k → f i ≤ b) → sum_to ℕ_adds k f ≤ k * b
unfolding sum_to
sum_to-most zero b f h = omega arith
sum_to-most (suc k) b f h = omega (arith, suc-mul k b, sum_to-most k b f (λ i l. h i (omega arith)), h k (omega arith))

pub sum_from-most : (a k b : ℕ) (f : ℕ → ℕ) → ((i : ℕ) → a ≤ i → i < k → f i ≤ b) → sum_from ℕ_adds a k f ≤ (k - a) * b
sum_from-most a k b f h = sum_to-most (k - a) b (λ i. f (a + i)) (λ i l. h (a + i) (omega arith) (omega arith))

-- sums are no further apart than their summands together
pub gap-sum : (k : ℕ) (f g : ℕ → ℕ) → gap (sum_to ℕ_adds k f) (sum_to ℕ_adds k g) ≤ sum_to ℕ_adds k (λ i. gap (f i) (g i))
unfolding sum_to
gap-sum zero f g = omega arith
gap-sum (suc k) f g = joined (sum_to ℕ_adds k f) (sum_to ℕ_adds k g) (f k) (g k) _ (gap-sum k f g)
  where
    joined : (a b x y s : ℕ) → gap a b ≤ s → gap (a + x) (b + y) ≤ s + gap x y
    joined a b x y s h = omega arith

-- ---- from ℕ to ℤ

pub pick_pos : (b : Bool) (x : ℕ) → pick ℤ_adds b (pos x) ≡ pos (pick ℕ_adds b x)
pick_pos true x = refl
pick_pos false x = refl

pub sum_to-pos : (k : ℕ) (f : ℕ → ℕ) → sum_to ℤ_adds k (λ i. pos (f i)) ≡ pos (sum_to ℕ_adds k f)
unfolding sum_to
sum_to-pos zero f = refl
sum_to-pos (suc k) f = ap (λ z. z +ℤ pos (f k)) (sum_to-pos k f)

-- the parts of a sum, and the sums of the parts
pub sum_to-parts : (k : ℕ) (y : ℕ → ℤ) → over (sum_to ℤ_adds k y) + sum_to ℕ_adds k (λ i. under (y i)) ≡ under (sum_to ℤ_adds k y) + sum_to ℕ_adds k (λ i. over (y i))
unfolding sum_to
sum_to-parts zero y = refl
sum_to-parts (suc k) y = omega (arith, sum_to-parts k y, add_parts (sum_to ℤ_adds k y) (y k))

-- numbers of which none is below 0 add up to the sum of their parts above it
pub sum_to-over : (k : ℕ) (y : ℕ → ℤ) → ((i : ℕ) → i < k → under (y i) ≡ 0) → sum_to ℤ_adds k y ≡ pos (sum_to ℕ_adds k (λ i. over (y i)))
sum_to-over k y h = sum_to-ext ℤ_adds k y (λ i. pos (over (y i))) (λ i l. over-whole (y i) (h i l)) ∙ sum_to-pos k (λ i. over (y i))
