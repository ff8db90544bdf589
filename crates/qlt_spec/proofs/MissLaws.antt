-- Whole numbers and bounds: how far numbers with a given sum miss their bounds at least, and which sums numbers within bounds have.
-- Masses within the bounds in force miss their bounds by no more than any whole numbers with the same sum. Assumes nothing.
use mathlib.Core.Path.{◌≡◌, refl, ap}
use Prim.Native.Nat.{ℕ, zero, suc, ◌+◌, ◌≤◌, ◌<◌}
use native.Mathlib.Omega.{arith}
use lib.IntN.{ℤ, pos, negsuc}
use Rattle.numbers.specs.Sums.{ℕ_adds, ℤ_adds, sum_to}
use Rattle.numbers.specs.Signed.{over, under}
use Rattle.numbers.proofs.SumLaws.{sum_to-parts}
use Rattle.caas_spec.specs.Group.{Within}
use Rattle.caas_spec.proofs.SplitLaws.{within-nat}
use Rattle.qlt_spec.specs.Field.{Field, Ordered, outcome, low_in, high_in, Meets, miss, miss_of, sum_cells}
use Rattle.qlt_spec.proofs.FieldLaws.{Case, is-attainable, is_below, is-above, case}

-- the sum of the parts above 0 of the first k whole numbers
abbrev overs : ℕ → (ℕ → ℤ) → ℕ
overs k y = sum_to ℕ_adds k (λ c. over (y c))

-- and that of the parts below 0
abbrev unders : ℕ → (ℕ → ℤ) → ℕ
unders k y = sum_to ℕ_adds k (λ c. under (y c))

-- of whole numbers that add up to M, the parts below 0 and M add up to the parts above 0
parts-total : (k M : ℕ) (y : ℕ → ℤ) → sum_to ℤ_adds k y ≡ pos M → M + unders k y ≡ overs k y
parts-total k M y e = omega (arith, rw e at (sum_to-parts k y))

-- ---- one number

-- it misses by at least what it is below its low
miss-low : (low high : ℕ) (z : ℤ) → low + under z ≤ over z + miss low high z
unfolding miss
miss-low low high (pos a) = omega arith
miss-low low high (negsuc a) = omega arith

-- and by at least what it is above its high
miss-high : (low high : ℕ) (z : ℤ) → over z ≤ high + under z + miss low high z
unfolding miss
miss-high low high (pos a) = omega arith
miss-high low high (negsuc a) = omega arith

module _ (low high : ℕ → ℕ) where
  -- what the first k numbers miss by, summed
  abbrev misses : ℕ → (ℕ → ℤ) → ℕ
  misses k y = sum_to ℕ_adds k (λ c. miss (low c) (high c) (y c))

  -- ---- any whole numbers

  -- they miss by at least what their sum is below that of the lows
  least-low : (k : ℕ) (y : ℕ → ℤ) → sum_to ℕ_adds k low + unders k y ≤ overs k y + misses k y
  unfolding sum_to
  least-low zero y = omega arith
  least-low (suc k) y = omega (arith, least-low k y, miss-low (low k) (high k) (y k))

  -- and by at least what it is above that of the highs
  least-high : (k : ℕ) (y : ℕ → ℤ) → overs k y ≤ sum_to ℕ_adds k high + unders k y + misses k y
  unfolding sum_to
  least-high zero y = omega arith
  least-high (suc k) y = omega (arith, least-high k y, miss-high (low k) (high k) (y k))

  -- ---- masses

  -- masses at or below their lows miss by exactly that
  miss-under : (k : ℕ) (x : ℕ → ℕ) → ((c : ℕ) → c < k → (x c ≤ low c) × (low c ≤ high c)) → misses k (λ c. pos (x c)) + sum_to ℕ_adds k x ≡ sum_to ℕ_adds k low
  unfolding sum_to miss
  miss-under zero x h = refl
  miss-under (suc k) x h = omega (arith, miss-under k x (λ c l. h c (omega arith)), h k (omega arith))

  -- masses at or above their highs as well
  miss-over : (k : ℕ) (x : ℕ → ℕ) → ((c : ℕ) → c < k → (high c ≤ x c) × (low c ≤ high c)) → misses k (λ c. pos (x c)) + sum_to ℕ_adds k high ≡ sum_to ℕ_adds k x
  unfolding sum_to miss
  miss-over zero x h = refl
  miss-over (suc k) x h = omega (arith, miss-over k x (λ c l. h c (omega arith)), h k (omega arith))

  -- masses within their bounds miss by 0
  miss-none : (k : ℕ) (x : ℕ → ℕ) → ((c : ℕ) → c < k → (low c ≤ x c) × (x c ≤ high c)) → misses k (λ c. pos (x c)) ≡ 0
  unfolding sum_to miss
  miss-none zero x h = refl
  miss-none (suc k) x h = omega (arith, miss-none k x (λ c l. h c (omega arith)), h k (omega arith))

  -- ---- whole numbers within bounds

  -- none is below 0, and their sum lies between the sums of the bounds
  meets-parts :
      (k : ℕ) (y : ℕ → ℤ) → ((c : ℕ) → c < k → Within (low c) (high c) (y c))
      → (unders k y ≡ 0) × ((sum_to ℕ_adds k low ≤ overs k y) × (overs k y ≤ sum_to ℕ_adds k high))
  unfolding sum_to
  meets-parts zero y h = (refl, (omega arith, omega arith))
  meets-parts (suc k) y h = omega (arith, meets-parts k y (λ c l. h c (omega arith)), one.1, ap under one.0)
    where
      one : (y k ≡ pos (over (y k))) × ((low k ≤ over (y k)) × (over (y k) ≤ high k))
      one = within-nat (low k) (high k) (y k) (h k (omega arith))

  -- if some add up to M, then M lies between the sums of the bounds
  pub meets-room : (k M : ℕ) (y : ℕ → ℤ) → Meets k low high (pos M) y → (sum_to ℕ_adds k low ≤ M) × (M ≤ sum_to ℕ_adds k high)
  meets-room k M y h = omega (arith, meets-parts k y h.within, parts-total k M y h.sum)

  -- none add up to less than 0
  pub meets-neg : (k a : ℕ) (y : ℕ → ℤ) → Meets k low high (negsuc a) y → ⊥
  meets-neg k a y h = omega (arith, meets-parts k y h.within, rw h.sum at (sum_to-parts k y))

-- masses within the bounds in force that add up to M miss their bounds by no more than any whole numbers that add up to M
pub least-of :
    (F : Field) → ((c : ℕ) → c < F.n → Ordered F c) → (M : ℕ) (x : ℕ → ℕ)
    → ((c : ℕ) → c < F.n → (low_in (outcome F M) F c ≤ x c) × (x c ≤ high_in (outcome F M) F c)) → sum_cells F x ≡ M
    → (y : ℕ → ℤ) → sum_to ℤ_adds F.n y ≡ pos M → miss_of F (λ c. pos (x c)) ≤ miss_of F y
unfolding miss_of low_in high_in
least-of F ordered M x h t y s = go (case F M)
  where
    go : Case F M → misses F.low F.high F.n (λ c. pos (x c)) ≤ misses F.low F.high F.n y
    go (is-attainable p q e) = omega (arith, miss-none F.low F.high F.n x (λ c l. rw e at (h c l)))
    go (is_below p e) =
        omega (arith, miss-under F.low F.high F.n x (λ c l. ((rw e at (h c l)).1, (ordered c l).high)), t, parts-total F.n M y s, least-low F.low F.high F.n y)
    go (is-above p q e) =
        omega (arith, miss-over F.low F.high F.n x (λ c l. ((rw e at (h c l)).0, (ordered c l).high)), t, parts-total F.n M y s, least-high F.low F.high F.n y)
