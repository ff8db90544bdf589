-- A group of items in order: those numbers below a count that pass a test, with target, bounds and weight by number. Assumes nothing.
-- The items of the operation Split are a group (all numbers pass), and so are the children of a node.
use Rattle.std.specs.Prelude.{◌≡◌, Bool, true, ℕ, ◌≤◌, ◌<◌, ℤ, pos, nat_abs, ◌-ℤ◌, ◌≤ℤ◌}
use Rattle.numbers.specs.Sums.{Adds, ℕ_adds, ℤ_adds, sum_to, pick}

pub record Group : Type 0 where
  pub size : ℕ
  pub has : ℕ → Bool
  pub target : ℕ → ℤ
  pub low : ℕ → ℕ
  pub high : ℕ → ℕ
  pub weight : ℕ → ℕ

-- the sum over the items before number k, and over all items
abbrev pub sum_before : (A : Adds) → Group → ℕ → (ℕ → A.Num) → A.Num
sum_before A G k f = sum_to A k (λ u. pick A (G.has u) (f u))

abbrev pub sum_in : (A : Adds) → Group → (ℕ → A.Num) → A.Num
sum_in A G f = sum_before A G G.size f

-- a fact of each item
abbrev pub Each : Group → (ℕ → Type 0) → Type 0
Each G P = (u : ℕ) → u < G.size → G.has u ≡ true → P u

-- a mass M can be split: the bounds are in order, and M lies between their sums
pub record Splits (G : Group) (M : ℕ) : Type 0 where
  pub order : Each G (λ u. G.low u ≤ G.high u)
  pub least : sum_in ℕ_adds G G.low ≤ M
  pub most : M ≤ sum_in ℕ_adds G G.high

-- a whole number lies within bounds
abbrev pub Within : ℕ → ℕ → ℤ → Type 0
Within low high z = (pos low ≤ℤ z) × (z ≤ℤ pos high)

-- a division of M: whole numbers within the bounds that add up to M
pub record Divides (G : Group) (M : ℕ) (y : ℕ → ℤ) : Type 0 where
  pub within : Each G (λ u. Within (G.low u) (G.high u) (y u))
  pub sum : sum_in ℤ_adds G y ≡ pos M

-- how far whole numbers lie from the targets, in summed absolute difference
unfoldable pub distance : Group → (ℕ → ℤ) → ℕ
distance G y = sum_in ℕ_adds G (λ u. nat_abs (y u -ℤ G.target u))
