-- One split, step by step as 01 has it ('One split'). Assumes nothing.
use Rattle.std.specs.Prelude.{◌≡◌, Bool, true, false, cond, ℕ, suc, ◌+◌, ◌-◌, ◌*◌, ◌<◌, min, eqb, ℤ, pos, nat_abs, ◌-ℤ◌, ◌*ℤ◌}
use Rattle.std.specs.Int.Signed.{lt_z}
use Rattle.numbers.specs.Sums.{ℕ_adds}
use Rattle.numbers.specs.Signed.{over, min_ℤ, max_ℤ}
use Rattle.numbers.specs.Quota.{quota}
use Rattle.caas_spec.specs.Group.{Group, sum_before, sum_in}

-- 1. Clip each target into its low and high. (The bounds are natural numbers, and so is what lies between them.)
unfoldable pub clip : ℕ → ℕ → ℤ → ℕ
clip low high target = over (max_ℤ (pos low) (min_ℤ target (pos high)))

unfoldable pub clipped : Group → ℕ → ℕ
clipped G u = clip (G.low u) (G.high u) (G.target u)

-- 01's d: M minus the sum of the clipped values
unfoldable pub deficit : Group → ℕ → ℤ
deficit G M = pos M -ℤ pos (sum_in ℕ_adds G (clipped G))

-- d < 0
abbrev pub surplus : ℤ → Bool
surplus d = lt_z d (pos 0)

-- how far a value can still go within its bounds: down if d < 0, else up
abbrev pub room : (down : Bool) (low high x : ℕ) → ℕ
room true low high x = x - low
room false low high x = high - x

-- 2. If d > 0 an item's capacity is high minus clipped; if d < 0 it is clipped minus low. (If d = 0 nothing is shared out.)
unfoldable pub capacity : Group → ℤ → ℕ → ℕ
capacity G d u = room (surplus d) (G.low u) (G.high u) (clipped G u)

-- the part of D that falls to an item by sizes: D × sizes up to and including it ÷ all, minus D × sizes before it ÷ all, each quotient rounded
unfoldable pub portion : Group → (ℕ → ℕ) → ℕ → ℕ → ℕ
portion G size D u =
    quota (D * sum_before ℕ_adds G (suc u) size) (sum_in ℕ_adds G size)
    - quota (D * sum_before ℕ_adds G u size) (sum_in ℕ_adds G size)

module _ (G : Group) (cap : ℕ → ℕ) (D : ℕ) where
  -- 3. First pass, by weights, whose sum is W. If W = 0 every first share is 0, else the smaller of the capacity and the portion of D by weights.
  unfoldable pub first_share : ℕ → ℕ
  first_share u = cond (eqb (sum_in ℕ_adds G G.weight) 0) 0 (min (cap u) (portion G G.weight D u))

  -- 4. Second pass, by what is left. 01's E: D minus the first shares
  unfoldable pub remainder : ℕ
  remainder = D - sum_in ℕ_adds G first_share

  -- the capacity left; 01's C is the sum of these
  unfoldable pub left : ℕ → ℕ
  left u = cap u - first_share u

  -- if E = 0 the second shares are 0, else they are the portions of E by capacities left
  unfoldable pub second_share : ℕ → ℕ
  second_share u = cond (eqb remainder 0) 0 (portion G left remainder u)

-- 5. The result is the clipped value plus both shares, or minus them if d < 0.
abbrev pub moved : (down : Bool) (x share : ℕ) → ℕ
moved true x share = x - share
moved false x share = x + share

-- both shares of an item at the split of M
abbrev pub first_of : Group → ℕ → ℕ → ℕ
first_of G M u = first_share G (capacity G (deficit G M)) (nat_abs (deficit G M)) u

abbrev pub second_of : Group → ℕ → ℕ → ℕ
second_of G M u = second_share G (capacity G (deficit G M)) (nat_abs (deficit G M)) u

unfoldable pub shares : Group → ℕ → ℕ → ℕ
shares G M u = first_of G M u + second_of G M u

unfoldable pub result : Group → ℕ → ℕ → ℕ
result G M u = moved (surplus (deficit G M)) (clipped G u) (shares G M u)

-- what an item has after the first pass
unfoldable pub after_first : Group → ℕ → ℕ → ℕ
after_first G M u = moved (surplus (deficit G M)) (clipped G u) (first_of G M u)

-- the sum of the capacities: 01's C where all weights are 0
abbrev pub all_capacity : Group → ℕ → ℕ
all_capacity G M = sum_in ℕ_adds G (capacity G (deficit G M))

-- the published proportion: in a split by capacities alone an item's share is d × capacity ÷ C, with the sign of d. The share of a value y is
-- y minus the clipped value, and it is less than one unit from that: times C, it is less than C from d × capacity. If C = 0, y is the clipped
-- value
pub record Proportional (G : Group) (M : ℕ) (y : ℤ) (u : ℕ) : Type 0 where
  pub near :
      0 < all_capacity G M
      → nat_abs ((y -ℤ pos (clipped G u)) *ℤ pos (all_capacity G M) -ℤ deficit G M *ℤ pos (capacity G (deficit G M) u)) < all_capacity G M
  pub none : all_capacity G M ≡ 0 → y ≡ pos (clipped G u)
