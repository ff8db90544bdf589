-- The walks along a chain that split one group: what each needs, and the column that it leaves. Assumes nothing.
use Rattle.std.specs.Prelude.{◌≡◌, Bool, true, false, List, ℕ, ◌+◌, ◌-◌, ◌*◌, ◌^◌, ◌≤◌, ◌<◌, min, ℤ, pos, length}
use Rattle.numbers.specs.Sums.{ℕ_adds}
use Rattle.numbers.specs.Quota.{quota}
use Rattle.caas_spec.specs.Group.{Group, Splits, sum_before, sum_in}
use Rattle.caas_spec.specs.Split.{clipped, room, moved, portion, result, after_first}
use Rattle.scratch_spec.specs.Chain.{cursor, on_chain}
use Rattle.scratch_spec.specs.Columns.{width, MASS, LOW, HIGH, WEIGHT, FIRST, NEXT, col, num, Laid}

-- u is on the chain of v, which starts at v's FIRST and goes on by NEXT
abbrev pub on_chain_of : ℕ → List ℤ → ℕ → Bool
on_chain_of v s = on_chain (num NEXT s) (num FIRST s v)

-- the group of the nodes below m on v's chain
abbrev pub group_in : (m v : ℕ) → List ℤ → Group
group_in m v s =
    record { size = m; has = on_chain_of v s; target = col MASS s; low = num LOW s; high = num HIGH s; weight = num WEIGHT s }

-- v's chain rises, and ends at m
pub record Rising (m v : ℕ) (s : List ℤ) : Type 0 where
  pub size : width * m ≤ length s
  pub node : width * v + width ≤ length s
  pub head : num FIRST s v ≤ m
  pub rise : (u : ℕ) → u < m → on_chain_of v s u ≡ true → u < num NEXT s u
  pub most : (u : ℕ) → u < m → on_chain_of v s u ≡ true → num NEXT s u ≤ m

-- ---- the walk that clips: the clipped values take the targets' place

pub record Clipping (m v : ℕ) (s : List ℤ) : Type 0 where
  pub rising : Rising m v s
  pub small : sum_in ℕ_adds (group_in m v s) (clipped (group_in m v s)) < 2 ^ 31
  pub light : sum_in ℕ_adds (group_in m v s) (num WEIGHT s) < 2 ^ 31

pub record Clipped (m v : ℕ) (s new : List ℤ) (sum all : ℕ) : Type 0 where
  pub laid : Laid MASS m (on_chain_of v s) (λ u. pos (clipped (group_in m v s) u)) m s new
  pub sums : sum ≡ sum_in ℕ_adds (group_in m v s) (clipped (group_in m v s))
  pub weighs : all ≡ sum_in ℕ_adds (group_in m v s) (num WEIGHT s)

-- before the turn at u
pub record ClipState (m v : ℕ) (s : List ℤ) (u : ℕ) (new : List ℤ) (sum all : ℕ) : Type 0 where
  pub within : u ≤ m
  pub here : cursor (num NEXT s) (num FIRST s v) u ≡ u
  pub laid : Laid MASS m (on_chain_of v s) (λ w. pos (clipped (group_in m v s) w)) u s new
  pub sums : sum ≡ sum_before ℕ_adds (group_in m v s) u (clipped (group_in m v s))
  pub weighs : all ≡ sum_before ℕ_adds (group_in m v s) u (num WEIGHT s)

-- ---- the walk that shares out: each value moves by its share of d

abbrev pub either : Bool → ℕ → ℕ → ℕ
either true a b = a
either false a b = b

-- how far u can still go; what shares go by: that, or the weights
abbrev pub room_in : Bool → List ℤ → ℕ → ℕ
room_in down s u = room down (num LOW s u) (num HIGH s u) (num MASS s u)

abbrev pub size_in : (by_room down : Bool) → List ℤ → ℕ → ℕ
size_in by_room down s u = either by_room (room_in down s u) (num WEIGHT s u)

unfoldable pub share_in : (by_room down : Bool) (m v d : ℕ) → List ℤ → ℕ → ℕ
share_in by_room down m v d s u = min (room_in down s u) (portion (group_in m v s) (size_in by_room down s) d u)

unfoldable pub moved_in : (by_room down : Bool) (m v d : ℕ) → List ℤ → ℕ → ℤ
moved_in by_room down m v d s u = pos (moved down (num MASS s u) (share_in by_room down m v d s u))

pub record Sharing (by_room down : Bool) (m v d all : ℕ) (s : List ℤ) : Type 0 where
  pub rising : Rising m v s
  pub small : d < 2 ^ 31
  pub whole : all ≡ sum_in ℕ_adds (group_in m v s) (size_in by_room down s)
  pub bounded : all < 2 ^ 31
  pub roomy : sum_in ℕ_adds (group_in m v s) (room_in down s) < 2 ^ 31

pub record Shared (by_room down : Bool) (m v d : ℕ) (s new : List ℤ) (given left : ℕ) : Type 0 where
  pub laid : Laid MASS m (on_chain_of v s) (moved_in by_room down m v d s) m s new
  pub gives : given ≡ sum_in ℕ_adds (group_in m v s) (share_in by_room down m v d s)
  pub leaves : left ≡ sum_in ℕ_adds (group_in m v s) (λ u. room_in down s u - share_in by_room down m v d s u)

-- before the turn at u: `before` is the sum of the sizes passed, `prior` the last quotient
pub record ShareState (by_room down : Bool) (m v d : ℕ) (s : List ℤ) (u : ℕ) (new : List ℤ) (before prior given left : ℕ) : Type 0 where
  pub within : u ≤ m
  pub here : cursor (num NEXT s) (num FIRST s v) u ≡ u
  pub laid : Laid MASS m (on_chain_of v s) (moved_in by_room down m v d s) u s new
  pub befores : before ≡ sum_before ℕ_adds (group_in m v s) u (size_in by_room down s)
  pub priors : prior ≡ quota (d * before) (sum_in ℕ_adds (group_in m v s) (size_in by_room down s))
  pub gives : given ≡ sum_before ℕ_adds (group_in m v s) u (share_in by_room down m v d s)
  pub leaves : left ≡ sum_before ℕ_adds (group_in m v s) u (λ w. room_in down s w - share_in by_room down m v d s w)

-- ---- one split: v's mass, which stands in its own row, among the nodes of its chain

pub record Splitting (m v : ℕ) (s : List ℤ) : Type 0 where
  pub rising : Rising m v s
  pub can : Splits (group_in m v s) (num MASS s v)
  pub small : sum_in ℕ_adds (group_in m v s) (num HIGH s) < 2 ^ 31
  pub light : sum_in ℕ_adds (group_in m v s) (num WEIGHT s) < 2 ^ 31

abbrev pub SplitDone : (m v : ℕ) (s new : List ℤ) → Type 0
SplitDone m v s new = Laid MASS m (on_chain_of v s) (λ u. pos (result (group_in m v s) (num MASS s v) u)) m s new

-- the same, watched at one node: what a node of the chain has after clipping, after the first pass, and at the end; any other keeps what it had
pub record SplitWatched (m v u : ℕ) (s new : List ℤ) (clip first both : ℕ) : Type 0 where
  pub split : SplitDone m v s new
  pub clips : u < m → on_chain_of v s u ≡ true → clip ≡ clipped (group_in m v s) u
  pub firsts : u < m → on_chain_of v s u ≡ true → first ≡ after_first (group_in m v s) (num MASS s v) u
  pub gives : u < m → on_chain_of v s u ≡ true → both ≡ result (group_in m v s) (num MASS s v) u
  pub stays : (u < m → on_chain_of v s u ≡ false) → (clip ≡ num MASS s u) × ((first ≡ num MASS s u) × (both ≡ num MASS s u))
