-- A field ('The field' and 'The whole tree' of 01): cells, tree, bounds in force, and what masses are measured by. Assumes nothing.
use Rattle.std.specs.Prelude.{◌≡◌, cond, List, ℕ, suc, ◌+◌, ◌-◌, ◌*◌, ◌≤◌, ◌<◌, ltb, ℤ, pos, negsuc, nat_abs, ◌-ℤ◌, length}
use Rattle.numbers.specs.Sums.{ℕ_adds, ℤ_adds, sum_to}
use Rattle.numbers.specs.Lists.{at, at_ℤ}
use Rattle.caas_spec.specs.Group.{Within}
use Rattle.qlt_spec.specs.declared.FieldLists.{FieldLists}
use Rattle.qlt_spec.specs.declared.Outcome.{Outcome}
use Rattle.qlt_spec.specs.declared.Outcome.TheVariants.{Attainable, Below, Above}

-- the seven lists of a field
pub record Lists : Type 0 where
  pub targets : List ℤ
  pub lows : List ℕ
  pub highs : List ℕ
  pub safe_lows : List ℕ
  pub safe_highs : List ℕ
  pub weights : List ℕ
  pub parents : List ℕ

abbrev pub lists : (targets : List ℤ) (lows highs safe_lows safe_highs weights parents : List ℕ) → Lists
lists targets lows highs safe_lows safe_highs weights parents =
    record { targets = targets; lows = lows; highs = highs; safe_lows = safe_lows; safe_highs = safe_highs; weights = weights; parents = parents }

-- those that a field is lent by
abbrev pub lists_of : FieldLists → Lists
lists_of f = lists f.targets.now f.lows.now f.highs.now f.safe_lows.now f.safe_highs.now f.weights.now f.parents.now

abbrev pub cells : Lists → ℕ
cells f = length f.targets

abbrev pub nodes : Lists → ℕ
nodes f = length f.parents

-- a field by index: n cells, m nodes, each node's parent, and six values of each cell
pub record Field : Type 0 where
  pub n : ℕ
  pub m : ℕ
  pub up : ℕ → ℕ
  pub target : ℕ → ℤ
  pub low : ℕ → ℕ
  pub high : ℕ → ℕ
  pub safe_low : ℕ → ℕ
  pub safe_high : ℕ → ℕ
  pub weight : ℕ → ℕ

abbrev pub field : Lists → Field
field f =
    record {
      n = cells f;
      m = nodes f;
      up = at f.parents;
      target = at_ℤ f.targets;
      low = at f.lows;
      high = at f.highs;
      safe_low = at f.safe_lows;
      safe_high = at f.safe_highs;
      weight = at f.weights;
    }

-- 01's scratch, by ticket 9 of 02: so many signed 64-bit numbers for each node
abbrev pub scratch_per_node : ℕ
scratch_per_node = 4

-- and that of a field of the most nodes
abbrev pub max_scratch : ℕ
max_scratch = scratch_per_node * 1024

-- the sum over all cells
abbrev pub sum_cells : Field → (ℕ → ℕ) → ℕ
sum_cells F f = sum_to ℕ_adds F.n f

-- safe low ≤ low ≤ high ≤ safe high
pub record Ordered (F : Field) (c : ℕ) : Type 0 where
  pub low : F.safe_low c ≤ F.low c
  pub high : F.low c ≤ F.high c
  pub safe : F.high c ≤ F.safe_high c

-- ---- the bounds in force (01's term)

-- 01's outcome, by the two sums: the lows' sum ≤ M ≤ the highs' sum, or M is less, or it is more
abbrev pub outcome_by : (low high M : ℕ) → Outcome
outcome_by low high M = cond (ltb M low) Below (cond (ltb high M) Above Attainable)

unfoldable pub outcome : Field → ℕ → Outcome
outcome F M = outcome_by (sum_cells F F.low) (sum_cells F F.high) M

-- its number in 01, in files and in the calls from C
unfoldable pub outcome_number : Outcome → ℕ
outcome_number Attainable = 0
outcome_number Below = 1
outcome_number Above = 2

-- outcome 0: low to high; outcome 1: safe low to low; outcome 2: high to safe high
unfoldable pub low_in : Outcome → Field → ℕ → ℕ
low_in Attainable F = F.low
low_in Below F = F.safe_low
low_in Above F = F.high

unfoldable pub high_in : Outcome → Field → ℕ → ℕ
high_in Attainable F = F.high
high_in Below F = F.low
high_in Above F = F.safe_high

-- ---- what masses are measured by

-- k whole numbers lie within bounds and add up to z
pub record Meets (k : ℕ) (low high : ℕ → ℕ) (z : ℤ) (y : ℕ → ℤ) : Type 0 where
  pub within : (c : ℕ) → c < k → Within (low c) (high c) (y c)
  pub sum : sum_to ℤ_adds k y ≡ z

-- a mass below low misses its bounds by low minus mass, one above high by mass minus high, any other by 0
unfoldable pub miss : ℕ → ℕ → ℤ → ℕ
miss low high (pos a) = (low - a) + (a - high)
miss low high (negsuc a) = low + suc a

unfoldable pub miss_of : Field → (ℕ → ℤ) → ℕ
miss_of F y = sum_cells F (λ c. miss (F.low c) (F.high c) (y c))

-- 01's change: the sum over cells of the absolute mass minus target
unfoldable pub change_of : Field → (ℕ → ℕ) → ℕ
change_of F x = sum_cells F (λ c. nat_abs (pos (x c) -ℤ F.target c))
