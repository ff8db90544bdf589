-- The operation Split: what it is given, its checks in 01's order, its answer and the masses it leaves. Assumes nothing.
use Rattle.std.specs.Prelude.{◌≡◌, Bool, true, ◌&&◌, List, [], ◌∷◌, ◌++◌, ℕ, ◌≤◌, ◌<◌, eqb, ℤ, pos, nat_abs, ◌-ℤ◌, ◌≤ℤ◌, length}
use Rattle.std.specs.Int.Signed.{le_z}
use Rattle.numbers.specs.Sums.{ℕ_adds, ℤ_adds, sum_to}
use Rattle.numbers.specs.Lists.{at_ℤ, list_to}
use Rattle.numbers.specs.Signed.{over, min_ℤ, max_ℤ}
use Rattle.numbers.specs.Checks.{Checked, Answered, answered, after, unless, first, first_from, every_from, check_count, Rule, rule, rule_at, max_total}
use Rattle.caas_spec.specs.Group.{Group}
use Rattle.caas_spec.specs.Split.{Proportional, deficit, result}

-- all that a call is given
pub record SplitCall : Type 0 where
  pub targets : List ℤ
  pub lows : List ℤ
  pub highs : List ℤ
  pub weights : List ℤ
  pub total : ℤ
  pub masses : List ℤ

abbrev pub split_call : (targets lows highs weights : List ℤ) → ℤ → List ℤ → SplitCall
split_call targets lows highs weights total masses =
    record { targets = targets; lows = lows; highs = highs; weights = weights; total = total; masses = masses }

-- the number of items is the length of the targets
abbrev pub items : SplitCall → ℕ
items c = length c.targets

-- the sum of the first n numbers of a list
abbrev pub sum_ℤ : ℕ → List ℤ → ℤ
sum_ℤ n xs = sum_to ℤ_adds n (at_ℤ xs)

-- ---- the checks

-- 3: lists of other lengths
unfoldable pub check_lengths : ℕ → ℕ → ℕ → ℕ → ℕ → Checked
check_lengths n lows highs weights masses = unless (eqb lows n && (eqb highs n && (eqb weights n && eqb masses n))) 3 0

-- 5: low below 0 or above high, first item
abbrev pub ordered_at : List ℤ → List ℤ → ℕ → Bool
ordered_at lows highs u = le_z (pos 0) (at_ℤ lows u) && le_z (at_ℤ lows u) (at_ℤ highs u)

unfoldable pub check_split_order : ℕ → List ℤ → List ℤ → Checked
check_split_order n lows highs = first_from (ordered_at lows highs) 5 0 n

-- 6: highs adding to over 2147483647
unfoldable pub check_highs : ℕ → List ℤ → Checked
check_highs n highs = unless (le_z (sum_ℤ n highs) (pos max_total)) 6 0

-- 7: a weight below 0, or weights adding to over that
unfoldable pub check_weights : ℕ → List ℤ → Checked
check_weights n weights = unless (every_from (λ u. le_z (pos 0) (at_ℤ weights u)) 0 n && le_z (sum_ℤ n weights) (pos max_total)) 7 0

-- 8: M outside the sums of lows and highs
unfoldable pub check_split_reach : ℕ → List ℤ → List ℤ → ℤ → Checked
check_split_reach n lows highs total = unless (le_z (sum_ℤ n lows) total && le_z total (sum_ℤ n highs)) 8 0

-- 1 and 3, of lengths alone
abbrev pub split_shape_checks : (n lows highs weights masses : ℕ) → List Checked
split_shape_checks n lows highs weights masses = check_count n ∷ check_lengths n lows highs weights masses ∷ []

-- 5 to 8
abbrev pub split_value_checks : ℕ → (lows highs weights : List ℤ) → ℤ → List Checked
split_value_checks n lows highs weights total =
    check_split_order n lows highs ∷ check_highs n highs ∷ check_weights n weights ∷ check_split_reach n lows highs total ∷ []

-- all of them, in 01's order
abbrev pub split_checks : SplitCall → List Checked
split_checks c =
    split_shape_checks (items c) (length c.lows) (length c.highs) (length c.weights) (length c.masses)
    ++ split_value_checks (items c) c.lows c.highs c.weights c.total

unfoldable pub split_verdict : SplitCall → Checked
split_verdict c = first (split_checks c)

-- ---- what the checks mean

-- every other list has as many entries as the targets
pub record SplitLengths (c : SplitCall) : Type 0 where
  pub lows : length c.lows ≡ items c
  pub highs : length c.highs ≡ items c
  pub weights : length c.weights ≡ items c
  pub masses : length c.masses ≡ items c

-- the rules of 01 in their order; a call that breaks one is refused with its number
unfoldable pub split_rules : SplitCall → List Rule
split_rules c =
    rule 1 ((0 < items c) × (items c ≤ 512))
    ∷ rule 3 (SplitLengths c)
    ∷ rule_at 5 (items c) (λ u. (pos 0 ≤ℤ at_ℤ c.lows u) × (at_ℤ c.lows u ≤ℤ at_ℤ c.highs u))
    ∷ rule 6 (sum_ℤ (items c) c.highs ≤ℤ pos max_total)
    ∷ rule 7 (((u : ℕ) → u < items c → pos 0 ≤ℤ at_ℤ c.weights u) × (sum_ℤ (items c) c.weights ≤ℤ pos max_total))
    ∷ rule 8 ((sum_ℤ (items c) c.lows ≤ℤ c.total) × (c.total ≤ℤ sum_ℤ (items c) c.highs))
    ∷ []

-- a call that breaks none
pub record SplitFits (c : SplitCall) : Type 0 where
  pub some : 0 < items c
  pub few : items c ≤ 512
  pub lengths : SplitLengths c
  pub nonneg : (u : ℕ) → u < items c → pos 0 ≤ℤ at_ℤ c.lows u
  pub order : (u : ℕ) → u < items c → at_ℤ c.lows u ≤ℤ at_ℤ c.highs u
  pub highs : sum_ℤ (items c) c.highs ≤ℤ pos max_total
  pub weights : (u : ℕ) → u < items c → pos 0 ≤ℤ at_ℤ c.weights u
  pub weighs : sum_ℤ (items c) c.weights ≤ℤ pos max_total
  pub least : sum_ℤ (items c) c.lows ≤ℤ c.total
  pub most : c.total ≤ℤ sum_ℤ (items c) c.highs

-- ---- the answer, and the masses at exit

-- the items as a group: all of them
abbrev pub item_group : SplitCall → Group
item_group c =
    record {
      size = items c;
      has = λ u. true;
      target = at_ℤ c.targets;
      low = λ u. over (at_ℤ c.lows u);
      high = λ u. over (at_ℤ c.highs u);
      weight = λ u. over (at_ℤ c.weights u);
    }

unfoldable pub split_masses : SplitCall → List ℤ
split_masses c = list_to (items c) (λ u. pos (result (item_group c) (over c.total) u))

-- 01's d of the items, which is told (ticket 2 of 02)
unfoldable pub split_deficit : SplitCall → ℤ
split_deficit c = deficit (item_group c) (over c.total)

-- the whole contract of the operation
pub record SplitContract (c : SplitCall) (answer : Answered ℤ) (masses : List ℤ) : Type 0 where
  pub answers : answer ≡ answered (split_verdict c) (split_deficit c)
  pub writes : masses ≡ after (split_verdict c) (split_masses c) c.masses

-- ---- what the masses and d of an accepted call are, in plain facts

-- whole numbers by index that lie within the bounds and add up to the total
pub record Divided (c : SplitCall) (y : ℕ → ℤ) : Type 0 where
  pub within : (u : ℕ) → u < items c → (at_ℤ c.lows u ≤ℤ y u) × (y u ≤ℤ at_ℤ c.highs u)
  pub sum : sum_to ℤ_adds (items c) y ≡ c.total

-- their summed absolute difference from the targets
unfoldable pub distance_of : SplitCall → (ℕ → ℤ) → ℕ
distance_of c y = sum_to ℕ_adds (items c) (λ u. nat_abs (y u -ℤ at_ℤ c.targets u))

-- an item's target, clipped into its low and high
abbrev pub clipped_at : SplitCall → ℕ → ℤ
clipped_at c u = max_ℤ (at_ℤ c.lows u) (min_ℤ (at_ℤ c.targets u) (at_ℤ c.highs u))

pub record SplitFacts (c : SplitCall) (d : ℤ) (x : List ℤ) : Type 0 where
  pub count : length x ≡ items c
  -- they lie within the bounds and add up to the total
  pub divides : Divided c (at_ℤ x)
  -- no other such numbers lie nearer to the targets
  pub nearest : (y : ℕ → ℤ) → Divided c y → distance_of c (at_ℤ x) ≤ distance_of c y
  -- without weights each share is less than one unit from the published proportion
  pub proportional : ((u : ℕ) → u < items c → at_ℤ c.weights u ≡ pos 0) → (u : ℕ) → u < items c → Proportional (item_group c) (over c.total) (at_ℤ x u) u
  -- d is the total minus the sum of the clipped targets, and its size is what the masses differ from these by
  pub deficit : d ≡ c.total -ℤ sum_to ℤ_adds (items c) (clipped_at c)
  pub moves : sum_to ℕ_adds (items c) (λ u. nat_abs (at_ℤ x u -ℤ clipped_at c u)) ≡ nat_abs d
