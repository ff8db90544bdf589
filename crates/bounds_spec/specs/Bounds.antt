-- The operation Bounds: what it is given, its verdict, its answer, and the lists it leaves. Assumes nothing.
use Rattle.std.specs.Prelude.{◌≡◌, Bool, ◌&&◌, List, [], ◌∷◌, ℕ, ◌≤◌, ◌<◌, leb, eqb, length}
use Rattle.numbers.specs.Lists.{at, list_to}
use Rattle.numbers.specs.Checks.{Checked, answered, after, unless, first, first_from, check_count, Rule, rule, rule_at}
use Rattle.qlt_spec.specs.Field.{Lists}
use Rattle.bounds_spec.specs.declared.Ratio.{Ratio}
use Rattle.bounds_spec.specs.declared.FieldRatios.{FieldRatios}
use Rattle.bounds_spec.specs.declared.CellBounds.{CellBounds}
use Rattle.bounds_spec.specs.Ratios.{parts, air_of, ratio_of, cell_bounds, least_of, most_of}

-- air masses and mixing ratios
pub record Mixing : Type 0 where
  pub air : List ℕ
  pub low_ratios : List ℕ
  pub high_ratios : List ℕ

abbrev pub mixing : List ℕ → List ℕ → List ℕ → Mixing
mixing air low_ratios high_ratios = record { air = air; low_ratios = low_ratios; high_ratios = high_ratios }

abbrev pub cells : Mixing → ℕ
cells x = length x.air

-- four lists of bounds: those lent, and those of a field
pub record Bounds : Type 0 where
  pub lows : List ℕ
  pub highs : List ℕ
  pub safe_lows : List ℕ
  pub safe_highs : List ℕ

abbrev pub bounds : (lows highs safe_lows safe_highs : List ℕ) → Bounds
bounds lows highs safe_lows safe_highs = record { lows = lows; highs = highs; safe_lows = safe_lows; safe_highs = safe_highs }

abbrev pub bounds_of : Lists → Bounds
bounds_of f = bounds f.lows f.highs f.safe_lows f.safe_highs

-- all that a call is given
pub record BoundsCall : Type 0 where
  pub given : Mixing
  pub lent : Bounds

abbrev pub bounds_call : Mixing → Bounds → BoundsCall
bounds_call given lent = record { given = given; lent = lent }

-- ---- the bounds of the cells

abbrev pub field_ratios : Mixing → FieldRatios
field_ratios x =
    record { smallest_low = ratio_of (least_of (at x.low_ratios) (cells x)); largest_high = ratio_of (most_of (at x.high_ratios) (cells x)) }

abbrev pub bounds_at : Mixing → ℕ → CellBounds
bounds_at x c = cell_bounds (air_of (at x.air c)) (ratio_of (at x.low_ratios c)) (ratio_of (at x.high_ratios c)) (field_ratios x)

abbrev pub converted : Mixing → Bounds
converted x =
    bounds (list_to (cells x) (λ c. (bounds_at x c).low.0)) (list_to (cells x) (λ c. (bounds_at x c).high.0))
    (list_to (cells x) (λ c. (bounds_at x c).safe_low.0)) (list_to (cells x) (λ c. (bounds_at x c).safe_high.0))

-- ---- the checks

-- 3: a list of another length than the air masses
unfoldable pub check_bounds_lengths : (n low_ratios high_ratios lows highs safe_lows safe_highs : ℕ) → Checked
check_bounds_lengths n low_ratios high_ratios lows highs safe_lows safe_highs =
    unless (eqb low_ratios n && (eqb high_ratios n && (eqb lows n && (eqb highs n && (eqb safe_lows n && eqb safe_highs n))))) 3 0

-- 18 (02): the first cell with a ratio above 1048576
unfoldable pub ratios_ok : (low high : Ratio) → Bool
ratios_ok low high = leb low.0 parts && leb high.0 parts

abbrev pub ratios_ok_at : (low_ratios high_ratios : List ℕ) → ℕ → Bool
ratios_ok_at low_ratios high_ratios c = ratios_ok (ratio_of (at low_ratios c)) (ratio_of (at high_ratios c))

unfoldable pub check_ratios : ℕ → (low_ratios high_ratios : List ℕ) → Checked
check_ratios n low_ratios high_ratios = first_from (ratios_ok_at low_ratios high_ratios) 18 0 n

-- 1; 3; 18; of the lists lent only the lengths count
abbrev pub bounds_checks : Mixing → (lows highs safe_lows safe_highs : ℕ) → List Checked
bounds_checks x lows highs safe_lows safe_highs =
    check_count (cells x)
    ∷ check_bounds_lengths (cells x) (length x.low_ratios) (length x.high_ratios) lows highs safe_lows safe_highs
    ∷ check_ratios (cells x) x.low_ratios x.high_ratios
    ∷ []

unfoldable pub bounds_verdict : BoundsCall → Checked
bounds_verdict c =
    first (bounds_checks c.given (length c.lent.lows) (length c.lent.highs) (length c.lent.safe_lows) (length c.lent.safe_highs))

-- ---- what the checks mean

pub record BoundsLengths (c : BoundsCall) : Type 0 where
  pub low_ratios : length c.given.low_ratios ≡ cells c.given
  pub high_ratios : length c.given.high_ratios ≡ cells c.given
  pub lows : length c.lent.lows ≡ cells c.given
  pub highs : length c.lent.highs ≡ cells c.given
  pub safe_lows : length c.lent.safe_lows ≡ cells c.given
  pub safe_highs : length c.lent.safe_highs ≡ cells c.given

pub record RatiosFit (x : Mixing) (c : ℕ) : Type 0 where
  pub low : at x.low_ratios c ≤ parts
  pub high : at x.high_ratios c ≤ parts

abbrev pub bounds_rules : BoundsCall → List Rule
bounds_rules c =
    rule 1 ((0 < cells c.given) × (cells c.given ≤ 512))
    ∷ rule 3 (BoundsLengths c)
    ∷ rule_at 18 (cells c.given) (RatiosFit c.given)
    ∷ []

-- a call that breaks none
pub record BoundsFits (c : BoundsCall) : Type 0 where
  pub some : 0 < cells c.given
  pub few : cells c.given ≤ 512
  pub lengths : BoundsLengths c
  pub ratios : (i : ℕ) → i < cells c.given → RatiosFit c.given i

-- ---- the answer, and the lists at exit

-- the whole contract of the operation
pub record BoundsContract (c : BoundsCall) (answer : Checked) (left : Bounds) : Type 0 where
  pub answers : answer ≡ answered (bounds_verdict c) tt
  pub writes : left ≡ after (bounds_verdict c) (converted c.given) c.lent
