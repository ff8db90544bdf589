-- The operation Import: its verdict and its answer. Assumes nothing.
use Rattle.std.specs.Prelude.{Result, Ok, Err, ◌≡◌, Bool, true, false, ◌&&◌, cond, List, [], ◌∷◌, ℕ, ◌*◌, ◌^◌, ◌≤◌, eqb, ℤ, pos, negsuc, get_or, ◌≤ℤ◌, Float}
use Rattle.std.specs.Int.Signed.{le_z}
use Rattle.std.specs.Float.{nan, inf, fin}
use Rattle.std.specs.Float.Ieee.{up, down}
use Rattle.numbers.specs.Signed.{over}
use Rattle.numbers.specs.Checks.{Checked, Answered, refused, answered, unless, first, Rule, rule, rule_for, max_total, check_scale}
use Rattle.numbers.specs.Roundings.{round_down, round_up, round_nearest}
use Rattle.doubles_spec.specs.declared.CellDoubles.{CellDoubles}
use Rattle.doubles_spec.specs.declared.CellUnits.{CellUnits}
use Rattle.doubles_spec.specs.declared.ImportRefusal.{ImportRefusal}
use Rattle.doubles_spec.specs.declared.ImportRefusal.TheVariants.{Scale, Double}

-- ---- one double

abbrev pub is_finite : Float → Bool
is_finite nan = false
is_finite (inf s) = false
is_finite (fin s m e) = true

abbrev pub IsFinite : Float → Type 0
IsFinite nan = ⊥
IsFinite (inf s) = ⊥
IsFinite (fin s m e) = Unit

-- A finite double is ±m * 2 ^ e, which is the fraction ±(m * up e) / down e. Times 2 ^ k, exactly, and rounded.
-- (One that is not finite is refused before this is looked at.)
abbrev pub scaled : (Bool → ℕ → ℕ → ℤ) → ℕ → Float → ℤ
scaled rounding k nan = pos 0
scaled rounding k (inf s) = pos 0
scaled rounding k (fin s m e) = rounding s (m * up e * 2 ^ k) (down e)

-- the target to nearest with ties to even, the lows up, the highs down
abbrev pub target_units : ℕ → Float → ℤ
target_units k x = scaled round_nearest k x

abbrev pub low_units : ℕ → Float → ℤ
low_units k x = scaled round_up k x

abbrev pub high_units : ℕ → Float → ℤ
high_units k x = scaled round_down k x

-- ---- the checks

-- 10: the double in a field is finite
unfoldable pub check_finite : ℕ → Float → Checked
check_finite place x = unless (is_finite x) 10 place

-- 11: the target lies in −2147483648 to 2147483647, a bound in 0 to 2147483647
unfoldable pub check_target : ℕ → ℤ → Checked
check_target place z = unless (le_z (negsuc 2147483647) z && le_z z (pos max_total)) 11 place

unfoldable pub check_bound : ℕ → ℤ → Checked
check_bound place z = unless (le_z (pos 0) z && le_z z (pos max_total)) 11 place

-- the place is the field: target 0, low 1, high 2, safe low 3, safe high 4
abbrev pub import_checks : CellDoubles → ℕ → List Checked
import_checks c k =
    check_scale k
    ∷ check_finite 0 c.target
    ∷ check_target 0 (target_units k c.target)
    ∷ check_finite 1 c.low
    ∷ check_bound 1 (low_units k c.low)
    ∷ check_finite 2 c.high
    ∷ check_bound 2 (high_units k c.high)
    ∷ check_finite 3 c.safe_low
    ∷ check_bound 3 (low_units k c.safe_low)
    ∷ check_finite 4 c.safe_high
    ∷ check_bound 4 (high_units k c.safe_high)
    ∷ []

unfoldable pub import_verdict : CellDoubles → ℕ → Checked
import_verdict c k = first (import_checks c k)

-- ---- what the checks mean

abbrev pub TargetRange : ℤ → Type 0
TargetRange z = (negsuc 2147483647 ≤ℤ z) × (z ≤ℤ pos max_total)

abbrev pub BoundRange : ℤ → Type 0
BoundRange z = (pos 0 ≤ℤ z) × (z ≤ℤ pos max_total)

unfoldable pub import_rules : CellDoubles → ℕ → List Rule
import_rules c k =
    rule 9 (k ≤ 30)
    ∷ rule_for 10 0 (IsFinite c.target)
    ∷ rule_for 11 0 (TargetRange (target_units k c.target))
    ∷ rule_for 10 1 (IsFinite c.low)
    ∷ rule_for 11 1 (BoundRange (low_units k c.low))
    ∷ rule_for 10 2 (IsFinite c.high)
    ∷ rule_for 11 2 (BoundRange (high_units k c.high))
    ∷ rule_for 10 3 (IsFinite c.safe_low)
    ∷ rule_for 11 3 (BoundRange (low_units k c.safe_low))
    ∷ rule_for 10 4 (IsFinite c.safe_high)
    ∷ rule_for 11 4 (BoundRange (high_units k c.safe_high))
    ∷ []

pub record ImportFits (c : CellDoubles) (k : ℕ) : Type 0 where
  pub scale : k ≤ 30
  pub target_finite : IsFinite c.target
  pub target : TargetRange (target_units k c.target)
  pub low_finite : IsFinite c.low
  pub low : BoundRange (low_units k c.low)
  pub high_finite : IsFinite c.high
  pub high : BoundRange (high_units k c.high)
  pub safe_low_finite : IsFinite c.safe_low
  pub safe_low : BoundRange (low_units k c.safe_low)
  pub safe_high_finite : IsFinite c.safe_high
  pub safe_high : BoundRange (high_units k c.safe_high)

-- ---- the answer

-- the five doubles, and the five units, by field
abbrev pub double_at : CellDoubles → ℕ → Float
double_at c field = get_or (c.target ∷ c.low ∷ c.high ∷ c.safe_low ∷ c.safe_high ∷ []) field nan

abbrev pub units_at : CellUnits → ℕ → ℤ
units_at u field = get_or (u.target ∷ pos u.low ∷ pos u.high ∷ pos u.safe_low ∷ pos u.safe_high ∷ []) field (pos 0)

-- of an accepted cell: `over z` is the natural number that z is
unfoldable pub import_units : CellDoubles → ℕ → CellUnits
import_units c k =
    record {
      target = target_units k c.target;
      low = over (low_units k c.low);
      high = over (high_units k c.high);
      safe_low = over (low_units k c.safe_low);
      safe_high = over (high_units k c.safe_high);
    }

-- what the operation answers
abbrev pub Imported : Type 0
Imported = Result CellUnits ImportRefusal

-- what an answer tells: its refusal has more than a number and a place
unfoldable pub import_tells : Imported → Answered CellUnits
import_tells (Ok u) = Ok u
import_tells (Err Scale) = refused 9 0
import_tells (Err (Double number field double)) = refused number field

-- the double that an answer holds, if it holds one
unfoldable pub import_holds : Imported → List Float
import_holds (Ok u) = []
import_holds (Err Scale) = []
import_holds (Err (Double number field double)) = double ∷ []

-- the answer that tells this and holds this
abbrev pub import_holding : Answered CellUnits → List Float → Imported
import_holding (Ok u) doubles = Ok u
import_holding (Err r) [] = Err Scale
import_holding (Err r) (double ∷ doubles) = Err (Double r.number r.place double)

-- the answer that tells this of a cell: a refused double is the one that was passed for the field
abbrev pub import_answer : Answered CellUnits → CellDoubles → Imported
import_answer (Ok u) c = Ok u
import_answer (Err r) c = Err (cond (eqb r.number 9) Scale (Double r.number r.place (double_at c r.place)))

-- a field's refusal carries the field's double as it came; the scale's, number 9, carries none
unfoldable pub carried : Checked → CellDoubles → List Float
carried (Ok tt) c = []
carried (Err r) c = cond (eqb r.number 9) [] (double_at c r.place ∷ [])

-- the whole contract of the operation
pub record ImportContract (c : CellDoubles) (k : ℕ) (answer : Imported) : Type 0 where
  pub answers : import_tells answer ≡ answered (import_verdict c k) (import_units c k)
  pub carries : import_holds answer ≡ carried (import_verdict c k) c
