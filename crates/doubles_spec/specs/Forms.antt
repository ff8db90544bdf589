-- The forms that the code follows, of Import field by field and of Export in binary32; laws in proofs/ say that they give what the definitions
-- give. Assumes nothing.
use Rattle.std.specs.Prelude.{Option, Some, None, Result, Ok, Err, Bool, true, false, cond, ℤ, pos, negsuc, leb, ltb, eqb, Float}
use Prim.Native.Nat.{ℕ, suc, ◌*◌, ◌/◌, ◌%◌, ◌^◌, ◌≤◌, ◌<◌, min, compare, Ordering}
use Rattle.std.specs.Float.{nan, inf, fin}
use Rattle.std.specs.Float.Ieee.{up, down}
use Rattle.std.specs.Float.Ieee.Nearest.{closest}
use Rattle.doubles_spec.specs.Import.{scaled, Imported}
use Rattle.doubles_spec.specs.Classes.{is_below_zero}
use Rattle.numbers.specs.Roundings.{round_nearest, round_up, round_down}
use Rattle.doubles_spec.specs.declared.CellDoubles.{CellDoubles}
use Rattle.doubles_spec.specs.declared.ImportRefusal.{ImportRefusal}
use Rattle.doubles_spec.specs.declared.ImportRefusal.TheVariants.{Scale, Double}
use Rattle.doubles_spec.specs.declared.Rest.{Rest}
use Rattle.doubles_spec.specs.declared.Rest.TheVariants.{Nothing, LessThanHalf, Half, MoreThanHalf}
use Rattle.doubles_spec.specs.declared.Product.{Product}
use Rattle.doubles_spec.specs.declared.FieldFault.{FieldFault}
use Rattle.doubles_spec.specs.declared.FieldFault.TheVariants.{NotFinite, OutOfRange}

-- ---- what is left after a division by b, of which r is the remainder
abbrev pub rest_at : Bool → Ordering → Rest
rest_at true o = Nothing
rest_at false Ordering.lt = LessThanHalf
rest_at false Ordering.eq = Half
rest_at false Ordering.gt = MoreThanHalf

abbrev pub rest_by : ℕ → ℕ → Rest
rest_by r b = rest_at (eqb r 0) (compare (r * 2) b)

abbrev pub rest_of : ℕ → ℕ → Rest
rest_of a b = rest_by (a % b) b

-- what a rounding adds to the whole part: away from zero, and to nearest with ties to even
abbrev pub added_away : Rest → ℕ
added_away Nothing = 0
added_away LessThanHalf = 1
added_away Half = 1
added_away MoreThanHalf = 1

unfoldable pub added_nearest : ℕ → Rest → ℕ
added_nearest whole Nothing = 0
added_nearest whole LessThanHalf = 0
added_nearest whole Half = whole % 2
added_nearest whole MoreThanHalf = 1

-- a product in range of the code's numbers, or none
abbrev pub product_of : Bool → ℕ → Rest → Option Product
product_of s whole rest = Some (record { negative = s; whole = whole; rest = rest })

-- ±a / b, its whole part cut at 2 ^ 52
abbrev pub fraction : Bool → ℕ → ℕ → Option Product
fraction s a b = product_of s (min (a / b) (2 ^ 52)) (rest_of a b)

-- minus zero is 0: it has no sign
abbrev pub product : ℕ → Float → Option Product
product k nan = None
product k (inf s) = None
product k (fin s m e) = fraction (is_below_zero (fin s m e)) (m * up e * 2 ^ k) (down e)

-- ---- one field: its units, or why it is refused
abbrev pub Field : Type 0 → Type 0
Field units = Result units FieldFault

-- the number that it is refused with
abbrev pub fault_number : FieldFault → ℕ
fault_number NotFinite = 10
fault_number OutOfRange = 11

abbrev pub in_target : ℤ → Field ℤ
in_target (pos n) = cond (ltb n (2 ^ 31)) (Ok (pos n)) (Err OutOfRange)
in_target (negsuc n) = cond (ltb n (2 ^ 31)) (Ok (negsuc n)) (Err OutOfRange)

abbrev pub in_bound : ℤ → Field ℕ
in_bound (pos n) = cond (ltb n (2 ^ 31)) (Ok n) (Err OutOfRange)
in_bound (negsuc n) = Err OutOfRange

-- refused if the double is not finite; else rounded, if that is in range
abbrev pub field_by : {units : Type 0} → (ℤ → Field units) → (Bool → ℕ → ℕ → ℤ) → ℕ → Float → Field units
field_by in_range rounding k nan = Err NotFinite
field_by in_range rounding k (inf s) = Err NotFinite
field_by in_range rounding k (fin s m e) = in_range (scaled rounding k (fin s m e))

abbrev pub target_field : ℕ → Float → Field ℤ
target_field k x = field_by in_target round_nearest k x

abbrev pub low_field : ℕ → Float → Field ℕ
low_field k x = field_by in_bound round_up k x

abbrev pub high_field : ℕ → Float → Field ℕ
high_field k x = field_by in_bound round_down k x

-- ---- the five fields: the first that is refused, with its number, its place and its double as it came; or the units
abbrev pub named : {units : Type 0} → Field units → ℕ → Float → Result units ImportRefusal
named (Ok v) f x = Ok v
named (Err e) f x = Err (Double (fault_number e) f x)

abbrev pub then_units : {units : Type 0} → Result units ImportRefusal → (units → Imported) → Imported
then_units (Ok v) g = g v
then_units (Err r) g = Err r

unfoldable pub import_fields : ℕ → CellDoubles → Imported
import_fields k c =
    then_units (named (target_field k c.target) 0 c.target) λ t.
    then_units (named (low_field k c.low) 1 c.low) λ l.
    then_units (named (high_field k c.high) 2 c.high) λ h.
    then_units (named (low_field k c.safe_low) 3 c.safe_low) λ sl.
    then_units (named (high_field k c.safe_high) 4 c.safe_high) λ sh.
    Ok (record { target = t; low = l; high = h; safe_low = sl; safe_high = sh })

unfoldable pub import_form : ℕ → CellDoubles → Imported
import_form k c = cond (leb k 30) (import_fields k c) (Err Scale)

-- ---- Export in binary32: j is the position of the highest set bit of a mass above 0
abbrev pub HighestBit : ℕ → ℕ → Type 0
HighestBit mass j = (2 ^ j ≤ mass) × (mass < 2 ^ suc j)

-- the significand: mass / 2 ^ j, which is at least 1 and below 2, in units of 2 ^ −23, to nearest with ties to even
abbrev pub significand : ℕ → ℕ → ℕ
significand mass j = closest (mass * 2 ^ 23) (2 ^ j)
