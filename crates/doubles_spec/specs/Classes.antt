-- The five classes of IEEE 754 (its section 3.4), in the order of 02, ticket 4: of a double by its value and by its bit pattern; and what a
-- subnormal gives. Assumes nothing.
use Rattle.std.specs.Prelude.{Ok, Err, ◌≡◌, Bool, false, not, ◌&&◌, ◌||◌, cond, ℕ, ◌*◌, ◌/◌, ◌%◌, ◌^◌, ◌≤◌, ◌<◌, ℤ, pos, eqb, Float}
use Rattle.std.specs.Float.{nan, inf, fin}
use Rattle.std.specs.Float.Ieee.{up, down}
use Rattle.numbers.specs.Checks.{Answered, refused}
use Rattle.doubles_spec.specs.OneField.{Gives, Refuses}
use Rattle.doubles_spec.specs.declared.CellDoubles.{CellDoubles}
use Rattle.doubles_spec.specs.declared.Class.{Class}
use Rattle.doubles_spec.specs.declared.Class.TheVariants.{Zero, Subnormal, Normal, Infinity, NotANumber}

-- ---- by the value

-- of a finite double, whose size is the fraction a / b: the smallest normal is 2 ^ -1022
abbrev pub SizeIn : Class → ℕ → ℕ → Type 0
SizeIn Zero a b = a ≡ 0
SizeIn Subnormal a b = (0 < a) × (a * 2 ^ 1022 < b)
SizeIn Normal a b = b ≤ a * 2 ^ 1022
SizeIn Infinity a b = ⊥
SizeIn NotANumber a b = ⊥

abbrev pub InClass : Class → Float → Type 0
InClass c (fin s m e) = SizeIn c (m * up e) (down e)
InClass c (inf s) = c ≡ Infinity
InClass c nan = c ≡ NotANumber

-- below zero, which minus zero is not
abbrev pub is_below_zero : Float → Bool
is_below_zero (fin s m e) = s && not (eqb m 0)
is_below_zero (inf s) = s
is_below_zero nan = false

-- ---- by the bit pattern

-- the exponent's field and the fraction's (IEEE 754: the biased exponent and the trailing significand field)
abbrev pub exponent_field : ℕ → ℕ
exponent_field bits = bits % 2 ^ 63 / 2 ^ 52

abbrev pub fraction_field : ℕ → ℕ
fraction_field bits = bits % 2 ^ 52

abbrev pub FieldsIn : Class → ℕ → ℕ → Type 0
FieldsIn Zero exponent fraction = (exponent ≡ 0) × (fraction ≡ 0)
FieldsIn Subnormal exponent fraction = (exponent ≡ 0) × (0 < fraction)
FieldsIn Normal exponent fraction = (0 < exponent) × (exponent < 2047)
FieldsIn Infinity exponent fraction = (exponent ≡ 2047) × (fraction ≡ 0)
FieldsIn NotANumber exponent fraction = (exponent ≡ 2047) × (0 < fraction)

abbrev pub PatternIn : Class → ℕ → Type 0
PatternIn c bits = FieldsIn c (exponent_field bits) (fraction_field bits)

-- ---- one class and no other
abbrev pub ExactlyOne : (Class → Type 0) → Type 0
ExactlyOne P = (c : Class) × (P c × ((d : Class) → P d → d ≡ c))

-- ---- what a subnormal gives in a field: 1 as either low if above zero, refusal 11 as either high if below, and otherwise 0
abbrev is_low : ℕ → Bool
is_low field = eqb field 1 || eqb field 3

abbrev is_high : ℕ → Bool
is_high field = eqb field 2 || eqb field 4

abbrev pub subnormal_answer : Bool → ℕ → Answered ℤ
subnormal_answer below field = cond (is_low field && not below) (Ok (pos 1)) (cond (is_high field && below) (refused 11 field) (Ok (pos 0)))

-- a cell gives this in a field, whatever the other four hold
abbrev pub FieldAnswers : CellDoubles → ℕ → ℕ → Answered ℤ → Type 0
FieldAnswers c k field (Ok units) = Gives c k field units
FieldAnswers c k field (Err r) = Refuses c k r.place r.number
