-- The bounds of one cell from its air mass and mixing ratios (ticket 8 of 02). Assumes nothing.
use Rattle.std.specs.Prelude.{◌≡◌, ℕ, zero, suc, ◌*◌, ◌≤◌, ◌<◌, min, max}
use Rattle.numbers.specs.Roundings.{floor, ceiling}
use Rattle.bounds_spec.specs.declared.AirMass.{AirMass}
use Rattle.bounds_spec.specs.declared.TracerMass.{TracerMass}
use Rattle.bounds_spec.specs.declared.Ratio.{Ratio}
use Rattle.bounds_spec.specs.declared.FieldRatios.{FieldRatios}
use Rattle.bounds_spec.specs.declared.CellBounds.{CellBounds}

-- the parts that a ratio counts
abbrev pub parts : ℕ
parts = 1048576

-- numbers as what they stand for
abbrev pub air_of : ℕ → AirMass
air_of x = record { 0 = x }

abbrev pub mass_of : ℕ → TracerMass
mass_of x = record { 0 = x }

abbrev pub ratio_of : ℕ → Ratio
ratio_of x = record { 0 = x }

-- ---- one cell

-- 'low is air × ratio ÷ 1048576 rounded up, high the same rounded down'
unfoldable pub low_mass : AirMass → Ratio → TracerMass
low_mass air ratio = mass_of (ceiling (air.0 * ratio.0) parts)

unfoldable pub high_mass : AirMass → Ratio → TracerMass
high_mass air ratio = mass_of (floor (air.0 * ratio.0) parts)

-- 'safety bounds use the smallest low and largest high ratio of the field'
abbrev pub cell_bounds : AirMass → (low high : Ratio) → FieldRatios → CellBounds
cell_bounds air low high f =
    record { low = low_mass air low; high = high_mass air high; safe_low = low_mass air f.smallest_low; safe_high = high_mass air f.largest_high }

-- ---- the smallest and the largest of f 0, .., f (k − 1), for a k above 0

-- by what gives one of two numbers
unfoldable pub chosen : (ℕ → ℕ → ℕ) → (ℕ → ℕ) → ℕ → ℕ
chosen choose f zero = f 0
chosen choose f (suc k) = choose (chosen choose f k) (f k)

abbrev pub least_of : (ℕ → ℕ) → ℕ → ℕ
least_of = chosen min

abbrev pub most_of : (ℕ → ℕ) → ℕ → ℕ
most_of = chosen max

-- what they mean: x is one of the numbers, and comes before each of them
pub record Extreme (Before : ℕ → ℕ → Type 0) (f : ℕ → ℕ) (k x : ℕ) : Type 0 where
  pub place : ℕ
  pub inside : place < k
  pub one : f place ≡ x
  pub before : (i : ℕ) → i < k → Before x (f i)

abbrev pub Least : (ℕ → ℕ) → ℕ → ℕ → Type 0
Least = Extreme (λ x y. x ≤ y)

abbrev pub Most : (ℕ → ℕ) → ℕ → ℕ → Type 0
Most = Extreme (λ x y. y ≤ x)
