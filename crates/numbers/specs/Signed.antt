-- A signed number by its two natural parts: z is `over z` minus `under z`, and one of the two is 0. Assumes nothing.
use Rattle.std.specs.Prelude.{cond, ℕ, suc, ◌+◌, ◌-◌, ℤ, pos, negsuc}
use Rattle.std.specs.Int.Signed.{le_z}

-- the part above 0, and the part below
abbrev pub over : ℤ → ℕ
over (pos n) = n
over (negsuc n) = 0

abbrev pub under : ℤ → ℕ
under (pos n) = 0
under (negsuc n) = suc n

-- the smaller and the larger of two
unfoldable pub min_ℤ : ℤ → ℤ → ℤ
min_ℤ a b = cond (le_z a b) a b

unfoldable pub max_ℤ : ℤ → ℤ → ℤ
max_ℤ a b = cond (le_z a b) b a

-- how far two natural numbers are apart
abbrev pub gap : ℕ → ℕ → ℕ
gap a b = (a - b) + (b - a)
