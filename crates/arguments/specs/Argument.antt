-- A tool's number from its argument (02, ticket 6): decimal digits; one missing or otherwise written counts as too large. Assumes nothing.
use Rattle.std.specs.Prelude.{Bool, true, false, cond, ◌&&◌, List, [], ◌∷◌, ℕ, ◌<◌, min, leb, length}
use Rattle.text.specs.Text.{value_from, Digits}

-- larger than every number that a tool has a use for; a number from here on counts as this one
abbrev pub too_large : ℕ
too_large = 4294967295

abbrev pub is_digit : ℕ → Bool
is_digit d = leb 48 d && leb d 57

unfoldable pub all_digits : List ℕ → Bool
all_digits [] = true
all_digits (d ∷ ds) = is_digit d && all_digits ds

-- some digits and nothing else; a missing argument is the empty list
abbrev pub in_digits : List ℕ → Bool
in_digits [] = false
in_digits (d ∷ ds) = all_digits (d ∷ ds)

unfoldable pub argument : List ℕ → ℕ
argument ds = cond (in_digits ds) (min (value_from 0 ds) too_large) too_large

-- ---- the test in plain facts

pub record InDigits (ds : List ℕ) : Type 0 where
  pub some : 0 < length ds
  pub digits : Digits ds
