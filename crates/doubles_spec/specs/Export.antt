-- The operation Export: its verdict and its answer. Assumes nothing.
use Rattle.std.specs.Prelude.{Ok, ◌≡◌, false, List, [], ◌∷◌, ℕ, ◌^◌, ◌≤◌, leb, Float}
use Rattle.std.specs.Float.{Format, binary64}
use Rattle.std.specs.Float.Ieee.{round}
use Rattle.std.specs.Float.Ieee.Exact.{HasValue}
use Rattle.numbers.specs.Checks.{Checked, Answered, answered, unless, first, Rule, rule, max_total, check_scale}

-- 11: the mass is at most 2147483647
unfoldable pub check_mass : ℕ → Checked
check_mass mass = unless (leb mass max_total) 11 0

abbrev pub export_checks : ℕ → ℕ → List Checked
export_checks mass k = check_scale k ∷ check_mass mass ∷ []

unfoldable pub export_verdict : ℕ → ℕ → Checked
export_verdict mass k = first (export_checks mass k)

-- what the checks mean
unfoldable pub export_rules : ℕ → ℕ → List Rule
export_rules mass k = rule 9 (k ≤ 30) ∷ rule 11 (mass ≤ max_total) ∷ []

pub record ExportFits (mass k : ℕ) : Type 0 where
  pub scale : k ≤ 30
  pub small : mass ≤ max_total

-- the value of a format that is nearest to mass / 2 ^ k, of two that are as near the even one
unfoldable pub export_value : Format → ℕ → ℕ → Float
export_value f mass k = round f false mass (2 ^ k)

-- the double; for a mass and a scale that are accepted it is exact
abbrev pub export_double : ℕ → ℕ → Float
export_double mass k = export_value binary64 mass k

-- x is mass * 2 ^ −k exactly, with the sign plus: of x = fin s m e, s is false and m * up e * 2 ^ k ≡ mass * down e
abbrev pub Exact : ℕ → ℕ → Float → Type 0
Exact mass k x = HasValue x false mass (2 ^ k)

-- the whole contract of the operation
pub record ExportContract (mass k : ℕ) (answer : Answered Float) : Type 0 where
  pub answers : answer ≡ answered (export_verdict mass k) (export_double mass k)
  pub exact : (x : Float) → answer ≡ Ok x → Exact mass k x
