-- The operation Export in binary32 (02, ticket 5): its answer. Its checks are those of Export. Assumes nothing.
use Rattle.std.specs.Prelude.{Ok, ◌≡◌, ℕ, ◌^◌, Float}
use Rattle.std.specs.Float.{binary32}
use Rattle.numbers.specs.Checks.{Answered, answered}
use Rattle.doubles_spec.specs.Export.{export_verdict, export_value}
use Rattle.doubles_spec.specs.NearestValue.{NearestValue}

-- the binary32 nearest to mass / 2 ^ k, of two that are as near the even one
abbrev pub export_single : ℕ → ℕ → Float
export_single mass k = export_value binary32 mass k

-- the whole contract of the operation
pub record SingleContract (mass k : ℕ) (answer : Answered Float) : Type 0 where
  pub answers : answer ≡ answered (export_verdict mass k) (export_single mass k)
  pub nearest : (x : Float) → answer ≡ Ok x → NearestValue binary32 mass (2 ^ k) x
