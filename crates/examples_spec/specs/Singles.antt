-- Export in binary32 (02, ticket 5) at masses about 16777216 and at the ends, by the definitions that its contract cites. Assumes nothing.
use Rattle.std.specs.Prelude.{Ok, ◌≡◌, refl, List, [], ◌∷◌, map, ℕ, Float}
use Rattle.std.specs.Float.{binary32}
use Rattle.std.specs.Float.Ieee.{of_bits, round}
use Rattle.numbers.specs.Checks.{Answered, refused, answered, check_scale}
use Rattle.doubles_spec.specs.Export.{check_mass, export_verdict, export_value}
use Rattle.doubles_spec.specs.ExportSingle.{export_single}

-- a mass, a scale, and what is told
pub record Row : Type 0 where
  pub mass : ℕ
  pub scale : ℕ
  pub told : Answered Float

-- accepted, with the binary32 of a bit pattern
abbrev single : ℕ → ℕ → ℕ → Row
single mass scale bits = record { mass = mass; scale = scale; told = Ok (of_bits binary32 bits) }

abbrev no : ℕ → ℕ → ℕ → Row
no mass scale number = record { mass = mass; scale = scale; told = refused number 0 }

abbrev pub singles : List Row
singles =
    -- plus zero
    single 0 0 0
    ∷ single 0 30 0
    ∷ single 1 30 0x3080_0000
    -- the last one that is exact because it is below 16777216, and the next
    ∷ single 16777215 0 0x4b7f_ffff
    ∷ single 16777216 0 0x4b80_0000
    -- ties: the even one is below, above, above
    ∷ single 16777217 0 0x4b80_0000
    ∷ single 16777219 0 0x4b80_0002
    ∷ single 16777219 30 0x3c80_0002
    -- a tie that carries into the next exponent, and the mass before it
    ∷ single 2147483583 0 0x4eff_ffff
    ∷ single 2147483584 0 0x4f00_0000
    ∷ single 2147483647 30 0x4000_0000
    -- the scale comes first
    ∷ no 2147483648 30 11
    ∷ no 5 31 9
    ∷ no 2147483648 31 9
    ∷ []

pub singles_told : map (λ r. answered (export_verdict r.mass r.scale) (export_single r.mass r.scale)) singles ≡ map (λ r. r.told) singles
unfolding check_scale check_mass export_verdict export_value round of_bits
singles_told = refl
