-- The value of a format that is nearest to a fraction, the even one if two are as near: among all finite values of the format. Assumes nothing.
use Rattle.std.specs.Prelude.{◌≡◌, false, ℕ, ◌*◌, ◌%◌, ◌≤◌, T, ℤ, pos, Float}
use Rattle.std.specs.Float.{nan, inf, fin, Format}
use Rattle.std.specs.Float.Ieee.{up, fits, to_bits}
use Rattle.std.specs.Float.Ieee.Positive.{den}
use Rattle.std.specs.Float.Ieee.Scale.{finite}
use Rattle.numbers.specs.Roundings.{signed, scaled_distance}

-- a finite value is the fraction numerator x / den x: ±m * 2 ^ e is ±m * up e / down e
abbrev pub numerator : Float → ℤ
numerator nan = pos 0
numerator (inf s) = pos 0
numerator (fin s m e) = signed s (m * up e)

-- den x * c times the distance between a finite x and a / c, for a c above 0
abbrev pub distance : ℕ → ℕ → Float → ℕ
distance a c x = scaled_distance (pos (a * den x)) c (numerator x)

-- finite, with the sign plus
abbrev pub PlusSign : Float → Type 0
PlusSign nan = ⊥
PlusSign (inf s) = ⊥
PlusSign (fin s m e) = s ≡ false

-- x is a finite value of the format f with the sign plus; no finite value of f is nearer to a / c; and if another one is as near, x is even:
-- the last bit of its significand, which is the last one of its pattern, is 0. Of the two distances each is multiplied by both denominators
-- and by c
pub record NearestValue (f : Format) (a c : ℕ) (x : Float) : Type 0 where
  pub held : T (fits f x)
  pub plus : PlusSign x
  pub nearest : (y : Float) → T (fits f y) → T (finite y) → distance a c x * den y ≤ distance a c y * den x
  pub even : (y : Float) → T (fits f y) → T (finite y) → (y ≡ x → ⊥) → distance a c y * den x ≡ distance a c x * den y → to_bits f x % 2 ≡ 0
