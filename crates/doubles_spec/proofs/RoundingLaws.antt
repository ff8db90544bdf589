-- Every finite double times 2 ^ k is rounded as the roundings are called: the target to the nearest whole number, the even one if two are as
-- near, the lows up, the highs down. Assumes nothing.
use mathlib.Core.Bool.{Bool}
use Prim.Native.Nat.{ℕ, ◌*◌, ◌^◌}
use lib.IntN.{ℤ}
use lib.Ieee.{fin, up, down}
use lib.Ieee.Fits.{down_pos}
use Rattle.numbers.specs.Roundings.{signed, Down, Up, NearestEven}
use Rattle.numbers.proofs.RoundingLaws.{round-down, round-up, round-nearest}
use Rattle.doubles_spec.specs.Import.{target_units, low_units, high_units}

module _ (k : ℕ) (s : Bool) (m : ℕ) (e : ℤ) where
  pub target-rounds : NearestEven (signed s (m * up e * 2 ^ k)) (down e) (target_units k (fin s m e))
  target-rounds = round-nearest s (m * up e * 2 ^ k) (down e) (down_pos e)

  pub low-rounds : Up (signed s (m * up e * 2 ^ k)) (down e) (low_units k (fin s m e))
  low-rounds = round-up s (m * up e * 2 ^ k) (down e) (down_pos e)

  pub high-rounds : Down (signed s (m * up e * 2 ^ k)) (down e) (high_units k (fin s m e))
  high-rounds = round-down s (m * up e * 2 ^ k) (down e) (down_pos e)
