-- Laws of the new total: that it fits a machine number. Assumes nothing.
use mathlib.Core.Path.{◌≡◌, ◌∙◌, ap}
use Prim.Native.Nat.{ℕ, ◌^◌, ◌<◌}
use lib.IntN.{ℤ, pos, ◌+ℤ◌}
use mir.Syntax.{w32, w64}
use mir.Val.{SFits, to_z, of_z}
use mir.ValLaws.{to_z-of_z}
use Rattle.numbers.proofs.SignedLaws.{signed, about, add_parts}

pub next_fits : (t : ℕ) (z : ℤ) → t < 2 ^ 32 → SFits w32 z → SFits w64 (pos t +ℤ z)
next_fits t z h f = omega (signed, add_parts (pos t) z, about z, about (pos t +ℤ z), f.sfits)

-- and is read back as it was added up
pub next-read : (t : ℕ) (z r : ℤ) → t < 2 ^ 32 → SFits w32 z → r ≡ pos t +ℤ to_z w32 (of_z w32 z) → to_z w64 (of_z w64 r) ≡ pos t +ℤ z
next-read t z r h f e =
    ap (λ (x : ℤ). to_z w64 (of_z w64 x)) (e ∙ ap (λ (x : ℤ). pos t +ℤ x) (to_z-of_z w32 z f)) ∙ to_z-of_z w64 (pos t +ℤ z) (next_fits t z h f)
