-- `legzhuro_c::returns::put_units` meets its contract: five stores in a row are one written part.
use mathlib.Core.Path.{◌≡◌, ◌∙◌, ap}
use mathlib.Core.List.{List, [], ◌∷◌}
use Prim.Native.Nat.{ℕ, ◌<◌, ◌^◌}
use native.Mathlib.Omega.{arith}
use lib.IntN.{ℤ, pos}
use mir.Syntax.{w32, w64}
use mir.Val.{SFits, to_z, of_z}
use mir.ValLaws.{to_z-of_z}
use Rattle.numbers.specs.Lists.{written}
use Rattle.numbers.proofs.SignedLaws.{widened}
use Rattle.numbers.proofs.PartLaws.{sets-written}
use Rattle.doubles_spec.specs.declared.CellUnits.{CellUnits}
use Rattle.legzhuro_c.specs.Calls.{units_list}
use Rattle.legzhuro_c.proofs.returns.put_units.Goals as goal

-- the five units, as they are stored
abbrev put : ℤ → ℤ
put z = to_z w64 (of_z w64 z)

abbrev stored : CellUnits → List ℤ
stored u = put (to_z w32 (of_z w32 u.target)) ∷ put (pos u.low) ∷ put (pos u.high) ∷ put (pos u.safe_low) ∷ put (pos u.safe_high) ∷ []

bound-is : (n : ℕ) → n < 2 ^ 32 → put (pos n) ≡ pos n
bound-is n h = to_z-of_z w64 (pos n) (record { sfits = omega arith })

stored_is : (u : CellUnits) → SFits w32 u.target → u.low < 2 ^ 32 → u.high < 2 ^ 32 → u.safe_low < 2 ^ 32 → u.safe_high < 2 ^ 32 → stored u ≡ units_list u
stored_is u t l h sl sh = rw (widened u.target t.sfits, bound-is u.low l, bound-is u.high h, bound-is u.safe_low sl, bound-is u.safe_high sh)

pub returns : goal.returns
returns c =
    let u = c.args.cell in
    rw (c.from.ensures, c.from-2.ensures, c.from-3.ensures, c.from-4.ensures, c.from-5.ensures)
    (sets-written (stored u) c.args.units.now 0 c.requires
    ∙ ap (written c.args.units.now 0) (stored_is u (record { sfits = omega arith }) (omega arith) (omega arith) (omega arith) (omega arith)))
