-- `cell_parts::parts::parts_by` meets its contract: the three differences fit 64 bits.
use mathlib.Core.Path.{◌≡◌, ◌∙◌, ap}
use native.Mathlib.Omega.{arith}
use lib.IntN.{ℤ, pos, ◌-ℤ◌}
use mir.Syntax.{w32, w64}
use mir.Val.{SFits, to_z, of_z}
use mir.ValLaws.{to_z-of_z}
use Rattle.numbers.proofs.SignedLaws.{sub-fits}
use Rattle.query_spec.specs.Parts.{parts_by}
use Rattle.query_spec.proofs.PartsLaws.{parts-path}
use Rattle.cell_parts.proofs.CellLaws.{correction-fits}
use Rattle.cell_parts.proofs.parts.parts_by.Goals as goal

-- a difference, as it stands in the result
as_is : {r : ℤ} (z : ℤ) → r ≡ z → SFits w64 z → to_z w64 (of_z w64 r) ≡ z
as_is z e f = ap (λ x. to_z w64 (of_z w64 x)) e ∙ to_z-of_z w64 z f

pub returns : goal.returns
unfolding parts_by
returns c =
    let a = c.args in
    let p = c.requires in
    parts-path _ _
    (as_is (pos a.clip -ℤ a.target) (c.minus-clipping.ensures ∙ ap (λ z. pos a.clip -ℤ z) (to_z-of_z w32 a.target c.ranges.target))
    (correction-fits a.clip a.target (omega (arith, p.0)) c.ranges.target.sfits))
    (as_is (pos a.first -ℤ pos a.clip) c.difference-first_share.ensures (sub-fits a.first a.clip (omega (arith, p.1)) (omega (arith, p.0))))
    (as_is (pos a.both -ℤ pos a.first) c.difference-second_share.ensures (sub-fits a.both a.first (omega (arith, p.2)) (omega (arith, p.1))))
