-- `legzhuro_c::returns::put_deficit` meets its contract: one store is a written part.
use mathlib.Core.Path.{◌∙◌, ap}
use mathlib.Core.List.{[], ◌∷◌}
use lib.IntN.{ℤ}
use mir.Syntax.{w64}
use mir.Val.{to_z, of_z}
use mir.ValLaws.{to_z-of_z}
use Rattle.numbers.specs.Lists.{written}
use Rattle.numbers.proofs.PartLaws.{sets-written}
use Rattle.legzhuro_c.proofs.returns.put_deficit.Goals as goal

pub returns : goal.returns
returns c =
    let a = c.args in
    sets-written (to_z w64 (of_z w64 a.d) ∷ []) a.deficit.now 0 c.requires ∙ ap (λ (z : ℤ). written a.deficit.now 0 (z ∷ [])) (to_z-of_z w64 a.d c.ranges.d)
