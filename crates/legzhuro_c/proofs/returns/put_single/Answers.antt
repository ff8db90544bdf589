-- `legzhuro_c::returns::put_single` meets its contract: one store is a written part.
use mathlib.Core.List.{[], ◌∷◌}
use Rattle.numbers.proofs.PartLaws.{sets-written}
use Rattle.legzhuro_c.proofs.returns.put_single.Goals as goal

pub returns : goal.returns
returns c = sets-written (c.args.x ∷ []) c.args.value.now 0 c.requires
