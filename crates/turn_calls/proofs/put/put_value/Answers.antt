-- `turn_calls::put::put_value` meets its contract: one store.
use mathlib.Core.List.{[], ◌∷◌}
use Rattle.numbers.proofs.PartLaws.{sets-written}
use Rattle.turn_calls.proofs.put.put_value.Goals as goal

pub returns : goal.returns
returns c = sets-written (c.args.value ∷ []) c.args.answer.now 0 c.requires
