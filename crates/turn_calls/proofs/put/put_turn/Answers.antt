-- `turn_calls::put::put_turn` meets its contract: seven stores in a row are one written part.
use mathlib.Core.List.{◌∷◌}
use Rattle.numbers.proofs.PartLaws.{sets-written}
use Rattle.call_values.specs.Values.{result_words}
use Rattle.turn_calls.proofs.put.put_turn.Goals as goal

pub returns : goal.returns
returns c =
    let a = c.args in
    rw (c.from.ensures, c.from-2.ensures, c.from-3.ensures) (sets-written (a.member ∷ a.returned ∷ result_words a.repair a.book) a.answer.now 0 c.requires)
