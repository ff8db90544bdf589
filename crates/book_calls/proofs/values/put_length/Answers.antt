-- `book_calls::values::put_length` meets its contract: one store is one written part.
use mathlib.Core.List.{[], ◌∷◌}
use Rattle.numbers.proofs.PartLaws.{sets-written}
use Rattle.book_calls.proofs.values.put_length.Goals as goal

pub returns : goal.returns
returns c = sets-written (c.args.bytes ∷ []) c.args.answer.now 0 c.requires
