-- `call_values::values::put_result` meets its contract: five stores in a row are one written part.
use Rattle.numbers.proofs.PartLaws.{sets-written}
use Rattle.call_values.specs.Values.{result_words}
use Rattle.call_values.proofs.values.put_result.Goals as goal

pub returns : goal.returns
returns c = rw (c.from.ensures, c.from-2.ensures) (sets-written (result_words c.args.repair c.args.book) c.args.answer.now 0 c.requires)
