-- `call_values::values::put_balance` meets its contract: two stores in a row are one written part.
use Rattle.numbers.proofs.PartLaws.{sets-written}
use Rattle.call_values.specs.Values.{balance_words}
use Rattle.call_values.proofs.values.put_balance.Goals as goal

pub returns : goal.returns
returns c = rw (c.from.ensures, c.from-2.ensures) (sets-written (balance_words c.args.balance) c.args.answer.now 0 c.requires)
