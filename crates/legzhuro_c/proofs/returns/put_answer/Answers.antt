-- `legzhuro_c::returns::put_answer` meets its contract: five stores in a row are one written part.
use Rattle.numbers.proofs.PartLaws.{sets-written}
use Rattle.legzhuro_c.specs.FileCalls.{repaired_words}
use Rattle.legzhuro_c.proofs.returns.put_answer.Goals as goal

pub returns : goal.returns
returns c = rw (c.from.ensures, c.from-2.ensures) (sets-written (repaired_words c.args.repaired) c.args.answer.now 0 c.requires)
