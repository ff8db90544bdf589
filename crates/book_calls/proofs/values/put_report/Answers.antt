-- `book_calls::values::put_report` meets its contract: four stores in a row are one written part.
use Rattle.numbers.proofs.PartLaws.{sets-written}
use Rattle.book_calls.specs.BookCalls.{report_words}
use Rattle.book_calls.proofs.values.put_report.Goals as goal

pub returns : goal.returns
returns c = rw (c.from.ensures, c.from-2.ensures) (sets-written (report_words c.args.report) c.args.answer.now 0 c.requires)
