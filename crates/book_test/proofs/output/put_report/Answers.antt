-- `book_test::output::put_report` keeps to its contract: the text fits in the list.
use Rattle.text.proofs.ReportsLaws.{text-fits}
use Rattle.book_test.proofs.output.put_report.Goals as goal

pub returns-in-Ok : goal.returns-in-Ok
returns-in-Ok c = text-fits (rw c.in-Ok.is at c.report_book.ensures)
