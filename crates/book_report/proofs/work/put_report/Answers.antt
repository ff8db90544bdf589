-- `book_report::work::put_report` meets its contract: a refused book has the line of its refusal, and any other that of its report.
use native.Mathlib.Omega.{arith}
use Rattle.book_report.proofs.ReportLaws.{text-refused, text-done}
use Rattle.book_report.proofs.work.put_report.Goals as goal

pub returns-in-Err : goal.returns-in-Err
returns-in-Err c =
    let p = c.put_refusal.ensures in
    (rw (text-refused (rw c.in-Err.is at c.read_book.ensures)) at p.0, omega (arith, p.1))

pub returns-in-Ok : goal.returns-in-Ok
returns-in-Ok c =
    let p = c.put_line.ensures in
    (rw (text-done (rw c.in-Ok.is at c.read_book.ensures)) at p.0, p.1)
