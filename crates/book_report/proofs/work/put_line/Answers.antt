-- `book_report::work::put_line` meets its contract: four named numbers in order are the line.
use native.Mathlib.Omega.{arith}
use Rattle.text.proofs.TextLaws.{then}
use Rattle.book_report.specs.Report.{book_line}
use Rattle.book_report.proofs.work.put_line.Goals as goal

pub returns : goal.returns
unfolding book_line
returns c =
    let o = c.put_named-a.ensures in
    let p = c.put_named-b.ensures in
    let q = c.put_named-c.ensures in
    let r = c.put_named.ensures in
    (then (omega arith) (then (omega arith) (then (omega arith) (rw c.from.ensures at o.0) p.0) q.0) (rw c.from-2.ensures at r.0), omega (arith, o.1, p.1, q.1, r.1))
