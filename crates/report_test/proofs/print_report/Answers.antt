-- `report_test::print_report` is safe: the text fits in the buffer.
use Rattle.text.proofs.ReportsLaws.{text-fits}
use Rattle.report_test.proofs.print_report.Goals as goal

pub slice_bounds-write_all-end : goal.slice_bounds-write_all-end
slice_bounds-write_all-end c = (text-fits (rw c.in-Ok.is at c.report.ensures)).0

pub slice_bounds-write_all-end-in-Ok : goal.slice_bounds-write_all-end-in-Ok
slice_bounds-write_all-end-in-Ok c = (text-fits (rw c.in-Ok.is at c.report.ensures)).1
