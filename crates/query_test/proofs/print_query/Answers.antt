-- `query_test::print_query` is safe: the text fits in the buffer.
use Rattle.text.proofs.ReportsLaws.{text-fits}
use Rattle.query_test.proofs.print_query.Goals as goal

pub slice_bounds-write_all-end : goal.slice_bounds-write_all-end
slice_bounds-write_all-end c = (text-fits (rw c.in-Ok.is at c.query.ensures)).0

pub slice_bounds-write_all-end-in-Ok : goal.slice_bounds-write_all-end-in-Ok
slice_bounds-write_all-end-in-Ok c = (text-fits (rw c.in-Ok.is at c.query.ensures)).1
