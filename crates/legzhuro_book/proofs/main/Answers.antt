-- `legzhuro_book::main` keeps to the bounds of its lists: the text that it prints fits into the list that it is in.
use Rattle.text.proofs.ReportsLaws.{text-fits}
use Rattle.legzhuro_book.proofs.main.Goals as goal

pub slice_bounds-out-end : goal.slice_bounds-out-end
slice_bounds-out-end c = (text-fits (rw c.in-Ok.is at c.report_book.ensures)).0

pub slice_bounds-write_all-end : goal.slice_bounds-write_all-end
slice_bounds-write_all-end c = (text-fits (rw c.in-Ok.is at c.report_book.ensures)).1
