-- `report::report` meets its contract: the text that stands at the front of the local list is handed on.
use Rattle.text.proofs.ReportsLaws.{report-front}
use Rattle.report.proofs.report.Goals as goal

pub returns : goal.returns
returns c = report-front c.put_report-n.ensures.0 c.put_front.ensures
