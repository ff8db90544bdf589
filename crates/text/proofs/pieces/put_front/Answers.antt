-- `text::pieces::put_front` meets its contract: the contract goes by the verdict, and a list that has the room has the text put into it.
use Rattle.std.specs.Prelude.{Ok}
use mathlib.Core.Path.{◌≡◌, sym, ◌∙◌}
use native.Mathlib.Omega.{arith}
use Rattle.text.specs.Reports.{report_verdict}
use Rattle.text.proofs.ReportsLaws.{report-decides, report-written}
use Rattle.text.proofs.pieces.put_front.Goals as goal

pub put_bytes-requires : goal.put_bytes-requires
put_bytes-requires c =
    let passed : report_verdict c.args.room c.args.out.now ≡ (Ok tt) = sym c.check_long.ensures ∙ c.in_ok-check_long.was in
    omega (arith, c.requires, (report-decides c.args.room c.args.out.now).passes.0 passed)

pub returns : goal.returns
returns c = report-written (sym c.check_long.ensures ∙ c.in_ok-check_long.was) c.requires c.put_bytes.ensures
