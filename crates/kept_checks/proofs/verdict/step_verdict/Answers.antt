-- `kept_checks::verdict::step_verdict` meets its contract: the checks of values, of the total and of the book count on those of lengths.
use mathlib.Core.Path.{sym}
use native.Mathlib.Omega.{arith}
use lib.ListN.{length}
use Rattle.numbers.proofs.CheckLaws.{long-decides}
use Rattle.qlt_spec.specs.Field.{lists_of}
use Rattle.qlt_spec.proofs.CheckLaws.{shape-fits}
use Rattle.field_checks.proofs.CodeLaws.{sized}
use Rattle.book_spec.specs.Book.{max_bytes}
use Rattle.kept_checks.proofs.verdict.step_verdict.Goals as goal

pub check_values-requires : goal.check_values-requires
check_values-requires c = sized (lists_of c.args.field.now) _ _ (sym c.in_ok-check_shape.ensures)

pub check_reach-requires : goal.check_reach-requires
check_reach-requires c =
    let f = sized (lists_of c.args.field.now) _ _ (sym c.in_ok-check_shape.ensures) in
    (omega (arith, f.few, f.safe_lows), omega (arith, f.few, f.safe_highs))

pub check_kept-requires : goal.check_kept-requires
check_kept-requires c =
    let f = (shape-fits (lists_of c.args.field.now) (length c.args.kept.now) (length c.args.scratch.now)).0 (sym c.in_ok-check_shape.ensures) in
    omega (arith, f.few, f.lengths.masses)

pub check_lent-requires : goal.check_lent-requires
check_lent-requires c = (long-decides (length c.args.book.now) max_bytes).passes.0 (sym c.in_ok-check_long.ensures)
