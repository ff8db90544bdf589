-- `reconstruct::verdict::verdict` meets its contract: the checks of values and that of the total count on those of lengths.
use mathlib.Core.Path.{sym}
use native.Mathlib.Omega.{arith}
use Rattle.qlt_spec.specs.Field.{lists_of}
use Rattle.field_checks.proofs.CodeLaws.{sized}
use Rattle.reconstruct.proofs.verdict.verdict.Goals as goal

pub check_values-requires : goal.check_values-requires
check_values-requires c = sized (lists_of c.args.field.now) _ _ (sym c.in_ok-check_shape.ensures)

pub check_reach-requires : goal.check_reach-requires
check_reach-requires c =
    let f = sized (lists_of c.args.field.now) _ _ (sym c.in_ok-check_shape.ensures) in
    (omega (arith, f.few, f.safe_lows), omega (arith, f.few, f.safe_highs))
