-- `doubles::export_single` meets its contract: by the verdict, and `single` gives the value.
use Rattle.std.specs.Prelude.{Ok}
use mathlib.Core.Path.{sym, ◌∙◌}
use native.Mathlib.Omega.{arith}
use Rattle.numbers.proofs.CheckLaws.{accepted-answered}
use Rattle.doubles_spec.proofs.ExportLaws.{export-accepts}
use Rattle.doubles_spec.proofs.SingleLaws.{single-meets}
use Rattle.doubles.proofs.export_single.Goals as goal

pub single-requires : goal.single-requires
single-requires c =
    let a = c.args in
    let f = (export-accepts a.mass a.scale).0 (sym c.check_export.ensures ∙ c.in_ok-check_export.was) in
    record { mass_bound = omega (arith, f.small); scale_bound = f.scale }

pub returns : goal.returns
returns c =
    let a = c.args in
    single-meets a.mass a.scale (Ok c.single.result) (accepted-answered (sym c.check_export.ensures ∙ c.in_ok-check_export.was) c.single.ensures)
