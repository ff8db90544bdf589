-- `doubles::export` meets its contract: by the verdict, and the product with the power of two is the double.
use Rattle.std.specs.Prelude.{Ok}
use mathlib.Core.Path.{◌≡◌, sym, ◌∙◌}
use native.Mathlib.Omega.{arith}
use lib.Ieee.{binary64, mul}
use Rattle.numbers.proofs.CheckLaws.{accepted-answered}
use Rattle.doubles_spec.specs.Export.{export_double}
use Rattle.doubles_spec.proofs.Powers.{product_is}
use Rattle.doubles_spec.proofs.ExportLaws.{export-accepts, export-meets}
use Rattle.doubles.proofs.export.Goals as goal

pub power-requires : goal.power-requires
power-requires c = let a = c.args in ((export-accepts a.mass a.scale).0 (sym c.check_export.ensures ∙ c.in_ok-check_export.was)).scale

pub returns : goal.returns
returns c =
    let a = c.args in
    let x = mul binary64 c.before.from.result c.power.result in
    let e : x ≡ export_double a.mass a.scale = rw c.before.from.ensures (product_is a.scale a.mass c.power.result (omega arith) c.power.ensures) in
    export-meets a.mass a.scale (Ok x) (accepted-answered (sym c.check_export.ensures ∙ c.in_ok-check_export.was) e)
