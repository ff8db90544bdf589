-- `kept_checks::totals::new_total` meets its contract: a total that has passed 13 is not below 0, so its size is itself.
use mathlib.Core.Path.{◌≡◌, sym, ◌∙◌, ap}
use native.Mathlib.Omega.{arith}
use lib.IntN.{pos, nat_abs, ◌+ℤ◌}
use mir.Syntax.{w64}
use mir.Val.{to_z, of_z}
use Rattle.numbers.specs.Signed.{over}
use Rattle.numbers.specs.Checks.{check_total}
use Rattle.numbers.proofs.SignedLaws.{signed, about, le_parts}
use Rattle.numbers.proofs.CheckLaws.{total-decides, accepted-answered}
use Rattle.kept_checks.proofs.TotalLaws.{next-read}
use Rattle.kept_checks.proofs.totals.new_total.Goals as goal

pub overflow_cast-result : goal.overflow_cast-result
overflow_cast-result c =
    let z = to_z w64 (of_z w64 c.add_source-next.result) in
    let p = (total-decides z).passes.0 (sym c.in_ok-check_total.ensures) in
    omega (signed, about z, le_parts p.0, le_parts p.1)

pub returns : goal.returns
returns c =
    let z = to_z w64 (of_z w64 c.add_source-next.result) in
    let e : z ≡ pos c.args.total +ℤ c.args.source = next-read c.args.total c.args.source _ (omega arith) c.ranges.source c.add_source-next.ensures in
    let size : nat_abs z ≡ over z = omega (signed, about z, le_parts ((total-decides z).passes.0 (sym c.in_ok-check_total.ensures)).0) in
    accepted-answered (ap check_total (sym e) ∙ sym c.in_ok-check_total.ensures) (size ∙ ap over e)
