-- `rounded_division::rounding::rest_by` meets its contract: its tests are those of `rest_by`.
use mathlib.Core.Path.{sym}
use Prim.Native.Nat.{Ordering}
use native.Mathlib.Omega.{arith}
use Rattle.doubles_spec.proofs.Fractions.{left-none, left-some}
use Rattle.rounded_division.proofs.rounding.rest_by.Goals as goal

pub returns-then-left-eq0 : goal.returns-then-left-eq0
returns-then-left-eq0 c = let a = c.args in sym (left-none a.left a.unit c.if-left-eq0.true)

pub returns-then-left-unit : goal.returns-then-left-unit
returns-then-left-unit c = let a = c.args in sym (left-some Ordering.lt a.left a.unit c.if-left-eq0.false c.if-left-unit.true)

pub returns-then-left-unit-2 : goal.returns-then-left-unit-2
returns-then-left-unit-2 c = let a = c.args in sym (left-some Ordering.eq a.left a.unit c.if-left-eq0.false c.if-left-unit-2.true)

pub returns : goal.returns
returns c =
    let a = c.args in
    sym (left-some Ordering.gt a.left a.unit c.if-left-eq0.false (omega (arith, c.if-left-unit-2.false, c.if-left-unit.false)))
