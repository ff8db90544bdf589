-- `text::pieces::put_signed` meets its contract: the sign goes by the test and the digits are those of the size, as in the definition.
use mathlib.Core.Path.{◌∙◌}
use native.Mathlib.Omega.{arith}
use lib.ListN.{length-set}
use Rattle.text.proofs.TextLaws.{then, byte, below-zero, from_zero}
use Rattle.text.proofs.pieces.put_signed.Goals as goal

pub put_number-requires : goal.put_number-requires
put_number-requires c = simp length-set (omega arith)

pub shape_of-out-then-z-lt0 : goal.shape_of-out-then-z-lt0
shape_of-out-then-z-lt0 c = c.put_number.auto.out ∙ simp length-set

pub returns-then-z-lt0 : goal.returns-then-z-lt0
returns-then-z-lt0 c =
    let s = c.before.before.before.before.before.before.before in
    let a = s.args in
    let n = c.unsigned_abs-k in
    let p = then (omega (arith, s.requires)) (byte a.out.now a.at 45 (omega (arith, s.requires))) c.put_number.ensures.0 in
    (rw (← below-zero a.z n.result a.after s.ranges.z c.if-z-lt0.true n.ensures.value) p, omega arith)

pub returns : goal.returns
returns c =
    let s = c.before.before.before.before.before.before.before in
    let a = s.args in
    let n = c.unsigned_abs-k in
    (rw (← from_zero a.z n.result a.after s.ranges.z c.if-z-lt0.false n.ensures.value) c.put_number-2.ensures.0, omega arith)
