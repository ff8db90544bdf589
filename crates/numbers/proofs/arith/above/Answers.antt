-- `numbers::arith::above` meets its contract: the test says which part is 0.
use mir.Val.{to_z, of_z}
use mir.Syntax.{w64}
use Rattle.numbers.proofs.SignedLaws.{signed, about, plain, one-part}
use Rattle.numbers.proofs.arith.above.Goals as goal

pub overflow_cast-result : goal.overflow_cast-result
overflow_cast-result c =
    let x = c.args.x in
    let z = to_z w64 (of_z w64 x) in
    omega (signed, about z, one-part z, plain c.ranges.x, about x)

pub returns-then-x-lt0 : goal.returns-then-x-lt0
returns-then-x-lt0 c = omega (signed, one-part c.args.x, plain c.ranges.x)

pub returns-else-x-lt0 : goal.returns-else-x-lt0
returns-else-x-lt0 c =
    let x = c.args.x in
    omega (signed, about (to_z w64 (of_z w64 x)), one-part x, plain c.ranges.x)
