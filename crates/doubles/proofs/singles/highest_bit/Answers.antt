-- `doubles::singles::highest_bit` meets its contract: the leading zeros, the highest set bit and the bits below it make 32.
use native.Mathlib.Omega.{arith}
use Rattle.doubles_spec.proofs.SingleLaws.{highest-is}
use Rattle.doubles.proofs.singles.highest_bit.Goals as goal

pub overflow_sub-result : goal.overflow_sub-result
overflow_sub-result c = omega (arith, (highest-is c.args.mass (omega arith) (omega arith)).0)

pub returns : goal.returns
returns c = (highest-is c.args.mass (omega arith) (omega arith)).1
