-- `doubles_test::input::double` is safe: a pattern that is at most the infinity's, with the sign taken off, is no NaN's.
use native.Mathlib.Omega.{arith}
use lib.Ieee.{binary64}
use Rattle.doubles_spec.proofs.Patterns.{pattern-no-nan}
use Rattle.doubles_test.proofs.input.double.Goals as goal

pub float_from_bits-result : goal.float_from_bits-result
float_from_bits-result c = pattern-no-nan binary64 c.unsigned-bits.result (omega arith)
