-- `doubles_test::output::bits` is safe: a double that equals itself is no NaN.
use Rattle.doubles_spec.proofs.Patterns.{no_nan}
use Rattle.doubles_test.proofs.output.bits.Goals as goal

pub float_to_bits-result : goal.float_to_bits-result
float_to_bits-result c = no_nan c.args.x c.if-x.true
