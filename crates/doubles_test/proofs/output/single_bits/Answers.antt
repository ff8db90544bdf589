-- `doubles_test::output::single_bits` is safe: a binary32 that equals itself is no NaN.
use Rattle.doubles_spec.proofs.Patterns.{no_nan}
use Rattle.doubles_test.proofs.output.single_bits.Goals as goal

pub float_to_bits-result : goal.float_to_bits-result
float_to_bits-result c = no_nan c.args.x c.if-x.true
