-- `doubles::power::power` meets its contract: the bits are the exponent's field 1023 - k and no digits, which stand for 2 ^ -k.
use Rattle.doubles_spec.proofs.Powers.{power-no-nan, power-value}
use Rattle.doubles.proofs.power.power.Goals as goal

pub float_from_bits-result : goal.float_from_bits-result
float_from_bits-result c = power-no-nan c.from.result

pub returns : goal.returns
returns c = rw c.from.ensures (power-value c.args.k c.requires)
