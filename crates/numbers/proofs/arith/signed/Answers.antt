-- `numbers::arith::signed` meets its contract: a number below 2 ^ 63 has the same bits signed and unsigned.
use mir.Syntax.{w64}
use mir.ValLaws.{to_z_pos}
use Rattle.numbers.proofs.arith.signed.Goals as goal

pub returns : goal.returns
returns c = to_z_pos w64 c.args.x c.requires
