-- `walks::columns::low_half` meets its contract: a mask of 32 ones leaves the low 32 bits, as the same number signed and unsigned.
use mathlib.Core.Path.{◌∙◌, ap}
use native.Mathlib.Omega.{arith}
use lib.Bits.{and_mask}
use mir.Syntax.{w64}
use mir.Val.{to_z, of_z}
use mir.ValLaws.{to_z_pos}
use Rattle.walks.proofs.columns.low_half.Goals as goal

pub returns : goal.returns
returns c = ap (to_z w64) (and_mask (of_z w64 c.args.z) 32) ∙ to_z_pos w64 _ (omega arith)
