-- `turns::turn` meets its contract: the next one's step, or nothing.
use Rattle.std.proofs.Common.{sym}
use Rattle.family_spec.proofs.WaitingLaws.{next-number}
use Rattle.turns.proofs.turn.Goals as goal

pub served-requires : goal.served-requires
served-requires c = next-number c.args.family (sym c.in-Some.ensures)
