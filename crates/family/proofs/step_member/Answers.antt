-- `family::step_member` meets its contract: an accepted step is of one of the 8.
use Rattle.std.proofs.Common.{arith}
use Rattle.qlt_spec.proofs.OperationLaws.{told-passed}
use Rattle.family_spec.proofs.MemberLaws.{step-number}
use Rattle.family.proofs.step_member.Goals as goal

pub with_total-requires : goal.with_total-requires
with_total-requires c =
    omega (arith, step-number c.args.family c.args.member _ (told-passed c.in-Ok.ensures.tells))
