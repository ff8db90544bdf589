-- `family::open_member` meets its contract: an accepted opening is of one of the 8.
use Rattle.std.proofs.Common.{arith}
use Rattle.numbers.proofs.CheckLaws.{answered-accepted}
use Rattle.family_spec.proofs.MemberLaws.{open-number}
use Rattle.family.proofs.open_member.Goals as goal

pub with_total-requires : goal.with_total-requires
with_total-requires c = let a = c.args in omega (arith, open-number a.family a.member a.kept.now a.scale (answered-accepted _ _ _ c.in-Ok.ensures.answers).0)
