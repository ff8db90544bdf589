-- `field_checks::tree::mark_one` meets its contract: at most one mark is set, that of p.
use native.Mathlib.Omega.{arith}
use Rattle.numbers.specs.Lists.{at}
use Rattle.field_checks.proofs.CodeLaws.{no-mark, far-mark, one-mark}
use Rattle.field_checks.proofs.tree.mark_one.Goals as goal
use Rattle.field_checks.proofs.tree.mark_one.Goals.{else-p-u-via-then-p-u+else-p-seen, else-p-u-via-else-p-u}

pub returns-then-p-seen : goal.returns-then-p-seen
returns-then-p-seen c v l = one-mark c.args.seen.now c.args.u c.args.p v c.if-p-seen.true c.if-p-u.true

pub returns-else-p-u : goal.returns-else-p-u
returns-else-p-u c v l =
    elim c.else-p-u.branch [
      | else-p-u-via-then-p-u+else-p-seen w ↦ far-mark c.args.u c.args.p v (at c.args.seen.now v) (omega arith)
      | else-p-u-via-else-p-u w ↦ no-mark c.args.u c.args.p v (at c.args.seen.now v) w.if-p-u.false
    ]
