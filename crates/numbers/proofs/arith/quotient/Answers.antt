-- `numbers::arith::quotient` meets its contract: the guard answers 0 where b is 0, and else the machine divides.
use mathlib.Core.Path.{sym}
use borrow.Author.Rules.{rules}
use Rattle.numbers.specs.Quota.{quota}
use Rattle.numbers.proofs.QuotaLaws.{quota-none}
use Rattle.numbers.proofs.arith.quotient.Goals as goal

pub returns-then-b-eq0 : goal.returns-then-b-eq0
returns-then-b-eq0 c = rw c.if-b-eq0.true (sym (quota-none c.args.a))

pub returns : goal.returns
unfolding quota
returns c = search rules
