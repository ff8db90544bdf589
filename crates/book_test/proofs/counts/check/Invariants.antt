-- `book_test::counts::check` is safe: the check number stays a remainder.
use Rattle.std.proofs.Common.{◌<◌}
use Rattle.book_test.proofs.counts.check.Given as goal

abbrev pub invariant-loop-byte : goal.invariant-loop-byte
invariant-loop-byte l = l.x < 1000000007
