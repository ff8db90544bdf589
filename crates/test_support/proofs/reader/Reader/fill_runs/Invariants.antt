-- What is left is behind what was left, in the same case.
use Rattle.std.proofs.Common.{◌≡◌}
use Rattle.test_support.specs.Reader.{Behind}
use Rattle.test_support.proofs.reader.Reader.fill_runs.Given as goal

abbrev pub invariant-loop-x : goal.invariant-loop-x
invariant-loop-x g l = record {
  behind : Behind l.fn.self.rest.now l.self.rest.now;
  same_case : l.self.at_case ≡ l.fn.self.at_case;
}
