-- `turns::waiting::first_waiting` meets its contract: past k members the search is that of the 8 - k left.
use Rattle.std.proofs.Common.{◌≡◌, ◌+◌, ◌-◌}
use Rattle.family_spec.specs.Waiting.{first_waiting}
use Rattle.turns.proofs.waiting.first_waiting.Given as goal

abbrev pub invariant-loop-k : goal.invariant-loop-k
invariant-loop-k l = first_waiting l.byte l.from 8 ≡ first_waiting l.byte (l.from + l.k) (8 - l.k)
