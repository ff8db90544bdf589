-- `split::verdict::check_order` meets its contract: the verdict is that of the places from u on.
use mathlib.Core.Path.{◌≡◌}
use Prim.Native.Nat.{◌-◌}
use lib.ListN.{length}
use Rattle.numbers.specs.Checks.{first_from}
use Rattle.caas_spec.specs.Operation.{ordered_at}
use Rattle.split.proofs.verdict.check_order.Given as goal

abbrev pub invariant-loop-u : goal.invariant-loop-u
invariant-loop-u l = first_from (ordered_at l.lows l.highs) 5 0 (length l.lows) ≡ first_from (ordered_at l.lows l.highs) 5 l.u (length l.lows - l.u)
