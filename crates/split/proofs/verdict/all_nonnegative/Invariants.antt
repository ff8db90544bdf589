-- `split::verdict::all_nonnegative` meets its contract: the answer is that of the places from the index on.
use mathlib.Core.Path.{◌≡◌}
use Prim.Native.Nat.{◌-◌}
use lib.IntN.{pos}
use lib.Signed.{le_z}
use lib.ListN.{length}
use Rattle.numbers.specs.Lists.{at_ℤ}
use Rattle.numbers.specs.Checks.{every_from}
use Rattle.split.proofs.verdict.all_nonnegative.Given as goal

abbrev pub invariant-loop-x : goal.invariant-loop-x
invariant-loop-x l =
    every_from (λ w. le_z (pos 0) (at_ℤ l.xs w)) 0 (length l.xs) ≡ every_from (λ w. le_z (pos 0) (at_ℤ l.xs w)) l.x-index (length l.xs - l.x-index)
