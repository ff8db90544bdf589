-- `solve::load::change` meets its contract: the sum over the cells passed; 512 of them, each below 2 ^ 33, do not overflow.
use mathlib.Core.Path.{◌≡◌}
use Prim.Native.Nat.{◌*◌, ◌^◌, ◌≤◌}
use lib.IntN.{pos, nat_abs, ◌-ℤ◌}
use Rattle.numbers.specs.Sums.{ℕ_adds, sum_to}
use Rattle.numbers.specs.Lists.{at, at_ℤ}
use Rattle.solve.proofs.load.change.Given as goal

abbrev pub invariant-loop-c : goal.invariant-loop-c
invariant-loop-c l =
    record {
      small : l.sum ≤ l.c * 2 ^ 33;
      so_far : l.sum ≡ sum_to ℕ_adds l.c (λ i. nat_abs (pos (at l.masses i) -ℤ at_ℤ l.targets i));
    }
