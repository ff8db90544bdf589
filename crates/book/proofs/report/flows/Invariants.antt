-- `book::report::flows` meets its contract: the sums so far are those of the records passed, at most 2 ^ 31 for each of them.
use mathlib.Core.Path.{◌≡◌}
use mathlib.Core.List.{List}
use Prim.Native.Nat.{ℕ, ◌+◌, ◌*◌, ◌/◌, ◌%◌, ◌≤◌}
use lib.IntN.{ℤ}
use Rattle.numbers.specs.Sums.{ℕ_adds, sum_to}
use Rattle.numbers.specs.Signed.{over, under}
use Rattle.blocks.specs.Words.{word_signed}
use Rattle.blocks.specs.Blocks.{payload_word}
use Rattle.book.proofs.report.flows.Given as goal

-- the source of record i
abbrev pub source : List ℕ → ℕ → ℤ
source file i = word_signed (payload_word file (1 + i / 41) (3 * (i % 41) + 1))

abbrev pub invariant-loop-i : goal.invariant-loop-i
invariant-loop-i l =
    record {
      inflow : l.inflow ≡ sum_to ℕ_adds l.i (λ i. over (source l.file i));
      outflow : l.outflow ≡ sum_to ℕ_adds l.i (λ i. under (source l.file i));
      most : l.inflow ≤ l.i * 2147483648;
      most_out : l.outflow ≤ l.i * 2147483648;
    }
