-- `blocks::block::check_words` meets its contract: both sums run over the words before the index, and wrap.
use Rattle.std.proofs.Common.{◌≡◌, suc, ◌%◌, ◌^◌}
use Rattle.numbers.specs.Sums.{ℕ_adds, sum_to}
use Rattle.blocks.specs.Blocks.{word_of}
use Rattle.blocks.proofs.block.check_words.Given as goal

abbrev pub invariant-loop-i : goal.invariant-loop-i
invariant-loop-i l =
    (l.first ≡ sum_to ℕ_adds l.i (word_of l.block) % 2 ^ 32) × (l.second ≡ sum_to ℕ_adds l.i (λ k. sum_to ℕ_adds (suc k) (word_of l.block)) % 2 ^ 32)
