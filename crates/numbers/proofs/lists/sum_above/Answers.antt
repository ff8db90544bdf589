-- `numbers::lists::sum_above` meets its contract: a sum to the next index is one more summand, and an element fits 64 bits, so what is read is
-- the element.
use native.Mathlib.Omega.{arith}
use native.Mathlib.Numerals.{add-one}
use Rattle.numbers.specs.Sums.{ℕ_adds, sum_to}
use Rattle.numbers.specs.Lists.{at_ℤ}
use Rattle.numbers.specs.Signed.{over}
use Rattle.numbers.proofs.SumLaws.{sum_to-next}
use Rattle.numbers.proofs.SignedLaws.{read}
use Rattle.numbers.proofs.lists.sum_above.Goals as goal

pub loop-x-init : goal.loop-x-init
unfolding sum_to
loop-x-init c = omega arith

pub loop-x-preserved : goal.loop-x-preserved
loop-x-preserved c =
    let xs = c.args.xs.now in
    let i = c.loop-x.x-index in
    rw add-one (omega (arith, sum_to-next ℕ_adds i (λ j. over (at_ℤ xs j)), read (at_ℤ xs i) c.above-arg-1.given))
