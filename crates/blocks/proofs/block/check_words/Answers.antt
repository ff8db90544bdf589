-- `blocks::block::check_words` meets its contract: both sums run over the words before the index, and wrap.
use Rattle.std.proofs.Common.{rules, ℕ, suc, ◌+◌, ◌%◌, ◌^◌, refl, ap, ◌∙◌, add-one, arith}
use Rattle.numbers.specs.Sums.{ℕ_adds, sum_to}
use Rattle.blocks.specs.Blocks.{word_of, first_check, second_check}
use Rattle.blocks.proofs.WordLaws.{wrap-next}
use Rattle.blocks.proofs.block.check_words.Goals as goal

pub loop-i-init : goal.loop-i-init
unfolding sum_to
loop-i-init c = (refl, refl)

pub loop-i-preserved : goal.loop-i-preserved
unfolding word_of
loop-i-preserved c =
    let l = c.loop-i in
    let w : ℕ → ℕ = word_of c.args.block.now in
    let x = c.word_at-first in
    let first = wrap-next w l.i l.first x.result l.invariant.0 (ap (λ n. n % 2 ^ 32) x.ensures) in
    let second = wrap-next (λ k. sum_to ℕ_adds (suc k) w) l.i l.second ((l.first + x.result) % 2 ^ 32) l.invariant.1 (omega (arith, first ∙ ap (λ n. sum_to ℕ_adds n w % 2 ^ 32) (add-one l.i))) in
    (first, second)

pub returns : goal.returns
unfolding first_check second_check
returns c = search rules
