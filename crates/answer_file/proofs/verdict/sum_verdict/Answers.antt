-- `answer_file::verdict::sum_verdict` meets its contract: the sum of the words that hold the masses is compared with the total.
use mathlib.Core.Path.{sym, ap, ap₂, ◌∙◌}
use lib.Dec.{eqb}
use Rattle.numbers.specs.Sums.{ℕ_adds, sum_to}
use Rattle.numbers.specs.Checks.{unless}
use Rattle.files_spec.specs.AnswerFile.{mass_word}
use Rattle.files_spec.specs.WriteAnswer.{check_masses}
use Rattle.files_spec.specs.ReadAnswer.{answer_sum_verdict}
use Rattle.files_spec.proofs.ReadAnswerLaws.{masses-at}
use Rattle.answer_file.proofs.verdict.sum_verdict.Goals as goal

pub returns : goal.returns
unfolding answer_sum_verdict check_masses
returns c =
    let file = c.args.file.now in
    c.unless.ensures
    ∙ ap₂ (λ x y. unless (eqb x y) 12 0)
    (c.sum_column-sum.ensures.0 ∙ ap (λ k. sum_to ℕ_adds k (mass_word file)) c.payload_word.ensures ∙ sym (masses-at file))
    (c.from.ensures ∙ c.payload_word-2.ensures)
