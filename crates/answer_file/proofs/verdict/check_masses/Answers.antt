-- `answer_file::verdict::check_masses` meets its contract: the sum of the part that holds the first n masses is compared with the total.
use mathlib.Core.Path.{◌∙◌, ap₂}
use lib.Dec.{eqb}
use Rattle.numbers.specs.Checks.{unless}
use Rattle.files_spec.specs.WriteAnswer.{check_masses}
use Rattle.files_spec.proofs.WriteLaws.{sum-part}
use Rattle.answer_file.proofs.verdict.check_masses.Goals as goal

pub returns : goal.returns
unfolding check_masses
returns c =
    let a = c.args in
    c.unless.ensures ∙ ap₂ (λ x y. unless (eqb x y) 12 0) (c.sum_of.ensures.0 ∙ sum-part a.n a.masses.now c.requires.1) c.from.ensures
