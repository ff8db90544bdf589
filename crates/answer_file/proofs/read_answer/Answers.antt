-- `answer_file::read_answer` meets its contract: past a head that passes, the later blocks and the masses are read by its sizes.
use mathlib.Core.Path.{◌≡◌, sym, ◌∙◌}
use mathlib.Core.List.{List}
use Prim.Native.Nat.{ℕ}
use native.Mathlib.Omega.{arith}
use Rattle.std.proofs.Common.{Ok}
use Rattle.numbers.specs.Checks.{Checked}
use Rattle.files_spec.specs.ReadAnswer.{answer_head_verdict, AnswerHeadFits}
use Rattle.files_spec.proofs.ReadAnswerLaws.{answer-head-accepts, answer-head-measured}
use Rattle.answer_file.proofs.read_answer.Goals as goal

-- past a head that passes
fits : (file : List ℕ) (n : ℕ) {v : Checked} → v ≡ answer_head_verdict file n → v ≡ Ok tt → AnswerHeadFits file n
fits file n e p = (answer-head-accepts file n).0 (sym e ∙ p)

pub later_verdict-requires : goal.later_verdict-requires
later_verdict-requires c = answer-head-measured _ _ (fits _ _ c.head_verdict.ensures c.in_ok-head_verdict.was)

pub sum_verdict-requires : goal.sum_verdict-requires
sum_verdict-requires c = answer-head-measured _ _ (fits _ _ c.head_verdict.ensures c.in_ok-head_verdict.was)

pub read_masses-requires : goal.read_masses-requires
read_masses-requires c = let f = fits _ _ c.head_verdict.ensures c.in_ok-head_verdict.was in (answer-head-measured _ _ f, f.room_for)

pub told-requires : goal.told-requires
told-requires c = omega (arith, (fits _ _ c.head_verdict.ensures c.in_ok-head_verdict.was).whole)
