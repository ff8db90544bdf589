-- `answer_file::verdict::write_verdict` meets its contract: 1 and 3, then 16 and 12, which count on them.
use mathlib.Core.Path.{sym, ◌∙◌}
use Rattle.numbers.proofs.CheckLaws.{count-decides}
use Rattle.files_spec.proofs.WriteLaws.{space-decides}
use Rattle.answer_file.proofs.verdict.write_verdict.Goals as goal

pub check_space-requires : goal.check_space-requires
check_space-requires c = ((count-decides _).passes.0 (sym c.check_count.ensures ∙ c.in_ok-check_count.was)).1

pub check_masses-requires : goal.check_masses-requires
check_masses-requires c = (
  ((count-decides _).passes.0 (sym c.check_count.ensures ∙ c.in_ok-check_count.was)).1,
  ((space-decides _ _ _).passes.0 (sym c.check_space.ensures ∙ c.in_ok-check_space.was)).1,
)
