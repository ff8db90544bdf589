-- `answer_file::verdict::head_verdict` meets its contract: a length that passes leaves a first block to read.
use mathlib.Core.Path.{sym, ◌∙◌}
use native.Mathlib.Omega.{arith}
use Rattle.blocks.proofs.FileLaws.{length-decides}
use Rattle.files_spec.specs.ReadAnswer.{max_answer_file}
use Rattle.answer_file.proofs.verdict.head_verdict.Goals as goal

pub head_block-requires : goal.head_block-requires
head_block-requires c = omega (arith, (length-decides max_answer_file _).passes.0 (sym c.check_file_length.ensures ∙ c.in_ok-check_file_length.was))

pub sizes_verdict-requires : goal.sizes_verdict-requires
sizes_verdict-requires c = omega (arith, (length-decides max_answer_file _).passes.0 (sym c.check_file_length.ensures ∙ c.in_ok-check_file_length.was))
