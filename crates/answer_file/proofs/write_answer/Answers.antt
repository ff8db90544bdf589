-- `answer_file::write_answer` meets its contract: a call that passes has few cells, and its file has room.
use mathlib.Core.Path.{sym, ◌∙◌}
use Rattle.files_spec.proofs.WriteLaws.{write-accepts}
use Rattle.answer_file.proofs.write_answer.Goals as goal

pub put_answer-requires : goal.put_answer-requires
put_answer-requires c = let f = (write-accepts _).0 (sym c.write_verdict.ensures ∙ c.in_ok-write_verdict.was) in (f.few, f.masses, f.space)

pub file_length-requires : goal.file_length-requires
file_length-requires c = ((write-accepts _).0 (sym c.write_verdict.ensures ∙ c.in_ok-write_verdict.was)).few
