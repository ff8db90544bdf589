-- `answer_file::verdict::later_verdict` meets its contract: the blocks of the masses.
use mathlib.Core.Path.{sym, ap, ◌∙◌}
use Rattle.block_tables.specs.Tables.{check_table, list_table}
use Rattle.files_spec.proofs.ReadAnswerLaws.{answer-later-table}
use Rattle.answer_file.proofs.verdict.later_verdict.Goals as goal

pub returns : goal.returns
returns c =
    let file = c.args.file.now in
    c.check_table.ensures ∙ ap (check_table list_table file 2) c.payload_word.ensures ∙ sym (answer-later-table file)
