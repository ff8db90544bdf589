-- `answer_file::work::put_answer` meets its contract: block 1, then the blocks of the masses.
use mathlib.Core.Path.{◌∙◌, ap}
use Prim.Native.Nat.{◌*◌, ◌-◌}
use Rattle.numbers.specs.Lists.{at, written}
use Rattle.block_tables.specs.Tables.{table_bytes, list_table}
use Rattle.files_spec.specs.AnswerFile.{mass_blocks}
use Rattle.files_spec.proofs.WriteLaws.{answer-written}
use Rattle.answer_file.proofs.work.put_answer.Goals as goal

pub returns : goal.returns
returns c =
    let a = c.args in
    c.put_list.ensures.buffer_after
    ∙ ap (λ x. written x (512 * (2 - 1)) (table_bytes list_table a.n (λ i j. at a.masses.now i) 2 (mass_blocks a.n))) c.put_head.ensures
    ∙ answer-written a.n a.repair a.masses.now a.buffer.now
