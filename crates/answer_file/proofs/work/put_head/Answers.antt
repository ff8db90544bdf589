-- `answer_file::work::put_head` meets its contract: the eight words of the head fill the first part of the buffer.
use mathlib.Core.Path.{◌≡◌, refl}
use mathlib.Core.List.{List, ◌++◌}
use Prim.Native.Nat.{ℕ}
use lib.ListN.{length, drop}
use Rattle.numbers.specs.Lists.{written}
use Rattle.blocks.proofs.BlockLaws.{length-block_bytes}
use Rattle.files_spec.specs.AnswerFile.{answer_head}
use Rattle.answer_file.proofs.work.put_head.Goals as goal

front : (d vs : List ℕ) → length vs ≡ 512 → vs ++ drop 512 d ≡ written d 0 vs
unfolding written
front d vs e = rw e refl

pub returns : goal.returns
returns c =
    let a = c.args in
    rw (c.fill_block.ensures, c.low_word.ensures, c.high_word.ensures, c.low_word-2.ensures, c.high_word-2.ensures)
    (front a.buffer.now _ (length-block_bytes 1 (answer_head a.n a.repair)))
