-- `blocks::payload` meets its contract: the test is whether the file has the block, and the part cut is its payload, where it lies.
use Rattle.std.proofs.Common.{◌≡◌, false, refl, arith}
use Rattle.blocks.specs.Blocks.{has_block}
use Rattle.blocks.proofs.BlockLaws.{has_block-in, has_block-out, payload-none, payload-part}
use Rattle.blocks.proofs.payload.Goals as goal
use Rattle.blocks.proofs.payload.Goals.{else-number-gt0-via-then-number-gt0+else-number-length, else-number-gt0-via-else-number-gt0}

pub returns-then-number-length : goal.returns-then-number-length
returns-then-number-length c =
    let a = c.args in
    payload-part a.file.now a.number a.file.ref_ptr _ _ (has_block-in _ _ (omega arith) (omega arith)) refl refl

pub returns : goal.returns
returns c =
    let a = c.args in
    let out : has_block a.file.now a.number ≡ false = elim c.else-number-gt0.branch [
      | else-number-gt0-via-then-number-gt0+else-number-length w ↦ has_block-out _ _ (λ z h. omega arith)
      | else-number-gt0-via-else-number-gt0 w ↦ has_block-out _ _ (λ z h. omega arith)
    ] in
    payload-none a.file.now a.number a.file.ref_ptr _ out (omega arith)
