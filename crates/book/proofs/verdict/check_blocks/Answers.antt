-- `book::verdict::check_blocks` meets its contract: the blocks from b on decide.
use Rattle.std.proofs.Common.{rules, Err}
use mathlib.Core.Path.{sym, ◌∙◌}
use Prim.Native.Nat.{◌+◌}
use mathlib.Core.Path.{◌≡◌}
use native.Mathlib.Omega.{arith}
use Rattle.numbers.proofs.CheckLaws.{each_on, each-here, each_none}
use Rattle.book_spec.specs.ReadBook.{check_book_block}
use Rattle.book.proofs.verdict.check_blocks.Goals as goal

pub returns-in_err-check_book_block : goal.returns-in_err-check_book_block
returns-in_err-check_book_block c =
    let a = c.args in
    let l = c.loop-b in
    let e : c.from_residual.result ≡ Err c.in_err-check_book_block.field-0.0 = search rules in
    e ∙ sym (l.invariant ∙ each-here (check_book_block a.file.now a.blocks) l.b _ (omega arith) (sym c.check_book_block.ensures ∙ c.in_err-check_book_block.was))

pub loop-b-preserved : goal.loop-b-preserved
loop-b-preserved c =
    let a = c.args in
    let l = c.loop-b in
    l.invariant ∙ each_on (check_book_block a.file.now a.blocks) l.b _ (omega arith) (sym c.check_book_block.ensures ∙ c.in_ok-check_book_block.was)

pub returns : goal.returns
returns c =
    let a = c.args in
    let l = c.loop-b in
    sym (l.invariant ∙ each_none (check_book_block a.file.now a.blocks) l.b _ (omega arith))

pub returns-in_ok-check_book_block : goal.returns-in_ok-check_book_block
returns-in_ok-check_book_block c =
    let a = c.args in
    let l = c.loop-b in
    let e : l.b ≡ a.blocks = omega arith in
    sym (l.invariant ∙ each_on (check_book_block a.file.now a.blocks) l.b _ (omega arith) (sym c.check_book_block.ensures ∙ c.in_ok-check_book_block.was) ∙ each_none (check_book_block a.file.now a.blocks) (l.b + 1) _ (omega arith))
