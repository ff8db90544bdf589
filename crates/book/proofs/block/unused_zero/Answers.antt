-- `book::block::unused_zero` meets its contract: the words from j on decide.
use mathlib.Core.Path.{sym, ◌∙◌}
use mathlib.Core.Bool.{Bool}
use Prim.Native.Nat.{ℕ}
use native.Mathlib.Omega.{arith}
use borrow.Author.Tests.{eq-eqb, ne_eqb}
use lib.Dec.{eqb}
use Rattle.numbers.proofs.CheckLaws.{every-on, every_here, every-none}
use Rattle.blocks.specs.Blocks.{payload_word}
use Rattle.book.proofs.block.unused_zero.Goals as goal

pub returns-then-payload_word-ne0 : goal.returns-then-payload_word-ne0
returns-then-payload_word-ne0 c =
    let a = c.args in
    let l = c.loop-j in
    let good : ℕ → Bool = λ j. eqb (payload_word a.file.now a.number j) 0 in
    sym (l.invariant ∙ every_here good l.j 124 (omega arith) (ne_eqb _ _ (λ e. c.if-payload_word-ne0.true (c.payload_word.ensures ∙ e))))

pub loop-j-preserved : goal.loop-j-preserved
loop-j-preserved c =
    let a = c.args in
    let l = c.loop-j in
    let good : ℕ → Bool = λ j. eqb (payload_word a.file.now a.number j) 0 in
    l.invariant ∙ every-on good l.j 124 (omega arith) (eq-eqb _ _ (sym c.payload_word.ensures ∙ c.if-payload_word-ne0.false))

pub returns : goal.returns
returns c =
    let a = c.args in
    let l = c.loop-j in
    let good : ℕ → Bool = λ j. eqb (payload_word a.file.now a.number j) 0 in
    sym (l.invariant ∙ every-none good l.j 124 (omega arith))
