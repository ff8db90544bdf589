-- `book::block::outcomes_hold` meets its contract: the records from i on decide.
use mathlib.Core.Path.{sym, ◌∙◌, subst}
use mathlib.Core.Bool.{Bool}
use Prim.Native.Nat.{ℕ, ◌+◌, ◌*◌, ◌≤◌, ◌<◌}
use native.Mathlib.Omega.{arith}
use borrow.Author.Tests.{le-leb, lt-leb}
use lib.Dec.{leb}
use Rattle.numbers.proofs.CheckLaws.{every-on, every_here, every-none}
use Rattle.blocks.specs.Blocks.{payload_word}
use Rattle.book.proofs.block.outcomes_hold.Goals as goal

pub returns-then-payload_word-gt2 : goal.returns-then-payload_word-gt2
returns-then-payload_word-gt2 c =
    let a = c.args in
    let l = c.loop-i in
    let good : ℕ → Bool = λ j. leb (payload_word a.file.now a.number (3 * j + 2)) 2 in
    sym (l.invariant ∙ every_here good l.i a.used (omega arith) (lt-leb _ _ (subst (λ x. 2 < x) c.payload_word.ensures c.if-payload_word-gt2.true)))

pub loop-i-preserved : goal.loop-i-preserved
loop-i-preserved c =
    let a = c.args in
    let l = c.loop-i in
    let good : ℕ → Bool = λ j. leb (payload_word a.file.now a.number (3 * j + 2)) 2 in
    l.invariant ∙ every-on good l.i a.used (omega arith) (le-leb _ _ (subst (λ x. x ≤ 2) c.payload_word.ensures c.if-payload_word-gt2.false))

pub returns : goal.returns
returns c =
    let a = c.args in
    let l = c.loop-i in
    let good : ℕ → Bool = λ j. leb (payload_word a.file.now a.number (3 * j + 2)) 2 in
    sym (l.invariant ∙ every-none good l.i a.used (omega arith))
