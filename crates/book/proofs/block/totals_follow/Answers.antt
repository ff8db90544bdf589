-- `book::block::totals_follow` meets its contract: the records from i on decide.
use mathlib.Core.Path.{◌≡◌, sym, ◌∙◌}
use Prim.Native.Nat.{ℕ}
use native.Mathlib.Omega.{arith}
use Rattle.numbers.proofs.CheckLaws.{every-on, every_here, every-none}
use Rattle.blocks.specs.Words.{word_signed}
use Rattle.book_spec.specs.ReadBook.{is_next}
use Rattle.book.proofs.block.totals_follow.Goals as goal
use Rattle.book.proofs.block.totals_follow.Invariants.{good}

same : (x y z a b d : ℕ) → x ≡ a → y ≡ b → z ≡ d → is_next x (word_signed y) z ≡ is_next a (word_signed b) d
same x y z a b d p q r = rw (p, q, r)

pub returns-then-not-is_next : goal.returns-then-not-is_next
returns-then-not-is_next c =
    let a = c.args in
    let l = c.loop-i in
    sym (l.invariant ∙ every_here (good a.file.now a.number) l.i a.used (omega arith)
    (sym (c.is_next.ensures ∙ same _ _ _ _ _ _ c.payload_word-before.ensures c.payload_word-word.ensures c.payload_word-total.ensures) ∙ c.if-not-is_next.true))

pub loop-i-preserved : goal.loop-i-preserved
loop-i-preserved c =
    let a = c.args in
    let l = c.loop-i in
    l.invariant ∙ every-on (good a.file.now a.number) l.i a.used (omega arith)
    (sym (c.is_next.ensures ∙ same _ _ _ _ _ _ c.payload_word-before.ensures c.payload_word-word.ensures c.payload_word-total.ensures) ∙ c.if-not-is_next.false)

pub returns : goal.returns
returns c =
    let a = c.args in
    let l = c.loop-i in
    sym (l.invariant ∙ every-none (good a.file.now a.number) l.i a.used (omega arith))
