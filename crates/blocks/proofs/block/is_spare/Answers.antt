-- `blocks::block::is_spare` meets its contract: the words from `used` on are 0 exactly if those from k on are.
use Rattle.std.proofs.Common.{ℕ, Bool, eqb, sym, ◌∙◌, arith, eq-eqb, ne_eqb}
use Rattle.numbers.proofs.CheckLaws.{every-on, every_here, every-none}
use Rattle.blocks.specs.Blocks.{payload_word}
use Rattle.blocks.proofs.block.is_spare.Goals as goal

pub returns-then-payload_word-ne0 : goal.returns-then-payload_word-ne0
returns-then-payload_word-ne0 c =
    let a = c.args in
    let l = c.loop-k in
    let good : ℕ → Bool = λ j. eqb (payload_word a.file.now a.number j) 0 in
    sym (l.invariant ∙ every_here good l.k 125 (omega arith) (ne_eqb _ _ (λ e. c.if-payload_word-ne0.true (c.payload_word.ensures ∙ e))))

pub loop-k-preserved : goal.loop-k-preserved
loop-k-preserved c =
    let a = c.args in
    let l = c.loop-k in
    let good : ℕ → Bool = λ j. eqb (payload_word a.file.now a.number j) 0 in
    l.invariant ∙ every-on good l.k 125 (omega arith) (eq-eqb _ _ (sym c.payload_word.ensures ∙ c.if-payload_word-ne0.false))

pub returns : goal.returns
returns c =
    let a = c.args in
    let l = c.loop-k in
    let good : ℕ → Bool = λ j. eqb (payload_word a.file.now a.number j) 0 in
    sym (l.invariant ∙ every-none good l.k 125 (omega arith))
