-- `blocks::block::put_words` meets its contract: the words before the index are written, the rest is as it was.
use Rattle.std.proofs.Common.{◌≡◌, ◌*◌, ◌++◌, drop, arith, refl, ap, ◌∙◌}
use Rattle.numbers.specs.Lists.{written}
use Rattle.blocks.specs.Words.{word_bytes, words_bytes}
use Rattle.blocks.specs.Blocks.{head_word}
use Rattle.blocks.proofs.WordLaws.{put_next}
use Rattle.blocks.proofs.block.put_words.Goals as goal

pub loop-k-init : goal.loop-k-init
unfolding words_bytes
loop-k-init c = (refl, refl)

pub loop-k-preserved : goal.loop-k-preserved
loop-k-preserved c =
    let l = c.loop-k in
    let a = c.args in
    let x = c.head_word in
    let p = c.put_word in (
      p.ensures
          ∙ ap (λ d. written d (4 * l.k) (word_bytes x.result)) l.invariant.0
          ∙ put_next (head_word a.number a.payload.now) l.k x.result a.block.now x.ensures,
      p.auto.bytes ∙ l.invariant.1,
    )

pub returns : goal.returns
returns c =
    let l = c.loop-k in
    let a = c.args in
    let e : l.k ≡ 126 = omega arith in
    l.invariant.0 ∙ ap (λ n. words_bytes n (head_word a.number a.payload.now) ++ drop (4 * n) a.block.now) e
