-- `book::record::load_words` meets its contract: the first i words are the block's.
use mathlib.Core.Path.{◌≡◌, sym, ◌∙◌, ap, ap₂}
use Prim.Native.Nat.{◌+◌}
use native.Mathlib.Omega.{arith}
use lib.ListN.{set, length-set}
use Rattle.numbers.specs.Lists.{list_to, written}
use Rattle.numbers.proofs.ListLaws.{written_none, written_next, written_all}
use Rattle.blocks.specs.Blocks.{payload_word}
use Rattle.book.proofs.record.load_words.Goals as goal

pub loop-i-init : goal.loop-i-init
loop-i-init c =
    let a = c.args in
    (c.requires.2, written_none a.words.now 0 (payload_word a.file.now a.number))

pub loop-i-preserved : goal.loop-i-preserved
loop-i-preserved c =
    let l = c.loop-i in
    let e : 0 + l.i ≡ l.i = omega arith in
    (simp length-set l.invariant.0, ap₂ (λ d x. set d l.i x) l.invariant.1 c.payload_word.ensures ∙ ap (λ x. set (written c.args.words.now 0 (list_to l.i (payload_word c.args.file.now c.args.number))) x ((payload_word c.args.file.now c.args.number) l.i)) (sym e) ∙ written_next c.args.words.now 0 (payload_word c.args.file.now c.args.number) l.i (omega (arith, c.requires.2)))

pub returns : goal.returns
returns c =
    let l = c.loop-i in
    let e : l.i ≡ 125 = omega arith in
    l.invariant.1 ∙ ap (λ x. written c.args.words.now 0 (list_to x (payload_word c.args.file.now c.args.number))) e ∙ written_all c.args.words.now (payload_word c.args.file.now c.args.number) 125 c.requires.2
