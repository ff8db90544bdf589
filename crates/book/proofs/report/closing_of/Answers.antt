-- `book::report::closing_of` meets its contract: the total after the last record of the last block.
use mathlib.Core.Path.{sym, ◌∙◌, ap}
use Prim.Native.Nat.{◌*◌, ◌/◌}
use lib.ListN.{length}
use Rattle.blocks.specs.Words.{Bytes}
use Rattle.blocks.specs.Blocks.{payload_word}
use Rattle.book_spec.proofs.MeansLaws.{read-closing}
use Rattle.book.proofs.report.closing_of.Goals as goal

pub returns : goal.returns
returns c =
    let file = c.args.file.now in
    let y : Bytes file = λ i. (c.type_inv.file i).fits in
    c.payload_word.ensures
    ∙ ap (λ u. payload_word file (length file / 512) (3 * u)) c.payload_word-used.ensures
    ∙ sym (read-closing file y c.requires)
