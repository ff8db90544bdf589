-- `book::record::put_empty` meets its contract: 125 words, 0 but for the first, are the block of a book without records.
use mathlib.Core.Path.{sym, ◌∙◌, ap}
use Rattle.numbers.specs.Lists.{written}
use Rattle.book_spec.proofs.EntryLaws.{empty-bytes}
use Rattle.book.proofs.record.put_empty.Goals as goal

pub returns : goal.returns
returns c =
    let a = c.args in
    c.put_block.ensures ∙ ap (written a.buffer.now 0) (sym (empty-bytes a.total))
