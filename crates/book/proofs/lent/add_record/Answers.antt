-- `book::lent::add_record` meets its contract: the book's length is that of its blocks, and the source is read back from its word.
use mathlib.Core.Path.{◌≡◌, ◌∙◌, ap, ap₂}
use Prim.Native.Nat.{suc, ◌*◌, ◌/◌}
use native.Mathlib.Omega.{arith}
use mir.Syntax.{w32}
use mir.ValLaws.{to_z-of_z}
use Rattle.numbers.proofs.SignedLaws.{parts-le, about}
use Rattle.blocks.specs.Words.{word_signed, signed_word}
use Rattle.blocks.proofs.WordLaws.{signed_back}
use Rattle.book_spec.specs.Book.{entry, count, book_blocks}
use Rattle.book_spec.specs.LentBook.{held_in, grown_buffer}
use Rattle.book.proofs.lent.add_record.Goals as goal

pub returns : goal.returns
returns c =
    let a = c.args in
    let e : 512 * (a.told / 512) ≡ a.told = omega (arith, c.requires.0.size) in
    let back = (signed_back a.source (parts-le (omega (arith, c.ranges, about a.source))) (parts-le (omega (arith, c.ranges, about a.source)))).0 in
    let w : c.signed_word.result ≡ signed_word a.source = c.signed_word.ensures ∙ ap signed_word (to_z-of_z w32 a.source c.ranges.source) in (
      c.add_entry.ensures.0 ∙ ap₂ (λ l z. grown_buffer a.book.now l (entry z a.outcome a.total)) e (ap word_signed w ∙ back),
      ap (λ b. 512 * b) (c.add_entry.ensures.1 ∙ ap (λ l. book_blocks (suc (count (held_in a.book.now l)))) e),
    )
