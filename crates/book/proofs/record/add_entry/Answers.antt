-- `book::record::add_entry` meets its contract: with room in the last block its words and the record are written there; else a new block
-- opens with the closing total, and has the record alone.
use mathlib.Core.Path.{◌∙◌, ap}
use native.Mathlib.Omega.{arith}
use lib.ListN.{set, replicate}
use Rattle.book_spec.proofs.EntryLaws.{held-room, next-room, next-opens, last-blocks, next-blocks, entry-last, entry_next}
use Rattle.book.proofs.record.add_entry.Goals as goal

pub returns-then-used-lt41 : goal.returns-then-used-lt41
returns-then-used-lt41 c =
    let a = c.args in
    let r = c.requires.0 in (
      entry-last a.buffer.now a.blocks _ r a.word a.outcome a.total c.payload_word-used.result (omega arith)
          c.payload_word-used.ensures c.if-used-lt41.true c.load_words.ensures c.enter.ensures c.put_block.ensures,
      last-blocks a.buffer.now a.blocks _ r (omega (arith, c.payload_word-used.ensures, c.if-used-lt41.true)),
    )

pub put_block-requires-else-used-lt41 : goal.put_block-requires-else-used-lt41
put_block-requires-else-used-lt41 c =
    let a = c.args in
    let q = next-room a.buffer.now a.blocks _ c.requires.0 (λ l. absurd (omega (arith, l, c.if-used-lt41.false, c.payload_word-used.ensures))) c.requires.1 in
    let room = held-room a.buffer.now a.blocks _ c.requires.0 in
    (omega arith, omega (arith, q), omega (arith, room.1.0))

pub returns-else-used-lt41 : goal.returns-else-used-lt41
returns-else-used-lt41 c =
    let a = c.args in
    let r = c.requires.0 in
    let o = next-opens a.buffer.now a.blocks _ r (λ l. absurd (omega (arith, l, c.if-used-lt41.false, c.payload_word-used.ensures))) in (
      entry_next a.buffer.now a.blocks _ r a.word a.outcome a.total c.payload_word-used.result (omega arith)
          c.payload_word-used.ensures (λ l. omega (arith, l, c.if-used-lt41.false)) (ap (λ x. set (replicate 125 0) 0 x) (c.payload_word.ensures ∙ o))
          c.enter-else-used-lt41.ensures c.put_block-else-used-lt41.ensures,
      next-blocks a.buffer.now a.blocks _ r (λ l. absurd (omega (arith, l, c.if-used-lt41.false, c.payload_word-used.ensures))),
    )
