-- `book::block::is_next` meets its contract: the three numbers fit 64 bits, and so does the sum.
use mathlib.Core.Path.{◌∙◌, subst}
use Prim.Native.Nat.{◌^◌, ◌<◌}
use lib.Signed.{mag}
use mir.Syntax.{w32}
use mir.ValLaws.{to_z-of_z}
use Rattle.book_spec.proofs.CodeLaws.{next_is}
use Rattle.book.proofs.block.is_next.Goals as goal

pub returns : goal.returns
returns c =
    let a = c.args in
    let w = c.word_signed in
    next_is a.before a.total _ _ _ _ c.ranges.before.fits c.ranges.total.fits (subst (λ z. mag z < 2 ^ 31) w.ensures w.type_inv) c.from.ensures c.from-2.ensures (c.from-3.ensures ∙ to_z-of_z w32 w.result (record { sfits = w.type_inv }) ∙ w.ensures)
