-- `book::report::count_of` meets its contract: 41 records in each block but the last, whose own number stands in it.
use mathlib.Core.Path.{sym, ◌∙◌, ap}
use Prim.Native.Nat.{◌+◌, ◌*◌, ◌-◌, ◌/◌}
use native.Mathlib.Omega.{arith}
use lib.ListN.{length}
use Rattle.blocks.specs.Words.{Bytes}
use Rattle.book_spec.proofs.MeansLaws.{read_count}
use Rattle.book.proofs.report.count_of.Goals as goal

pub returns : goal.returns
returns c =
    let file = c.args.file.now in
    let k = length file / 512 in
    let y : Bytes file = λ i. (c.type_inv.file i).fits in
    let e = ap (λ u. 41 * (k - 1) + u) c.payload_word.ensures in
    let most = (c.requires.blocks k c.requires.some (omega arith)).counted.most in (
      e ∙ sym (read_count file y c.requires),
      omega (arith, e, most, c.requires.few),
      omega (arith, e, most, c.requires.some),
    )
