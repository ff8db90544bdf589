-- `walks::columns::get_above` meets its contract: the part of the number that is read where the column stands is the column.
use mathlib.Core.Path.{◌∙◌, ap}
use Prim.Native.Nat.{◌+◌, ◌*◌}
use native.Mathlib.Omega.{arith}
use Rattle.numbers.specs.Lists.{at_ℤ}
use Rattle.numbers.specs.Signed.{over}
use Rattle.numbers.proofs.SignedLaws.{read_back}
use Rattle.scratch_spec.specs.Columns.{number_of, width, part, col}
use Rattle.walks.proofs.columns.get_above.Goals as goal

pub returns : goal.returns
unfolding col
returns c =
    let a = c.args in
    let k = number_of a.column in (
      c.part_of.ensures.0
          ∙ ap (λ z. over (part k z)) (read_back (at_ℤ a.s.now (width * a.u + c.offset.result)) (omega arith))
          ∙ ap (λ i. over (part k (at_ℤ a.s.now (width * a.u + i)))) c.offset.ensures,
      c.part_of.ensures.1,
    )
