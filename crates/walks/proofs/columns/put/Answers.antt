-- `walks::columns::put` meets its contract: one number is set where the column stands, with the value for its part, which is a store by the
-- law `stored`.
use mathlib.Core.Path.{◌∙◌, ap}
use Prim.Native.Nat.{◌+◌, ◌*◌, ◌^◌, ◌<◌}
use native.Mathlib.Omega.{arith}
use lib.IntN.{ℤ}
use lib.Signed.{mag}
use mir.Syntax.{w64}
use mir.ValLaws.{to_z-of_z}
use borrow.Author.Rules.{sfits_of}
use Rattle.numbers.specs.Lists.{at_ℤ}
use Rattle.numbers.proofs.SignedLaws.{read_back}
use Rattle.scratch_spec.specs.Columns.{number_of, width, with_part}
use Rattle.scratch_spec.proofs.ColumnLaws.{stored}
use Rattle.walks.proofs.columns.put.Goals as goal

pub returns : goal.returns
returns c =
    let a = c.args in
    let k = number_of a.column in
    let z : ℤ = at_ℤ a.s.now (width * a.u + c.offset.result) in
    let given : mag z < 2 ^ 63 = omega arith in
    rw (to_z-of_z w64 c.with_part.result (sfits_of c.with_part.type_inv) ∙ c.with_part.ensures ∙ ap (λ y. with_part k y a.v) (read_back z given), c.offset.ensures)
    (stored k a.u a.v a.s.now c.requires.0 c.requires.2 (rw c.offset.ensures at given))
