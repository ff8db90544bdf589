-- `walks::columns::get_signed` meets its contract: what is read back from the bits of an element is the element; every column but Mass is
-- natural.
use mathlib.Core.Path.{sym, ◌∙◌, ap}
use Prim.Native.Nat.{◌*◌}
use native.Mathlib.Omega.{arith}
use lib.IntN.{pos}
use mir.Syntax.{w64}
use mir.ValLaws.{to_z-of_z}
use borrow.Author.Rules.{sfits_of}
use Rattle.numbers.specs.Lists.{at_ℤ}
use Rattle.numbers.proofs.SignedLaws.{read_back}
use Rattle.scratch_spec.specs.Columns.{number_of, width, col}
use Rattle.scratch_spec.proofs.ColumnLaws.{number-other, col-mass, col-natural}
use Rattle.walks.proofs.columns.get_signed.Goals as goal

pub returns-in-Mass : goal.returns-in-Mass
returns-in-Mass c =
    let a = c.args in
    read_back (at_ℤ a.s.now (width * a.u)) (omega arith) ∙ sym (ap (λ k. col (number_of k) a.s.now a.u) c.in-Mass.is ∙ col-mass a.s.now a.u)

pub returns-in_default : goal.returns-in_default
returns-in_default c =
    let a = c.args in
    to_z-of_z w64 c.signed.result (sfits_of c.signed.type_inv)
    ∙ c.signed.ensures
    ∙ ap pos c.get_above.ensures.0
    ∙ sym (col-natural (number_of a.column) a.s.now a.u (number-other a.column c.in_default.not-Mass))
