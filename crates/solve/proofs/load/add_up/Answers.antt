-- `solve::load::add_up` meets its contract: what is read back from the bits of both numbers and of their sum is the same numbers, as all
-- three fit 64 bits.
use mathlib.Core.Path.{sym, ◌∙◌, ap, subst}
use mir.Syntax.{w64}
use mir.Val.{SFits, to_z, of_z}
use mir.ValLaws.{to_z-of_z}
use borrow.Author.Rules.{sfits_of}
use Rattle.scratch_spec.specs.Columns.{number_of, Storable, Stored}
use Rattle.solve_spec.proofs.GatherLaws.{sum-read}
use Rattle.solve.proofs.load.add_up.Goals as goal

pub overflow_add-sum : goal.overflow_add-sum
overflow_add-sum c =
    let x = c.get_signed in
    let y = c.get_signed-2 in
    subst (SFits w64) (sym (sum-read x.result y.result (sfits_of x.type_inv) (sfits_of y.type_inv) x.ensures y.ensures)) c.requires.2

pub put_signed-requires : goal.put_signed-requires
put_signed-requires c =
    let x = c.get_signed in
    let y = c.get_signed-2 in (
      c.requires.0,
      subst (Storable (number_of c.args.column))
          (sym (ap (λ z. to_z w64 (of_z w64 z)) (sum-read x.result y.result (sfits_of x.type_inv) (sfits_of y.type_inv) x.ensures y.ensures) ∙ to_z-of_z w64 _ c.requires.2))
          c.requires.3,
    )

pub returns : goal.returns
returns c =
    let x = c.get_signed in
    let y = c.get_signed-2 in
    subst (λ z. Stored (number_of c.args.column) c.args.p z c.args.s.now c.put_signed.new.s)
    (ap (λ z. to_z w64 (of_z w64 z)) (sum-read x.result y.result (sfits_of x.type_inv) (sfits_of y.type_inv) x.ensures y.ensures)
    ∙ to_z-of_z w64 _ c.requires.2)
    c.put_signed.ensures
