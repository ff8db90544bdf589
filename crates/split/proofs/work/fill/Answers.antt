-- `split::work::fill` meets its contract: the rows passed have their elements.
use mathlib.Core.Path.{◌≡◌, refl, sym, subst}
use native.Mathlib.Omega.{arith}
use lib.ListN.{length}
use mir.Syntax.{w64}
use mir.Val.{to_z, of_z}
use Rattle.numbers.specs.Lists.{at_ℤ}
use Rattle.numbers.proofs.SignedLaws.{read_back}
use Rattle.scratch_spec.specs.Columns.{number_of, Storable}
use Rattle.scratch_spec.proofs.ColumnLaws.{number-below, in_row, laid-start, laid_next}
use Rattle.split.proofs.work.fill.Goals as goal

pub loop-u-init : goal.loop-u-init
loop-u-init c = laid-start _ _ _ _ _

pub put_signed-requires : goal.put_signed-requires
put_signed-requires c =
    let u = c.loop-u.u in
    let x = at_ℤ c.args.xs.now u in (
      in_row _ (length c.args.xs.now) _ _ (number-below c.args.column) (omega arith) (omega (arith, c.loop-u.invariant.kept.long)),
      subst (Storable (number_of c.args.column)) (sym (read_back x (omega arith))) (c.requires.1 u (omega arith)),
    )

pub loop-u-preserved : goal.loop-u-preserved
loop-u-preserved c =
    let u = c.loop-u.u in
    let x = at_ℤ c.args.xs.now u in
    laid_next _ _ _ _ u _ c.loop-u.s _ (to_z w64 (of_z w64 x)) (omega arith) c.loop-u.invariant refl c.put_signed.ensures (read_back x (omega arith))

pub shape_of-s : goal.shape_of-s
shape_of-s c = c.loop-u.invariant.kept.long

pub returns : goal.returns
returns c = let e : c.loop-u.u ≡ length c.args.xs.now = omega arith in rw e at c.loop-u.invariant
