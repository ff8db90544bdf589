-- `solve::load::blank` meets its contract: of the rows passed, those from n on have 0.
use mathlib.Core.Path.{◌≡◌, refl}
use native.Mathlib.Omega.{arith}
use lib.IntN.{pos}
use borrow.Author.Tests.{lt-leb, le-leb}
use Rattle.scratch_spec.proofs.ColumnLaws.{number-below, in_row, laid-start, laid-to, laid_next}
use Rattle.solve.proofs.load.blank.Goals as goal

pub loop-u-init : goal.loop-u-init
loop-u-init c = laid-to _ _ _ _ 0 _ _ _ (omega arith) (λ i a b. lt-leb _ _ b) (laid-start _ _ _ _ _)

pub put-requires : goal.put-requires
put-requires c = (
  in_row _ c.args.m _ _ (number-below c.args.column) (omega arith) (omega (arith, c.loop-u.invariant.kept.long)),
  omega arith,
  λ j. omega arith,
)

pub loop-u-preserved : goal.loop-u-preserved
loop-u-preserved c = laid_next _ _ _ _ c.loop-u.u _ c.loop-u.s _ (pos 0) (omega arith) c.loop-u.invariant (le-leb _ _ (omega arith)) c.put.ensures refl

pub shape_of-s : goal.shape_of-s
shape_of-s c = c.loop-u.invariant.kept.long

pub returns : goal.returns
returns c = let e : c.loop-u.u ≡ c.args.m = omega arith in rw e at c.loop-u.invariant
