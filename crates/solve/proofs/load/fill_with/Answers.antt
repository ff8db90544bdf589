-- `solve::load::fill_with` meets its contract: the rows passed have x.
use mathlib.Core.Path.{◌≡◌, refl}
use native.Mathlib.Omega.{arith}
use lib.IntN.{pos}
use Rattle.scratch_spec.proofs.ColumnLaws.{number-below, in_row, laid-start, laid_next}
use Rattle.solve.proofs.load.fill_with.Goals as goal

pub loop-u-init : goal.loop-u-init
loop-u-init c = laid-start _ _ _ _ _

pub put-requires : goal.put-requires
put-requires c = (
  in_row _ c.args.m _ _ (number-below c.args.column) (omega arith) (omega (arith, c.loop-u.invariant.kept.long)),
  omega (arith, c.requires.0),
  λ j. c.requires.0,
)

pub loop-u-preserved : goal.loop-u-preserved
loop-u-preserved c = laid_next _ _ _ _ c.loop-u.u _ c.loop-u.s _ (pos c.args.x) (omega arith) c.loop-u.invariant refl c.put.ensures refl

pub shape_of-s : goal.shape_of-s
shape_of-s c = c.loop-u.invariant.kept.long

pub returns : goal.returns
returns c = let e : c.loop-u.u ≡ c.args.m = omega arith in rw e at c.loop-u.invariant
