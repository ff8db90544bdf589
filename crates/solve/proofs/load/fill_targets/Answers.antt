-- `solve::load::fill_targets` meets its contract: the rows passed have their targets, and each target's range is known since it was read.
use mathlib.Core.Path.{◌≡◌, ◌∙◌, ap}
use native.Mathlib.Omega.{arith}
use lib.IntN.{nat_abs}
use lib.ListN.{length}
use mir.Syntax.{w32, w64}
use mir.Val.{SFits}
use mir.ValLaws.{to_z-of_z}
use borrow.Author.Rules.{sfits_of}
use Rattle.numbers.specs.Lists.{at_ℤ}
use Rattle.numbers.proofs.SignedLaws.{about, one-part}
use Rattle.scratch_spec.proofs.ColumnLaws.{storable-mass, in_row}
use Rattle.solve_spec.proofs.GatherLaws.{targets-start, targets_next}
use Rattle.solve.proofs.load.fill_targets.Goals as goal

pub loop-u-init : goal.loop-u-init
loop-u-init c = targets-start _ _ _

pub put_signed-requires : goal.put_signed-requires
put_signed-requires c = (in_row _ c.args.m _ _ (omega arith) (omega arith) (omega (arith, c.loop-u.invariant.laid.kept.long)), storable-mass _)

pub loop-u-preserved : goal.loop-u-preserved
loop-u-preserved c =
    let x = at_ℤ c.args.xs.now c.loop-u.u in
    let f : SFits w32 x = record { sfits = omega arith } in
    let e = c.from.ensures ∙ to_z-of_z w32 x f in
    let read = to_z-of_z w64 c.from.result (sfits_of c.from.type_inv) ∙ e in
    targets_next (omega arith) c.loop-u.invariant c.put_signed.ensures read (omega (arith, ap nat_abs read, f.sfits, about x, one-part x))

pub shape_of-s : goal.shape_of-s
shape_of-s c = c.loop-u.invariant.laid.kept.long

pub returns : goal.returns
returns c = let e : c.loop-u.u ≡ length c.args.xs.now = omega arith in rw e at c.loop-u.invariant
