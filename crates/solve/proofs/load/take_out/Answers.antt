-- `solve::load::take_out` meets its contract: the masses of the rows passed are written over the list.
use mathlib.Core.Path.{◌≡◌, refl}
use native.Mathlib.Omega.{arith}
use lib.ListN.{length}
use Rattle.numbers.proofs.ListLaws.{written_none, next-entry, all-entries}
use Rattle.scratch_spec.specs.Columns.{MASS, num}
use Rattle.scratch_spec.proofs.ColumnLaws.{in_row}
use Rattle.solve.proofs.load.take_out.Goals as goal

pub loop-u-init : goal.loop-u-init
loop-u-init c = written_none _ 0 _

pub get_above-requires : goal.get_above-requires
get_above-requires c = in_row _ (length c.args.masses.now) _ _ (omega arith) (omega arith) c.requires.masses_in_bounds

pub overflow_cast-mass : goal.overflow_cast-mass
overflow_cast-mass c = record { fits = omega (arith, c.get_above.ensures.0, c.requires.by_index c.loop-u.u (omega arith)) }

pub loop-u-preserved : goal.loop-u-preserved
loop-u-preserved c = next-entry c.args.masses.now (λ i. num MASS c.args.s.now i) c.loop-u.u (omega arith) c.loop-u.invariant c.get_above.ensures.0

pub returns : goal.returns
returns c =
    let old = c.args.masses.now in
    let e : c.loop-u.u ≡ length old = omega arith in
    all-entries old (λ w. num MASS c.args.s.now w) c.loop-u.u (length old) e refl c.loop-u.invariant
