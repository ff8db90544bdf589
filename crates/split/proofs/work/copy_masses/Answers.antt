-- `split::work::copy_masses` meets its contract: the masses of the rows passed are written over the list.
use mathlib.Core.Path.{◌≡◌, refl, ◌∙◌, ap}
use native.Mathlib.Omega.{arith}
use lib.IntN.{pos}
use lib.ListN.{length}
use mir.Syntax.{w64}
use mir.ValLaws.{to_z-of_z}
use borrow.Author.Rules.{sfits_of}
use Rattle.numbers.proofs.ListLaws.{written_none, next-entry, all-entries}
use Rattle.scratch_spec.specs.Columns.{MASS, num}
use Rattle.scratch_spec.proofs.ColumnLaws.{in_row}
use Rattle.split.proofs.work.copy_masses.Goals as goal

pub loop-u-init : goal.loop-u-init
loop-u-init c = written_none _ 0 _

pub get_above-requires : goal.get_above-requires
get_above-requires c = in_row _ (length c.args.masses.now) _ _ (omega arith) (omega arith) c.requires

pub signed-requires : goal.signed-requires
signed-requires c = c.get_above.ensures.1

pub loop-u-preserved : goal.loop-u-preserved
loop-u-preserved c =
    let read = to_z-of_z w64 c.signed.result (sfits_of c.signed.type_inv) in
    next-entry c.args.masses.now (λ i. pos (num MASS c.args.s.now i)) c.loop-u.u (omega arith) c.loop-u.invariant (read ∙ c.signed.ensures ∙ ap pos c.get_above.ensures.0)

pub returns : goal.returns
returns c =
    let old = c.args.masses.now in
    let e : c.loop-u.u ≡ length old = omega arith in
    all-entries old (λ w. pos (num MASS c.args.s.now w)) c.loop-u.u (length old) e refl c.loop-u.invariant
