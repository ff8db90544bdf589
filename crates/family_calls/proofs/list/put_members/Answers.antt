-- `family_calls::list::put_members` meets its contract: the entries of the members passed are written behind the first three.
use mathlib.Core.Path.{refl}
use native.Mathlib.Omega.{arith}
use native.Mathlib.Numerals.{add-one}
use Rattle.numbers.proofs.PartLaws.{written-empty}
use Rattle.family_calls.proofs.ListLaws.{member-on}
use Rattle.family_calls.proofs.list.put_members.Goals as goal

pub loop-i-init : goal.loop-i-init
loop-i-init c = written-empty _ 3 _ refl

pub loop-i-preserved : goal.loop-i-preserved
loop-i-preserved c =
    let h = c.requires in
    rw add-one (member-on c.args.family c.loop-i.i c.args.list.now _ (omega (arith, h)) (omega arith) c.loop-i.invariant c.put_member.ensures refl)
