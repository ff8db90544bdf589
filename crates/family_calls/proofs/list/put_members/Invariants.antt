-- `family_calls::list::put_members` meets its contract: the entries of the members passed are written behind the first three.
use mathlib.Core.Path.{◌≡◌}
use Rattle.numbers.specs.Lists.{written}
use Rattle.family_calls.specs.List.{members_words}
use Rattle.family_calls.proofs.list.put_members.Given as goal

abbrev pub invariant-loop-i : goal.invariant-loop-i
invariant-loop-i l = l.list ≡ written l.initial.list 3 (members_words l.fn.family l.i)
