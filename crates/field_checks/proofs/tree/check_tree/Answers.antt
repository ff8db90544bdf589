-- `field_checks::tree::check_tree` meets its contract: no mark stands at first, and the marks are those of the nodes with a child.
use mathlib.Core.Path.{◌≡◌}
use native.Mathlib.Omega.{arith}
use lib.ListN.{length}
use Rattle.numbers.specs.Lists.{at}
use Rattle.field_checks.proofs.CodeLaws.{marks-start}
use Rattle.field_checks.proofs.tree.check_tree.Goals as goal

pub mark-requires : goal.mark-requires
mark-requires c = marks-start (at c.args.parents.now) 1024

pub first_bad-requires : goal.first_bad-requires
first_bad-requires c = let e : length c.mark.new.seen ≡ 1024 = c.mark.auto.seen in
    record { parents_in_bounds = (omega (arith, e, c.requires), c.requires); marks = c.mark.ensures }
