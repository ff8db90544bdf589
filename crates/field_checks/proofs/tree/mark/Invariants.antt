-- `field_checks::tree::mark` meets its contract: after u turns the marks are those of the nodes with a child among the first u.
use mathlib.Core.Path.{◌≡◌}
use lib.ListN.{length}
use Rattle.numbers.specs.Lists.{at}
use Rattle.field_checks.specs.Lists.{Marks}
use Rattle.field_checks.proofs.tree.mark.Given as goal

abbrev pub invariant-loop-u : goal.invariant-loop-u
invariant-loop-u l = (length l.seen ≡ length l.initial.seen) × Marks (at l.parents) l.u l.seen
