-- `field_checks::tree::first_bad` meets its contract: the verdict is that of the nodes from v on.
use mathlib.Core.Path.{◌≡◌}
use Prim.Native.Nat.{◌-◌}
use lib.ListN.{length}
use Rattle.numbers.specs.Lists.{at}
use Rattle.numbers.specs.Checks.{first_from}
use Rattle.qlt_spec.specs.Tree.{node_ok}
use Rattle.field_checks.proofs.tree.first_bad.Given as goal

abbrev pub invariant-loop-v : goal.invariant-loop-v
invariant-loop-v l =
    first_from (node_ok (at l.parents) l.n (length l.parents)) 4 0 (length l.parents)
    ≡ first_from (node_ok (at l.parents) l.n (length l.parents)) 4 l.v (length l.parents - l.v)
