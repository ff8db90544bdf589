-- `field_checks::values::check_order` meets its contract: the verdict is that of the cells from c on.
use mathlib.Core.Path.{◌≡◌}
use Prim.Native.Nat.{◌-◌}
use lib.ListN.{length}
use Rattle.numbers.specs.Checks.{first_from}
use Rattle.qlt_spec.specs.Field.{lists_of}
use Rattle.field_checks.specs.Lists.{ordered}
use Rattle.field_checks.proofs.values.check_order.Given as goal

abbrev pub invariant-loop-c : goal.invariant-loop-c
invariant-loop-c l =
    first_from (ordered (lists_of l.field)) 5 0 (length l.field.targets.now)
    ≡ first_from (ordered (lists_of l.field)) 5 l.c (length l.field.targets.now - l.c)
