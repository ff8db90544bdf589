-- `field_checks::shape::check_shape` meets its contract: 2 leaves few enough nodes for 3.
use mathlib.Core.Path.{sym}
use lib.ListN.{length}
use Rattle.qlt_spec.proofs.CheckLaws.{nodes-decides}
use Rattle.field_checks.proofs.shape.check_shape.Goals as goal

pub check_lists-requires : goal.check_lists-requires
check_lists-requires c =
    ((nodes-decides (length c.args.field.now.targets.now) (length c.args.field.now.parents.now)).passes.0 (sym c.in_ok-check_nodes.ensures)).1
