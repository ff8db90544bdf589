-- Reconstruct as it was before ticket 9 of 02: check 3 asked for 6 numbers of scratch for each node, and an accepted call cleared as many.
-- All else is by the definitions of Operation.antt. Assumes nothing.
use Rattle.std.specs.Prelude.{List, ℕ, ℤ}
use Rattle.qlt_spec.specs.declared.Repair.{Repair}
use Rattle.numbers.specs.Checks.{Checked, Answered, first}
use Rattle.qlt_spec.specs.Operation.{ReconstructCall, reconstruct_checks_with, repair, RepairTellsWith}

abbrev pub former_per_node : ℕ
former_per_node = 6

unfoldable pub former_verdict : ReconstructCall → Checked
former_verdict c = first (reconstruct_checks_with former_per_node c)

abbrev pub FormerContract : ReconstructCall → Answered Repair → List ℕ → List ℤ → Type 0
FormerContract c answer masses scratch =
    RepairTellsWith former_per_node (former_verdict c) c (repair c.lists c.total) answer masses scratch
