-- The repair of a file as it was before ticket 9 of 02: Reconstruct's call had 6 numbers of scratch for each node. Assumes nothing.
use Rattle.std.specs.Prelude.{List, [], ◌∷◌, ℕ, ◌*◌, pos}
use Rattle.numbers.specs.Lists.{list_to}
use Rattle.numbers.specs.Checks.{Checked, first}
use Rattle.qlt_spec.specs.Operation.{ReconstructCall, reconstruct_call}
use Rattle.qlt_spec.specs.Former.{former_per_node, former_verdict}
use Rattle.files_spec.specs.ReadField.{file_cells, file_nodes, file_total, read_verdict, file_lists}
use Rattle.repair_file.specs.RepairFile.{largest}

abbrev pub former_file_call : List ℕ → ReconstructCall
former_file_call file = reconstruct_call (file_lists file) (file_total file) (list_to (file_cells file) (λ i. 0)) (list_to (former_per_node * file_nodes file) (λ i. pos 0))

unfoldable pub former_file_verdict : List ℕ → Checked
former_file_verdict file = first (read_verdict file largest ∷ former_verdict (former_file_call file) ∷ [])
