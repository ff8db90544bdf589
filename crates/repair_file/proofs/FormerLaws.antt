-- Every file is judged as it was before ticket 9 of 02; what an accepted one gives (`repaired_of`, `file_masses`) does not name the scratch.
-- Assumes nothing.
use mathlib.Core.Path.{◌≡◌, ap}
use mathlib.Core.List.{List, [], ◌∷◌}
use Prim.Native.Nat.{ℕ, ◌*◌}
use native.Mathlib.Omega.{arith}
use lib.IntN.{pos}
use Rattle.numbers.specs.Lists.{list_to}
use Rattle.numbers.specs.Checks.{first}
use Rattle.numbers.proofs.ListLaws.{length-list_to}
use Rattle.qlt_spec.specs.Field.{scratch_per_node}
use Rattle.qlt_spec.specs.Former.{former_per_node}
use Rattle.qlt_spec.proofs.FormerLaws.{both-enough, former-by}
use Rattle.files_spec.specs.ReadField.{file_cells, file_nodes, file_total, read_verdict, file_lists}
use Rattle.repair_file.specs.RepairFile.{largest, file_verdict}
use Rattle.repair_file.specs.Former.{former_file_verdict}
use Rattle.repair_file.proofs.FileLaws.{length-nodes}

pub former-file : (file : List ℕ) → former_file_verdict file ≡ file_verdict file
unfolding former_file_verdict file_verdict
former-file file =
    ap (λ v. first (read_verdict file largest ∷ v ∷ []))
    (former-by (file_lists file) (file_total file) (list_to (file_cells file) (λ i. 0)) (list_to (former_per_node * file_nodes file) (λ i. pos 0)) (list_to (scratch_per_node * file_nodes file) (λ i. pos 0))
    (both-enough (file_lists file)
    (omega (arith, length-nodes file, length-list_to (former_per_node * file_nodes file) (λ i. pos 0)))
    (omega (arith, length-nodes file, length-list_to (scratch_per_node * file_nodes file) (λ i. pos 0)))))
