-- From a field file's bytes to the repaired masses: reading, then Reconstruct. Assumes nothing.
use Rattle.std.specs.Prelude.{Ok, Err, ◌≡◌, List, [], ◌∷◌, ◌++◌, ℕ, ◌*◌, ℤ, pos, take}
use Rattle.files_spec.specs.declared.Repaired.{Repaired}
use Rattle.numbers.specs.Lists.{list_to, written}
use Rattle.numbers.specs.Checks.{Checked, Answered, answered, after, first, Rule}
use Rattle.qlt_spec.specs.declared.Repair.{Repair}
use Rattle.qlt_spec.specs.Field.{Lists, lists, nodes, scratch_per_node, field}
use Rattle.qlt_spec.specs.Masses.{tree_masses}
use Rattle.qlt_spec.specs.Operation.{ReconstructCall, reconstruct_call, reconstruct_verdict, reconstruct_rules, ReconstructFits, repair, cleared}
use Rattle.files_spec.specs.FieldFile.{fronts}
use Rattle.files_spec.specs.ReadField.{file_cells, file_nodes, file_total, read_verdict, read_rules, ReadFits, file_lists, lists_read}

-- lists that have room for every field: reading into them is never refused with 3
abbrev pub largest : Lists
largest =
    lists (list_to 512 (λ i. pos 0)) (list_to 512 (λ i. 0)) (list_to 512 (λ i. 0)) (list_to 512 (λ i. 0)) (list_to 512 (λ i. 0)) (list_to 512 (λ i. 0)) (list_to 1024 (λ i. 0))

-- Reconstruct's call for it: masses for each cell, and as much scratch as is asked for
abbrev pub file_call : List ℕ → ReconstructCall
file_call file = reconstruct_call (file_lists file) (file_total file) (list_to (file_cells file) (λ i. 0)) (list_to (scratch_per_node * file_nodes file) (λ i. pos 0))

-- reading, then Reconstruct, each in its order
abbrev pub file_checks : List ℕ → List Checked
file_checks file = read_verdict file largest ∷ reconstruct_verdict (file_call file) ∷ []

unfoldable pub file_verdict : List ℕ → Checked
file_verdict file = first (file_checks file)

-- what they mean
abbrev pub file_rules : List ℕ → List Rule
file_rules file = read_rules file largest ++ reconstruct_rules (file_call file)

pub record FileFits (file : List ℕ) : Type 0 where
  pub read : ReadFits file largest
  pub repair : ReconstructFits (file_call file)

-- what an accepted file gives
unfoldable pub file_repair : List ℕ → Repair
file_repair file = repair (file_lists file) (file_total file)

unfoldable pub file_masses : List ℕ → List ℕ
file_masses file = tree_masses (field (file_lists file)) (file_total file)

-- the number of cells beside it
abbrev pub repaired_of : List ℕ → Repaired
repaired_of file = record { cells = file_cells file; repair = file_repair file }

-- what the code leaves: s and t are the lists of the field before and after
pub record RepairsFile (file : List ℕ) (s : Lists) (masses : List ℕ) (scratch : List ℤ) (answer : Answered Repaired) (t : Lists) (masses' : List ℕ) (scratch' : List ℤ) : Type 0 where
  pub answers : answer ≡ answered (file_verdict file) (repaired_of file)
  pub reads : t ≡ after (read_verdict file largest) (lists_read file s) s
  pub writes : masses' ≡ after (file_verdict file) (written masses 0 (file_masses file)) masses
  pub leaves : scratch' ≡ after (file_verdict file) (cleared (scratch_per_node * file_nodes file) scratch) scratch

-- ---- Reconstruct on the front of longer lists

abbrev pub front_call : ℕ → ℕ → ℕ → Lists → List ℕ → List ℤ → ReconstructCall
front_call n m M s masses scratch = reconstruct_call (fronts n m s) M (take n masses) scratch

-- what Reconstruct tells, with the number of cells beside it
abbrev pub beside : ℕ → Answered Repair → Answered Repaired
beside n (Ok r) = Ok (record { cells = n; repair = r })
beside n (Err r) = Err r

-- what the code leaves: the masses are those of the front of their list
pub record RepairsFronts (n m M : ℕ) (s : Lists) (masses : List ℕ) (scratch : List ℤ) (answer : Answered Repaired) (masses' : List ℕ) (scratch' : List ℤ) : Type 0 where
  pub answers : answer ≡ beside n (answered (reconstruct_verdict (front_call n m M s masses scratch)) (repair (fronts n m s) M))
  pub writes : masses' ≡ after (reconstruct_verdict (front_call n m M s masses scratch)) (written masses 0 (tree_masses (field (fronts n m s)) M)) masses
  pub leaves : scratch' ≡ after (reconstruct_verdict (front_call n m M s masses scratch)) (cleared (scratch_per_node * nodes (fronts n m s)) scratch) scratch
