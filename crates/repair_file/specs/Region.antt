-- Edits stay in their region (ticket 13 of 02), of field files: two files whose fields differ only below a node, and what their repairs then have
-- alike. Assumes nothing.
use Rattle.std.specs.Prelude.{Ok, ◌≡◌, List, ℕ, take}
use Rattle.files_spec.specs.declared.Repaired.{Repaired}
use Rattle.qlt_spec.specs.Field.{Field, field}
use Rattle.qlt_spec.specs.Operation.{ValuesFit}
use Rattle.qlt_spec.specs.Region.{EditedField, SameRepair}
use Rattle.files_spec.specs.ReadField.{file_cells, file_total, ReadFits, file_lists}
use Rattle.repair_file.specs.RepairFile.{largest, file_verdict, file_repair, file_masses}

-- two files that are read, with one M, whose fields are past checks 4 to 7 too and differ only below v
pub record EditedFile (file edited : List ℕ) (v : ℕ) : Type 0 where
  pub read : ReadFits file largest
  pub read' : ReadFits edited largest
  pub values : ValuesFit (file_lists file)
  pub values' : ValuesFit (file_lists edited)
  pub total : file_total file ≡ file_total edited
  pub fields : EditedField (field (file_lists file)) (field (file_lists edited)) v

-- both are accepted, or both are refused with one number and place; what accepted ones give is the same outside v
pub record SameFiles (file edited : List ℕ) (v : ℕ) : Type 0 where
  pub verdict : file_verdict file ≡ file_verdict edited
  pub cells : file_cells file ≡ file_cells edited
  pub repair : file_verdict file ≡ Ok tt → SameRepair (field (file_lists file)) v (file_repair file) (file_repair edited) (file_masses file) (file_masses edited)

-- the results of two accepted calls, with the lists whose first entries are the masses
pub record SameRepaired (F : Field) (v : ℕ) (xs ys : List ℕ) (x y : Repaired) : Type 0 where
  pub cells : x.cells ≡ y.cells
  pub repair : SameRepair F v x.repair y.repair (take x.cells xs) (take y.cells ys)
