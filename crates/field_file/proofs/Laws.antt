-- What is known once the checks of a call pass, and the chain of a file's head as the code has it. Assumes nothing.
use Rattle.std.specs.Prelude.{Ok}
use mathlib.Core.Path.{◌≡◌, sym, ap}
use mathlib.Core.List.{List}
use Prim.Native.Nat.{ℕ, ◌≤◌}
use native.Mathlib.Omega.{arith}
use lib.ListN.{length}
use Rattle.numbers.specs.Checks.{both, first, check_count}
use Rattle.numbers.proofs.CheckLaws.{first-append, count-decides}
use Rattle.blocks.specs.Files.{check_file_length}
use Rattle.blocks.proofs.FileLaws.{length-decides}
use Rattle.qlt_spec.specs.Field.{Lists}
use Rattle.qlt_spec.specs.Checks.{check_nodes}
use Rattle.qlt_spec.proofs.CheckLaws.{nodes-decides}
use Rattle.files_spec.specs.ReadField.{file_cells, file_nodes, max_field_file, block_checks, size_checks, head_verdict, read_verdict, Measured, Room}
use Rattle.files_spec.specs.WriteField.{FieldWriteCall, field_write_verdict, FieldWriteFits}
use Rattle.files_spec.proofs.ReadLaws.{head-accepts, head-measured, read-accepts}
use Rattle.files_spec.proofs.WriteFieldLaws.{field-write-accepts}

-- ---- reading

-- a length that passes leaves a first block to read
pub one_block : (file : List ℕ) → Ok tt ≡ check_file_length max_field_file (length file) → 512 ≤ length file
one_block file e = let h = (length-decides max_field_file (length file)).passes.0 (sym e) in omega (arith, h.0, h.1.1)

pub head-chain : (file : List ℕ) (s : Lists) → head_verdict file s ≡ both (check_file_length max_field_file (length file)) (both (first (block_checks file)) (first (size_checks file s)))
unfolding head_verdict
head-chain file s = ap (both (check_file_length max_field_file (length file))) (sym (first-append (block_checks file) (size_checks file s)))

pub head_measured : (file : List ℕ) (s : Lists) → Ok tt ≡ head_verdict file s → Measured file
head_measured file s e = head-measured file s ((head-accepts file s).0 (sym e))

pub read_measured : (file : List ℕ) (s : Lists) → Ok tt ≡ read_verdict file s → Measured file
read_measured file s e = head-measured file s ((read-accepts file s).0 (sym e)).head

pub read_room : (file : List ℕ) (s : Lists) → Ok tt ≡ read_verdict file s → Room (file_cells file) (file_nodes file) s
read_room file s e = ((read-accepts file s).0 (sym e)).head.room

-- ---- writing

pub few : (n m : ℕ) → Ok tt ≡ check_count n → Ok tt ≡ check_nodes n m → (n ≤ 512) × (m ≤ 1024)
few n m e g = (((count-decides n).passes.0 (sym e)).1, ((nodes-decides n m).passes.0 (sym g)).1)

pub write-fits : (c : FieldWriteCall) → Ok tt ≡ field_write_verdict c → FieldWriteFits c
write-fits c e = (field-write-accepts c).0 (sym e)
