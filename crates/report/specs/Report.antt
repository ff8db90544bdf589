-- The operation Report: from a field file's bytes to the text that the program prints. Assumes nothing.
use Rattle.std.specs.Prelude.{Ok, Err, List, ℕ}
use Rattle.numbers.specs.Checks.{Checked, Answered}
use Rattle.files_spec.specs.ReadField.{file_cells, file_lists}
use Rattle.text.specs.Text.{refusal_line}
use Rattle.text.specs.Reports.{Reports}
use Rattle.listing.specs.Listing.{listing}
use Rattle.repair_file.specs.RepairFile.{file_verdict, file_repair, file_masses}

-- the listing, or the one line of a refusal of the file
abbrev pub text_by : Checked → List ℕ → List ℕ
text_by (Ok tt) file = listing (file_cells file) (file_repair file) (file_masses file) (file_lists file).targets
text_by (Err r) file = refusal_line r.number r.place

unfoldable pub report_text : List ℕ → List ℕ
report_text file = text_by (file_verdict file) file

-- the whole contract of the operation: the text at the front of a list of 16384 bytes or more, which every text fits into
abbrev pub ReportContract : List ℕ → List ℕ → Answered ℕ → List ℕ → Type 0
ReportContract file out answer out' = Reports (report_text file) 16384 out answer out'
