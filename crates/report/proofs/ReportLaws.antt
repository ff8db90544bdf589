-- What the text of a file is by what repairing it told. Assumes nothing.
use mathlib.Core.Path.{◌≡◌, sym, ap}
use Rattle.numbers.specs.Checks.{refused}
use mathlib.Core.List.{List}
use Prim.Native.Nat.{ℕ}
use lib.IntN.{ℤ}
use lib.ListN.{length, take}
use Rattle.qlt_spec.specs.declared.Repair.{Repair}
use Rattle.text.specs.Text.{refusal_line}
use Rattle.listing.specs.Listing.{listing}
use Rattle.repair_file.specs.RepairFile.{file_verdict}
use Rattle.repair_file.proofs.FileLaws.{FileDone, length-masses}
use Rattle.report.specs.Report.{text_by, report_text}

pub text-refused : (file : List ℕ) {number place : ℕ} → file_verdict file ≡ refused number place → refusal_line number place ≡ report_text file
unfolding report_text
text-refused file e = sym (ap (λ v. text_by v file) e)

-- the listing of the fronts of the lists that an accepted file left
pub text-done : {file : List ℕ} {n : ℕ} {r : Repair} {ts : List ℤ} {ms : List ℕ}
    → FileDone file n r ts ms → listing (length (take n ms)) r (take n ms) (take n ts) ≡ report_text file
unfolding report_text
text-done {file} {n} d = rw (d.masses, d.targets, d.repair, length-masses file, d.accepts)
