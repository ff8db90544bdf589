-- The calls from C: what each returns and leaves in the lists lent to it. Assumes nothing.
use Rattle.std.specs.Prelude.{Ok, Err, ◌≡◌, List, [], ◌∷◌, ◌++◌, ℕ, ◌*◌, ◌≤◌, ℤ, pos, length, get_or, Float}
use Rattle.std.specs.Float.{nan}
use Rattle.numbers.specs.Lists.{at_ℤ, written}
use Rattle.numbers.specs.Signed.{over}
use Rattle.numbers.specs.Checks.{Checked, after, first, check_count, check_long, Rule, rule}
use Rattle.caas_spec.specs.Operation.{SplitCall, items, split_verdict, split_masses, split_deficit}
use Rattle.qlt_spec.specs.Field.{cells, nodes}
use Rattle.qlt_spec.specs.Checks.{check_nodes}
use Rattle.qlt_spec.specs.Operation.{repair, Leaves}
use Rattle.book_spec.specs.LentBook.{grown_buffer, grown_length}
use Rattle.kept_spec.specs.Open.{open_verdict, open_balance}
use Rattle.kept_spec.specs.Step.{StepCall, new_total, repair_call, step_verdict, Typed, step_entry}
use Rattle.bounds_spec.specs.Bounds.{Bounds, BoundsCall, converted, bounds_verdict}
use Rattle.doubles_spec.specs.declared.CellDoubles.{CellDoubles}
use Rattle.doubles_spec.specs.declared.CellUnits.{CellUnits}
use Rattle.doubles_spec.specs.Import.{import_verdict, import_units}
use Rattle.doubles_spec.specs.Export.{export_verdict, export_double}
use Rattle.doubles_spec.specs.ExportSingle.{export_single}
use Rattle.files_spec.specs.ReadField.{file_cells}
use Rattle.files_spec.specs.AnswerFile.{answer_blocks, answer_bytes}
use Rattle.files_spec.specs.WriteAnswer.{write_call, write_verdict}
use Rattle.repair_file.specs.RepairFile.{file_verdict, file_rules, FileFits, file_repair, file_masses}
use Rattle.call_values.specs.Values.{returned, open_values, balance_words, step_values, result_words}

-- ---- the call on files: reading, then Reconstruct, then writing, each in its order

abbrev pub call_checks : List ℕ → List ℕ → List Checked
call_checks file answer = file_verdict file ∷ write_verdict (write_call (file_cells file) (file_repair file) (file_masses file) answer) ∷ []

unfoldable pub call_verdict : List ℕ → List ℕ → Checked
call_verdict file answer = first (call_checks file answer)

-- what they mean: past reading and Reconstruct only the buffer's length is left to fail, with 3
abbrev pub call_rules : List ℕ → List ℕ → List Rule
call_rules file answer = file_rules file ++ (rule 3 (512 * answer_blocks (file_cells file) ≤ length answer) ∷ [])

pub record CallFits (file answer : List ℕ) : Type 0 where
  pub file_fits : FileFits file
  pub space : 512 * answer_blocks (file_cells file) ≤ length answer

-- 0, or the refusal's number
abbrev pub number_of : Checked → ℕ
number_of (Ok tt) = 0
number_of (Err r) = r.number

pub record ReconstructReturns (file answer : List ℕ) (r : ℕ) (answer' : List ℕ) : Type 0 where
  pub returns : r ≡ number_of (call_verdict file answer)
  pub writes : answer' ≡ after (call_verdict file answer) (written answer 0 (answer_bytes (file_cells file) (file_repair file) (file_masses file))) answer

-- ---- the other calls return 0, or the refusal's number and place

-- Split: d goes to the first entry of `deficit`, which counts under 3, after 1
unfoldable pub split_call_verdict : SplitCall → List ℤ → Checked
split_call_verdict c deficit = first (check_count (items c) ∷ check_long (length deficit) 1 ∷ split_verdict c ∷ [])

pub record SplitReturns (c : SplitCall) (deficit : List ℤ) (r : ℕ) (masses deficit' : List ℤ) : Type 0 where
  pub returns : r ≡ returned (split_call_verdict c deficit)
  pub writes : masses ≡ after (split_call_verdict c deficit) (split_masses c) c.masses
  pub tells : deficit' ≡ after (split_call_verdict c deficit) (written deficit 0 (split_deficit c ∷ [])) deficit

-- Open, at the scale k: the balance goes to the first two entries of the answer
unfoldable pub open_call_verdict : List ℕ → ℕ → List ℕ → Checked
open_call_verdict kept k answer = first (check_long (length answer) open_values ∷ open_verdict kept k ∷ [])

pub record OpenReturns (kept : List ℕ) (k : ℕ) (answer : List ℕ) (r : ℕ) (answer' : List ℕ) : Type 0 where
  pub returns : r ≡ returned (open_call_verdict kept k answer)
  pub writes : answer' ≡ after (open_call_verdict kept k answer) (written answer 0 (balance_words (open_balance kept k))) answer

-- Step: what it tells goes to the first entries of the answer, which counts under 3, after 1 and 2
unfoldable pub step_call_verdict : StepCall → List ℕ → Checked
step_call_verdict c answer =
    first (check_count (cells c.lists) ∷ check_nodes (cells c.lists) (nodes c.lists) ∷ check_long (length answer) step_values ∷ step_verdict c ∷ [])

pub record StepReturns (c : StepCall) (answer : List ℕ) (r : ℕ) (kept : List ℕ) (scratch : List ℤ) (book answer' : List ℕ) : Type 0 where
  pub typed : Typed c
  pub returns : r ≡ returned (step_call_verdict c answer)
  pub leaves : Leaves (step_call_verdict c answer) (repair_call c) kept scratch
  pub files : book ≡ after (step_call_verdict c answer) (grown_buffer c.book c.length (step_entry c)) c.book
  pub writes : answer' ≡ after (step_call_verdict c answer) (written answer 0 (result_words (repair c.lists (new_total c)) (grown_length c.book c.length))) answer

-- Bounds: it tells nothing beside the four lists
pub record BoundsReturns (c : BoundsCall) (r : ℕ) (left : Bounds) : Type 0 where
  pub returns : r ≡ returned (bounds_verdict c)
  pub writes : left ≡ after (bounds_verdict c) (converted c.given) c.lent

-- Import: the five units go to the first five entries
unfoldable pub import_call_verdict : CellDoubles → ℕ → List ℤ → Checked
import_call_verdict c k units = first (check_long (length units) 5 ∷ import_verdict c k ∷ [])

abbrev pub units_list : CellUnits → List ℤ
units_list u = u.target ∷ pos u.low ∷ pos u.high ∷ pos u.safe_low ∷ pos u.safe_high ∷ []

pub record ImportReturns (c : CellDoubles) (k : ℕ) (units : List ℤ) (r : ℕ) (units' : List ℤ) : Type 0 where
  pub returns : r ≡ returned (import_call_verdict c k units)
  pub writes : units' ≡ after (import_call_verdict c k units) (written units 0 (units_list (import_units c k))) units

-- Export, as a double and as a binary32: the value x goes to the first entry
unfoldable pub export_call_verdict : ℕ → ℕ → List Float → Checked
export_call_verdict mass k value = first (check_long (length value) 1 ∷ export_verdict mass k ∷ [])

pub record ValueReturns (mass k : ℕ) (x : Float) (value : List Float) (r : ℕ) (value' : List Float) : Type 0 where
  pub returns : r ≡ returned (export_call_verdict mass k value)
  pub writes : value' ≡ after (export_call_verdict mass k value) (written value 0 (x ∷ [])) value

abbrev pub ExportReturns : ℕ → ℕ → List Float → ℕ → List Float → Type 0
ExportReturns mass k = ValueReturns mass k (export_double mass k)

abbrev pub SingleReturns : ℕ → ℕ → List Float → ℕ → List Float → Type 0
SingleReturns mass k = ValueReturns mass k (export_single mass k)

-- ---- the values in the lent lists, from which the operations' own answers are read off

abbrev pub units_in : List ℤ → CellUnits
units_in units =
    record {
      target = at_ℤ units 0;
      low = over (at_ℤ units 1);
      high = over (at_ℤ units 2);
      safe_low = over (at_ℤ units 3);
      safe_high = over (at_ℤ units 4);
    }

abbrev pub value_in : List Float → Float
value_in value = get_or value 0 nan
