-- The operation Query (02, ticket 6): from a field file's bytes and a cell's number to the line that the tool prints. Assumes nothing.
use Rattle.std.specs.Prelude.{Ok, Err, ◌≡◌, Bool, true, false, cond, List, [], ◌∷◌, ◌++◌, ℕ, ◌-◌, ◌<◌, min, ltb, eqb}
use Rattle.numbers.specs.Lists.{sum}
use Rattle.numbers.specs.Signed.{gap}
use Rattle.numbers.specs.Checks.{Checked, Answered, unless, first, Rule, rule}
use Rattle.qlt_spec.specs.Field.{Lists, field, outcome, outcome_number}
use Rattle.qlt_spec.specs.Operation.{reconstruct_verdict, reconstruct_rules, ReconstructFits}
use Rattle.files_spec.specs.ReadField.{file_cells, file_total, file_lists, read_verdict, read_rules, ReadFits}
use Rattle.repair_file.specs.RepairFile.{largest, file_call}
use Rattle.text.specs.Ascii.{ascii}
use Rattle.text.specs.Text.{named, named_signed, space, newline, refusal_text, refusal_line}
use Rattle.text.specs.Reports.{Reports}
use Rattle.query_spec.specs.declared.Parts.{Parts}
use Rattle.query_spec.specs.Parts.{cell_parts}

-- ---- the checks

-- 3: a cell number of n or more
unfoldable pub check_cell : ℕ → ℕ → Checked
check_cell cell n = unless (ltb cell n) 3 0

-- reading, then the cell's number, then Reconstruct's checks, each in its order
abbrev pub query_checks : List ℕ → ℕ → List Checked
query_checks file cell = read_verdict file largest ∷ check_cell cell (file_cells file) ∷ reconstruct_verdict (file_call file) ∷ []

unfoldable pub query_verdict : List ℕ → ℕ → Checked
query_verdict file cell = first (query_checks file cell)

-- what they mean
abbrev pub query_rules : List ℕ → ℕ → List Rule
query_rules file cell = read_rules file largest ++ (rule 3 (cell < file_cells file) ∷ reconstruct_rules (file_call file))

pub record QueryFits (file : List ℕ) (cell : ℕ) : Type 0 where
  pub read : ReadFits file largest
  pub inside : cell < file_cells file
  pub repair : ReconstructFits (file_call file)

-- ---- refusal 8: on which side M lies, and the distance between M and the nearest sum

unfoldable pub is_below : (safe_lows : List ℕ) → ℕ → Bool
is_below safe_lows M = ltb M (sum safe_lows)

module _ (safe_lows safe_highs : List ℕ) (M : ℕ) where
  unfoldable pub distance : ℕ
  distance = min (gap M (sum safe_lows)) (gap M (sum safe_highs))

  -- the same in plain facts: M lies on one side of both sums, and so far from the nearer one
  pub data Beyond : Type 0 where
    less : M < sum safe_lows → M < sum safe_highs → is_below safe_lows M ≡ true → distance ≡ sum safe_lows - M → Beyond
    more : sum safe_highs < M → sum safe_lows < M → is_below safe_lows M ≡ false → distance ≡ M - sum safe_highs → Beyond

-- ---- the line

unfoldable pub parts_line : ℕ → Parts → List ℕ
parts_line outcome p =
    named (ascii "outcome ") outcome space
    ++ named_signed (ascii "clipping ") p.clipping space
    ++ named_signed (ascii "first ") p.first space
    ++ named_signed (ascii "second ") p.second newline

abbrev pub side_word : Bool → List ℕ
side_word true = ascii "below "
side_word false = ascii "above "

unfoldable pub beyond_line : (refusal place : ℕ) → Bool → ℕ → List ℕ
beyond_line refusal place side far = refusal_text refusal place space ++ named (side_word side) far newline

-- of a refusal: 8 has the side and the distance after it
unfoldable pub refused_line : (refusal place : ℕ) (safe_lows safe_highs : List ℕ) → ℕ → List ℕ
refused_line refusal place safe_lows safe_highs M =
    cond (eqb refusal 8) (beyond_line refusal place (is_below safe_lows M) (distance safe_lows safe_highs M)) (refusal_line refusal place)

-- of a field and its total, by the verdict
abbrev pub line_by : Checked → Lists → ℕ → ℕ → List ℕ
line_by (Ok tt) f M cell = parts_line (outcome_number (outcome (field f) M)) (cell_parts (field f) M cell)
line_by (Err r) f M cell = refused_line r.number r.place f.safe_lows f.safe_highs M

unfoldable pub query_text : List ℕ → ℕ → List ℕ
query_text file cell = line_by (query_verdict file cell) (file_lists file) (file_total file) cell

-- the whole contract of the operation: the line at the front of a list of 128 bytes or more, which every line fits into
abbrev pub QueryContract : List ℕ → ℕ → List ℕ → Answered ℕ → List ℕ → Type 0
QueryContract file cell out answer out' = Reports (query_text file cell) 128 out answer out'
