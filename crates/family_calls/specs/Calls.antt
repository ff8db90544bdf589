-- The calls from C on a family: what each returns and leaves in the lists lent to it. A list for the family with fewer than 21 entries is refused
-- with 3, before all else. Assumes nothing.
use Rattle.std.specs.Prelude.{◌≡◌, List, [], ◌∷◌, ℕ, ℤ, length}
use Rattle.kept_spec.specs.declared.Stepped.{Stepped}
use Rattle.numbers.specs.Lists.{sum, written}
use Rattle.numbers.specs.Checks.{Checked, Answered, after, first, check_count, check_long}
use Rattle.qlt_spec.specs.Field.{cells, nodes}
use Rattle.qlt_spec.specs.Checks.{check_nodes}
use Rattle.qlt_spec.specs.Operation.{repair, Leaves}
use Rattle.book_spec.specs.LentBook.{grown_buffer, grown_length}
use Rattle.kept_spec.specs.declared.Balance.{Balance}
use Rattle.kept_spec.specs.Open.{open_balance}
use Rattle.kept_spec.specs.Step.{Typed, new_total, repair_call, step_entry}
use Rattle.family_spec.specs.Family.{open_with, member_at, put, begun, terms}
use Rattle.family_spec.specs.Member.{check_opened, check_same_cells, StepInputs, call_of}
use Rattle.family_spec.specs.Operations.{start_verdict, open_member_verdict, step_member_verdict}
use Rattle.call_values.specs.Values.{returned, told_by, open_values, balance_words, balance_in, step_values, result_words, result_in}
use Rattle.family_calls.specs.List.{family_entries, family_words, family_in}

-- under 3 the list of the family, and the list for the values that a call gives
abbrev pub call_room : List ℕ → List ℕ → ℕ → Checked
call_room family answer values = first (check_long (length family) family_entries ∷ check_long (length answer) values ∷ [])

-- ---- start

unfoldable pub start_call_verdict : ℕ → ℕ → List ℕ → Checked
start_call_verdict scale cells family = first (check_long (length family) family_entries ∷ start_verdict scale cells ∷ [])

pub record FamilyStartReturns (cap scale cells : ℕ) (family : List ℕ) (r : ℕ) (family' : List ℕ) : Type 0 where
  pub returns : r ≡ returned (start_call_verdict scale cells family)
  pub gives : family' ≡ after (start_call_verdict scale cells family) (written family 0 (family_words (begun cap scale cells))) family

-- ---- open, of member i at the scale k: the balance goes to the first two entries of the answer, which counts under 3 before all else too

unfoldable pub open_call_verdict : List ℕ → ℕ → List ℕ → ℕ → List ℕ → Checked
open_call_verdict family i kept k answer =
    first (check_long (length family) family_entries ∷ check_long (length answer) open_values ∷ open_member_verdict (family_in family) i kept k ∷ [])

pub record FamilyOpenReturns (family : List ℕ) (i : ℕ) (kept : List ℕ) (k : ℕ) (answer : List ℕ) (r : ℕ) (family' answer' : List ℕ) : Type 0 where
  pub returns : r ≡ returned (open_call_verdict family i kept k answer)
  pub gives : family' ≡ after (open_call_verdict family i kept k answer) (written family 0 (family_words (put (family_in family) i (open_with (sum kept))))) family
  pub writes : answer' ≡ after (open_call_verdict family i kept k answer) (written answer 0 (balance_words (open_balance kept k))) answer

-- ---- step, of member i: what it tells goes to the first entries of the answer, which counts under 3, after 19, 1 and 2

unfoldable pub step_call_verdict : List ℕ → ℕ → StepInputs → List ℕ → Checked
step_call_verdict family i x answer =
    let f = family_in family in
    first
    (check_long (length family) family_entries
    ∷ check_opened i (member_at f i)
    ∷ check_same_cells (cells x.lists) f.cells
    ∷ check_count (cells x.lists)
    ∷ check_nodes (cells x.lists) (nodes x.lists)
    ∷ check_long (length answer) step_values
    ∷ step_member_verdict f i x
    ∷ [])

pub record FamilyStepReturns (family : List ℕ) (i : ℕ) (x : StepInputs) (answer : List ℕ) (r : ℕ) (family' kept : List ℕ) (scratch : List ℤ) (book answer' : List ℕ) : Type 0 where
  pub typed : Typed (call_of (terms (family_in family)) (member_at (family_in family) i) x)
  pub returns : r ≡ returned (step_call_verdict family i x answer)
  pub gives :
      family'
      ≡ after (step_call_verdict family i x answer)
      (written family 0 (family_words (put (family_in family) i (open_with (new_total (call_of (terms (family_in family)) (member_at (family_in family) i) x)))))) family
  pub leaves : Leaves (step_call_verdict family i x answer) (repair_call (call_of (terms (family_in family)) (member_at (family_in family) i) x)) kept scratch
  pub files :
      book
      ≡ after (step_call_verdict family i x answer) (grown_buffer x.book x.length (step_entry (call_of (terms (family_in family)) (member_at (family_in family) i) x))) x.book
  pub writes :
      answer'
      ≡ after (step_call_verdict family i x answer)
      (written answer 0 (result_words (repair x.lists (new_total (call_of (terms (family_in family)) (member_at (family_in family) i) x))) (grown_length x.book x.length))) answer

-- ---- what a call told, by its return value and the list for its values

abbrev pub open_told : ℕ → List ℕ → Answered Balance
open_told r answer' = told_by r (balance_in answer')

abbrev pub step_told : List ℕ → ℕ → StepInputs → ℕ → List ℕ → Answered Stepped
step_told family i x r answer' = told_by r (result_in (call_of (terms (family_in family)) (member_at (family_in family) i) x) answer')
