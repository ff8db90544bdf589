-- The calls from C that write a field file and read an answer file: what each returns and leaves in the lists lent to it. Assumes nothing.
use Rattle.std.specs.Prelude.{Ok, ◌≡◌, cond, List, [], ◌∷◌, ℕ, ◌≤◌, leb, length}
use Rattle.files_spec.specs.declared.Repaired.{Repaired}
use Rattle.numbers.specs.Lists.{at, written}
use Rattle.numbers.specs.Checks.{Checked, after}
use Rattle.blocks.specs.Words.{Bytes}
use Rattle.files_spec.specs.FieldFile.{field_bytes, FieldTyped}
use Rattle.files_spec.specs.WriteField.{FieldWriteCall, field_write_verdict, field_of}
use Rattle.files_spec.specs.ReadAnswer.{answer_masses, answer_read_verdict, AnswerReadFits, answer_of}
use Rattle.call_values.specs.Values.{returned}

-- ---- Write a field file: the length is not told, it is that of the cells and nodes

pub record WriteFieldReturns (c : FieldWriteCall) (r : ℕ) (buffer : List ℕ) : Type 0 where
  pub typed : field_write_verdict c ≡ Ok tt → FieldTyped (field_of c) c.total
  pub returns : r ≡ returned (field_write_verdict c)
  pub writes : buffer ≡ after (field_write_verdict c) (written c.buffer 0 (field_bytes (field_of c) c.total)) c.buffer

-- ---- Read an answer: the number of cells and what the file tells of the repair go to the first entries of `answer`
abbrev pub read_values : ℕ
read_values = 5

-- the room for masses that the call finds: none if `answer` is too short. A file has a cell, so this is refused with 3 as masses that are
-- too short are, and at the same place in the order
abbrev pub answer_room : ℕ → ℕ → ℕ
answer_room masses answer = cond (leb read_values answer) masses 0

unfoldable pub read_answer_verdict : (file masses answer : List ℕ) → Checked
read_answer_verdict file masses answer = answer_read_verdict file (answer_room (length masses) (length answer))

-- what it means that the call is accepted
pub record ReadAnswerFits (file masses answer : List ℕ) : Type 0 where
  pub read : AnswerReadFits file (length masses)
  pub values : read_values ≤ length answer

abbrev pub repaired_words : Repaired → List ℕ
repaired_words a = a.cells ∷ a.repair.outcome ∷ a.repair.total ∷ a.repair.change ∷ a.repair.shared ∷ []

pub record ReadAnswerReturns (file masses answer : List ℕ) (r : ℕ) (masses' answer' : List ℕ) : Type 0 where
  pub bytes : Bytes file
  pub returns : r ≡ returned (read_answer_verdict file masses answer)
  pub writes : masses' ≡ after (read_answer_verdict file masses answer) (written masses 0 (answer_masses file)) masses
  pub tells : answer' ≡ after (read_answer_verdict file masses answer) (written answer 0 (repaired_words (answer_of file))) answer

-- the values in the lent list, from which the operation's own answer is read off
abbrev pub repaired_in : List ℕ → Repaired
repaired_in answer = record { cells = at answer 0; repair = record { outcome = at answer 1; total = at answer 2; change = at answer 3; shared = at answer 4 } }
