-- Files that go both ways (ticket 1 of 02): what the readers accept is what the writers leave, reading it returns what was written, and
-- writing that again gives the same bytes. Of the operations, by their contracts alone. Assumes nothing.
use Rattle.std.specs.Prelude.{Ok, ◌≡◌, ◌↔◌, List, ℕ, ◌≤◌, length, take}
use Rattle.numbers.specs.Checks.{Answered}
use Rattle.files_spec.specs.declared.Sizes.{Sizes}
use Rattle.files_spec.specs.declared.Repaired.{Repaired}
use Rattle.numbers.specs.Lists.{written}
use Rattle.qlt_spec.specs.declared.Repair.{Repair}
use Rattle.qlt_spec.specs.Field.{Lists}
use Rattle.files_spec.specs.FieldFile.{over_fronts}
use Rattle.files_spec.specs.ReadField.{file_cells, file_nodes, Room, ReadContract}
use Rattle.files_spec.specs.WriteField.{FieldWriteCall, field_write_call, field_of, FieldWriteContract}
use Rattle.files_spec.specs.WriteAnswer.{WriteCall, write_call, WriteContract}
use Rattle.files_spec.specs.ReadAnswer.{answer_cells, AnswerReadContract}

-- ---- field files

-- an accepted call of the reader into the lists s
pub record FieldReading (file : List ℕ) (s : Lists) : Type 0 where
  pub cells : ℕ
  pub nodes : ℕ
  pub total : ℕ
  pub lists : Lists
  pub promised : ReadContract file s (Ok (record { cells = cells; nodes = nodes; total = total })) lists

-- an accepted call of the writer that leaves exactly these bytes: it tells their number, and they stand at the front of the buffer
pub record FieldWriting (file : List ℕ) : Type 0 where
  pub call : FieldWriteCall
  pub buffer : List ℕ
  pub promised : FieldWriteContract call (Ok (length file)) buffer
  pub front : take (length file) buffer ≡ file

pub record FieldTrip (file : List ℕ) (s : Lists) : Type 0 where
  -- the reader accepts the bytes exactly if the writer leaves them for some lists, and s is long enough
  pub same : FieldReading file s ↔ (FieldWriting file × Room (file_cells file) (file_nodes file) s)
  -- any call of the reader on bytes that the writer left, with s long enough, returns the counts, the total and the lists
  pub returns :
      (w : FieldWriting file) (answer : Answered Sizes) (t : Lists) → Room w.call.cells w.call.nodes s → ReadContract file s answer t
      → (answer ≡ Ok (record { cells = w.call.cells; nodes = w.call.nodes; total = w.call.total })) × (t ≡ over_fronts s (field_of w.call))
  -- any call of the writer with what was read, into a buffer that is long enough, gives the same bytes
  pub again :
      (r : FieldReading file s) (buffer : List ℕ) (answer : Answered ℕ) (buffer' : List ℕ) → length file ≤ length buffer
      → FieldWriteContract (field_write_call r.cells r.nodes r.total r.lists buffer) answer buffer'
      → (answer ≡ Ok (length file)) × (buffer' ≡ written buffer 0 file)

-- ---- answer files

-- an accepted call of the reader into the list `masses`
pub record AnswerReading (file masses : List ℕ) : Type 0 where
  pub cells : ℕ
  pub repair : Repair
  pub masses' : List ℕ
  pub promised : AnswerReadContract file masses (Ok (record { cells = cells; repair = repair })) masses'

-- an accepted call of the writer that leaves exactly these bytes
pub record AnswerWriting (file : List ℕ) : Type 0 where
  pub call : WriteCall
  pub buffer : List ℕ
  pub promised : WriteContract call (Ok (length file)) buffer
  pub front : take (length file) buffer ≡ file

pub record AnswerTrip (file masses : List ℕ) : Type 0 where
  -- the reader accepts the bytes exactly if the writer leaves them for some masses, and the lent list is long enough
  pub same : AnswerReading file masses ↔ (AnswerWriting file × (answer_cells file ≤ length masses))
  -- any call of the reader on bytes that the writer left, with a list that is long enough, returns the count, the repair and the masses
  pub returns :
      (w : AnswerWriting file) (answer : Answered Repaired) (masses' : List ℕ) → w.call.cells ≤ length masses → AnswerReadContract file masses answer masses'
      → (answer ≡ Ok (record { cells = w.call.cells; repair = w.call.repair })) × (masses' ≡ written masses 0 (take w.call.cells w.call.masses))
  -- any call of the writer with what was read, into a buffer that is long enough, gives the same bytes
  pub again :
      (r : AnswerReading file masses) (buffer : List ℕ) (answer : Answered ℕ) (buffer' : List ℕ) → length file ≤ length buffer
      → WriteContract (write_call r.cells r.repair r.masses' buffer) answer buffer'
      → (answer ≡ Ok (length file)) × (buffer' ≡ written buffer 0 file)
