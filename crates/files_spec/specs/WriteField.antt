-- The operation Write a field file (ticket 1 of 02): its verdict, its answer, and the buffer it leaves. Assumes nothing.
use Rattle.std.specs.Prelude.{Ok, ◌≡◌, List, [], ◌∷◌, ℕ, ◌*◌, ◌≤◌, ◌<◌, length}
use Rattle.numbers.specs.Lists.{written}
use Rattle.numbers.specs.Checks.{Checked, Answered, answered, after, first, check_count, check_long, Rule, rule}
use Rattle.qlt_spec.specs.Field.{Lists}
use Rattle.qlt_spec.specs.Checks.{check_nodes}
use Rattle.files_spec.specs.FieldFile.{field_blocks, field_bytes, fronts, FieldTyped}
use Rattle.files_spec.specs.ReadField.{room_of, Room}

-- ---- all that a call is given; the lists may be longer than the field
pub record FieldWriteCall : Type 0 where
  pub cells : ℕ
  pub nodes : ℕ
  pub total : ℕ
  pub lists : Lists
  pub buffer : List ℕ

abbrev pub field_write_call : ℕ → ℕ → ℕ → Lists → List ℕ → FieldWriteCall
field_write_call n m M s buffer = record { cells = n; nodes = m; total = M; lists = s; buffer = buffer }

-- ---- the checks: 1, 2, then 3 for the lists and for the buffer
abbrev pub field_write_checks : FieldWriteCall → List Checked
field_write_checks c =
    check_count c.cells
    ∷ check_nodes c.cells c.nodes
    ∷ room_of c.cells c.nodes c.lists
    ∷ check_long (length c.buffer) (512 * field_blocks c.cells c.nodes)
    ∷ []

unfoldable pub field_write_verdict : FieldWriteCall → Checked
field_write_verdict c = first (field_write_checks c)

-- what they mean
unfoldable pub field_write_rules : FieldWriteCall → List Rule
field_write_rules c =
    rule 1 ((0 < c.cells) × (c.cells ≤ 512))
    ∷ rule 2 ((c.cells ≤ c.nodes) × (c.nodes ≤ 1024))
    ∷ rule 3 (Room c.cells c.nodes c.lists)
    ∷ rule 3 (512 * field_blocks c.cells c.nodes ≤ length c.buffer)
    ∷ []

pub record FieldWriteFits (c : FieldWriteCall) : Type 0 where
  pub some : 0 < c.cells
  pub few : c.cells ≤ 512
  pub nodes_room : c.cells ≤ c.nodes
  pub nodes_few : c.nodes ≤ 1024
  pub room : Room c.cells c.nodes c.lists
  pub space : 512 * field_blocks c.cells c.nodes ≤ length c.buffer

-- ---- the answer, and the buffer at exit

-- the field that is written: the first n cells and m nodes of the lists
abbrev pub field_of : FieldWriteCall → Lists
field_of c = fronts c.cells c.nodes c.lists

-- the whole contract of the operation: the answer is the file's length; what is written fits its type; bytes past the file are untouched
pub record FieldWriteContract (c : FieldWriteCall) (answer : Answered ℕ) (buffer : List ℕ) : Type 0 where
  pub typed : field_write_verdict c ≡ Ok tt → FieldTyped (field_of c) c.total
  pub answers : answer ≡ answered (field_write_verdict c) (512 * field_blocks c.cells c.nodes)
  pub writes : buffer ≡ after (field_write_verdict c) (written c.buffer 0 (field_bytes (field_of c) c.total)) c.buffer
