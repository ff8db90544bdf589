-- What a field file can hold, and what reading it back means. Assumes nothing.
use Rattle.std.specs.Prelude.{Ok, ◌≡◌, ℕ, ◌≤◌, ◌<◌, length}
use Rattle.qlt_spec.specs.Field.{Lists, cells, nodes}
use Rattle.files_spec.specs.FieldFile.{field_bytes, FieldTyped}
use Rattle.files_spec.specs.ReadField.{read_verdict, sizes_of, file_lists}

-- the lists f and the total M are those of a field that a file can hold
pub record Storable (f : Lists) (M : ℕ) : Type 0 where
  pub some : 0 < cells f
  pub few : cells f ≤ 512
  pub nodes_room : cells f ≤ nodes f
  pub nodes_few : nodes f ≤ 1024
  -- a value of each cell in each list
  pub lows : length f.lows ≡ cells f
  pub highs : length f.highs ≡ cells f
  pub safe_lows : length f.safe_lows ≡ cells f
  pub safe_highs : length f.safe_highs ≡ cells f
  pub weights : length f.weights ≡ cells f
  pub typed : FieldTyped f M

-- reading the file of f and M into the lists s is accepted, tells the sizes and M, and the field that goes to the front of s is f
pub record FieldBack (f : Lists) (M : ℕ) (s : Lists) : Type 0 where
  pub passes : read_verdict (field_bytes f M) s ≡ Ok tt
  pub sizes : sizes_of (field_bytes f M) ≡ record { cells = cells f; nodes = nodes f; total = M }
  pub held : file_lists (field_bytes f M) ≡ f
