-- The contract of every operation that writes a text to the front of a lent list, over any text and any room that it asks for. Assumes
-- nothing.
use Rattle.std.specs.Prelude.{Ok, ◌≡◌, List, ℕ, ◌≤◌, length}
use Rattle.numbers.specs.Lists.{written}
use Rattle.numbers.specs.Checks.{Checked, Answered, answered, after, check_long, Rule, rule}

-- 3: the lent list has the room
abbrev pub report_verdict : ℕ → List ℕ → Checked
report_verdict room out = check_long (length out) room

-- what it means
abbrev pub report_rule : ℕ → List ℕ → Rule
report_rule room out = rule 3 (room ≤ length out)

-- the whole contract: bytes past the text are untouched, and a refused call leaves the list as it was
pub record Reports (text : List ℕ) (room : ℕ) (out : List ℕ) (answer : Answered ℕ) (out' : List ℕ) : Type 0 where
  pub answers : answer ≡ answered (report_verdict room out) (length text)
  pub writes : out' ≡ after (report_verdict room out) (written out 0 text) out
  pub fits : (k : ℕ) → answer ≡ Ok k → k ≤ length out'
