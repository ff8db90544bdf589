-- The operation Write an answer: its verdict, its answer, and the buffer it leaves. Assumes nothing.
use Rattle.std.specs.Prelude.{◌≡◌, ◌&&◌, List, [], ◌∷◌, ℕ, ◌*◌, ◌≤◌, ◌<◌, leb, eqb, length}
use Rattle.numbers.specs.Sums.{ℕ_adds, sum_to}
use Rattle.numbers.specs.Lists.{at, written}
use Rattle.numbers.specs.Checks.{Checked, Answered, answered, after, unless, first, check_count, Rule, rule, rule_for}
use Rattle.qlt_spec.specs.declared.Repair.{Repair}
use Rattle.files_spec.specs.AnswerFile.{answer_blocks, answer_bytes, AnswerTyped}

-- ---- all that a call is given
pub record WriteCall : Type 0 where
  pub cells : ℕ
  pub repair : Repair
  pub masses : List ℕ
  pub buffer : List ℕ

abbrev pub write_call : ℕ → Repair → List ℕ → List ℕ → WriteCall
write_call n r masses buffer = record { cells = n; repair = r; masses = masses; buffer = buffer }

-- ---- the checks

-- 3: the buffer and the masses are long enough
unfoldable pub check_space : (n buffer masses : ℕ) → Checked
check_space n buffer masses = unless (leb (512 * answer_blocks n) buffer && leb n masses) 3 0

-- 16: the outcome is at most 2
unfoldable pub check_outcome : ℕ → Checked
check_outcome outcome = unless (leb outcome 2) 16 1

-- 12: the first n masses add up to M
unfoldable pub check_masses : ℕ → List ℕ → ℕ → Checked
check_masses n masses M = unless (eqb (sum_to ℕ_adds n (at masses)) M) 12 0

abbrev pub write_checks : WriteCall → List Checked
write_checks c =
    check_count c.cells
    ∷ check_space c.cells (length c.buffer) (length c.masses)
    ∷ check_outcome c.repair.outcome
    ∷ check_masses c.cells c.masses c.repair.total
    ∷ []

unfoldable pub write_verdict : WriteCall → Checked
write_verdict c = first (write_checks c)

-- what they mean
unfoldable pub write_rules : WriteCall → List Rule
write_rules c =
    rule 1 ((0 < c.cells) × (c.cells ≤ 512))
    ∷ rule 3 ((512 * answer_blocks c.cells ≤ length c.buffer) × (c.cells ≤ length c.masses))
    ∷ rule_for 16 1 (c.repair.outcome ≤ 2)
    ∷ rule 12 (sum_to ℕ_adds c.cells (at c.masses) ≡ c.repair.total)
    ∷ []

pub record WriteFits (c : WriteCall) : Type 0 where
  pub some : 0 < c.cells
  pub few : c.cells ≤ 512
  pub space : 512 * answer_blocks c.cells ≤ length c.buffer
  pub masses : c.cells ≤ length c.masses
  pub outcome : c.repair.outcome ≤ 2
  pub adds_up : sum_to ℕ_adds c.cells (at c.masses) ≡ c.repair.total

-- ---- the answer, and the buffer at exit

-- the whole contract of the operation: the answer is the file's length; bytes past the file are untouched
pub record WriteContract (c : WriteCall) (answer : Answered ℕ) (buffer : List ℕ) : Type 0 where
  pub typed : AnswerTyped c.repair c.masses
  pub answers : answer ≡ answered (write_verdict c) (512 * answer_blocks c.cells)
  pub writes : buffer ≡ after (write_verdict c) (written c.buffer 0 (answer_bytes c.cells c.repair c.masses)) c.buffer
