-- The value that a call from C returns, the values that an opening and a step put into lent lists, and what is read off these. Assumes nothing.
use Rattle.std.specs.Prelude.{Ok, Err, List, [], ◌∷◌, ℕ, zero, suc, ◌+◌, ◌*◌, ◌/◌, ◌%◌, ◌^◌}
use Rattle.kept_spec.specs.declared.Stepped.{Stepped}
use Rattle.numbers.specs.Lists.{at}
use Rattle.numbers.specs.Checks.{Checked, Answered, refused}
use Rattle.qlt_spec.specs.declared.Repair.{Repair}
use Rattle.kept_spec.specs.declared.Balance.{Balance}
use Rattle.kept_spec.specs.Step.{StepCall}

-- 0, or the refusal's number in the low 32 bits and its place in the high 32
abbrev pub returned : Checked → ℕ
returned (Ok tt) = 0
returned (Err r) = r.number + r.place * 2 ^ 32

-- what a return value tells, with the values that the lent list holds
abbrev pub told_by : {X : Type 0} → ℕ → X → Answered X
told_by zero values = Ok values
told_by (suc r) values = refused (suc r % 2 ^ 32) (suc r / 2 ^ 32)

-- ---- the values in the lent lists

-- of an opening: the balance goes to the first two entries
abbrev pub open_values : ℕ
open_values = 2

abbrev pub balance_words : Balance → List ℕ
balance_words b = b.total ∷ b.scale ∷ []

-- of a step: what it tells goes to the first entries, the length of its book last
abbrev pub step_values : ℕ
step_values = 5

abbrev pub result_words : Repair → ℕ → List ℕ
result_words r l = r.outcome ∷ r.total ∷ r.change ∷ r.shared ∷ l ∷ []

-- ---- from which the operations' own answers are read off

abbrev pub balance_in : List ℕ → Balance
balance_in answer = record { total = at answer 0; scale = at answer 1 }

abbrev pub repair_in : List ℕ → Repair
repair_in answer = record { outcome = at answer 0; total = at answer 1; change = at answer 2; shared = at answer 3 }

-- of a call of Step: the new balance is the total in the list, at the scale of the balance that the call was given
abbrev pub result_in : StepCall → List ℕ → Stepped
result_in c answer = record { repair = repair_in answer; balance = record { total = at answer 1; scale = c.balance.scale }; length = at answer 4 }
