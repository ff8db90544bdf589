-- Step with the scratch that it had before ticket 9 of 02, 6 numbers asked for and cleared for each node. Assumes nothing.
use Rattle.std.specs.Prelude.{◌≡◌, List, [], ℕ, ℤ}
use Rattle.numbers.specs.Checks.{Checked, Answered, after, first}
use Rattle.qlt_spec.specs.Operation.{RepairTellsWith}
use Rattle.qlt_spec.specs.Former.{former_per_node}
use Rattle.book_spec.specs.LentBook.{grown_buffer}
use Rattle.kept_spec.specs.declared.Stepped.{Stepped}
use Rattle.kept_spec.specs.Step.{StepCall, Typed, repair_call, step_checks_with, step_result, step_entry}

unfoldable pub former_step_verdict : StepCall → Checked
former_step_verdict c = first (step_checks_with former_per_node [] c)

pub record FormerStepContract (c : StepCall) (answer : Answered Stepped) (kept : List ℕ) (scratch : List ℤ) (book : List ℕ) : Type 0 where
  pub typed : Typed c
  pub tells : RepairTellsWith former_per_node (former_step_verdict c) (repair_call c) (step_result c) answer kept scratch
  pub files : book ≡ after (former_step_verdict c) (grown_buffer c.book c.length (step_entry c)) c.book
