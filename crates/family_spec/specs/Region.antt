-- Edits stay in their region (ticket 13 of 02), of a member's steps and of turns: what two calls on one family, with fields that differ only below
-- a node, have alike. Assumes nothing.
use Rattle.std.specs.Prelude.{Some, Option, ◌≡◌, List, ℕ}
use Rattle.numbers.specs.Checks.{Answered}
use Rattle.qlt_spec.specs.Field.{field}
use Rattle.kept_spec.specs.declared.Stepped.{Stepped}
use Rattle.kept_spec.specs.Region.{EditedStep, SameSteps}
use Rattle.family_spec.specs.declared.Served.{Served}
use Rattle.family_spec.specs.declared.FamilyAnswer.{FamilyAnswer}
use Rattle.family_spec.specs.declared.Family.{Family}
use Rattle.family_spec.specs.Family.{member_at, terms}
use Rattle.family_spec.specs.Member.{StepInputs, call_of}

-- two steps of member i of one family whose fields differ only below v, and whose other inputs are the same as in `EditedStep`
abbrev pub EditedInputs : Family → ℕ → StepInputs → StepInputs → ℕ → Type 0
EditedInputs f i x y v = EditedStep (call_of (terms f) (member_at f i) x) (call_of (terms f) (member_at f i) y) v

-- what they tell and leave is the same outside v, and the family that they leave is the same
pub record SameMemberSteps (x : StepInputs) (v : ℕ) (r q : FamilyAnswer (Answered Stepped)) (xs ys book book' : List ℕ) : Type 0 where
  pub steps : SameSteps (field x.lists) v r.answer q.answer xs ys book book'
  pub family : r.family ≡ q.family

-- two turns that serve member i
pub record SameTurns (x : StepInputs) (v i : ℕ) (r q : FamilyAnswer (Option Served)) (xs ys book book' : List ℕ) : Type 0 where
  pub answer : Answered Stepped
  pub answer' : Answered Stepped
  pub served : r.answer ≡ Some (record { member = i; stepped = answer })
  pub served' : q.answer ≡ Some (record { member = i; stepped = answer' })
  pub steps : SameSteps (field x.lists) v answer answer' xs ys book book'
  pub family : r.family ≡ q.family
