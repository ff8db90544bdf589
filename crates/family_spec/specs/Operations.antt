-- The operations of a family: what each answers, the family that it gives, and the lists that it leaves. A refused call gives the family back
-- as it came and writes no list; a turn is never refused itself, and the step that it calls may be. Assumes nothing.
use Rattle.std.specs.Prelude.{Ok, Err, Some, None, Option, ◌≡◌, List, [], ◌∷◌, ℕ, suc, ◌%◌, ℤ}
use Rattle.std.specs.Int.Count.{ones}
use Rattle.numbers.specs.Lists.{sum}
use Rattle.numbers.specs.Checks.{Checked, Answered, answered, after, first, check_count, check_scale}
use Rattle.book_spec.specs.Book.{book}
use Rattle.kept_spec.specs.declared.Stepped.{Stepped}
use Rattle.kept_spec.specs.declared.Balance.{Balance}
use Rattle.kept_spec.specs.Open.{OpenBy}
use Rattle.kept_spec.specs.Step.{new_total, StepBy}
use Rattle.family_spec.specs.declared.Family.{Family}
use Rattle.family_spec.specs.declared.Served.{Served}
use Rattle.family_spec.specs.declared.FamilyAnswer.{FamilyAnswer}
use Rattle.family_spec.specs.Family.{open_with, member_at, put, schedule, begun, room, terms}
use Rattle.family_spec.specs.Waiting.{with_bit, without_bit, first_waiting}
use Rattle.family_spec.specs.Member.{check_opened, opening_verdict, StepInputs, call_of, stepping_verdict}

-- ---- start: 1; 9

unfoldable pub start_verdict : ℕ → ℕ → Checked
start_verdict scale cells = first (check_count cells ∷ check_scale scale ∷ [])

-- a refused start gives a family without cells
pub record StartContract (cap scale cells : ℕ) (r : FamilyAnswer Checked) : Type 0 where
  pub answers : r.answer ≡ answered (start_verdict scale cells) tt
  pub gives : r.family ≡ after (start_verdict scale cells) (begun cap scale cells) (begun 0 0 0)

-- ---- open, of member i at the scale k

abbrev pub open_member_verdict : Family → ℕ → List ℕ → ℕ → Checked
open_member_verdict f i kept k = opening_verdict (terms f) i (member_at f i) (room f i) kept k

pub record OpenMemberContract (f : Family) (i : ℕ) (kept : List ℕ) (k : ℕ) (r : FamilyAnswer (Answered Balance)) : Type 0 where
  pub tells : OpenBy (open_member_verdict f i kept k) kept k r.answer
  pub gives : r.family ≡ after (open_member_verdict f i kept k) (put f i (open_with (sum kept))) f

-- ---- step, of member i

-- the family after a step that told this: it takes over the total of an accepted one
abbrev pub taken : Family → ℕ → Answered Stepped → Family
taken f i (Ok r) = put f i (open_with r.balance.total)
taken f i (Err r) = f

abbrev pub step_member_verdict : Family → ℕ → StepInputs → Checked
step_member_verdict f i x = stepping_verdict (terms f) i (member_at f i) (room f i) x

-- it answers and leaves what the Step of the member's balance does, by the family's verdict
pub record StepMemberContract (f : Family) (i : ℕ) (x : StepInputs) (r : FamilyAnswer (Answered Stepped)) (kept : List ℕ) (scratch : List ℤ) (book : List ℕ) : Type 0 where
  pub tells : StepBy (step_member_verdict f i x) (call_of (terms f) (member_at f i) x) r.answer kept scratch book
  pub gives : r.family ≡ after (step_member_verdict f i x) (put f i (open_with (new_total (call_of (terms f) (member_at f i) x)))) f

-- ---- register, of member i: 19

abbrev pub register_verdict : Family → ℕ → Checked
register_verdict f i = check_opened i (member_at f i)

-- it waits from then on; the search begins where it did
pub record RegisterContract (f : Family) (i : ℕ) (r : FamilyAnswer Checked) : Type 0 where
  pub answers : r.answer ≡ answered (register_verdict f i) tt
  pub gives : r.family ≡ after (register_verdict f i) (schedule f (with_bit f.waiting i) f.from) f

-- ---- the next in turn, and the number waiting: both read the family alone

-- 'the first waiting after the last one served, going round' (02)
unfoldable pub next_member : Family → Option ℕ
next_member f = first_waiting f.waiting f.from 8

-- 'the count of set bits in the waiting byte' (02)
abbrev pub waiting_count : Family → ℕ
waiting_count f = ones f.waiting

-- ---- turn

-- the family after member i was served: its waiting has ended, and the search begins after it
abbrev pub serve : Family → ℕ → Family
serve f i = schedule f (without_bit f.waiting i) (suc i % 8)

-- nobody waits: nothing changes
pub record IdleTurn (f : Family) (x : StepInputs) (r : FamilyAnswer (Option Served)) (kept : List ℕ) (scratch : List ℤ) (book : List ℕ) : Type 0 where
  pub answers : r.answer ≡ None
  pub gives : r.family ≡ f
  pub keeps : kept ≡ x.kept
  pub leaves : scratch ≡ x.scratch
  pub files : book ≡ x.book

-- member i is served: its step is called, accepted or not
pub record ServingTurn (f : Family) (i : ℕ) (x : StepInputs) (r : FamilyAnswer (Option Served)) (kept : List ℕ) (scratch : List ℤ) (book : List ℕ) : Type 0 where
  pub step : FamilyAnswer (Answered Stepped)
  pub contract : StepMemberContract f i x step kept scratch book
  pub answers : r.answer ≡ Some (record { member = i; stepped = step.answer })
  pub gives : r.family ≡ serve step.family i

abbrev pub TurnBy : Option ℕ → Family → StepInputs → FamilyAnswer (Option Served) → List ℕ → List ℤ → List ℕ → Type 0
TurnBy None f x r kept scratch book = IdleTurn f x r kept scratch book
TurnBy (Some i) f x r kept scratch book = ServingTurn f i x r kept scratch book

pub record TurnContract (f : Family) (x : StepInputs) (r : FamilyAnswer (Option Served)) (kept : List ℕ) (scratch : List ℤ) (book : List ℕ) : Type 0 where
  pub serves_next : TurnBy (next_member f) f x r kept scratch book
