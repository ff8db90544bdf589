-- The calls from C for turns of a family: what each returns and leaves in the lists lent to it. A list for the family with fewer than 21 entries
-- is refused with 3, before all else, and so is a list that is too short for the values that a call gives. Assumes nothing.
use Rattle.std.specs.Prelude.{Ok, Err, Some, None, Option, ◌≡◌, List, [], ◌∷◌, ℕ, ◌+◌, ◌*◌, ◌^◌, ℤ, length}
use Rattle.family_spec.specs.declared.Served.{Served}
use Rattle.family_spec.specs.declared.FamilyAnswer.{FamilyAnswer}
use Rattle.kept_spec.specs.declared.Stepped.{Stepped}
use Rattle.numbers.specs.Lists.{written}
use Rattle.numbers.specs.Checks.{Checked, Answered, after, first, check_long}
use Rattle.family_spec.specs.declared.Family.{Family}
use Rattle.family_spec.specs.Family.{schedule}
use Rattle.family_spec.specs.Waiting.{with_bit}
use Rattle.family_spec.specs.Member.{StepInputs}
use Rattle.family_spec.specs.Operations.{register_verdict, next_member, waiting_count, TurnContract}
use Rattle.call_values.specs.Values.{returned, result_words}
use Rattle.family_calls.specs.List.{family_entries, family_words, family_in}
use Rattle.family_calls.specs.Calls.{call_room}

-- ---- register, of member i

unfoldable pub register_call_verdict : List ℕ → ℕ → Checked
register_call_verdict family i = first (check_long (length family) family_entries ∷ register_verdict (family_in family) i ∷ [])

-- the family with member i registered
abbrev pub registered_in : List ℕ → ℕ → Family
registered_in family i = let f = family_in family in schedule f (with_bit f.waiting i) f.from

pub record FamilyRegisterReturns (family : List ℕ) (i : ℕ) (r : ℕ) (family' : List ℕ) : Type 0 where
  pub returns : r ≡ returned (register_call_verdict family i)
  pub gives : family' ≡ after (register_call_verdict family i) (written family 0 (family_words (registered_in family i))) family

-- ---- the next in turn, and the number waiting: a value of the family goes to the first entry of the answer

pub record FamilyReads (value : Family → ℕ) (family answer : List ℕ) (r : ℕ) (answer' : List ℕ) : Type 0 where
  pub returns : r ≡ returned (call_room family answer 1)
  pub writes : answer' ≡ after (call_room family answer 1) (written answer 0 (value (family_in family) ∷ [])) answer

-- the member, or 8 for nobody
abbrev pub next_word : Option ℕ → ℕ
next_word (Some i) = i
next_word None = 8

abbrev pub FamilyNextReturns : List ℕ → List ℕ → ℕ → List ℕ → Type 0
FamilyNextReturns = FamilyReads (λ f. next_word (next_member f))

abbrev pub FamilyWaitingReturns : List ℕ → List ℕ → ℕ → List ℕ → Type 0
FamilyWaitingReturns = FamilyReads waiting_count

-- ---- turn

abbrev pub turn_values : ℕ
turn_values = 7

-- what the call for a step returns and writes: 0 and the values of an accepted one, the refusal and no values
abbrev pub step_words : Answered Stepped → List ℕ
step_words (Ok r) = 0 ∷ result_words r.repair r.length
step_words (Err r) = (r.number + r.place * 2 ^ 32) ∷ 0 ∷ 0 ∷ 0 ∷ 0 ∷ 0 ∷ []

-- the member served, or 8 for idle, and these
abbrev pub turn_words : Option Served → List ℕ
turn_words None = 8 ∷ 0 ∷ 0 ∷ 0 ∷ 0 ∷ 0 ∷ 0 ∷ []
turn_words (Some r) = r.member ∷ step_words r.stepped

-- the list of the family after a turn that gave f: an idle one leaves it
abbrev pub turn_list : Option Served → List ℕ → Family → List ℕ
turn_list None family f = family
turn_list (Some r) family f = written family 0 (family_words f)

-- too short a list: nothing is written
pub record TurnLeaves (family : List ℕ) (x : StepInputs) (answer family' kept : List ℕ) (scratch : List ℤ) (book answer' : List ℕ) : Type 0 where
  pub gives : family' ≡ family
  pub keeps : kept ≡ x.kept
  pub clears : scratch ≡ x.scratch
  pub files : book ≡ x.book
  pub writes : answer' ≡ answer

-- else the turn of the family in the list is made
pub record TurnMade (family : List ℕ) (x : StepInputs) (answer family' kept : List ℕ) (scratch : List ℤ) (book answer' : List ℕ) : Type 0 where
  pub turned : FamilyAnswer (Option Served)
  pub contract : TurnContract (family_in family) x turned kept scratch book
  pub gives : family' ≡ turn_list turned.answer family turned.family
  pub writes : answer' ≡ written answer 0 (turn_words turned.answer)

abbrev pub TurnCallBy : Checked → List ℕ → StepInputs → List ℕ → List ℕ → List ℕ → List ℤ → List ℕ → List ℕ → Type 0
TurnCallBy (Ok tt) = TurnMade
TurnCallBy (Err r) = TurnLeaves

pub record FamilyTurnReturns (family : List ℕ) (x : StepInputs) (answer : List ℕ) (r : ℕ) (family' kept : List ℕ) (scratch : List ℤ) (book answer' : List ℕ) : Type 0 where
  pub returns : r ≡ returned (call_room family answer turn_values)
  pub does : TurnCallBy (call_room family answer turn_values) family x answer family' kept scratch book answer'
