-- Histories of the calls from C on a family, as histories of its operations. Assumes nothing.
use Rattle.std.specs.Prelude.{Ok, Some, None, Option, ◌≡◌, true, cond, List, [], ◌∷◌, ℕ, ◌≤◌, ◌<◌, leb, eqb, ℤ, length, drop}
use Rattle.family_spec.specs.declared.Served.{Served}
use Rattle.numbers.specs.Lists.{at}
use Rattle.kept_spec.specs.BookRun.{StartEvent, StartPromised}
use Rattle.family_spec.specs.Member.{StepInputs}
use Rattle.family_spec.specs.History.{FamilyEvent, FamilyStanding, place_if, Lends, place, lengths_after, ToldLength}
use Rattle.family_spec.specs.Family.{member_at, total_of}
use Rattle.call_values.specs.Values.{told_by, open_values, step_values}
use Rattle.family_calls.specs.List.{family_in}
use Rattle.family_calls.specs.Calls.{FamilyOpenReturns, FamilyStepReturns, open_told, step_told}
use Rattle.turn_calls.specs.TurnCalls.{FamilyRegisterReturns, turn_values, FamilyTurnReturns}

-- a call, of member i or a turn, with the list of the family given, what it was lent, and what it returned and left; and a start of a book for
-- member i, as the operation
pub data FamilyCall : Type 0 where
  opens : (family : List ℕ) (i : ℕ) (kept : List ℕ) (k : ℕ) (answer : List ℕ) (r : ℕ) (family' answer' : List ℕ) → FamilyCall
  steps : (family : List ℕ) (i : ℕ) (x : StepInputs) (answer : List ℕ) (r : ℕ) (family' kept : List ℕ) (scratch : List ℤ) (book answer' : List ℕ) → FamilyCall
  registers : (family : List ℕ) (i : ℕ) (r : ℕ) (family' : List ℕ) → FamilyCall
  turns : (family : List ℕ) (x : StepInputs) (answer : List ℕ) (r : ℕ) (family' kept : List ℕ) (scratch : List ℤ) (book answer' : List ℕ) → FamilyCall
  books : (family : List ℕ) (i : ℕ) (e : StartEvent) → FamilyCall

-- what stands between calls: the list of the family, and of each member the kept masses, the buffer of its book and the book's length
pub record ListStanding : Type 0 where
  pub family : List ℕ
  pub kept : ℕ → List ℕ
  pub book : ℕ → List ℕ
  pub length : ℕ → ℕ

abbrev pub standing_in : ListStanding → FamilyStanding
standing_in s = record { family = family_in s.family; kept = s.kept; book = s.book; length = s.length }

-- what a turn told, by the list for its values
abbrev pub turn_told : List ℕ → StepInputs → List ℕ → Option Served
turn_told family x answer' =
    let i = at answer' 0 in
    cond (eqb i 8) None (Some (record { member = i; stepped = (step_told family i x (at answer' 1) (drop 2 answer')) }))

-- the operation that it is
abbrev pub event_of : FamilyCall → FamilyEvent
event_of (FamilyCall.opens family i kept k answer r family' answer') =
    FamilyEvent.opens (family_in family) i kept k (record { family = family_in family'; answer = (open_told r answer') })
event_of (FamilyCall.steps family i x answer r family' kept scratch book answer') =
    FamilyEvent.steps (family_in family) i x (record { family = family_in family'; answer = (step_told family i x r answer') }) kept scratch book
event_of (FamilyCall.registers family i r family') = FamilyEvent.registers (family_in family) i (record { family = family_in family'; answer = (told_by r tt) })
event_of (FamilyCall.turns family x answer r family' kept scratch book answer') =
    FamilyEvent.turns (family_in family) x (record { family = family_in family'; answer = turn_told family x answer' }) kept scratch book
event_of (FamilyCall.books family i e) = FamilyEvent.books (family_in family) i e

-- one operation; none if the list for its values is too short, since such a call is refused for that
abbrev pub events_of : FamilyCall → List FamilyEvent
events_of (FamilyCall.opens family i kept k answer r family' answer') =
    cond (leb open_values (length answer)) (event_of (FamilyCall.opens family i kept k answer r family' answer') ∷ []) []
events_of (FamilyCall.steps family i x answer r family' kept scratch book answer') =
    cond (leb step_values (length answer)) (event_of (FamilyCall.steps family i x answer r family' kept scratch book answer') ∷ []) []
events_of (FamilyCall.registers family i r family') = event_of (FamilyCall.registers family i r family') ∷ []
events_of (FamilyCall.turns family x answer r family' kept scratch book answer') =
    cond (leb turn_values (length answer)) (event_of (FamilyCall.turns family x answer r family' kept scratch book answer') ∷ []) []
events_of (FamilyCall.books family i e) = event_of (FamilyCall.books family i e) ∷ []

-- a turn that served i was lent masses and book as i's steps are; an idle one leaves all lists and lengths
abbrev pub TurnLends : (ℕ → List ℕ) → List ℕ → Option Served → List ℕ → (ℕ → List ℕ) → Type 0
TurnLends all given None left all' = all' ≡ all
TurnLends all given (Some r) left all' = Lends all r.member given r.stepped left all'

abbrev pub TurnToldLength : (ℕ → ℕ) → ℕ → Option Served → Type 0
TurnToldLength lengths l None = Unit
TurnToldLength lengths l (Some r) = ToldLength lengths r.member l r.stepped

abbrev pub turn_lengths : (ℕ → ℕ) → Option Served → ℕ → ℕ
turn_lengths lengths None = lengths
turn_lengths lengths (Some r) = lengths_after lengths r.member r.stepped

-- each call is given the list standing and keeps its promise, whatever the length of the list for its values; masses and books are lent as to the
-- operations, and a turn with too short a list leaves them
pub data FamilyCallMoves : ListStanding → FamilyCall → ListStanding → Type 0 where
  opens : {s : ListStanding} {i : ℕ} {kept : List ℕ} {k : ℕ} {answer : List ℕ} {r : ℕ} {family' answer' : List ℕ}
      → FamilyOpenReturns s.family i kept k answer r family' answer'
      → FamilyCallMoves s (FamilyCall.opens s.family i kept k answer r family' answer')
      (record { family = family'; kept = place_if (open_told r answer') s.kept i kept; book = s.book; length = s.length })
  steps : {s : ListStanding} {i : ℕ} {x : StepInputs} {answer : List ℕ} {r : ℕ} {family' kept : List ℕ} {scratch : List ℤ} {book answer' : List ℕ} {all books : ℕ → List ℕ}
      → FamilyStepReturns s.family i x answer r family' kept scratch book answer' → Lends s.kept i x.kept (step_told s.family i x r answer') kept all
      → Lends s.book i x.book (step_told s.family i x r answer') book books → ToldLength s.length i x.length (step_told s.family i x r answer')
      → FamilyCallMoves s (FamilyCall.steps s.family i x answer r family' kept scratch book answer')
      (record { family = family'; kept = all; book = books; length = lengths_after s.length i (step_told s.family i x r answer') })
  registers : {s : ListStanding} {i : ℕ} {r : ℕ} {family' : List ℕ}
      → FamilyRegisterReturns s.family i r family'
      → FamilyCallMoves s (FamilyCall.registers s.family i r family') (record { family = family'; kept = s.kept; book = s.book; length = s.length })
  turns : {s : ListStanding} {x : StepInputs} {answer : List ℕ} {r : ℕ} {family' kept : List ℕ} {scratch : List ℤ} {book answer' : List ℕ} {all books : ℕ → List ℕ}
      → turn_values ≤ length answer → FamilyTurnReturns s.family x answer r family' kept scratch book answer'
      → TurnLends s.kept x.kept (turn_told s.family x answer') kept all → TurnLends s.book x.book (turn_told s.family x answer') book books
      → TurnToldLength s.length x.length (turn_told s.family x answer')
      → FamilyCallMoves s (FamilyCall.turns s.family x answer r family' kept scratch book answer')
      (record { family = family'; kept = all; book = books; length = turn_lengths s.length (turn_told s.family x answer') })
  refuses : {s : ListStanding} {x : StepInputs} {answer : List ℕ} {r : ℕ} {family' kept : List ℕ} {scratch : List ℤ} {book answer' : List ℕ}
      → length answer < turn_values → FamilyTurnReturns s.family x answer r family' kept scratch book answer'
      → FamilyCallMoves s (FamilyCall.turns s.family x answer r family' kept scratch book answer')
      (record { family = family'; kept = s.kept; book = s.book; length = s.length })
  books : {s : ListStanding} {i : ℕ} {e : StartEvent} {l : ℕ}
      → StartPromised e → e.answer ≡ Ok l → (member_at (family_in s.family) i).opened ≡ true → e.total ≡ total_of (family_in s.family) i
      → FamilyCallMoves s (FamilyCall.books s.family i e)
      (record { family = s.family; kept = s.kept; book = place s.book i e.left; length = place s.length i l })
