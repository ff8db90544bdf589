-- Runs of the calls from C for a kept field, as runs of Step. Assumes nothing.
use Rattle.std.specs.Prelude.{Ok, ◌≡◌, cond, List, [], ◌∷◌, ◌++◌, ℕ, leb, ℤ, length}
use Rattle.kept_spec.specs.Step.{StepCall}
use Rattle.kept_spec.specs.Account.{Event, Standing, told, Accepts, balance_after}
use Rattle.kept_spec.specs.BookRun.{StartEvent, StartPromised, Act, Ledger, ledger, standing_of, Lent, length_after}
use Rattle.call_values.specs.Values.{told_by, step_values, result_in}
use Rattle.legzhuro_c.specs.Calls.{StepReturns}

-- a call of `legzhuro_step` with what it returned and left
pub record CallEvent : Type 0 where
  pub call : StepCall
  pub answer : List ℕ
  pub returned : ℕ
  pub kept : List ℕ
  pub scratch : List ℤ
  pub book : List ℕ
  pub answer' : List ℕ

-- the Step that it is, by its return value and the list for its values
abbrev pub event_of : CallEvent → Event
event_of e =
    record {
      call = e.call;
      answer = (told_by e.returned (result_in e.call e.answer'));
      kept = e.kept;
      scratch = e.scratch;
      book = e.book;
    }

-- one Step; none if the list for its values is too short, since such a call is refused for that
abbrev pub steps_of : CallEvent → List Event
steps_of e = cond (leb step_values (length e.answer)) (event_of e ∷ []) []

-- exactly what the call promises, whatever the length of that list
abbrev pub CallPromised : CallEvent → Type 0
CallPromised e = StepReturns e.call e.answer e.returned e.kept e.scratch e.book e.answer'

-- moves as those of Step
pub data CallMoves : Standing → CallEvent → Standing → Type 0 where
  lent : {s : Standing} {e : CallEvent} (before rest : List ℕ) → CallPromised e → s.kept ≡ before ++ (e.call.kept ++ rest)
      → (Accepts (told (event_of e)) → (e.call.kept ≡ s.kept) × (e.call.balance ≡ s.balance))
      → CallMoves s e (record { kept = before ++ (e.kept ++ rest); balance = balance_after (told (event_of e)) s.balance })
  elsewhere : {s : Standing} {e : CallEvent} → CallPromised e → (Accepts (told (event_of e)) → ⊥) → CallMoves s e s

-- ---- with a book that is handed on

-- a run of these calls and of starts of books
pub data CallAct : Type 0 where
  steps : CallEvent → CallAct
  starts : StartEvent → CallAct

-- as acts of Step
abbrev pub acts_of : CallAct → List Act
acts_of (CallAct.steps e) = cond (leb step_values (length e.answer)) (Act.steps (event_of e) ∷ []) []
acts_of (CallAct.starts e) = Act.starts e ∷ []

-- moves as those of Step with a book
pub data LedgerCallMoves : Ledger → CallAct → Ledger → Type 0 where
  steps : {s : Ledger} {e : CallEvent} {t : Standing} {book : List ℕ}
      → CallMoves (standing_of s) e t → Lent s.book e.call.book e.book (Accepts (told (event_of e))) book
      → (Accepts (told (event_of e)) → e.call.length ≡ s.length)
      → LedgerCallMoves s (CallAct.steps e) (ledger t book (length_after (told (event_of e)) s.length))
  starts : {s : Ledger} {e : StartEvent} {l : ℕ}
      → StartPromised e → e.answer ≡ Ok l → e.total ≡ s.balance.total
      → LedgerCallMoves s (CallAct.starts e) (ledger (standing_of s) e.left l)
