-- Runs of any relation between a state, an event and the next state, so that a state with a scale, a member of a family or a book is
-- another instance and not another theorem. Assumes nothing.
use Rattle.std.specs.Prelude.{◌≡◌, List, [], ◌∷◌, ◌++◌, ℤ, pos, ◌+ℤ◌}

-- a list of events that leads from one state to another
pub data Run {E S : Type 0} (Move : S → E → S → Type 0) : S → List E → S → Type 0 where
  done : {s : S} → Run Move s [] s
  step : {s t u : S} {e : E} {es : List E} → Move s e t → Run Move t es u → Run Move s (e ∷ es) u

-- what the events of a list give, one after another
unfoldable pub collect : {E X : Type 0} → (E → List X) → List E → List X
collect f [] = []
collect f (e ∷ es) = f e ++ collect f es

-- what the events of a list add up to
unfoldable pub sum_of : {E : Type 0} → (E → ℤ) → List E → ℤ
sum_of gain [] = pos 0
sum_of gain (e ∷ es) = gain e +ℤ sum_of gain es

-- what is asked of a relation: each move keeps an invariant, adds the event's gain to a value, and has a fact of the event
pub record Sound {E S : Type 0} (Move : S → E → S → Type 0) (Inv : S → Type 0) (value : S → ℤ) (gain : E → ℤ) (Fact : E → Type 0) : Type 0 where
  pub keeps : {s t : S} {e : E} → Inv s → Move s e t → Inv t
  pub gains : {s t : S} {e : E} → Inv s → Move s e t → value t ≡ value s +ℤ gain e
  pub facts : {s t : S} {e : E} → Inv s → Move s e t → Fact e
