-- Runs of Step calls after an opening ('Kept field' of 01), and the account of a run: the conclusion of demand 3. Assumes nothing.
use Rattle.std.specs.Prelude.{Ok, Err, ◌≡◌, ◌⊎◌, ◌↔◌, List, ◌++◌, ℕ, ℤ, pos, ◌+ℤ◌, drop}
use Rattle.numbers.specs.Checks.{Answered, refused, Broken}
use Rattle.numbers.specs.Lists.{sum, All}
use Rattle.qlt_spec.specs.Field.{field, Meets}
use Rattle.qlt_spec.specs.Masses.{tree_masses}
use Rattle.qlt_spec.specs.Facts.{FieldFacts}
use Rattle.qlt_spec.specs.Operation.{repair}
use Rattle.book_spec.specs.Book.{entry, Book, closing, recorded, add}
use Rattle.book_spec.specs.LentBook.{held_in, HasBook}
use Rattle.kept_spec.specs.declared.Stepped.{Stepped}
use Rattle.kept_spec.specs.declared.Balance.{Balance}
use Rattle.kept_spec.specs.Step.{StepCall, next, step_rules, StepFits, StepContract}
use Rattle.kept_spec.specs.Run.{sum_of}

-- a Step call with what it gave and left
pub record Event : Type 0 where
  pub call : StepCall
  pub answer : Answered Stepped
  pub kept : List ℕ
  pub scratch : List ℤ
  pub book : List ℕ

-- what stands between calls: the kept masses, and the balance beside them
pub record Standing : Type 0 where
  pub kept : List ℕ
  pub balance : Balance

-- what an event told
abbrev pub told : Event → Answered Stepped
told e = e.answer

abbrev pub Accepts : Answered Stepped → Type 0
Accepts (Ok r) = Unit
Accepts (Err r) = ⊥

-- refused for its new total: with 13 or 8
abbrev pub ForTotal : Answered Stepped → Type 0
ForTotal (Ok r) = ⊥
ForTotal (Err r) = (r.number ≡ 13) ⊎ (r.number ≡ 8)

-- the balance after a call: the one that it gave if it was accepted, else as it was
abbrev pub balance_after : Answered Stepped → Balance → Balance
balance_after (Ok r) b = r.balance
balance_after (Err r) b = b

-- the source of an accepted call; a refused one brings none
abbrev pub gain_by : Answered Stepped → ℤ → ℤ
gain_by (Ok r) source = source
gain_by (Err r) source = pos 0

abbrev pub gain : Event → ℤ
gain e = gain_by (told e) e.call.source

-- exactly what Step's contract promises of an event
abbrev pub Promised : Event → Type 0
Promised e = StepContract e.call e.answer e.kept e.scratch e.book

-- a call is lent a part of the kept masses, any part or the whole, and leaves in its place what it leaves; if it is accepted, it was lent the
-- whole with the balance standing. Or it is lent other lists and is refused. Nobody else writes the kept masses.
pub data Moves : Standing → Event → Standing → Type 0 where
  lent : {s : Standing} {e : Event} (before rest : List ℕ) → Promised e → s.kept ≡ before ++ (e.call.kept ++ rest)
      → (Accepts (told e) → (e.call.kept ≡ s.kept) × (e.call.balance ≡ s.balance))
      → Moves s e (record { kept = before ++ (e.kept ++ rest); balance = balance_after (told e) s.balance })
  elsewhere : {s : Standing} {e : Event} → Promised e → (Accepts (told e) → ⊥) → Moves s e s

-- ---- the account

-- some masses within the safety bounds of a call's field add up to the total given plus the source
abbrev pub Reachable : StepCall → Type 0
Reachable c = (y : ℕ → ℤ) × Meets (field c.lists).n (field c.lists).safe_low (field c.lists).safe_high (next c) y

-- the book that an accepted step was lent, and the one with a record more that it left (02)
abbrev pub book_before : StepCall → Book
book_before c = held_in c.book c.length

abbrev pub book_after_step : StepCall → Stepped → Book
book_after_step c r = add (book_before c) (entry c.source r.repair.outcome r.balance.total)

pub record BookFacts (c : StepCall) (r : Stepped) (kept book : List ℕ) : Type 0 where
  pub before : HasBook c.book c.length (book_before c)
  pub left : HasBook book r.length (book_after_step c r)
  -- bytes past it are as they were
  pub rest : drop r.length book ≡ drop r.length c.book
  -- 'After an accepted step the closing total equals opening plus the recorded sources, and the sum of the kept masses'; it is the new total
  pub adds_up : pos (closing (book_after_step c r)) ≡ pos (book_after_step c r).opening +ℤ recorded (book_after_step c r)
  pub sums : closing (book_after_step c r) ≡ sum kept
  pub closes : closing (book_after_step c r) ≡ r.balance.total

-- what an accepted step gave and left
pub record AcceptedFacts (c : StepCall) (r : Stepped) (kept book : List ℕ) : Type 0 where
  -- 'its new total': M is the total given plus the source, and the new balance's total is that M
  pub moves : pos r.balance.total ≡ next c
  -- and its scale is the one that the step names
  pub scale : r.balance.scale ≡ c.scale
  -- the outcome, the total, the change and what was shared out are those of its field
  pub tells : r.repair ≡ repair c.lists r.balance.total
  -- 'the masses are those that document 01's whole tree gives for its field and new total'
  pub masses : kept ≡ tree_masses (field c.lists) r.balance.total
  -- 'all lie within their bounds exactly when some masses within them have that total; else they lie within their safety bounds, and no
  -- masses with that total miss the bounds by less in sum. At each inner node every other division of its mass lies at least as far'
  pub facts : FieldFacts (field c.lists) r.balance.total kept
  pub filed : BookFacts c r kept book

-- the facts of one call
pub record StepFacts (e : Event) : Type 0 where
  -- 'accepted if it returns no refusal, as it does exactly when every check told for it passes'; a refusal's number and place are those of
  -- the rule that is broken, those before it holding
  pub accepts : Accepts (told e) ↔ StepFits e.call
  pub refuses : (number place : ℕ) → (told e ≡ refused number place) ↔ Broken (step_rules e.call) number place
  pub gives : (r : Stepped) → told e ≡ Ok r → AcceptedFacts e.call r e.kept e.book
  -- 'a step accepted or refused for its new total was accepted exactly when some masses within its safety bounds reach it'
  pub decided : Accepts (told e) ⊎ ForTotal (told e) → Accepts (told e) ↔ Reachable e.call

-- an accepted step is at the scale k
abbrev pub AtScale : ℕ → Event → Type 0
AtScale k e = Accepts (told e) → e.call.scale ≡ k

-- demand 3
pub record Account (opening : Balance) (es : List Event) (end : Standing) : Type 0 where
  -- 'these add up to the opening total plus the sources of the accepted steps'
  pub sums : pos (sum end.kept) ≡ pos opening.total +ℤ sum_of gain es
  -- 'which is the total standing'
  pub standing : sum end.kept ≡ end.balance.total
  -- 'a run's accepted steps are all at the opening's scale' (02), and so is the balance standing
  pub scales : All (AtScale opening.scale) es
  pub scale : end.balance.scale ≡ opening.scale
  -- 'after each accepted step ..'
  pub steps : All StepFacts es
