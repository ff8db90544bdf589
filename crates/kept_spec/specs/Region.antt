-- Edits stay in their region (ticket 13 of 02), of Step and of runs: what two steps are given alike, and what they then tell and leave alike; and
-- two runs whose steps are such. Assumes nothing.
use Rattle.std.specs.Prelude.{◌≡◌, List, ℕ, ◌<◌, length}
use Rattle.numbers.specs.Lists.{at, sum}
use Rattle.numbers.specs.Checks.{Answered}
use Rattle.qlt_spec.specs.Field.{Field, cells, field}
use Rattle.qlt_spec.specs.Region.{Outside, EditedField, PastSeven, SameRepair, SameTold}
use Rattle.kept_spec.specs.declared.Stepped.{Stepped}
use Rattle.kept_spec.specs.Step.{StepCall}
use Rattle.kept_spec.specs.Account.{Event}
use Rattle.kept_spec.specs.BookRun.{StartEvent, Act, Ledger, LedgerMoves}

-- ---- of two steps

abbrev pub StepPastSeven : StepCall → Type 0
StepPastSeven c = PastSeven c.lists (length c.kept) (length c.scratch)

-- two steps by fields past checks 1 to 7, of which one is the other edited below v; balance, source, scale and book are the same, and of the kept
-- masses the sum. The kept masses themselves and the scratch may differ.
pub record EditedStep (c d : StepCall) (v : ℕ) : Type 0 where
  pub past : StepPastSeven c
  pub past' : StepPastSeven d
  pub fields : EditedField (field c.lists) (field d.lists) v
  pub balance : c.balance ≡ d.balance
  pub source : c.source ≡ d.source
  pub scale : c.scale ≡ d.scale
  pub kept : sum c.kept ≡ sum d.kept
  pub book : c.book ≡ d.book
  pub length : c.length ≡ d.length

-- the results of two accepted steps that left the masses xs and ys: repairs that are the same outside v, the same balance, and the same length of
-- the book
pub record SameStepped (F : Field) (v : ℕ) (xs ys : List ℕ) (x y : Stepped) : Type 0 where
  pub repair : SameRepair F v x.repair y.repair xs ys
  pub balance : x.balance ≡ y.balance
  pub length : x.length ≡ y.length

-- what two steps tell and leave, the buffers of their books byte for byte
pub record SameSteps (F : Field) (v : ℕ) (a b : Answered Stepped) (xs ys book book' : List ℕ) : Type 0 where
  pub told : SameTold (SameStepped F v xs ys) a b
  pub books : book ≡ book'

-- ---- of two runs that hand on a book, call by call

-- a call is lent all that stands
pub record LentAll (s : Ledger) (c : StepCall) : Type 0 where
  pub kept : c.kept ≡ s.kept
  pub balance : c.balance ≡ s.balance
  pub book : c.book ≡ s.book
  pub length : c.length ≡ s.length

-- a step in each run, lent all that stands there, with one source and scale, by fields past checks 1 to 7 of which one is the other edited below a
-- node; the cells `Mine`, any of them, lie outside it. Tree and node may be others at each step.
pub record EditedCalls (Mine : ℕ → Type 0) (s t : Ledger) (c d : StepCall) : Type 0 where
  pub node : ℕ
  pub mine : (i : ℕ) → Mine i → (i < cells c.lists) × Outside (field c.lists) node i
  pub lent : LentAll s c
  pub lent' : LentAll t d
  pub past : StepPastSeven c
  pub past' : StepPastSeven d
  pub fields : EditedField (field c.lists) (field d.lists) node
  pub source : c.source ≡ d.source
  pub scale : c.scale ≡ d.scale

-- or a start of a book in each, in buffers that are the same
pub data EditedActs (Mine : ℕ → Type 0) (s t : Ledger) : Act → Act → Type 0 where
  steps : {e d : Event} → EditedCalls Mine s t e.call d.call → EditedActs Mine s t (Act.steps e) (Act.steps d)
  starts : {e d : StartEvent} → e.buffer ≡ d.buffer → EditedActs Mine s t (Act.starts e) (Act.starts d)

-- how both runs move
pub record EditedMoves (Mine : ℕ → Type 0) (s : Ledger × Ledger) (e : Act × Act) (t : Ledger × Ledger) : Type 0 where
  pub moves : LedgerMoves s.0 e.0 t.0
  pub moves' : LedgerMoves s.1 e.1 t.1
  pub edited : EditedActs Mine s.0 s.1 e.0 e.1

-- what stands in both is the same but for masses of other cells, whose sum is the same too. The book, with source, outcome and total of each
-- accepted step, is the same byte for byte.
pub record SameLedgers (Mine : ℕ → Type 0) (s : Ledger × Ledger) : Type 0 where
  pub masses : (i : ℕ) → Mine i → at s.0.kept i ≡ at s.1.kept i
  pub sums : sum s.0.kept ≡ sum s.1.kept
  pub balance : s.0.balance ≡ s.1.balance
  pub book : s.0.book ≡ s.1.book
  pub length : s.0.length ≡ s.1.length
