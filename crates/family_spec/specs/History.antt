-- Histories of a family: any list of calls from an accepted start, each given the family as the last one left it. The kept masses of each
-- member and its book stand in places of their own, which are lent to its calls alone. A turn is a call of the member that it serves. A member's
-- book is started, and replaced, by one that opens with the member's total. Assumes nothing.
use Rattle.std.specs.Prelude.{Ok, Err, Some, None, Option, ◌≡◌, Bool, true, false, cond, ◌&&◌, List, [], ◌∷◌, ◌++◌, ℕ, ◌*◌, eqb, ℤ}
use Rattle.numbers.specs.Lists.{sum, written}
use Rattle.numbers.specs.Checks.{Checked, Answered, answered, after}
use Rattle.qlt_spec.specs.Field.{nodes, scratch_per_node, field}
use Rattle.qlt_spec.specs.Masses.{tree_masses}
use Rattle.qlt_spec.specs.Operation.{cleared}
use Rattle.blocks.specs.Words.{Bytes}
use Rattle.book_spec.specs.StartBook.{book_start_verdict}
use Rattle.book_spec.specs.Book.{book_bytes, book}
use Rattle.book_spec.specs.LentBook.{grown_buffer, grown_length}
use Rattle.kept_spec.specs.declared.Stepped.{Stepped}
use Rattle.kept_spec.specs.declared.Balance.{Balance}
use Rattle.kept_spec.specs.Open.{open_balance}
use Rattle.kept_spec.specs.Step.{new_total, step_verdict, step_result, Typed, step_entry}
use Rattle.kept_spec.specs.Run.{collect}
use Rattle.kept_spec.specs.Account.{Event, Accepts}
use Rattle.kept_spec.specs.BookRun.{StartEvent, StartPromised, length_after, Act, steps_in}
use Rattle.family_spec.specs.declared.Served.{Served}
use Rattle.family_spec.specs.declared.FamilyAnswer.{FamilyAnswer}
use Rattle.family_spec.specs.declared.Member.{Member}
use Rattle.family_spec.specs.declared.Family.{Family}
use Rattle.family_spec.specs.Family.{open_with, member_at, room, Terms, total_of}
use Rattle.family_spec.specs.Member.{check_opened, opening_verdict, StepInputs, call_of, stepping_verdict}
use Rattle.family_spec.specs.Operations.{OpenMemberContract, StepMemberContract, RegisterContract, TurnContract}

-- ---- the family's history

-- a call, of member i or a turn, with the family given, what it was lent, and what it gave and left; and a start of a book for member i
pub data FamilyEvent : Type 0 where
  opens : (f : Family) (i : ℕ) (kept : List ℕ) (k : ℕ) (r : FamilyAnswer (Answered Balance)) → FamilyEvent
  steps : (f : Family) (i : ℕ) (x : StepInputs) (r : FamilyAnswer (Answered Stepped)) (kept : List ℕ) (scratch : List ℤ) (book : List ℕ) → FamilyEvent
  registers : (f : Family) (i : ℕ) (r : FamilyAnswer Checked) → FamilyEvent
  turns : (f : Family) (x : StepInputs) (r : FamilyAnswer (Option Served)) (kept : List ℕ) (scratch : List ℤ) (book : List ℕ) → FamilyEvent
  books : (f : Family) (i : ℕ) (e : StartEvent) → FamilyEvent

-- what stands between calls: the family, and of each member the kept masses, the buffer of its book and the book's length
pub record FamilyStanding : Type 0 where
  pub family : Family
  pub kept : ℕ → List ℕ
  pub book : ℕ → List ℕ
  pub length : ℕ → ℕ

abbrev pub place : {X : Type 0} → (ℕ → X) → ℕ → X → ℕ → X
place all i x j = cond (eqb j i) x (all j)

-- the masses that an accepted opening was lent stand in its member's place from then on
abbrev pub place_if : Answered Balance → (ℕ → List ℕ) → ℕ → List ℕ → ℕ → List ℕ
place_if (Ok b) all i masses = place all i masses
place_if (Err r) all i masses = all

-- a step of member i is lent a part of a list of i's, its masses or its book's buffer, any part or the whole, and leaves in its place what it
-- leaves; if it is accepted, it was lent the whole. Or it is lent another list and is refused. Nobody else writes the list.
pub data Lends (all : ℕ → List ℕ) (i : ℕ) (given : List ℕ) (told : Answered Stepped) (left : List ℕ) : (ℕ → List ℕ) → Type 0 where
  own : (before rest : List ℕ) → all i ≡ before ++ (given ++ rest) → (Accepts told → given ≡ all i) → Lends all i given told left (place all i (before ++ (left ++ rest)))
  elsewhere : (Accepts told → ⊥) → Lends all i given told left all

-- a step of member i is told the length of i's book if it is accepted
abbrev pub ToldLength : (ℕ → ℕ) → ℕ → ℕ → Answered Stepped → Type 0
ToldLength lengths i l told = Accepts told → l ≡ lengths i

abbrev pub lengths_after : (ℕ → ℕ) → ℕ → Answered Stepped → ℕ → ℕ
lengths_after lengths i told = place lengths i (length_after told (lengths i))

-- each call is given the family standing and keeps its contract; a turn that serves a member is lent masses and book as that member's steps are
pub data FamilyMoves : FamilyStanding → FamilyEvent → FamilyStanding → Type 0 where
  opens : {s : FamilyStanding} {i : ℕ} {kept : List ℕ} {k : ℕ} {r : FamilyAnswer (Answered Balance)}
      → OpenMemberContract s.family i kept k r
      → FamilyMoves s (FamilyEvent.opens s.family i kept k r)
      (record { family = r.family; kept = place_if r.answer s.kept i kept; book = s.book; length = s.length })
  steps : {s : FamilyStanding} {i : ℕ} {x : StepInputs} {r : FamilyAnswer (Answered Stepped)} {kept : List ℕ} {scratch : List ℤ} {book : List ℕ} {all books : ℕ → List ℕ}
      → StepMemberContract s.family i x r kept scratch book → Lends s.kept i x.kept r.answer kept all
      → Lends s.book i x.book r.answer book books → ToldLength s.length i x.length r.answer
      → FamilyMoves s (FamilyEvent.steps s.family i x r kept scratch book)
      (record { family = r.family; kept = all; book = books; length = lengths_after s.length i r.answer })
  registers : {s : FamilyStanding} {i : ℕ} {r : FamilyAnswer Checked}
      → RegisterContract s.family i r
      → FamilyMoves s (FamilyEvent.registers s.family i r) (record { family = r.family; kept = s.kept; book = s.book; length = s.length })
  serves : {s : FamilyStanding} {x : StepInputs} {g : Family} {i : ℕ} {answer : Answered Stepped} {kept : List ℕ} {scratch : List ℤ} {book : List ℕ} {all books : ℕ → List ℕ}
      → TurnContract s.family x (record { family = g; answer = Some (record { member = i; stepped = answer }) }) kept scratch book
      → Lends s.kept i x.kept answer kept all → Lends s.book i x.book answer book books
      → ToldLength s.length i x.length answer
      → FamilyMoves s (FamilyEvent.turns s.family x (record { family = g; answer = Some (record { member = i; stepped = answer }) }) kept scratch book)
      (record { family = g; kept = all; book = books; length = lengths_after s.length i answer })
  idles : {s : FamilyStanding} {x : StepInputs} {g : Family} {kept : List ℕ} {scratch : List ℤ} {book : List ℕ}
      → TurnContract s.family x (record { family = g; answer = None }) kept scratch book
      → FamilyMoves s (FamilyEvent.turns s.family x (record { family = g; answer = None }) kept scratch book)
      (record { family = g; kept = s.kept; book = s.book; length = s.length })
  books : {s : FamilyStanding} {i : ℕ} {e : StartEvent} {l : ℕ}
      → StartPromised e → e.answer ≡ Ok l → (member_at s.family i).opened ≡ true → e.total ≡ total_of s.family i
      → FamilyMoves s (FamilyEvent.books s.family i e)
      (record { family = s.family; kept = s.kept; book = place s.book i e.left; length = place s.length i l })

-- ---- a member's history

abbrev pub only : {X : Type 0} → Bool → X → List X
only true x = x ∷ []
only false x = []

-- a call of a member, with what the family held of it and the room that it had
pub data MemberEvent : Type 0 where
  opens : (m : Member) (space : ℤ) (kept : List ℕ) (k : ℕ) (answer : Answered Balance) → MemberEvent
  steps : (m : Member) (space : ℤ) (x : StepInputs) (answer : Answered Stepped) (kept : List ℕ) (scratch : List ℤ) (book : List ℕ) → MemberEvent
  registers : (m : Member) (answer : Checked) → MemberEvent
  books : (m : Member) (e : StartEvent) → MemberEvent

-- a turn that serves member j is a step of j
abbrev pub own_turn : ℕ → Family → StepInputs → Option Served → List ℕ → List ℤ → List ℕ → List MemberEvent
own_turn i f x None kept scratch book = []
own_turn i f x (Some r) kept scratch book = only (eqb r.member i) (MemberEvent.steps (member_at f r.member) (room f r.member) x r.stepped kept scratch book)

abbrev pub own_of : ℕ → FamilyEvent → List MemberEvent
own_of i (FamilyEvent.opens f j kept k r) = only (eqb j i) (MemberEvent.opens (member_at f j) (room f j) kept k r.answer)
own_of i (FamilyEvent.steps f j x r kept scratch book) = only (eqb j i) (MemberEvent.steps (member_at f j) (room f j) x r.answer kept scratch book)
own_of i (FamilyEvent.registers f j r) = only (eqb j i) (MemberEvent.registers (member_at f j) r.answer)
own_of i (FamilyEvent.turns f x r kept scratch book) = own_turn i f x r.answer kept scratch book
own_of i (FamilyEvent.books f j e) = only (eqb j i) (MemberEvent.books (member_at f j) e)

abbrev pub calls_of : ℕ → List FamilyEvent → List MemberEvent
calls_of i es = collect (own_of i) es

-- what its call brings, and the room: all that it may depend on
pub data View : Type 0 where
  opening : (space : ℤ) (kept : List ℕ) (k : ℕ) → View
  stepping : (space : ℤ) (x : StepInputs) → View
  registering : View
  starting : (total : ℕ) (buffer : List ℕ) → View

abbrev pub view : MemberEvent → View
view (MemberEvent.opens m space kept k answer) = opening space kept k
view (MemberEvent.steps m space x answer kept scratch book) = stepping space x
view (MemberEvent.registers m answer) = registering
view (MemberEvent.books m e) = starting e.total e.buffer

-- what it is told: the answer, and what its call left in the lists lent
pub data Told : Type 0 where
  opened : Answered Balance → Told
  stepped : Answered Stepped → List ℕ → List ℤ → List ℕ → Told
  registered : Answered Unit → Told
  started : Answered ℕ → List ℕ → Told

abbrev pub told : MemberEvent → Told
told (MemberEvent.opens m space kept k answer) = opened answer
told (MemberEvent.steps m space x answer kept scratch book) = stepped answer kept scratch book
told (MemberEvent.registers m answer) = registered answer
told (MemberEvent.books m e) = started e.answer e.left

-- what it holds: whether it is open, its total, its masses and its book
pub record Held : Type 0 where
  pub member : Member
  pub kept : List ℕ
  pub book : List ℕ
  pub length : ℕ

abbrev pub held : FamilyStanding → ℕ → Held
held s i = record { member = member_at s.family i; kept = s.kept i; book = s.book i; length = s.length i }

-- what member i is told by a call, and what it holds afterwards, by what it held and what it sees
unfoldable pub tells_by : Terms → ℕ → Member → View → Told
tells_by t i m (opening space kept k) = opened (answered (opening_verdict t i m space kept k) (open_balance kept k))
tells_by t i m (stepping space x) =
    let v = stepping_verdict t i m space x in
    let c = call_of t m x in
    stepped (answered v (step_result c)) (after v (tree_masses (field x.lists) (new_total c)) x.kept)
    (after v (cleared (scratch_per_node * nodes x.lists) x.scratch) x.scratch)
    (after v (grown_buffer x.book x.length (step_entry c)) x.book)
tells_by t i m registering = registered (answered (check_opened i m) tt)
tells_by t i m (starting total buffer) =
    let v = book_start_verdict total buffer in
    started (answered v 512) (after v (written buffer 0 (book_bytes (book total []))) buffer)

unfoldable pub holds_by : Terms → ℕ → Held → View → Held
holds_by t i h (opening space kept k) =
    let v = opening_verdict t i h.member space kept k in
    record { member = after v (open_with (sum kept)) h.member; kept = after v kept h.kept; book = h.book; length = h.length }
holds_by t i h (stepping space x) =
    let v = stepping_verdict t i h.member space x in
    let c = call_of t h.member x in
    record {
      member = after v (open_with (new_total c)) h.member;
      kept = after v (tree_masses (field x.lists) (new_total c)) h.kept;
      book = after v (grown_buffer x.book x.length (step_entry c)) h.book;
      length = after v (grown_length x.book x.length) h.length;
    }
holds_by t i h registering = h
holds_by t i h (starting total buffer) =
    let v = book_start_verdict total buffer in
    record { member = h.member; kept = h.kept; book = after v (written buffer 0 (book_bytes (book total []))) h.book; length = after v 512 h.length }

-- the same of a list of calls
unfoldable pub tells_all : Terms → ℕ → Held → List View → List Told
tells_all t i h [] = []
tells_all t i h (v ∷ vs) = tells_by t i h.member v ∷ tells_all t i (holds_by t i h v) vs

unfoldable pub holds_all : Terms → ℕ → Held → List View → Held
holds_all t i h [] = h
holds_all t i h (v ∷ vs) = holds_all t i (holds_by t i h v) vs

-- a call of member i: the family held what the member holds, the member is told and holds what these say; an accepted step was lent the member's
-- own masses and book, and a book is started for an open member from its total
abbrev pub member_of : MemberEvent → Member
member_of (MemberEvent.opens m space kept k answer) = m
member_of (MemberEvent.steps m space x answer kept scratch book) = m
member_of (MemberEvent.registers m answer) = m
member_of (MemberEvent.books m e) = m

-- an accepted step was lent the whole of what the member holds
pub record LentWhole (x : StepInputs) (h : Held) : Type 0 where
  pub kept : x.kept ≡ h.kept
  pub book : x.book ≡ h.book
  pub length : x.length ≡ h.length

-- a start that was accepted, of a book for an open member, from its total
pub record StartsFrom (m : Member) (e : StartEvent) : Type 0 where
  pub is_open : m.opened ≡ true
  pub from : e.total ≡ m.total
  pub size : ℕ
  pub accepts : e.answer ≡ Ok size

abbrev pub LentOwn : MemberEvent → Held → Type 0
LentOwn (MemberEvent.opens m space kept k answer) h = Unit
LentOwn (MemberEvent.steps m space x answer kept scratch book) h = Accepts answer → LentWhole x h
LentOwn (MemberEvent.registers m answer) h = Unit
LentOwn (MemberEvent.books m e) h = StartsFrom m e

-- what the types of its parameters say
abbrev pub TypedOwn : Terms → MemberEvent → Type 0
TypedOwn t (MemberEvent.opens m space kept k answer) = Unit
TypedOwn t (MemberEvent.steps m space x answer kept scratch book) = Typed (call_of t m x)
TypedOwn t (MemberEvent.registers m answer) = Unit
TypedOwn t (MemberEvent.books m e) = Bytes e.buffer

pub record MemberMoves (t : Terms) (i : ℕ) (h : Held) (e : MemberEvent) (h' : Held) : Type 0 where
  pub given : member_of e ≡ h.member
  pub typed : TypedOwn t e
  pub tells : told e ≡ tells_by t i h.member (view e)
  pub holds : h' ≡ holds_by t i h (view e)
  pub lent : LentOwn e h

-- ---- a member's openings and Steps

-- the balances of its accepted openings
abbrev pub balance_told : Answered Balance → List Balance
balance_told (Ok b) = b ∷ []
balance_told (Err r) = []

abbrev pub opening_of : MemberEvent → List Balance
opening_of (MemberEvent.opens m space kept k answer) = balance_told answer
opening_of (MemberEvent.steps m space x answer kept scratch book) = []
opening_of (MemberEvent.registers m answer) = []
opening_of (MemberEvent.books m e) = []

-- its Steps: the calls of which Step by itself says the same. A refusal with 19 or 20 or for another n is the family's own.
unfoldable pub same : Checked → Checked → Bool
same (Ok u) (Ok w) = true
same (Ok tt) (Err r) = false
same (Err r) (Ok tt) = false
same (Err r) (Err e) = eqb r.number e.number && eqb r.place e.place

abbrev pub act_of : Terms → ℕ → MemberEvent → List Act
act_of t i (MemberEvent.opens m space kept k answer) = []
act_of t i (MemberEvent.steps m space x answer kept scratch book) =
    only (same (stepping_verdict t i m space x) (step_verdict (call_of t m x)))
    (Act.steps (record { call = call_of t m x; answer = answer; kept = kept; scratch = scratch; book = book }))
act_of t i (MemberEvent.registers m answer) = []
act_of t i (MemberEvent.books m e) = Act.starts e ∷ []

abbrev pub openings_of : ℕ → List FamilyEvent → List Balance
openings_of i es = collect opening_of (calls_of i es)

-- its Steps and the starts of its books, and its Steps alone
abbrev pub acts_of : Terms → ℕ → List FamilyEvent → List Act
acts_of t i es = collect (act_of t i) (calls_of i es)

abbrev pub steps_of : Terms → ℕ → List FamilyEvent → List Event
steps_of t i es = steps_in (acts_of t i es)

-- ---- turns

-- the turns among calls, idle ones too
abbrev pub turns_of : FamilyEvent → List (Option Served)
turns_of (FamilyEvent.opens f i kept k r) = []
turns_of (FamilyEvent.steps f i x r kept scratch book) = []
turns_of (FamilyEvent.registers f i r) = []
turns_of (FamilyEvent.turns f x r kept scratch book) = r.answer ∷ []
turns_of (FamilyEvent.books f i e) = []

abbrev pub turns_in : List FamilyEvent → List (Option Served)
turns_in es = collect turns_of es

-- whom they served, in their order: outside a turn nobody is served
abbrev pub served_by : Option Served → List ℕ
served_by None = []
served_by (Some r) = r.member ∷ []

abbrev pub served_of : FamilyEvent → List ℕ
served_of (FamilyEvent.opens f i kept k r) = []
served_of (FamilyEvent.steps f i x r kept scratch book) = []
served_of (FamilyEvent.registers f i r) = []
served_of (FamilyEvent.turns f x r kept scratch book) = served_by r.answer
served_of (FamilyEvent.books f i e) = []

abbrev pub served_in : List FamilyEvent → List ℕ
served_in es = collect served_of es
