-- Histories of the calls from C on a family are histories of the operations, so the theorems about every history hold of them. A call whose list
-- for the values is too short is refused before its operation is called, and leaves everything. Assumes nothing.
use Rattle.std.specs.Prelude.{Some, None, Option}
use mathlib.Core.Path.{◌≡◌, refl, sym, ◌∙◌, ap, subst}
use Rattle.family_spec.specs.declared.Served.{Served}
use Rattle.kept_spec.specs.declared.Stepped.{Stepped}
use mathlib.Core.Logic.{◌⊎◌, ⊎_elim, ◌↔◌}
use mathlib.Core.Bool.{Bool, true, false, cond}
use mathlib.Core.List.{List, [], ◌∷◌, ◌++◌, map}
use Prim.Native.Nat.{ℕ, zero, suc, ◌≤◌, ◌<◌}
use native.Mathlib.Omega.{arith}
use lib.Dec.{leb, eqb}
use lib.IntN.{ℤ}
use lib.ListN.{length}
use borrow.Author.Tests.{leb-true, leb-false, le-leb, lt-leb, eqb-true}
use Rattle.numbers.specs.Checks.{Answered}
use Rattle.kept_spec.specs.Run.{Run, collect}
use Rattle.kept_spec.specs.BookRun.{length_after}
use Rattle.kept_spec.proofs.RunLaws.{run-through}
use Rattle.family_spec.specs.declared.Family.{Family}
use Rattle.family_spec.specs.Family.{closed, totals, terms, member_at}
use Rattle.family_spec.specs.Waiting.{waits}
use Rattle.family_spec.specs.Member.{StepInputs, call_of}
use Rattle.family_spec.specs.Operations.{next_member, TurnContract}
use Rattle.family_spec.specs.History.{FamilyEvent, FamilyStanding, place_if, Lends, FamilyMoves, calls_of, view, told, held, openings_of, turns_in, served_in, lengths_after, ToldLength, acts_of}
use Rattle.family_spec.specs.Claims.{Begins, IsOpen, MemberAccount, Waits, waits_after, NotYetServed, ServedWithin8, search_from, FirstAmong}
use Rattle.family_spec.proofs.Histories.{accounts, unopened, capped, waits-by-history, waits-or-served, served-within, next-in-turn, alone}
use Rattle.call_values.specs.Values.{open_values, step_values, told_by, result_in}
use Rattle.family_calls.specs.List.{family_entries, family_in}
use Rattle.family_calls.specs.Calls.{FamilyStartReturns, FamilyOpenReturns, FamilyStepReturns, open_told, step_told}
use Rattle.family_calls.proofs.OwnLaws.{start-own, start-length, open-length, open_own, open-short, step-length, step-own, step-short}
use Rattle.turn_calls.specs.TurnCalls.{FamilyRegisterReturns, turn_values, FamilyTurnReturns}
use Rattle.turn_calls.specs.CallRuns.{FamilyCall, ListStanding, standing_in, turn_told, event_of, events_of, TurnLends, FamilyCallMoves, TurnToldLength, turn_lengths}
use Rattle.turn_calls.proofs.TurnOwnLaws.{register-length, register-own, call-no-room, turn-own, turn-short, turn-length}

-- ---- an opening

module _ (s : ListStanding) (h : family_entries ≤ length s.family) {i : ℕ} {kept : List ℕ} {k : ℕ} {answer : List ℕ} {r : ℕ} {family' answer' : List ℕ} (p : FamilyOpenReturns s.family i kept k answer r family' answer') where
  abbrev opening : FamilyCall
  opening = FamilyCall.opens s.family i kept k answer r family' answer'

  abbrev opened : ListStanding
  opened = record { family = family'; kept = place_if (open_told r answer') s.kept i kept; book = s.book; length = s.length }

  opens_by : (b : Bool) → leb open_values (length answer) ≡ b → Run FamilyMoves (standing_in s) (cond b (event_of opening ∷ []) []) (standing_in opened)
  opens_by true e =
      Run.step (FamilyMoves.opens (open_own s.family i kept k answer r family' answer' p h (leb-true open_values _ e))) Run.done
  opens_by false e =
      let z = open-short s.family i kept k answer r family' answer' p h (leb-false open_values _ e) in
      subst (Run FamilyMoves (standing_in s) [])
      (λ y. record { family = family_in (sym z.1.0 y); kept = ap (λ n. place_if (open_told n answer') s.kept i kept) (sym z.0) y; book = s.book; length = s.length }) Run.done

-- ---- a step

-- a refused step that left what it was lent leaves every member's masses, and its book
left_alone :
    {all all' : ℕ → List ℕ} {i : ℕ} {given left : List ℕ} {told : Answered Stepped} → left ≡ given → Lends all i given told left all' → (j : ℕ) → all' j ≡ all j
left_alone {all} {all'} {i} {given} {left} {told} e l j = by-place left all' e l
  where
    by-place : (left : List ℕ) (all' : ℕ → List ℕ) → left ≡ given → Lends all i given told left all' → all' j ≡ all j
    by-place left all' e (Lends.own before rest part whole) = by-test (eqb j i) refl
      where
        by-test : (b : Bool) → eqb j i ≡ b → cond b (before ++ (left ++ rest)) (all j) ≡ all j
        by-test true t = ap (λ l. before ++ (l ++ rest)) e ∙ sym part ∙ ap all (sym (eqb-true j i t))
        by-test false t = refl
    by-place left all' e (Lends.elsewhere n) = refl

-- and the lengths of the books
lengths-alone : (lengths : ℕ → ℕ) (i r : ℕ) (y : Stepped) → 0 < r → (j : ℕ) → lengths_after lengths i (told_by r y) j ≡ lengths j
lengths-alone lengths i r y h j = by-test (eqb j i) refl
  where
    refused : (n : ℕ) → 0 < n → length_after (told_by n y) (lengths i) ≡ lengths i
    refused zero l = absurd (omega arith)
    refused (suc n) l = refl

    by-test : (b : Bool) → eqb j i ≡ b → cond b (length_after (told_by r y) (lengths i)) (lengths j) ≡ lengths j
    by-test true t = refused r h ∙ ap lengths (sym (eqb-true j i t))
    by-test false t = refl

module _ (s : ListStanding) (h : family_entries ≤ length s.family) {i : ℕ} {x : StepInputs} {answer : List ℕ} {r : ℕ} {family' kept : List ℕ} {scratch : List ℤ} {book answer' : List ℕ} {all books : ℕ → List ℕ} (p : FamilyStepReturns s.family i x answer r family' kept scratch book answer') (q : Lends s.kept i x.kept (step_told s.family i x r answer') kept all) (u : Lends s.book i x.book (step_told s.family i x r answer') book books) (l : ToldLength s.length i x.length (step_told s.family i x r answer')) where
  abbrev stepping : FamilyCall
  stepping = FamilyCall.steps s.family i x answer r family' kept scratch book answer'

  abbrev stepped : ListStanding
  stepped = record { family = family'; kept = all; book = books; length = lengths_after s.length i (step_told s.family i x r answer') }

  steps-by : (b : Bool) → leb step_values (length answer) ≡ b → Run FamilyMoves (standing_in s) (cond b (event_of stepping ∷ []) []) (standing_in stepped)
  steps-by true e =
      Run.step (FamilyMoves.steps (step-own s.family i x answer r family' kept scratch book answer' p h (leb-true step_values _ e)) q u l) Run.done
  steps-by false e =
      let z = step-short s.family i x answer r family' kept scratch book answer' p h (leb-false step_values _ e) in
      let some : 0 < r = ⊎_elim (λ n. omega (arith, n)) (λ n. ⊎_elim (λ m. omega (arith, m)) (λ m. ⊎_elim (λ k. omega (arith, k)) (λ k. omega (arith, k)) m) n) z.0 in
      subst (Run FamilyMoves (standing_in s) [])
      (λ y.
      record {
        family = family_in (sym z.1.0 y);
        kept = λ j. sym (left_alone z.1.1.0 q j) y;
        book = λ j. sym (left_alone z.1.1.1.1.0 u j) y;
        length = λ j. sym (lengths-alone s.length i r (result_in (call_of (terms (family_in s.family)) (member_at (family_in s.family) i) x) answer') some j) y;
      })
      Run.done

-- ---- a registration, and a turn

registers-by :
    (s : ListStanding) {i r : ℕ} {family' : List ℕ} → family_entries ≤ length s.family → FamilyRegisterReturns s.family i r family'
    → Run FamilyMoves (standing_in s) (event_of (FamilyCall.registers s.family i r family') ∷ []) (standing_in (record { family = family'; kept = s.kept; book = s.book; length = s.length }))
registers-by s h p = Run.step (FamilyMoves.registers (register-own _ _ _ _ p h)) Run.done

-- by what the turn told
turned_by :
    (s : FamilyStanding) (x : StepInputs) (g : Family) (a : Option Served) {kept : List ℕ} {scratch : List ℤ} {book : List ℕ} {all books : ℕ → List ℕ}
    → TurnContract s.family x (record { family = g; answer = a }) kept scratch book → TurnLends s.kept x.kept a kept all
    → TurnLends s.book x.book a book books → TurnToldLength s.length x.length a
    → FamilyMoves s (FamilyEvent.turns s.family x (record { family = g; answer = a }) kept scratch book)
    (record { family = g; kept = all; book = books; length = turn_lengths s.length a })
turned_by s x g None {kept} {scratch} {book} p q u l =
    subst (λ X. X)
    (λ y.
    FamilyMoves s (FamilyEvent.turns s.family x (record { family = g; answer = None }) kept scratch book)
    (record { family = g; kept = sym q y; book = sym u y; length = s.length }))
    (FamilyMoves.idles p)
turned_by s x g (Some r) p q u l = FamilyMoves.serves p q u l

module _ (s : ListStanding) (h : family_entries ≤ length s.family) {x : StepInputs} {answer : List ℕ} {r : ℕ} {family' kept : List ℕ} {scratch : List ℤ} {book answer' : List ℕ} (p : FamilyTurnReturns s.family x answer r family' kept scratch book answer') where
  abbrev turning : FamilyCall
  turning = FamilyCall.turns s.family x answer r family' kept scratch book answer'

  abbrev after_turn : (ℕ → List ℕ) → (ℕ → List ℕ) → ListStanding
  after_turn all books = record { family = family'; kept = all; book = books; length = turn_lengths s.length (turn_told s.family x answer') }

  turns-by :
      {all books : ℕ → List ℕ} → turn_values ≤ length answer → TurnLends s.kept x.kept (turn_told s.family x answer') kept all
      → TurnLends s.book x.book (turn_told s.family x answer') book books → TurnToldLength s.length x.length (turn_told s.family x answer')
      → Run FamilyMoves (standing_in s) (events_of turning) (standing_in (after_turn all books))
  turns-by {all} {books} a q u l =
      subst (λ b. Run FamilyMoves (standing_in s) (cond b (event_of turning ∷ []) []) (standing_in (after_turn all books))) (sym (le-leb turn_values (length answer) a))
      (Run.step
      (turned_by (standing_in s) x (family_in family') (turn_told s.family x answer') (turn-own s.family x answer family' kept scratch book answer' r p h a).1 q u l)
      Run.done)

  turns-not : length answer < turn_values → Run FamilyMoves (standing_in s) (events_of turning) (standing_in (record { family = family'; kept = s.kept; book = s.book; length = s.length }))
  turns-not a =
      let z = (turn-short s.family x answer family' kept scratch book answer' r p (call-no-room s.family answer turn_values h a)).1 in
      subst (λ b. Run FamilyMoves (standing_in s) (cond b (event_of turning ∷ []) []) (standing_in (record { family = family'; kept = s.kept; book = s.book; length = s.length }))) (sym (lt-leb turn_values (length answer) a))
      (subst (λ l. Run FamilyMoves (standing_in s) [] (standing_in (record { family = l; kept = s.kept; book = s.book; length = s.length }))) (sym z.gives) Run.done)

-- ---- every history

abbrev Long : ListStanding → Type 0
Long s = family_entries ≤ length s.family

moves-through : (s t : ListStanding) (e : FamilyCall) → Long s → FamilyCallMoves s e t → Run FamilyMoves (standing_in s) (events_of e) (standing_in t) × Long t
moves-through s t e h (FamilyCallMoves.opens {answer = answer} p) = (opens_by s h p (leb open_values (length answer)) refl, open-length _ _ _ _ _ _ _ _ p h)
moves-through s t e h (FamilyCallMoves.steps {answer = answer} p q u l) = (steps-by s h p q u l (leb step_values (length answer)) refl, step-length _ _ _ _ _ _ _ _ _ _ p h)
moves-through s t e h (FamilyCallMoves.registers p) = (registers-by s h p, register-length _ _ _ _ p h)
moves-through s t e h (FamilyCallMoves.turns a p q u l) = (turns-by s h p a q u l, turn-length _ _ _ _ _ _ _ _ _ p h)
moves-through s t e h (FamilyCallMoves.refuses a p) = (turns-not s h p a, turn-length _ _ _ _ _ _ _ _ _ p h)
moves-through s t e h (FamilyCallMoves.books p u o f) = (Run.step (FamilyMoves.books p u o f) Run.done, h)

run-keeps-long : {s t : ListStanding} {es : List FamilyCall} → Long s → Run FamilyCallMoves s es t → Long t
run-keeps-long h Run.done = h
run-keeps-long h (Run.step m r) = run-keeps-long (moves-through _ _ _ h m).1 r

pub call-run : (s t : ListStanding) (es : List FamilyCall) → Long s → Run FamilyCallMoves s es t → Run FamilyMoves (standing_in s) (collect events_of es) (standing_in t)
call-run = run-through events_of standing_in Long moves-through

-- a start from C that returned 0, and then any history of calls
abbrev pub begun_with : List ℕ → ListStanding
begun_with family = record { family = family; kept = λ i. []; book = λ i. []; length = λ i. 0 }

module _ {cap scale n : ℕ} {family family' : List ℕ} (h : family_entries ≤ length family) (q : FamilyStartReturns cap scale n family 0 family') where
  pub call-begins : Begins cap scale n (standing_in (begun_with family'))
  call-begins = record { contract = start-own cap scale n family 0 family' q h; empty = λ i. refl; no_book = λ i. refl; no_length = λ i. refl }

  module _ {end : ListStanding} {es : List FamilyCall} (r : Run FamilyCallMoves (begun_with family') es end) where
    run : Run FamilyMoves (standing_in (begun_with family')) (collect events_of es) (standing_in end)
    run = call-run (begun_with family') end es (start-length cap scale n family 0 family' q h) r

    -- a member that is open keeps the whole account of its own run
    pub call-accounts : (i : ℕ) → IsOpen (standing_in end) i ≡ true → MemberAccount i (collect events_of es) (standing_in end)
    call-accounts i o = accounts call-begins run i o

    -- one that is not has no opening, no Step and no start of a book, a total of 0 and no masses
    pub call-unopened :
        (i : ℕ) → IsOpen (standing_in end) i ≡ false
        → (openings_of i (collect events_of es) ≡ []) × (acts_of (terms (family_in end.family)) i (collect events_of es) ≡ [])
        × (held (standing_in end) i ≡ record { member = closed; kept = []; book = []; length = 0 })
    call-unopened i o = unopened call-begins run i o

    -- the totals do not pass the cap in sum
    pub call-capped : totals (family_in end.family) ≤ cap
    call-capped = capped call-begins run

    -- a member waits from an accepted registration on, until a turn serves it
    pub call-waits : (i : ℕ) → i < 8 → waits (family_in end.family).waiting i ≡ waits_after i false (collect events_of es)
    call-waits i l = waits-by-history call-begins run i l

    -- the next is the first that waits after the last one served, going round, at the start from member 0
    pub call_next : (i : ℕ) → (next_member (family_in end.family) ≡ Some i) ↔ FirstAmong (family_in end.family).waiting (search_from 0 (served_in (collect events_of es))) 8 i
    call_next i = next-in-turn call-begins run i

    -- from a moment when member i waits, whatever follows: it is served within 8 turns, and those served before it are all different and not it
    module _ {later : ListStanding} {ds : List FamilyCall} (i : ℕ) (l : i < 8) (w : Waits (standing_in end) i) (u : Run FamilyCallMoves end ds later) where
      after-it : Run FamilyMoves (standing_in end) (collect events_of ds) (standing_in later)
      after-it = call-run end later ds (run-keeps-long (start-length cap scale n family 0 family' q h) r) u

      pub call-served : NotYetServed i (collect events_of ds) (standing_in later) ⊎ ServedWithin8 i (collect events_of ds)
      call-served = waits-or-served call-begins run i l w after-it

      pub call-served-within : 8 ≤ length (turns_in (collect events_of ds)) → ServedWithin8 i (collect events_of ds)
      call-served-within t = served-within call-begins run i l w after-it t

-- two histories of calls that agree in a member's calls and rooms tell it the same and leave it the same
pub call-alone :
    {scale n cap cap' : ℕ} {family family' other other' : List ℕ} (h : family_entries ≤ length family) (k : family_entries ≤ length other)
    → FamilyStartReturns cap scale n family 0 family' → FamilyStartReturns cap' scale n other 0 other' → {end end' : ListStanding} {es ds : List FamilyCall}
    → Run FamilyCallMoves (begun_with family') es end → Run FamilyCallMoves (begun_with other') ds end' → (i : ℕ)
    → map view (calls_of i (collect events_of es)) ≡ map view (calls_of i (collect events_of ds))
    → (map told (calls_of i (collect events_of es)) ≡ map told (calls_of i (collect events_of ds))) × (held (standing_in end) i ≡ held (standing_in end') i)
call-alone h k p q r s i c = alone (call-begins h p) (call-begins k q) (run h p r) (run k q s) i c
