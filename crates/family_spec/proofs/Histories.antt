-- The theorems about every history of a family from an accepted start: each member's account, the cap, the turns, and that a member depends on
-- nothing but its own calls and its room; and that no input is without a call that moves a history on. Assumes nothing.
use Rattle.std.specs.Prelude.{Ok, Some, None, Option}
use mathlib.Core.Path.{◌≡◌, refl, sym, ◌∙◌, ap, subst}
use mathlib.Core.Logic.{◌⊎◌, ◌↔◌}
use mathlib.Core.Bool.{true, false}
use mathlib.Core.List.{List, [], append-nil, map}
use Prim.Native.Nat.{ℕ, ◌≤◌, ◌<◌}
use native.Mathlib.Omega.{arith}
use lib.IntN.{ℤ}
use lib.ListN.{length}
use Rattle.numbers.specs.Sums.{sum_to}
use Rattle.numbers.specs.Checks.{Checked, after, Answered}
use Rattle.numbers.proofs.TestLaws.{clash}
use Rattle.numbers.proofs.CheckLaws.{answered-accepted}
use Rattle.kept_spec.specs.declared.Stepped.{Stepped}
use Rattle.kept_spec.specs.declared.Balance.{Balance}
use Rattle.kept_spec.specs.Run.{Run}
use Rattle.family_spec.specs.declared.Family.{Family}
use Rattle.family_spec.specs.declared.Served.{Served}
use Rattle.family_spec.specs.declared.FamilyAnswer.{FamilyAnswer}
use Rattle.family_spec.specs.Family.{closed, member_at, begun, totals, terms}
use Rattle.family_spec.specs.Waiting.{waits, first_waiting, members_waiting}
use Rattle.family_spec.specs.Member.{StepInputs}
use Rattle.family_spec.specs.Operations.{start_verdict, OpenMemberContract, StepMemberContract, RegisterContract, next_member, waiting_count, TurnContract}
use Rattle.family_spec.specs.History.{FamilyEvent, FamilyStanding, place, place_if, Lends, FamilyMoves, calls_of, view, told, held, openings_of, turns_in, served_in, lengths_after, acts_of}
use Rattle.family_spec.specs.Claims.{Begins, IsOpen, MemberAccount, Waits, waits_after, NotYetServed, ServedWithin8, search_from, FirstAmong, WaitingOpen, TurnIdle}
use Rattle.family_spec.proofs.FamilyLaws.{Eight, begun-closed}
use Rattle.family_spec.proofs.MemberLaws.{run-steady}
use Rattle.family_spec.proofs.AccountLaws.{member-account, member-none}
use Rattle.family_spec.proofs.CapLaws.{Capped, run-capped}
use Rattle.family_spec.proofs.IsolationLaws.{isolated}
use Rattle.family_spec.proofs.WaitingLaws.{nobody_next, next-is}
use Rattle.family_spec.proofs.ServiceLaws.{turn-idle, register-twice, waiting-counted, Scheduled, run-scheduled, waiting, within-eight, run-waits, run-from, run-waiting-open}

-- no bit of 0 is set
no-bit : (i : ℕ) → i < 8 → waits 0 i ≡ false
no-bit i l = (nobody_next (begun 0 0 0)).0 (unfold next_member first_waiting waits in refl) i l

-- ---- the start

module _ {cap scale cells : ℕ} {s : FamilyStanding} (b : Begins cap scale cells s) where
  start-passed : start_verdict scale cells ≡ Ok tt
  start-passed = (answered-accepted (start_verdict scale cells) tt tt b.contract.answers).0

  start_is : s.family ≡ begun cap scale cells
  start_is = b.contract.gives ∙ ap (λ v. after v (begun cap scale cells) (begun 0 0 0)) start-passed

  start-eight : Eight s.family
  start-eight = ap (λ f. length f.members) start_is

  start-closed : (i : ℕ) → member_at s.family i ≡ closed
  start-closed i = ap (λ f. member_at f i) start_is ∙ begun-closed cap scale cells i

  start-capped : Capped s.family
  unfolding totals sum_to
  start-capped = let e : totals s.family ≡ 0 = ap totals start_is in omega (arith, e)

  start-scheduled : Scheduled s.family
  start-scheduled = subst Scheduled (sym start_is) (record { byte = omega arith; start = omega arith })

  -- ---- every history from it

  module _ {end : FamilyStanding} {es : List FamilyEvent} (r : Run FamilyMoves s es end) where
    -- a member that is open keeps the whole account of its own run
    pub accounts : (i : ℕ) → IsOpen end i ≡ true → MemberAccount i es end
    accounts i o = member-account i start-eight (ap (λ m. m.opened) (start-closed i)) r o

    -- one that is not has no opening, no Step and no start of a book, a total of 0 and no masses
    pub unopened :
        (i : ℕ) → IsOpen end i ≡ false
        → (openings_of i es ≡ []) × (acts_of (terms end.family) i es ≡ []) × (held end i ≡ record { member = closed; kept = []; book = []; length = 0 })
    unopened i o =
        let z = member-none i start-eight (ap (λ m. m.opened) (start-closed i)) r o in
        (z.0, z.1, z.2 ∙ (λ y. record { member = start-closed i y; kept = b.empty i y; book = b.no_book i y; length = b.no_length i y }))

    -- the totals do not pass the cap in sum
    pub capped : totals end.family ≤ cap
    capped =
        let a = run-capped start-eight start-capped r in
        let c : end.family.cap ≡ cap = (run-steady r).cap ∙ ap (λ f. f.cap) start_is in
        omega (arith, a, c)

    -- ---- turns

    -- a member waits from an accepted registration on, until a turn serves it
    pub waits-by-history : (i : ℕ) → i < 8 → waits end.family.waiting i ≡ waits_after i false es
    waits-by-history i l = run-waits i l start-scheduled r ∙ ap (λ b. waits_after i b es) (ap (λ f. waits f.waiting i) start_is ∙ no-bit i l)

    -- from a moment when member i waits, whatever follows: the members served are all different and none is it, at most 7, until it is served
    module _ {later : FamilyStanding} {ds : List FamilyEvent} (i : ℕ) (l : i < 8) (h : Waits end i) (q : Run FamilyMoves end ds later) where
      pub waits-or-served : NotYetServed i ds later ⊎ ServedWithin8 i ds
      waits-or-served = waiting i l (run-scheduled start-scheduled r) h q

      -- so within 8 turns it is
      pub served-within : 8 ≤ length (turns_in ds) → ServedWithin8 i ds
      served-within t = within-eight i l (run-scheduled start-scheduled r) h q t

    -- the next is the first that waits after the last one served, going round, at the start from member 0
    pub next-in-turn : (i : ℕ) → (next_member end.family ≡ Some i) ↔ FirstAmong end.family.waiting (search_from 0 (served_in es)) 8 i
    next-in-turn i =
        let e : end.family.from ≡ search_from 0 (served_in es) = run-from start-scheduled r ∙ ap (λ x. search_from x (served_in es)) (ap (λ f. f.from) start_is) in
        subst (λ x. (next_member end.family ≡ Some i) ↔ FirstAmong end.family.waiting x 8 i) e (next-is end.family i)

    -- a turn is idle exactly if nobody waits; it then changes nothing, and it and the reading of the next say so
    pub idle-turns : {x : StepInputs} {a : FamilyAnswer (Option Served)} {kept : List ℕ} {scratch : List ℤ} {book : List ℕ} → TurnContract end.family x a kept scratch book → TurnIdle end.family x a kept scratch book
    idle-turns p = turn-idle _ _ _ _ _ _ p

    -- registering twice counts once
    pub registered-once :
        {i : ℕ} {a b : FamilyAnswer Checked} → RegisterContract end.family i a → RegisterContract a.family i b → (b.family ≡ a.family) × (b.answer ≡ a.answer)
    registered-once p q = register-twice (run-scheduled start-scheduled r).byte p q

    -- the number waiting is that of the members that wait, and who waits is open
    pub waiting-count : waiting_count end.family ≡ members_waiting end.family.waiting
    waiting-count = waiting-counted end.family (run-scheduled start-scheduled r).byte

    pub waiting-open : WaitingOpen end
    waiting-open = run-waiting-open start-eight start-scheduled (λ i l h. absurd (clash h (ap (λ f. waits f.waiting i) start_is ∙ no-bit i l))) r

-- what a member is told and holds depends on its own calls, on scale and n, and at each call on its room: two histories of any two families
-- with one scale and n
pub alone :
    {scale cells cap cap' : ℕ} {s s' end end' : FamilyStanding} {es ds : List FamilyEvent} → Begins cap scale cells s → Begins cap' scale cells s'
    → Run FamilyMoves s es end → Run FamilyMoves s' ds end' → (i : ℕ) → map view (calls_of i es) ≡ map view (calls_of i ds)
    → (map told (calls_of i es) ≡ map told (calls_of i ds)) × (held end i ≡ held end' i)
alone b b' r q i c =
    isolated i (start-eight b) (start-eight b') r q
    (ap terms (start_is b) ∙ sym (ap terms (start_is b')))
    (λ z.
    record {
      member = (start-closed b i ∙ sym (start-closed b' i)) z;
      kept = (b.empty i ∙ sym (b'.empty i)) z;
      book = (b.no_book i ∙ sym (b'.no_book i)) z;
      length = (b.no_length i ∙ sym (b'.no_length i)) z;
    })
    c

-- ---- histories are not empty talk

-- what the contracts promise of an opening, of a step or a turn that is lent its member's masses and book, of a registration and of a start of a
-- book moves a history on, accepted or refused; for every input there is such a call (`every-open`, `every-step`, `every-register`, `every-turn`)
pub always-opens :
    (s : FamilyStanding) (i : ℕ) (kept : List ℕ) (k : ℕ) (r : FamilyAnswer (Answered Balance)) → OpenMemberContract s.family i kept k r
    → FamilyMoves s (FamilyEvent.opens s.family i kept k r)
    (record { family = r.family; kept = place_if r.answer s.kept i kept; book = s.book; length = s.length })
always-opens s i kept k r p = FamilyMoves.opens p

-- a list that is lent as a whole
pub lends-whole : (all : ℕ → List ℕ) (i : ℕ) {given left : List ℕ} {told : Answered Stepped} → given ≡ all i → Lends all i given told left (place all i left)
lends-whole all i {given} {left} {told} e =
    subst (λ l. Lends all i given told left (place all i l)) (append-nil left) (Lends.own [] [] (sym e ∙ sym (append-nil given)) (λ a. e))

pub always-steps :
    (s : FamilyStanding) (i : ℕ) (x : StepInputs) (r : FamilyAnswer (Answered Stepped)) (kept : List ℕ) (scratch : List ℤ) (book : List ℕ)
    → StepMemberContract s.family i x r kept scratch book → x.kept ≡ s.kept i → x.book ≡ s.book i → x.length ≡ s.length i
    → FamilyMoves s (FamilyEvent.steps s.family i x r kept scratch book)
    (record { family = r.family; kept = place s.kept i kept; book = place s.book i book; length = lengths_after s.length i r.answer })
always-steps s i x r kept scratch book p e d l = FamilyMoves.steps p (lends-whole s.kept i e) (lends-whole s.book i d) (λ a. l)

pub always-registers :
    (s : FamilyStanding) (i : ℕ) (r : FamilyAnswer Checked) → RegisterContract s.family i r
    → FamilyMoves s (FamilyEvent.registers s.family i r) (record { family = r.family; kept = s.kept; book = s.book; length = s.length })
always-registers s i r p = FamilyMoves.registers p

pub always-serves :
    (s : FamilyStanding) (x : StepInputs) (g : Family) (i : ℕ) (answer : Answered Stepped) (kept : List ℕ) (scratch : List ℤ) (book : List ℕ)
    → TurnContract s.family x (record { family = g; answer = Some (record { member = i; stepped = answer }) }) kept scratch book → x.kept ≡ s.kept i → x.book ≡ s.book i
    → x.length ≡ s.length i → FamilyMoves s (FamilyEvent.turns s.family x (record { family = g; answer = Some (record { member = i; stepped = answer }) }) kept scratch book)
    (record { family = g; kept = place s.kept i kept; book = place s.book i book; length = lengths_after s.length i answer })
always-serves s x g i answer kept scratch book p e d l = FamilyMoves.serves p (lends-whole s.kept i e) (lends-whole s.book i d) (λ a. l)

pub always-idles :
    (s : FamilyStanding) (x : StepInputs) (g : Family) (kept : List ℕ) (scratch : List ℤ) (book : List ℕ)
    → TurnContract s.family x (record { family = g; answer = None }) kept scratch book
    → FamilyMoves s (FamilyEvent.turns s.family x (record { family = g; answer = None }) kept scratch book)
    (record { family = g; kept = s.kept; book = s.book; length = s.length })
always-idles s x g kept scratch book p = FamilyMoves.idles p
