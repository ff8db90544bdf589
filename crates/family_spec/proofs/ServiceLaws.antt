-- From a moment when a member waits, the turns serve members that are all different until it is served, within 8 turns; where the search begins;
-- and only open members wait. Assumes nothing.
use Rattle.std.specs.Prelude.{Ok, Err, Some, None, Option}
use mathlib.Core.Path.{◌≡◌, refl, sym, ◌∙◌, ap, subst}
use mathlib.Core.Logic.{◌≢◌, ◌⊎◌, inl, inr, ⊎_elim}
use mathlib.Core.Bool.{true, not, ◌&&◌, ◌||◌, or-true}
use mathlib.Core.List.{List, [], ◌∷◌, ◌++◌}
use Prim.Native.Nat.{ℕ, suc, ◌+◌, ◌%◌, ◌<◌, ◌≤◌}
use native.Mathlib.Omega.{arith}
use native.Mathlib.Decide.{ℕ_discrete}
use lib.Dec.{eqb}
use lib.IntN.{ℤ}
use lib.ListN.{length, length-append}
use borrow.Author.Tests.{eqb-true, eq-eqb}
use Rattle.numbers.specs.Lists.{sum, All}
use Rattle.numbers.specs.Checks.{Checked, Answered, refused, answered, after}
use Rattle.numbers.proofs.TestLaws.{Tested, holds, fails, tested, not_so, clash, and_second}
use Rattle.kept_spec.specs.declared.Stepped.{Stepped}
use Rattle.kept_spec.specs.declared.Balance.{Balance}
use Rattle.kept_spec.specs.Step.{new_total}
use Rattle.kept_spec.specs.Run.{Run, collect}
use Rattle.kept_spec.proofs.RunLaws.{all_map}
use Rattle.family_spec.specs.declared.Member.{Member}
use Rattle.family_spec.specs.declared.Family.{Family}
use Rattle.family_spec.specs.declared.Served.{Served}
use Rattle.family_spec.specs.declared.FamilyAnswer.{FamilyAnswer}
use Rattle.family_spec.specs.Family.{open_with, member_at, put, schedule, terms}
use Rattle.family_spec.specs.Waiting.{waits, with_bit, without_bit, members_waiting}
use Rattle.family_spec.specs.Member.{check_opened, StepInputs, call_of}
use Rattle.family_spec.specs.Operations.{open_member_verdict, OpenMemberContract, step_member_verdict, StepMemberContract, register_verdict, RegisterContract, next_member, waiting_count, TurnContract}
use Rattle.family_spec.specs.History.{FamilyEvent, FamilyStanding, FamilyMoves, turns_of, turns_in, served_of, served_in, lengths_after}
use Rattle.family_spec.specs.Claims.{IsOpen, Waits, is_done, waits_after_call, waits_after, Distinct, NotYetServed, ServedWithin8, search_from, WaitingOpen, TurnIdle}
use Rattle.family_spec.proofs.RuleLaws.{opened-decides}
use Rattle.family_spec.proofs.FamilyLaws.{Eight}
use Rattle.family_spec.proofs.TurnLaws.{idle-apart, nobody-apart, member-same, turn-serves, turn-idles}
use Rattle.family_spec.proofs.ByteLaws.{set-bit, clear-bit, set-byte, clear-byte, count_bits}
use Rattle.family_spec.proofs.WaitingLaws.{ahead, ahead-reaches, nearer, behind, Found, finds, next-number, nobody_next, set-has}
use Rattle.family_spec.proofs.MemberLaws.{register-members, moves-steady, moves-own}
use Rattle.family_spec.proofs.AccountLaws.{lives-end}

refused-apart : {n p : ℕ} {u : Unit} → ◌≡◌ {A = Answered Unit} (refused n p) (Ok u) → ⊥
refused-apart e = let z : ◌≡◌ {A = ℕ} 0 1 = cc in omega arith

head-same : {a b : ℕ} {xs ys : List ℕ} → a ∷ xs ≡ b ∷ ys → a ≡ b
head-same e = cc

-- ---- of any family

-- a turn says so exactly if nobody waits
pub turn-idle : (f : Family) (x : StepInputs) (r : FamilyAnswer (Option Served)) (kept : List ℕ) (scratch : List ℤ) (book : List ℕ) → TurnContract f x r kept scratch book → TurnIdle f x r kept scratch book
turn-idle f x r kept scratch book = by_answer r.answer
  where
    by_answer : (a : Option Served) → TurnContract f x (record { family = r.family; answer = a }) kept scratch book → TurnIdle f x (record { family = r.family; answer = a }) kept scratch book
    by_answer None p =
        let z = turn-idles p in
        record {
          nobody_waits = (λ e. (nobody_next f).0 z.due, λ n. refl);
          nobody_next = (λ e. z.due, λ n. refl);
          same_family = λ e. z.gives;
          same_kept = λ e. z.keeps;
          same_scratch = λ e. z.leaves;
          same_book = λ e. z.files;
        }
    by_answer (Some r) p =
        let z = turn-serves p in
        record {
          nobody_waits = (λ e. absurd (idle-apart e refl), λ n. absurd (nobody-apart ((nobody_next f).1 n) z.due));
          nobody_next = (λ e. absurd (idle-apart e refl), λ n. absurd (nobody-apart n z.due));
          same_family = λ e. absurd (idle-apart e refl);
          same_kept = λ e. absurd (idle-apart e refl);
          same_scratch = λ e. absurd (idle-apart e refl);
          same_book = λ e. absurd (idle-apart e refl);
        }

-- who is registered and waits changes nothing by registering
pub register-again : {f : Family} {i : ℕ} {r : FamilyAnswer Checked} → waits f.waiting i ≡ true → RegisterContract f i r → r.family ≡ f
register-again {f} {i} w p = p.gives ∙ by-verdict (register_verdict f i)
  where
    by-verdict : (v : Checked) → after v (schedule f (with_bit f.waiting i) f.from) f ≡ f
    by-verdict (Ok tt) = ap (λ b. schedule f b f.from) (set-has f.waiting i w)
    by-verdict (Err r) = refl

-- 'Registering twice counts once' (02)
pub register-twice :
    {f : Family} {i : ℕ} {r r' : FamilyAnswer Checked} → f.waiting < 256 → RegisterContract f i r → RegisterContract r.family i r'
    → (r'.family ≡ r.family) × (r'.answer ≡ r.answer)
register-twice {f} {i} {r} {r'} b p p' = (
  by-verdict (register_verdict f i) refl,
  p'.answers ∙ ap (λ m. answered (check_opened i m) tt) (register-members p i) ∙ sym p.answers,
)
  where
    by-verdict : (v : Checked) → register_verdict f i ≡ v → r'.family ≡ r.family
    by-verdict (Ok tt) e =
        let l : i < 8 = omega (arith, ((opened-decides i (member_at f i)).passes.0 e).0) in
        register-again
        (ap (λ g. waits g.waiting i) (p.gives ∙ ap (λ v. after v (schedule f (with_bit f.waiting i) f.from) f) e) ∙ set-bit f.waiting i b l i l ∙ ap (λ t. t || waits f.waiting i) (eq-eqb i i refl))
        p'
    by-verdict (Err s) e =
        p'.gives ∙ ap (λ v. after v (schedule r.family (with_bit r.family.waiting i) r.family.from) r.family) (ap (check_opened i) (register-members p i) ∙ e)

-- the number waiting is that of the members that wait
pub waiting-counted : (f : Family) → f.waiting < 256 → waiting_count f ≡ members_waiting f.waiting
waiting-counted f b = count_bits f.waiting b

-- ---- the invariant: a byte, and one of the 8 from which the search begins

pub record Scheduled (f : Family) : Type 0 where
  pub byte : f.waiting < 256
  pub start : f.from < 8

-- the same members wait, and the search begins from the same
pub record SameTurn (f g : Family) : Type 0 where
  pub waiting : g.waiting ≡ f.waiting
  pub from : g.from ≡ f.from

same-scheduled : {f g : Family} → SameTurn f g → Scheduled f → Scheduled g
same-scheduled {f} {g} t q = record { byte = omega (arith, t.waiting, q.byte); start = omega (arith, t.from, q.start) }

-- ---- one call

put-turn : (f : Family) (i : ℕ) (m : Member) (v : Checked) → SameTurn f (after v (put f i m) f)
put-turn f i m (Ok tt) = record { waiting = refl; from = refl }
put-turn f i m (Err r) = record { waiting = refl; from = refl }

-- an opening serves nobody
pub open_turn : {f : Family} {i : ℕ} {kept : List ℕ} {k : ℕ} {r : FamilyAnswer (Answered Balance)} → OpenMemberContract f i kept k r → SameTurn f r.family
open_turn {f} {i} {kept} {k} p = subst (SameTurn f) (sym p.gives) (put-turn f i (open_with (sum kept)) (open_member_verdict f i kept k))

-- 'Outside a turn a step serves nobody' (02)
pub step-turn :
    {f : Family} {i : ℕ} {x : StepInputs} {r : FamilyAnswer (Answered Stepped)} {kept : List ℕ} {scratch : List ℤ} {book : List ℕ} → StepMemberContract f i x r kept scratch book → SameTurn f r.family
step-turn {f} {i} {x} p = subst (SameTurn f) (sym p.gives) (put-turn f i (open_with (new_total (call_of (terms f) (member_at f i) x))) (step_member_verdict f i x))

-- a registration sets its member's bit or does nothing
pub record Adds (f g : Family) : Type 0 where
  pub scheduled : Scheduled g
  pub waiting : (j : ℕ) → j < 8 → waits f.waiting j ≡ true → waits g.waiting j ≡ true
  pub from : g.from ≡ f.from

register-by : (f : Family) (i : ℕ) (v : Checked) → register_verdict f i ≡ v → Scheduled f → Adds f (after v (schedule f (with_bit f.waiting i) f.from) f)
register-by f i (Ok tt) e q =
    let l : i < 8 = omega (arith, ((opened-decides i (member_at f i)).passes.0 e).0) in
    record {
      scheduled = record { byte = set-byte f.waiting i q.byte l; start = q.start };
      waiting = λ j k w. set-bit f.waiting i q.byte l j k ∙ ap (λ b. eqb j i || b) w ∙ or-true (eqb j i);
      from = refl;
    }
register-by f i (Err r) e q = record { scheduled = q; waiting = λ j k w. w; from = refl }

pub register-adds : {f : Family} {i : ℕ} {r : FamilyAnswer Checked} → Scheduled f → RegisterContract f i r → Adds f r.family
register-adds {f} {i} q p = subst (Adds f) (sym p.gives) (register-by f i (register_verdict f i) refl q)

-- a turn that served m
module _ {f : Family} {x : StepInputs} {g : Family} {m : ℕ} {answer : Answered Stepped} {kept : List ℕ} {scratch : List ℤ} {book : List ℕ} (p : TurnContract f x (record { family = g; answer = Some (record { member = m; stepped = answer }) }) kept scratch book) where
  pub served-byte : g.waiting ≡ without_bit f.waiting m
  served-byte = let t = turn-serves p in ap (λ h. h.waiting) t.ends ∙ ap (λ b. without_bit b m) (step-turn t.contract).waiting

  pub served-from : g.from ≡ suc m % 8
  served-from = ap (λ h. h.from) (turn-serves p).ends

  served-below : m < 8
  served-below = next-number f (turn-serves p).due

  served-scheduled : Scheduled f → Scheduled g
  served-scheduled q =
      let a = clear-byte f.waiting m q.byte served-below in
      record { byte = omega (arith, a, served-byte); start = omega (arith, served-from) }

pub moves-scheduled : {s t : FamilyStanding} {e : FamilyEvent} → Scheduled s.family → FamilyMoves s e t → Scheduled t.family
moves-scheduled q (FamilyMoves.opens p) = same-scheduled (open_turn p) q
moves-scheduled q (FamilyMoves.steps p z u k) = same-scheduled (step-turn p) q
moves-scheduled q (FamilyMoves.registers p) = (register-adds q p).scheduled
moves-scheduled q (FamilyMoves.serves p z u k) = served-scheduled p q
moves-scheduled q (FamilyMoves.idles p) = subst Scheduled (sym (turn-idles p).gives) q
moves-scheduled q (FamilyMoves.books p t o f) = q

pub run-scheduled : {s t : FamilyStanding} {es : List FamilyEvent} → Scheduled s.family → Run FamilyMoves s es t → Scheduled t.family
run-scheduled q Run.done = q
run-scheduled q (Run.step m r) = run-scheduled (moves-scheduled q m) r

-- while i waits, a call is no turn and i waits on; or it serves another that stands no further ahead, and the search begins behind that one; or
-- it serves i
data Turn (i : ℕ) (s : FamilyStanding) (e : FamilyEvent) (t : FamilyStanding) : Type 0 where
  quiet : served_of e ≡ [] → turns_of e ≡ [] → Waits t i → t.family.from ≡ s.family.from → Turn i s e t
  other :
      (m : ℕ) → served_of e ≡ m ∷ [] → length (turns_of e) ≡ 1 → m ≢ i → Waits t i → ahead i m ≤ ahead i s.family.from
      → suc (ahead i t.family.from) ≡ ahead i m → Turn i s e t
  own : served_of e ≡ i ∷ [] → Turn i s e t

waits-on : (i : ℕ) {s t : FamilyStanding} {e : FamilyEvent} → i < 8 → Scheduled s.family → Waits s i → FamilyMoves s e t → Turn i s e t
waits-on i l q h (FamilyMoves.opens p) = let z = open_turn p in Turn.quiet refl refl (ap (λ b. waits b i) z.waiting ∙ h) z.from
waits-on i l q h (FamilyMoves.steps p z u k) = let y = step-turn p in Turn.quiet refl refl (ap (λ b. waits b i) y.waiting ∙ h) y.from
waits-on i l q h (FamilyMoves.registers p) = let z = register-adds q p in Turn.quiet refl refl (z.waiting i l h) z.from
waits-on i l q h (FamilyMoves.books p t o f) = Turn.quiet refl refl h refl
waits-on i {s} l q h (FamilyMoves.idles p) = absurd (clash h ((nobody_next s.family).0 (turn-idles p).due i l))
waits-on i {s} l q h (FamilyMoves.serves {x = x} {g} {i = m} {answer} {kept} {scratch} {book} {all} {books} p z u k) = by-member (ℕ_discrete m i)
  where
    y : ℕ
    y = s.family.from

    r : Found s.family.waiting y 8 (ahead i y)
    r = finds s.family.waiting y 8 (ahead i y) (omega arith) (ap (waits s.family.waiting) (ahead-reaches i y l q.start) ∙ h)

    at : m ≡ (y + r.places) % 8
    at = unfold next_member in (member-same (turn-serves p).due r.found) ∙ r.at

    by-member : Dec (m ≡ i) → Turn i s (FamilyEvent.turns s.family x (record { family = g; answer = Some (record { member = m; stepped = answer }) }) kept scratch book)
        (record { family = g; kept = all; book = books; length = lengths_after s.length m answer })
    by-member (yes e) = Turn.own (ap (λ n. n ∷ []) e)
    by-member (no n) =
        Turn.other m refl refl n
        (ap (λ b. waits b i) (served-byte p) ∙ clear-bit s.family.waiting m q.byte (served-below p) i l
        ∙ ap (λ b. not b && waits s.family.waiting i) (not_so (eqb i m) (λ t. n (sym (eqb-true i m t)))) ∙ h)
        (nearer i y r.places m l q.start at r.near)
        (ap (λ k. suc (ahead i k)) (served-from p) ∙ behind i m l (served-below p) n)

-- ---- every history

-- members that stand nearer and nearer, each before i
Falling : (i bound : ℕ) → List ℕ → Type 0
Falling i bound [] = Unit
Falling i bound (m ∷ ms) = (0 < ahead i m) × (ahead i m < bound) × Falling i (ahead i m) ms

falling-few : (i bound : ℕ) (ms : List ℕ) → 0 < bound → Falling i bound ms → length ms < bound
unfolding Falling
falling-few i bound [] l f = l
falling-few i bound (m ∷ ms) l f = let h = falling-few i (ahead i m) ms f.0 f.2 in omega (arith, f.1)

falling-less : (i bound : ℕ) (ms : List ℕ) → Falling i bound ms → All (λ m. ahead i m < bound) ms
unfolding Falling
falling-less i bound [] f = All.none
falling-less i bound (m ∷ ms) f = All.more f.1 (all_map (λ n h. omega (arith, h, f.1)) (falling-less i (ahead i m) ms f.2))

falling-different : (i bound : ℕ) (ms : List ℕ) → Falling i bound ms → Distinct ms
unfolding Falling Distinct
falling-different i bound [] f = tt
falling-different i bound (m ∷ ms) f = (
  all_map (λ n h e. let z : ahead i n ≡ ahead i m = ap (ahead i) e in omega (arith, h, z)) (falling-less i (ahead i m) ms f.2),
  falling-different i (ahead i m) ms f.2,
)

-- i waits, and these calls do not serve it
record Waited (i : ℕ) (s : FamilyStanding) (es : List FamilyEvent) (end : FamilyStanding) : Type 0 where
  still : Waits end i
  busy : length (turns_in es) ≡ length (served_in es)
  others : All (λ m. m ≢ i) (served_in es)
  falling : Falling i (suc (ahead i s.family.from)) (served_in es)

-- a history in which i waits: up to its end i is not served, or it comes to a call that serves i
data Goes (i : ℕ) (s : FamilyStanding) (es : List FamilyEvent) (end : FamilyStanding) : Type 0 where
  never : Waited i s es end → Goes i s es end
  comes : (before : List FamilyEvent) (event : FamilyEvent) (rest : List FamilyEvent) (mid : FamilyStanding) → es ≡ before ++ (event ∷ rest) → served_of event ≡ i ∷ [] → Waited i s before mid → Goes i s es end

-- one call more in front
waited-more : (i : ℕ) {s t end : FamilyStanding} {e : FamilyEvent} {es : List FamilyEvent} → Turn i s e t → (served_of e ≡ i ∷ [] → ⊥) → Waited i t es end → Waited i s (e ∷ es) end
unfolding collect Falling
waited-more i {s} {t} {end} {e} {es} (Turn.quiet a b c d) n z =
    record {
      still = z.still;
      busy = ap (λ l. length (l ++ turns_in es)) b ∙ z.busy ∙ ap (λ l. length (l ++ served_in es)) (sym a);
      others = subst (λ l. All (λ m. m ≢ i) (l ++ served_in es)) (sym a) z.others;
      falling = subst (λ l. Falling i (suc (ahead i s.family.from)) (l ++ served_in es)) (sym a) (subst (λ x. Falling i (suc (ahead i x)) (served_in es)) d z.falling);
    }
waited-more i {s} {t} {end} {e} {es} (Turn.other m a b k c d f) n z =
    record {
      still = z.still;
      busy =
          let one : length (turns_of e ++ turns_in es) ≡ length (turns_of e) + length (turns_in es) = length-append (turns_of e) (turns_in es) in
          let two : length (served_of e ++ served_in es) ≡ suc (length (served_in es)) = ap (λ l. length (l ++ served_in es)) a in
          omega (arith, one, two, b, z.busy);
      others = subst (λ l. All (λ y. y ≢ i) (l ++ served_in es)) (sym a) (All.more k z.others);
      falling =
          subst (λ l. Falling i (suc (ahead i s.family.from)) (l ++ served_in es)) (sym a)
          (omega (arith, f), omega (arith, d), subst (λ x. Falling i x (served_in es)) f z.falling);
    }
waited-more i (Turn.own a) n z = absurd (n a)

goes : (i : ℕ) {s end : FamilyStanding} {es : List FamilyEvent} → i < 8 → Scheduled s.family → Waits s i → Run FamilyMoves s es end → Goes i s es end
unfolding collect Falling
goes i l q h Run.done = Goes.never (record { still = h; busy = refl; others = All.none; falling = tt })
goes i {s} {end} l q h (Run.step {t = t} {e = e} {es = es} m r) = by_turn (waits-on i l q h m) (λ k. goes i l (moves-scheduled q m) k r)
  where
    more : Turn i s e t → (served_of e ≡ i ∷ [] → ⊥) → Goes i t es end → Goes i s (e ∷ es) end
    more y n (Goes.never z) = Goes.never (waited-more i y n z)
    more y n (Goes.comes before event rest mid c u z) = Goes.comes (e ∷ before) event rest mid (ap (λ l. e ∷ l) c) u (waited-more i y n z)

    by_turn : Turn i s e t → (Waits t i → Goes i t es end) → Goes i s (e ∷ es) end
    by_turn (Turn.quiet a b c d) ih = more (Turn.quiet a b c d) (λ n. let z : ◌≡◌ {A = ℕ} 0 1 = ap length (sym a ∙ n) in omega (arith, z)) (ih c)
    by_turn (Turn.other k a b n c d f) ih = more (Turn.other k a b n c d f) (λ u. n (head-same (sym a ∙ u))) (ih c)
    by_turn (Turn.own a) ih = Goes.comes [] e es s refl a (record { still = h; busy = refl; others = All.none; falling = tt })

waited-few : (i : ℕ) {s end : FamilyStanding} {es : List FamilyEvent} → Waited i s es end → length (turns_in es) ≤ 7
waited-few i {s} {es = es} z =
    let a = falling-few i (suc (ahead i s.family.from)) (served_in es) (omega arith) z.falling in
    omega (arith, z.busy, a)

waited-different : (i : ℕ) {s end : FamilyStanding} {es : List FamilyEvent} → Waited i s es end → Distinct (i ∷ served_in es)
unfolding Distinct
waited-different i {s} {es = es} z = (z.others, falling-different i (suc (ahead i s.family.from)) (served_in es) z.falling)

-- whatever follows, i is not served yet or it is served within 8 turns
pub waiting :
    (i : ℕ) {s end : FamilyStanding} {es : List FamilyEvent} → i < 8 → Scheduled s.family → Waits s i → Run FamilyMoves s es end
    → NotYetServed i es end ⊎ ServedWithin8 i es
waiting i {s} {end} {es} l q h r = by-case (goes i l q h r)
  where
    by-case : Goes i s es end → NotYetServed i es end ⊎ ServedWithin8 i es
    by-case (Goes.never z) = inl (record { still = z.still; busy = z.busy; different = waited-different i z; few = waited-few i z })
    by-case (Goes.comes before event rest mid c u z) =
        inr (record { before = before; event = event; rest = rest; splits = c; serves = u; busy = z.busy; different = waited-different i z; few = waited-few i z })

-- within 8 turns
pub within-eight :
    (i : ℕ) {s end : FamilyStanding} {es : List FamilyEvent} → i < 8 → Scheduled s.family → Waits s i → Run FamilyMoves s es end
    → 8 ≤ length (turns_in es) → ServedWithin8 i es
within-eight i l q h r t = ⊎_elim (λ z. absurd (omega (arith, t, z.few))) (λ z. z) (waiting i l q h r)

-- ---- who waits

register-told : (v : Checked) (a : Checked) → a ≡ answered v tt → (i j byte : ℕ) (l : i < 8) → byte < 256 → (v ≡ Ok tt → j < 8) → waits (after v (with_bit byte j) byte) i ≡ ((is_done a && eqb i j) || waits byte i)
register-told (Ok u) (Ok w) e i j byte l k b = set-bit byte j k (b refl) i l
register-told (Ok tt) (Err r) e i j byte l k b = absurd (refused-apart e)
register-told (Err r) (Ok tt) e i j byte l k b = absurd (refused-apart (sym e))
register-told (Err r) (Err s) e i j byte l k b = refl

moves-waits : (i : ℕ) {s t : FamilyStanding} {e : FamilyEvent} → i < 8 → Scheduled s.family → FamilyMoves s e t → waits t.family.waiting i ≡ waits_after_call i (waits s.family.waiting i) e
moves-waits i l q (FamilyMoves.opens p) = ap (λ b. waits b i) (open_turn p).waiting
moves-waits i l q (FamilyMoves.steps p z u k) = ap (λ b. waits b i) (step-turn p).waiting
moves-waits i {s} l q (FamilyMoves.registers {i = j} {r} p) =
    let v = register_verdict s.family j in
    ap (λ g. waits g.waiting i) p.gives ∙ by-verdict v
    ∙ register-told v r.answer p.answers i j s.family.waiting l q.byte (λ e. omega (arith, ((opened-decides j (member_at s.family j)).passes.0 e).0))
  where
    by-verdict : (v : Checked) → waits (after v (schedule s.family (with_bit s.family.waiting j) s.family.from) s.family).waiting i ≡ waits (after v (with_bit s.family.waiting j) s.family.waiting) i
    by-verdict (Ok tt) = refl
    by-verdict (Err r) = refl
moves-waits i {s} l q (FamilyMoves.serves {i = m} p z u k) = ap (λ b. waits b i) (served-byte p) ∙ clear-bit s.family.waiting m q.byte (served-below p) i l
moves-waits i l q (FamilyMoves.idles p) = ap (λ g. waits g.waiting i) (turn-idles p).gives
moves-waits i l q (FamilyMoves.books p t o f) = refl

pub run-waits : (i : ℕ) {s t : FamilyStanding} {es : List FamilyEvent} → i < 8 → Scheduled s.family → Run FamilyMoves s es t → waits t.family.waiting i ≡ waits_after i (waits s.family.waiting i) es
unfolding waits_after
run-waits i l q Run.done = refl
run-waits i {s} l q (Run.step {e = e} {es = es} m r) = run-waits i l (moves-scheduled q m) r ∙ ap (λ b. waits_after i b es) (moves-waits i l q m)

-- ---- where the search begins

search-append : (x : ℕ) (is js : List ℕ) → search_from x (is ++ js) ≡ search_from (search_from x is) js
unfolding search_from
search-append x [] js = refl
search-append x (i ∷ is) js = search-append (suc i % 8) is js

moves_from : {s t : FamilyStanding} {e : FamilyEvent} → Scheduled s.family → FamilyMoves s e t → t.family.from ≡ search_from s.family.from (served_of e)
unfolding search_from
moves_from q (FamilyMoves.opens p) = (open_turn p).from
moves_from q (FamilyMoves.steps p z u k) = (step-turn p).from
moves_from q (FamilyMoves.registers p) = (register-adds q p).from
moves_from q (FamilyMoves.serves p z u k) = served-from p
moves_from q (FamilyMoves.idles p) = ap (λ g. g.from) (turn-idles p).gives
moves_from q (FamilyMoves.books p t o f) = refl

pub run-from : {s t : FamilyStanding} {es : List FamilyEvent} → Scheduled s.family → Run FamilyMoves s es t → t.family.from ≡ search_from s.family.from (served_in es)
unfolding search_from collect
run-from q Run.done = refl
run-from {s} q (Run.step {e = e} {es = es} m r) =
    run-from (moves-scheduled q m) r ∙ ap (λ x. search_from x (served_in es)) (moves_from q m) ∙ sym (search-append s.family.from (served_of e) (served_in es))

-- ---- only open members wait

-- whoever waits after a call waited before it, or is open
waited-or-open : {s t : FamilyStanding} {e : FamilyEvent} → Scheduled s.family → FamilyMoves s e t → (i : ℕ) → i < 8 → Waits t i → Waits s i ⊎ (IsOpen s i ≡ true)
waited-or-open q (FamilyMoves.opens p) i l h = inl (sym (ap (λ b. waits b i) (open_turn p).waiting) ∙ h)
waited-or-open q (FamilyMoves.steps p z u k) i l h = inl (sym (ap (λ b. waits b i) (step-turn p).waiting) ∙ h)
waited-or-open {s} q (FamilyMoves.registers {i = j} p) i l h = by-verdict (register_verdict s.family j) refl (sym (ap (λ g. waits g.waiting i) p.gives) ∙ h)
  where
    by-verdict : (v : Checked) → register_verdict s.family j ≡ v → waits (after v (schedule s.family (with_bit s.family.waiting j) s.family.from) s.family).waiting i ≡ true → Waits s i ⊎ (IsOpen s i ≡ true)
    by-verdict (Err r) e k = inl k
    by-verdict (Ok tt) e k =
        let o = (opened-decides j (member_at s.family j)).passes.0 e in
        by-test (tested (eqb i j)) o.1 (sym (set-bit s.family.waiting j q.byte (omega (arith, o.0)) i l) ∙ k)
      where
        by-test : Tested (eqb i j) → (member_at s.family j).opened ≡ true → (eqb i j || waits s.family.waiting i) ≡ true → Waits s i ⊎ (IsOpen s i ≡ true)
        by-test (holds t) o x = inr (ap (λ n. (member_at s.family n).opened) (eqb-true i j t) ∙ o)
        by-test (fails t) o x = inl (sym (ap (λ y. y || waits s.family.waiting i) t) ∙ x)
waited-or-open {s} q (FamilyMoves.serves {i = m} p z u k) i l h =
    inl (and_second (not (eqb i m)) (waits s.family.waiting i) (sym (ap (λ b. waits b i) (served-byte p) ∙ clear-bit s.family.waiting m q.byte (served-below p) i l) ∙ h))
waited-or-open q (FamilyMoves.idles p) i l h = inl (sym (ap (λ g. waits g.waiting i) (turn-idles p).gives) ∙ h)
waited-or-open q (FamilyMoves.books p t o f) i l h = inl h

pub run-waiting-open : {s t : FamilyStanding} {es : List FamilyEvent} → Eight s.family → Scheduled s.family → WaitingOpen s → Run FamilyMoves s es t → WaitingOpen t
run-waiting-open h q o Run.done = o
run-waiting-open h q o (Run.step m r) =
    run-waiting-open ((moves-steady m).size ∙ h) (moves-scheduled q m) (λ i l k. lives-end (⊎_elim (λ x. o i l x) (λ x. x) (waited-or-open q m i l k)) (moves-own i h m)) r
