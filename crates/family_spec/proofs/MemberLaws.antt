-- A family's history, seen from one member, is that member's history: its own calls do what the definitions say of it, and the calls of the
-- others leave it alone. Assumes nothing.
use Rattle.std.specs.Prelude.{Ok, Err, Some}
use mathlib.Core.Path.{◌≡◌, refl, sym, ◌∙◌, ap, ap₂, subst}
use mathlib.Core.Logic.{◌≢◌}
use mathlib.Core.Bool.{Bool, true, false, cond}
use mathlib.Core.List.{List, [], ◌++◌, append-nil}
use Prim.Native.Nat.{ℕ, ◌≤◌}
use lib.Dec.{eqb}
use lib.IntN.{ℤ}
use borrow.Author.Tests.{eqb-true, eq-eqb}
use Rattle.numbers.specs.Lists.{sum, written}
use Rattle.numbers.specs.Checks.{Checked, Answered, answered, after}
use Rattle.numbers.proofs.TestLaws.{not_so, clash}
use Rattle.numbers.proofs.PartLaws.{part-whole}
use Rattle.numbers.proofs.CheckLaws.{answered-accepted}
use Rattle.qlt_spec.specs.Field.{field}
use Rattle.qlt_spec.specs.Masses.{tree_masses}
use Rattle.book_spec.specs.LentBook.{grown_buffer}
use Rattle.book_spec.specs.StartBook.{book_start_verdict}
use Rattle.book_spec.specs.Book.{book, book_bytes}
use Rattle.kept_spec.specs.declared.Balance.{Balance}
use Rattle.kept_spec.specs.declared.Stepped.{Stepped}
use Rattle.kept_spec.specs.Open.{open_balance}
use Rattle.kept_spec.specs.Step.{StepCall, new_total, step_result, step_entry}
use Rattle.kept_spec.specs.Run.{Run, collect}
use Rattle.kept_spec.specs.Account.{Accepts}
use Rattle.kept_spec.specs.BookRun.{length_after, StartEvent, StartPromised}
use Rattle.kept_spec.proofs.RunLaws.{run-append}
use Rattle.family_spec.specs.declared.Family.{Family}
use Rattle.family_spec.specs.declared.FamilyAnswer.{FamilyAnswer}
use Rattle.family_spec.specs.Family.{open_with, member_at, room, Terms, terms, total_of}
use Rattle.family_spec.specs.Waiting.{with_bit}
use Rattle.family_spec.specs.Member.{StepInputs, call_of}
use Rattle.family_spec.specs.Operations.{open_member_verdict, OpenMemberContract, step_member_verdict, StepMemberContract, register_verdict, RegisterContract}
use Rattle.family_spec.specs.History.{FamilyEvent, FamilyStanding, place, place_if, Lends, FamilyMoves, only, MemberEvent, own_of, calls_of, Held, held, tells_by, holds_by, opened, stepped, registered, MemberMoves, ToldLength, lengths_after, started}
use Rattle.family_spec.proofs.RuleLaws.{opening-accepts, stepping-accepts}
use Rattle.family_spec.proofs.FamilyLaws.{Eight, put-here, put_other, Steady, put-steady, schedule-members, schedule-steady}
use Rattle.family_spec.proofs.TurnLaws.{turn-serves, turn-idles}

-- ---- numbers of members

same_number : (i : ℕ) → eqb i i ≡ true
same_number i = eq-eqb i i refl

other-number : (i j : ℕ) → eqb j i ≡ false → i ≢ j
other-number i j e p = clash (eq-eqb j i (sym p)) e

other_way : (i j : ℕ) → eqb j i ≡ false → eqb i j ≡ false
other_way i j e = not_so (eqb i j) (λ t. clash (eq-eqb j i (sym (eqb-true i j t))) e)

-- an accepted call is of one of the 8
pub open-number : (f : Family) (i : ℕ) (kept : List ℕ) (k : ℕ) → open_member_verdict f i kept k ≡ Ok tt → i ≤ 7
open-number f i kept k e = ((opening-accepts (terms f) i (member_at f i) (room f i) kept k).0 e).number

pub step-number : (f : Family) (i : ℕ) (x : StepInputs) → step_member_verdict f i x ≡ Ok tt → i ≤ 7
step-number f i x e = ((stepping-accepts (terms f) i (member_at f i) (room f i) x).0 e).number

-- ---- what stands in the members' places

place_here : {X : Type 0} (all : ℕ → X) (i : ℕ) (x : X) → place all i x i ≡ x
place_here all i x = ap (λ b. cond b x (all i)) (same_number i)

place_other : {X : Type 0} (all : ℕ → X) (i j : ℕ) (x : X) → eqb i j ≡ false → place all i x j ≡ all j
place_other all i j x e = ap (λ b. cond b x (all j)) (other_way j i e)

place_if-here : (all : ℕ → List ℕ) (i : ℕ) (masses : List ℕ) (v : Checked) (b : Balance) → place_if (answered v b) all i masses i ≡ after v masses (all i)
place_if-here all i masses (Ok tt) b = place_here all i masses
place_if-here all i masses (Err r) b = refl

place_if-other : (all : ℕ → List ℕ) (i j : ℕ) (masses : List ℕ) (a : Answered Balance) → eqb i j ≡ false → place_if a all i masses j ≡ all j
place_if-other all i j masses (Ok b) e = place_other all i j masses e
place_if-other all i j masses (Err r) e = refl

-- what a step leaves in its member's place, and in the others': a part that was lent and left as it was, or the whole
lends-here :
    {all all' : ℕ → List ℕ} {i : ℕ} {given left : List ℕ} (v : Checked) (r : Stepped) (masses : List ℕ)
    → Lends all i given (answered v r) left all' → left ≡ after v masses given → all' i ≡ after v masses (all i)
lends-here {all} {all'} {i} {given} {left} v r masses l p = by-place v left all' l p
  where
    by-place : (v : Checked) (left : List ℕ) (all' : ℕ → List ℕ) → Lends all i given (answered v r) left all' → left ≡ after v masses given → all' i ≡ after v masses (all i)
    by-place (Ok tt) left all' (Lends.own before rest part whole) p =
        let w = part-whole before given rest (whole tt ∙ part) in
        place_here all i (before ++ (left ++ rest)) ∙ ap₂ (λ a b. a ++ (left ++ b)) w.0 w.1 ∙ append-nil left ∙ p
    by-place (Err r) left all' (Lends.own before rest part whole) p =
        place_here all i (before ++ (left ++ rest)) ∙ ap (λ l. before ++ (l ++ rest)) p ∙ sym part
    by-place (Ok tt) left all' (Lends.elsewhere h) p = absurd (h tt)
    by-place (Err r) left all' (Lends.elsewhere h) p = refl

lends-other :
    {all all' : ℕ → List ℕ} {i : ℕ} {given left : List ℕ} {told : Answered Stepped} (j : ℕ) → eqb i j ≡ false → Lends all i given told left all'
    → all' j ≡ all j
lends-other {all} {all'} {i} {given} {left} {told} j e l = by-place left all' l
  where
    by-place : (left : List ℕ) (all' : ℕ → List ℕ) → Lends all i given told left all' → all' j ≡ all j
    by-place left all' (Lends.own before rest part whole) = place_other all i j (before ++ (left ++ rest)) e
    by-place left all' (Lends.elsewhere h) = refl

-- the length of a book
length-by : (v : Checked) (r : Stepped) (l : ℕ) → length_after (answered v r) l ≡ after v r.length l
length-by (Ok tt) r l = refl
length-by (Err e) r l = refl

lends-own : {all all' : ℕ → List ℕ} {i : ℕ} {given left : List ℕ} {told : Answered Stepped} → Lends all i given told left all' → Accepts told → given ≡ all i
lends-own {all} {all'} {i} {given} {left} {told} l a = by-place left all' l
  where
    by-place : (left : List ℕ) (all' : ℕ → List ℕ) → Lends all i given told left all' → given ≡ all i
    by-place left all' (Lends.own before rest part whole) = whole a
    by-place left all' (Lends.elsewhere h) = absurd (h a)

-- a registration leaves every member
pub register-members : {f : Family} {i : ℕ} {r : FamilyAnswer Checked} → RegisterContract f i r → (j : ℕ) → member_at r.family j ≡ member_at f j
register-members {f} {i} p j = ap (λ g. member_at g j) p.gives ∙ schedule-members f (with_bit f.waiting i) f.from (register_verdict f i) j

-- ---- one call

held-path : {h h' : Held} → h.member ≡ h'.member → h.kept ≡ h'.kept → h.book ≡ h'.book → h.length ≡ h'.length → h ≡ h'
held-path p q b l = λ x. record { member = p x; kept = q x; book = b x; length = l x }

-- member i is called, or another
own-case : {t : Terms} {i : ℕ} {h h' : Held} {e : MemberEvent} (b : Bool) → (b ≡ true → MemberMoves t i h e h') → (b ≡ false → h' ≡ h) → Run (MemberMoves t i) h (only b e) h'
own-case true m o = Run.step (m refl) Run.done
own-case {t} {i} {h} false m o = subst (λ z. Run (MemberMoves t i) h [] z) (sym (o refl)) Run.done

-- opening
opens-own :
    (s : FamilyStanding) {i : ℕ} {kept : List ℕ} {k : ℕ} {r : FamilyAnswer (Answered Balance)} → Eight s.family → OpenMemberContract s.family i kept k r
    → MemberMoves (terms s.family) i (held s i) (MemberEvent.opens (member_at s.family i) (room s.family i) kept k r.answer)
    (held (record { family = r.family; kept = place_if r.answer s.kept i kept; book = s.book; length = s.length }) i)
unfolding tells_by holds_by
opens-own s {i} {kept} {k} {r} eight p =
    record {
      given = refl;
      typed = tt;
      tells = ap opened p.tells.answers;
      holds =
          held-path
          (ap (λ g. member_at g i) p.gives ∙ put-here s.family eight i (open_with (sum kept)) v (λ e. open-number s.family i kept k e))
          (ap (λ a. place_if a s.kept i kept i) p.tells.answers ∙ place_if-here s.kept i kept v (open_balance kept k))
          refl refl;
      lent = tt;
    }
  where
    v : Checked
    v = open_member_verdict s.family i kept k

-- a step
steps-own :
    (s : FamilyStanding) {i : ℕ} {x : StepInputs} {r : FamilyAnswer (Answered Stepped)} {kept : List ℕ} {scratch : List ℤ} {book : List ℕ} {all books : ℕ → List ℕ} → Eight s.family
    → StepMemberContract s.family i x r kept scratch book → Lends s.kept i x.kept r.answer kept all
    → Lends s.book i x.book r.answer book books → ToldLength s.length i x.length r.answer
    → MemberMoves (terms s.family) i (held s i) (MemberEvent.steps (member_at s.family i) (room s.family i) x r.answer kept scratch book)
    (held (record { family = r.family; kept = all; book = books; length = lengths_after s.length i r.answer }) i)
unfolding tells_by holds_by
steps-own s {i} {x} {r} {kept} {book = book} {all} {books} eight p q u l =
    record {
      given = refl;
      typed = p.tells.typed;
      tells = λ z. stepped (p.tells.tells.answers z) (p.tells.tells.leaves.writes z) (p.tells.tells.leaves.clears z) (p.tells.files z);
      holds =
          held-path
          (ap (λ g. member_at g i) p.gives ∙ put-here s.family eight i (open_with (new_total c)) v (λ e. step-number s.family i x e))
          (lends-here v (step_result c) (tree_masses (field x.lists) (new_total c)) (subst (λ a. Lends s.kept i x.kept a kept all) p.tells.tells.answers q) p.tells.tells.leaves.writes)
          (lends-here v (step_result c) (grown_buffer x.book x.length (step_entry c)) (subst (λ a. Lends s.book i x.book a book books) p.tells.tells.answers u) p.tells.files)
          (place_here s.length i (length_after r.answer (s.length i))
          ∙ ap (λ a. length_after a (s.length i)) p.tells.tells.answers
          ∙ length-by v (step_result c) (s.length i));
      lent = λ a. record { kept = lends-own q a; book = lends-own u a; length = l a };
    }
  where
    v : Checked
    v = step_member_verdict s.family i x

    c : StepCall
    c = call_of (terms s.family) (member_at s.family i) x

-- a registration: the member is told, and holds what it held
registers-own :
    (s : FamilyStanding) {i : ℕ} {r : FamilyAnswer Checked} → RegisterContract s.family i r
    → MemberMoves (terms s.family) i (held s i) (MemberEvent.registers (member_at s.family i) r.answer)
    (held (record { family = r.family; kept = s.kept; book = s.book; length = s.length }) i)
unfolding tells_by holds_by
registers-own s {i} p =
    record { given = refl; typed = tt; tells = ap registered p.answers; holds = held-path (register-members p i) refl refl refl; lent = tt }

-- a start of its book
books-own :
    (s : FamilyStanding) (i : ℕ) {e : StartEvent} {l : ℕ} → StartPromised e → e.answer ≡ Ok l
    → (member_at s.family i).opened ≡ true → e.total ≡ total_of s.family i
    → MemberMoves (terms s.family) i (held s i) (MemberEvent.books (member_at s.family i) e)
    (held (record { family = s.family; kept = s.kept; book = place s.book i e.left; length = place s.length i l }) i)
unfolding tells_by holds_by
books-own s i {e} {l} p t o f =
    let z = answered-accepted v l 512 (sym t ∙ p.answers) in
    record {
      given = refl;
      typed = p.typed;
      tells = λ y. started (p.answers y) (p.writes y);
      holds =
          held-path refl refl
          (place_here s.book i e.left
          ∙ p.writes
          ∙ ap (λ w. after w new e.buffer) z.0
          ∙ ap (λ w. after w new (s.book i)) (sym z.0))
          (place_here s.length i l ∙ z.1 ∙ ap (λ w. after w 512 (s.length i)) (sym z.0));
      lent = record { is_open = o; from = f; size = l; accepts = t };
    }
  where
    v : Checked
    v = book_start_verdict e.total e.buffer

    new : List ℕ
    new = written e.buffer 0 (book_bytes (book e.total []))

-- ---- what no call changes

pub open-steady : {f : Family} {i : ℕ} {kept : List ℕ} {k : ℕ} {r : FamilyAnswer (Answered Balance)} → OpenMemberContract f i kept k r → Steady f r.family
open-steady {f} {i} {kept} {k} p = subst (Steady f) (sym p.gives) (put-steady f i (open_with (sum kept)) (open_member_verdict f i kept k))

pub step-steady :
    {f : Family} {i : ℕ} {x : StepInputs} {r : FamilyAnswer (Answered Stepped)} {kept : List ℕ} {scratch : List ℤ} {book : List ℕ} → StepMemberContract f i x r kept scratch book → Steady f r.family
step-steady {f} {i} {x} p = subst (Steady f) (sym p.gives) (put-steady f i (open_with (new_total (call_of (terms f) (member_at f i) x))) (step_member_verdict f i x))

pub register-steady : {f : Family} {i : ℕ} {r : FamilyAnswer Checked} → RegisterContract f i r → Steady f r.family
register-steady {f} {i} p = subst (Steady f) (sym p.gives) (schedule-steady f (with_bit f.waiting i) f.from (register_verdict f i))

-- ---- every call

pub moves-steady : {s t : FamilyStanding} {e : FamilyEvent} → FamilyMoves s e t → Steady s.family t.family
moves-steady (FamilyMoves.opens p) = open-steady p
moves-steady (FamilyMoves.steps p q u l) = step-steady p
moves-steady (FamilyMoves.registers p) = register-steady p
moves-steady {s} (FamilyMoves.serves p q u l) =
    let t = turn-serves p in
    let z = step-steady t.contract in
    subst (Steady s.family) (sym t.ends) (record { size = z.size; cap = z.cap; terms = z.terms })
moves-steady {s} (FamilyMoves.idles p) = subst (Steady s.family) (sym (turn-idles p).gives) (record { size = refl; cap = refl; terms = refl })
moves-steady (FamilyMoves.books p t o f) = record { size = refl; cap = refl; terms = refl }

-- a step, by itself or in a turn
steps-run :
    (i j : ℕ) (s : FamilyStanding) {x : StepInputs} {r : FamilyAnswer (Answered Stepped)} {kept : List ℕ} {scratch : List ℤ} {book : List ℕ} {all books : ℕ → List ℕ} → Eight s.family
    → StepMemberContract s.family j x r kept scratch book → Lends s.kept j x.kept r.answer kept all
    → Lends s.book j x.book r.answer book books → ToldLength s.length j x.length r.answer
    → Run (MemberMoves (terms s.family) i) (held s i) (only (eqb j i) (MemberEvent.steps (member_at s.family j) (room s.family j) x r.answer kept scratch book))
    (held (record { family = r.family; kept = all; book = books; length = lengths_after s.length j r.answer }) i)
steps-run i j s {x} {r} {kept} {scratch} {book} {all} {books} h p q u l =
    own-case (eqb j i)
    (λ b.
    subst
    (λ n.
    MemberMoves (terms s.family) n (held s n) (MemberEvent.steps (member_at s.family j) (room s.family j) x r.answer kept scratch book)
    (held (record { family = r.family; kept = all; book = books; length = lengths_after s.length j r.answer }) n))
    (eqb-true j i b) (steps-own s h p q u l))
    (λ b.
    held-path
    (ap (λ g. member_at g i) p.gives
    ∙ put_other s.family h j (open_with (new_total (call_of (terms s.family) (member_at s.family j) x))) (step_member_verdict s.family j x) i (other-number i j b))
    (lends-other i b q) (lends-other i b u) (place_other s.length j i (length_after r.answer (s.length j)) b))

-- a call of the family is a call of the member that it names, and leaves every other member as it was
pub moves-own : (i : ℕ) {s t : FamilyStanding} {e : FamilyEvent} → Eight s.family → FamilyMoves s e t → Run (MemberMoves (terms s.family) i) (held s i) (own_of i e) (held t i)
moves-own i {s} h (FamilyMoves.opens {i = j} {kept} {k} {r} p) =
    own-case (eqb j i)
    (λ b.
    subst
    (λ n.
    MemberMoves (terms s.family) n (held s n) (MemberEvent.opens (member_at s.family j) (room s.family j) kept k r.answer)
    (held (record { family = r.family; kept = place_if r.answer s.kept j kept; book = s.book; length = s.length }) n))
    (eqb-true j i b) (opens-own s h p))
    (λ b.
    held-path (ap (λ g. member_at g i) p.gives ∙ put_other s.family h j (open_with (sum kept)) (open_member_verdict s.family j kept k) i (other-number i j b))
    (place_if-other s.kept j i kept r.answer b) refl refl)
moves-own i {s} h (FamilyMoves.steps {i = j} p q u l) = steps-run i j s h p q u l
moves-own i {s} h (FamilyMoves.registers {i = j} {r} p) =
    own-case (eqb j i)
    (λ b.
    subst
    (λ n.
    MemberMoves (terms s.family) n (held s n) (MemberEvent.registers (member_at s.family j) r.answer)
    (held (record { family = r.family; kept = s.kept; book = s.book; length = s.length }) n))
    (eqb-true j i b) (registers-own s p))
    (λ b. held-path (register-members p i) refl refl refl)
moves-own i {s} h (FamilyMoves.serves {x = x} {g} {i = j} {answer} {kept} {scratch} {book} {all} {books} p q u l) =
    let t = turn-serves p in
    subst
    (λ f.
    Run (MemberMoves (terms s.family) i) (held s i) (own_of i (FamilyEvent.turns s.family x (record { family = g; answer = Some (record { member = j; stepped = answer }) }) kept scratch book))
    (held (record { family = f; kept = all; book = books; length = lengths_after s.length j answer }) i))
    (sym t.ends) (steps-run i j s h t.contract q u l)
moves-own i {s} h (FamilyMoves.idles p) =
    subst (λ f. Run (MemberMoves (terms s.family) i) (held s i) [] (held (record { family = f; kept = s.kept; book = s.book; length = s.length }) i)) (sym (turn-idles p).gives) Run.done
moves-own i {s} h (FamilyMoves.books {i = j} {e} {l} p t o f) =
    own-case (eqb j i)
    (λ b.
    subst
    (λ n.
    MemberMoves (terms s.family) n (held s n) (MemberEvent.books (member_at s.family j) e)
    (held (record { family = s.family; kept = s.kept; book = place s.book j e.left; length = place s.length j l }) n))
    (eqb-true j i b) (books-own s j p t o f))
    (λ b. held-path refl refl (place_other s.book j i e.left b) (place_other s.length j i l b))

-- every history of the family is, for each member, a history of its own
pub run-own : (i : ℕ) {s t : FamilyStanding} {es : List FamilyEvent} → Eight s.family → Run FamilyMoves s es t → Run (MemberMoves (terms s.family) i) (held s i) (calls_of i es) (held t i)
unfolding collect
run-own i h Run.done = Run.done
run-own i {s} {t} h (Run.step {t = u} {es = es} m r) =
    run-append (moves-own i h m) (subst (λ z. Run (MemberMoves z i) (held u i) (calls_of i es) (held t i)) (moves-steady m).terms (run-own i ((moves-steady m).size ∙ h) r))

-- cap, scale, cells and the number of members stay
pub run-steady : {s t : FamilyStanding} {es : List FamilyEvent} → Run FamilyMoves s es t → Steady s.family t.family
run-steady Run.done = record { size = refl; cap = refl; terms = refl }
run-steady (Run.step m r) =
    let a = moves-steady m in
    let b = run-steady r in
    record { size = b.size ∙ a.size; cap = b.cap ∙ a.cap; terms = b.terms ∙ a.terms }
