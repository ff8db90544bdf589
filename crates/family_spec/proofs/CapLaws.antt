-- The totals of a family never pass its cap in sum. Assumes nothing.
use Rattle.std.specs.Prelude.{Ok, Err}
use mathlib.Core.Path.{◌≡◌, refl, sym, ◌∙◌, subst}
use mathlib.Core.Logic.{⊎_elim}
use mathlib.Core.List.{List}
use Prim.Native.Nat.{ℕ, ◌+◌, ◌≤◌}
use native.Mathlib.Omega.{arith}
use lib.IntN.{ℤ, pos, ◌+ℤ◌}
use lib.Signed.{◌≤ℤ◌}
use Rattle.numbers.specs.Lists.{sum}
use Rattle.numbers.specs.Signed.{over}
use Rattle.numbers.specs.Checks.{Checked, Answered, after}
use Rattle.numbers.proofs.SignedLaws.{le_parts, add_parts, one-part, le_z-means}
use Rattle.kept_spec.specs.declared.Stepped.{Stepped}
use Rattle.kept_spec.specs.Step.{new_total}
use Rattle.kept_spec.specs.Run.{Run}
use Rattle.family_spec.specs.declared.Family.{Family}
use Rattle.family_spec.specs.declared.FamilyAnswer.{FamilyAnswer}
use Rattle.family_spec.specs.Family.{open_with, member_at, total_of, put, schedule, totals, others, room, terms}
use Rattle.family_spec.specs.Waiting.{with_bit}
use Rattle.family_spec.specs.Member.{StepInputs, call_of}
use Rattle.family_spec.specs.Operations.{open_member_verdict, step_member_verdict, StepMemberContract, register_verdict}
use Rattle.family_spec.specs.History.{FamilyEvent, FamilyStanding, FamilyMoves}
use Rattle.family_spec.proofs.RuleLaws.{opening-accepts, stepping-accepts}
use Rattle.family_spec.proofs.FamilyLaws.{Eight, totals-apart, totals-put, room_fits}
use Rattle.family_spec.proofs.TurnLaws.{turn-serves, turn-idles}
use Rattle.family_spec.proofs.MemberLaws.{moves-steady}

abbrev pub Capped : Family → Type 0
Capped f = totals f ≤ f.cap

-- a total within the room
within : (f : Family) (i total : ℕ) → pos total ≤ℤ room f i → others f i + total ≤ f.cap
within f i total h = room_fits f i total ((le_z-means (pos total) (room f i)).1 h)

-- a source of at most 0 makes no total larger
less_by : (total : ℕ) (source : ℤ) → source ≤ℤ pos 0 → over (pos total +ℤ source) ≤ total
less_by total source h = omega (arith, le_parts h, add_parts (pos total) source, one-part source)

-- ---- one call

opens-capped : (f : Family) → Eight f → Capped f → (i : ℕ) (kept : List ℕ) (k : ℕ) (v : Checked) → open_member_verdict f i kept k ≡ v → Capped (after v (put f i (open_with (sum kept))) f)
opens-capped f eight c i kept k (Ok tt) e =
    let z = (opening-accepts (terms f) i (member_at f i) (room f i) kept k).0 e in
    rw (totals-put f i eight z.number (open_with (sum kept))) (within f i (sum kept) z.within)
opens-capped f eight c i kept k (Err r) e = c

steps-capped : (f : Family) → Eight f → Capped f → (i : ℕ) (x : StepInputs) (v : Checked) → step_member_verdict f i x ≡ v → Capped (after v (put f i (open_with (new_total (call_of (terms f) (member_at f i) x)))) f)
steps-capped f eight c i x (Ok tt) e =
    let z = (stepping-accepts (terms f) i (member_at f i) (room f i) x).0 e in
    let M = new_total (call_of (terms f) (member_at f i) x) in
    rw (totals-put f i eight z.number (open_with M))
    (⊎_elim (λ s. let a = less_by (total_of f i) x.source s in let b = totals-apart f i z.number in omega (arith, a, b, c)) (λ s. within f i M s) z.within)
steps-capped f eight c i x (Err r) e = c

-- a step, by itself or in a turn
stepped-capped :
    {f : Family} {i : ℕ} {x : StepInputs} {r : FamilyAnswer (Answered Stepped)} {kept : List ℕ} {scratch : List ℤ} {book : List ℕ} → Eight f → Capped f → StepMemberContract f i x r kept scratch book
    → Capped r.family
stepped-capped {f} {i} {x} h c p = subst Capped (sym p.gives) (steps-capped f h c i x (step_member_verdict f i x) refl)

-- who waits is none of its matter
schedule-capped : (f : Family) (byte from : ℕ) → Capped f → Capped (schedule f byte from)
unfolding totals
schedule-capped f byte from c = c

registers-capped : (f : Family) (byte from : ℕ) → Capped f → (v : Checked) → Capped (after v (schedule f byte from) f)
registers-capped f byte from c (Ok tt) = schedule-capped f byte from c
registers-capped f byte from c (Err r) = c

moves-capped : {s t : FamilyStanding} {e : FamilyEvent} → Eight s.family → Capped s.family → FamilyMoves s e t → Capped t.family
moves-capped {s} h c (FamilyMoves.opens {i = i} {kept} {k} p) =
    subst Capped (sym p.gives) (opens-capped s.family h c i kept k (open_member_verdict s.family i kept k) refl)
moves-capped h c (FamilyMoves.steps p q u l) = stepped-capped h c p
moves-capped {s} h c (FamilyMoves.registers {i = i} p) =
    subst Capped (sym p.gives) (registers-capped s.family (with_bit s.family.waiting i) s.family.from c (register_verdict s.family i))
moves-capped h c (FamilyMoves.serves p q u l) =
    let t = turn-serves p in
    subst Capped (sym t.ends) (schedule-capped t.stepped _ _ (stepped-capped h c t.contract))
moves-capped h c (FamilyMoves.idles p) = subst Capped (sym (turn-idles p).gives) c
moves-capped h c (FamilyMoves.books p t o f) = c

-- ---- every history

pub run-capped : {s t : FamilyStanding} {es : List FamilyEvent} → Eight s.family → Capped s.family → Run FamilyMoves s es t → Capped t.family
run-capped h c Run.done = c
run-capped h c (Run.step m r) = run-capped ((moves-steady m).size ∙ h) (moves-capped h c m) r
