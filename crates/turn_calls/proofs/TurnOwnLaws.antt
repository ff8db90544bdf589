-- Each call for turns has its operation's own contract, read off the return value and the lent lists; with a list that is too short it writes
-- nothing. Assumes nothing.
use Rattle.std.specs.Prelude.{Ok, Err, Some, None, Option}
use mathlib.Core.Path.{◌≡◌, refl, sym, ◌∙◌, ap, ap₂, subst}
use Rattle.family_spec.specs.declared.Served.{Served}
use Rattle.family_spec.specs.declared.FamilyAnswer.{FamilyAnswer}
use Rattle.kept_spec.specs.declared.Stepped.{Stepped}
use mathlib.Core.Bool.{false, cond}
use mathlib.Core.List.{List, ◌∷◌}
use Prim.Native.Nat.{ℕ, suc, ◌%◌, ◌≤◌, ◌<◌}
use native.Mathlib.Omega.{arith}
use lib.Dec.{eqb}
use lib.IntN.{ℤ}
use lib.ListN.{length, drop}
use borrow.Author.Tests.{ne_eqb}
use Rattle.numbers.specs.Lists.{at, written}
use Rattle.numbers.specs.Checks.{Checked, Answered, refused, answered, after, both, check_long}
use Rattle.numbers.proofs.PartLaws.{length-kept}
use Rattle.qlt_spec.specs.Operation.{repair}
use Rattle.kept_spec.specs.Step.{StepCall, new_total, step_result}
use Rattle.family_spec.specs.declared.Family.{Family}
use Rattle.family_spec.specs.Family.{open_with, member_at, put, room, terms}
use Rattle.family_spec.specs.Waiting.{with_bit, without_bit}
use Rattle.family_spec.specs.Member.{StepInputs, call_of}
use Rattle.family_spec.specs.Operations.{step_member_verdict, StepMemberContract, register_verdict, RegisterContract, next_member, serve, ServingTurn, TurnBy, TurnContract}
use Rattle.family_spec.proofs.RuleLaws.{stepping-accepts, registering-decides, registering-accepts, registering-numbers}
use Rattle.family_spec.proofs.TurnLaws.{turn-serves, turn-idles, turn-decided}
use Rattle.family_spec.proofs.ByteLaws.{set-byte, clear-byte}
use Rattle.family_spec.proofs.WaitingLaws.{next-number}
use Rattle.call_values.specs.Values.{returned, told_by, step_values}
use Rattle.call_values.proofs.ValueLaws.{after-by, long-passes, long-fails, no_room, Numbered, told-returned, told-own, numbered}
use Rattle.family_calls.specs.List.{family_entries, family_words, family_in}
use Rattle.family_calls.specs.Calls.{call_room, FamilyStepReturns, step_told}
use Rattle.family_calls.proofs.ListLaws.{Typed, in-typed, put_typed, schedule-typed, family-read}
use Rattle.family_calls.proofs.OwnLaws.{read-after, length-after, step-numbered, step-long, step-own}
use Rattle.turn_calls.specs.TurnCalls.{register_call_verdict, registered_in, FamilyRegisterReturns, FamilyReads, turn_values, step_words, turn_words, turn_list, TurnLeaves, TurnMade, TurnCallBy, FamilyTurnReturns}
use Rattle.turn_calls.specs.CallRuns.{turn_told}
use Rattle.call_values.proofs.ValueLaws as values

-- ---- register

module _ (family : List ℕ) (i r : ℕ) (family' : List ℕ) (q : FamilyRegisterReturns family i r family') where
  abbrev f : Family
  f = family_in family

  register-numbered : Numbered (register_verdict f i)
  register-numbered = numbered _ (registering-decides i (member_at f i)) (registering-numbers i (member_at f i)) refl

  pub register-length : family_entries ≤ length family → family_entries ≤ length family'
  register-length h = length-after family family' (registered_in family i) (register_call_verdict family i) q.gives h

  pub register-own : family_entries ≤ length family → RegisterContract f i (record { family = family_in family'; answer = (told_by r tt) })
  unfolding register_call_verdict
  register-own h =
      let v = values.room (length family) family_entries (register_verdict f i) h in
      record {
        answers = told-own (register_verdict f i) r tt tt register-numbered (q.returns ∙ ap returned v) (λ e. refl);
        gives =
            read-after family family' (registered_in family i) f (register_verdict f i) (q.gives ∙ after-by _ family v)
            (λ e.
            let t = in-typed family in
            let l : i < 8 = omega (arith, ((registering-accepts i (member_at f i)).0 e).number) in
            schedule-typed f (with_bit f.waiting i) f.from (set-byte f.waiting i t.byte l) t.start t)
            refl;
      }

  pub register-short : length family < family_entries → (r ≡ 3) × (family' ≡ family)
  unfolding register_call_verdict
  register-short h =
      let v = no_room (length family) family_entries (register_verdict f i) h in
      (q.returns ∙ ap returned v, q.gives ∙ after-by _ family v)

-- ---- lists with room, and without

module _ (family answer : List ℕ) (n : ℕ) where
  pub call-room : family_entries ≤ length family → n ≤ length answer → call_room family answer n ≡ Ok tt
  call-room h a = ap₂ (λ u w. both u (both w (Ok tt))) (long-passes (length family) family_entries h) (long-passes (length answer) n a)

  pub call-no-room : family_entries ≤ length family → length answer < n → call_room family answer n ≡ refused 3 0
  call-no-room h a = ap₂ (λ u w. both u (both w (Ok tt))) (long-passes (length family) family_entries h) (long-fails (length answer) n a)

  pub call-no-family : length family < family_entries → call_room family answer n ≡ refused 3 0
  call-no-family h = ap (λ u. both u (both (check_long (length answer) n) (Ok tt))) (long-fails (length family) family_entries h)

-- ---- a value of the family

module _ (value : Family → ℕ) (family answer : List ℕ) (r : ℕ) (answer' : List ℕ) (q : FamilyReads value family answer r answer') where
  pub read-own : family_entries ≤ length family → 1 ≤ length answer → (r ≡ 0) × (at answer' 0 ≡ value (family_in family))
  unfolding written
  read-own h a =
      let v = call-room family answer 1 h a in
      (q.returns ∙ ap returned v, ap (λ l. at l 0) (q.writes ∙ after-by _ answer v))

  pub read_short : call_room family answer 1 ≡ refused 3 0 → (r ≡ 3) × (answer' ≡ answer)
  read_short v = (q.returns ∙ ap returned v, q.writes ∙ after-by _ answer v)

-- ---- what a turn that served told, read off the list for its values

module _ (family : List ℕ) (i : ℕ) (x : StepInputs) (answer : List ℕ) where
  abbrev g : Family
  g = family_in family

  abbrev c : StepCall
  c = call_of (terms g) (member_at g i) x

  -- by the verdict
  told-by :
      (v : Checked) → Numbered v
      → step_told family i x (at (written answer 0 (i ∷ step_words (answered v (step_result c)))) 1) (drop 2 (written answer 0 (i ∷ step_words (answered v (step_result c))))) ≡ answered v (step_result c)
  unfolding written repair
  told-by (Ok tt) h = refl
  told-by (Err r) h = told-returned (Err r) _ h

  told-step :
      {step : Answered Stepped} {answer' : List ℕ} → step ≡ answered (step_member_verdict g i x) (step_result c) → answer' ≡ written answer 0 (i ∷ step_words step)
      → (step_told family i x (at answer' 1) (drop 2 answer')) ≡ step
  told-step {step} {answer'} t w =
      let u : answer' ≡ written answer 0 (i ∷ step_words (answered (step_member_verdict g i x) (step_result c))) = w ∙ ap (λ a. written answer 0 (i ∷ step_words a)) t in
      ap (λ l. step_told family i x (at l 1) (drop 2 l)) u ∙ told-by (step_member_verdict g i x) (step-numbered g i x) ∙ sym t

  -- the family that such a turn gives is as wide as the machine's numbers
  stepped-typed : {s : FamilyAnswer (Answered Stepped)} {kept : List ℕ} {scratch : List ℤ} {book : List ℕ} → StepMemberContract g i x s kept scratch book → Typed s.family
  stepped-typed p = subst Typed (sym p.gives) (by-verdict (step_member_verdict g i x) refl)
    where
      by-verdict : (v : Checked) → step_member_verdict g i x ≡ v → Typed (after v (put g i (open_with (new_total c))) g)
      by-verdict (Ok tt) e =
          let z = ((stepping-accepts (terms g) i (member_at g i) (room g i) x).0 e).stepping.masses.small in
          put_typed g i (new_total c) (omega (arith, z)) (in-typed family)
      by-verdict (Err r) e = in-typed family

  served-typed : {s : Family} → i < 8 → Typed s → Typed (serve s i)
  served-typed {s} l t = schedule-typed s (without_bit s.waiting i) (suc i % 8) (clear-byte s.waiting i t.byte l) (omega arith) t

-- ---- turn

module _ (family : List ℕ) (x : StepInputs) (answer : List ℕ) (family' kept : List ℕ) (scratch : List ℤ) (book answer' : List ℕ) where
  abbrev h : Family
  h = family_in family

  abbrev Own : Type 0
  Own = TurnContract h x (record { family = family_in family'; answer = turn_told family x answer' }) kept scratch book

  -- by what the turn told
  own-by : (u : Family) (a : Option Served) → TurnContract h x (record { family = u; answer = a }) kept scratch book → family' ≡ turn_list a family u → answer' ≡ written answer 0 (turn_words a) → Own
  own-by u None p e w = subst (λ X. X) (λ z. TurnContract h x (record { family = same z; answer = told z }) kept scratch book) p
    where
      same : u ≡ family_in family'
      same = (turn-idles p).gives ∙ ap family_in (sym e)

      told : None ≡ turn_told family x answer'
      told = unfold written in (ap (turn_told family x) (sym w))
  own-by u (Some r) p e w = subst (λ X. X) (λ z. TurnContract h x (record { family = same z; answer = told z }) kept scratch book) p
    where
      l : r.member < 8
      l = next-number h (turn-serves p).due

      same : u ≡ family_in family'
      same =
          let t = turn-serves p in
          sym (ap family_in e ∙ family-read family u (subst Typed (sym t.ends) (served-typed family r.member x answer l (stepped-typed family r.member x answer t.contract))))

      head : at answer' 0 ≡ r.member
      head = unfold written in (ap (λ y. at y 0) w)

      apart : eqb r.member 8 ≡ false
      apart = ne_eqb r.member 8 (λ y. omega (arith, y, l))

      told : Some (record { member = r.member; stepped = r.stepped }) ≡ turn_told family x answer'
      told =
          sym
          (ap (λ n. cond (eqb n 8) None (Some (record { member = n; stepped = (step_told family n x (at answer' 1) (drop 2 answer')) }))) head
          ∙ ap (λ b. cond b None (Some (record { member = r.member; stepped = (step_told family r.member x (at answer' 1) (drop 2 answer')) }))) apart
          ∙ ap (λ y. Some (record { member = r.member; stepped = y })) (told-step family r.member x answer (turn-serves p).contract.tells.tells.answers w))

  own-made : TurnMade family x answer family' kept scratch book answer' → Own
  own-made m = own-by m.turned.family m.turned.answer m.contract m.gives m.writes

  module _ (r : ℕ) (q : FamilyTurnReturns family x answer r family' kept scratch book answer') where
    pub turn-own : family_entries ≤ length family → turn_values ≤ length answer → (r ≡ 0) × Own
    turn-own b a =
        let v = call-room family answer turn_values b a in
        (q.returns ∙ ap returned v, own-made (subst (λ w. TurnCallBy w family x answer family' kept scratch book answer') v q.does))

    pub turn-short : call_room family answer turn_values ≡ refused 3 0 → (r ≡ 3) × TurnLeaves family x answer family' kept scratch book answer'
    turn-short v = (q.returns ∙ ap returned v, subst (λ w. TurnCallBy w family x answer family' kept scratch book answer') v q.does)

    pub turn-length : family_entries ≤ length family → family_entries ≤ length family'
    turn-length b = by-verdict (call_room family answer turn_values) q.does
      where
        by_answer : (u : Family) (a : Option Served) → family' ≡ turn_list a family u → family_entries ≤ length family'
        by_answer u None e = let k = ap length e in omega (arith, k, b)
        by_answer u (Some r) e = let k = ap length e ∙ length-kept family 0 (family_words u) b in omega (arith, k, b)

        by-verdict : (v : Checked) → TurnCallBy v family x answer family' kept scratch book answer' → family_entries ≤ length family'
        by-verdict (Ok tt) m = by_answer m.turned.family m.turned.answer m.gives
        by-verdict (Err r) m = let k = ap length m.gives in omega (arith, k, b)

-- the contract leaves nothing open: a turn from C returns one value and leaves one set of lists
pub turn-call-decided :
    (family : List ℕ) (x : StepInputs) (answer : List ℕ) {r r' : ℕ} {l l' kept kept' : List ℕ} {scratch scratch' : List ℤ} {book book' w w' : List ℕ}
    → FamilyTurnReturns family x answer r l kept scratch book w → FamilyTurnReturns family x answer r' l' kept' scratch' book' w'
    → (r ≡ r') × ((l ≡ l') × ((kept ≡ kept') × ((scratch ≡ scratch') × ((book ≡ book') × (w ≡ w')))))
turn-call-decided family x answer {l = l} {l'} {kept} {kept'} {scratch} {scratch'} {book} {book'} {w} {w'} p q =
    (p.returns ∙ sym q.returns, by-verdict (call_room family answer turn_values) p.does q.does)
  where
    by-verdict :
        (v : Checked) → TurnCallBy v family x answer l kept scratch book w → TurnCallBy v family x answer l' kept' scratch' book' w'
        → (l ≡ l') × ((kept ≡ kept') × ((scratch ≡ scratch') × ((book ≡ book') × (w ≡ w'))))
    by-verdict (Ok tt) a b =
        let d = turn-decided (family_in family) x a.contract b.contract in (
          a.gives ∙ ap (λ y. turn_list y.answer family y.family) d.0 ∙ sym b.gives,
          (d.1.0, (d.1.1.0, (d.1.1.1, a.writes ∙ ap (λ y. written answer 0 (turn_words y.answer)) d.0 ∙ sym b.writes))),
        )
    by-verdict (Err r) a b =
        (a.gives ∙ sym b.gives, (a.keeps ∙ sym b.keeps, (a.clears ∙ sym b.clears, (a.files ∙ sym b.files, a.writes ∙ sym b.writes))))

-- where i is next: what the call for a step of i returns stands behind i, and masses, scratch and book are left as that call leaves them
module _ (family : List ℕ) (i : ℕ) (x : StepInputs) (answer : List ℕ) {r : ℕ} {l kept : List ℕ} {scratch : List ℤ} {book w : List ℕ} (p : FamilyTurnReturns family x answer r l kept scratch book w) (b : family_entries ≤ length family) (a : turn_values ≤ length answer) (due : next_member (family_in family) ≡ Some i) where
  abbrev m : Family
  m = family_in family

  word-by : (v : Checked) (y : Stepped) → at (written answer 0 (i ∷ step_words (answered v y))) 1 ≡ returned v
  unfolding written
  word-by (Ok tt) y = refl
  word-by (Err r) y = refl

  pub turn-steps :
      (five : List ℕ) {r' : ℕ} {l' kept' : List ℕ} {scratch' : List ℤ} {book' w' : List ℕ} → step_values ≤ length five
      → FamilyStepReturns family i x five r' l' kept' scratch' book' w'
      → (at w 0 ≡ i) × ((at w 1 ≡ r') × ((kept ≡ kept') × ((scratch ≡ scratch') × (book ≡ book'))))
  unfolding written
  turn-steps five h q =
      let made : TurnMade family x answer l kept scratch book w = subst (λ v. TurnCallBy v family x answer l kept scratch book w) (call-room family answer turn_values b a) p.does in
      let t : ServingTurn m i x made.turned kept scratch book = subst (λ n. TurnBy n m x made.turned kept scratch book) due made.contract.serves_next in
      let v = step-long family i x five _ _ _ _ _ _ q b h in
      let words : w ≡ written answer 0 (i ∷ step_words t.step.answer) = made.writes ∙ ap (λ y. written answer 0 (turn_words y)) t.answers in
      let own = step-own family i x five _ _ _ _ _ _ q b h in (
        ap (λ y. at y 0) words,
        (
          ap (λ y. at y 1) (words ∙ ap (λ y. written answer 0 (i ∷ step_words y)) t.contract.tells.tells.answers) ∙ word-by (step_member_verdict m i x) _ ∙ sym (q.returns ∙ ap returned v),
          (
            t.contract.tells.tells.leaves.writes ∙ sym own.tells.tells.leaves.writes,
            (t.contract.tells.tells.leaves.clears ∙ sym own.tells.tells.leaves.clears, t.contract.tells.files ∙ sym own.tells.files),
          ),
        ),
      )
