-- From an operation's contract to what its call returns and writes, accepted or refused. Assumes nothing.
use Rattle.std.specs.Prelude.{Ok, Err}
use mathlib.Core.Path.{◌≡◌, sym, ◌∙◌, ap, subst}
use Rattle.family_spec.specs.declared.FamilyAnswer.{FamilyAnswer}
use Rattle.kept_spec.specs.declared.Stepped.{Stepped}
use mathlib.Core.List.{List, [], ◌∷◌}
use Prim.Native.Nat.{ℕ, ◌≤◌}
use lib.IntN.{ℤ}
use lib.ListN.{length}
use Rattle.numbers.specs.declared.Refusal.{Refusal}
use Rattle.numbers.specs.Lists.{sum, written}
use Rattle.numbers.specs.Checks.{Checked, Answered, after, both, first, check_count, check_long}
use Rattle.numbers.proofs.CheckLaws.{answered-accepted, answered-refused, after-pass, after-fail, both_first, both-second, long-decides}
use Rattle.qlt_spec.specs.declared.Repair.{Repair}
use Rattle.qlt_spec.specs.Field.{cells, nodes}
use Rattle.qlt_spec.specs.Checks.{check_nodes}
use Rattle.qlt_spec.specs.Operation.{Leaves}
use Rattle.qlt_spec.proofs.OperationLaws.{leaves-refused}
use Rattle.book_spec.specs.LentBook.{grown_buffer}
use Rattle.kept_spec.specs.declared.Balance.{Balance}
use Rattle.kept_spec.specs.Open.{open_balance}
use Rattle.kept_spec.specs.Step.{StepCall, Typed, new_total, repair_call, step_result, step_entry}
use Rattle.family_spec.specs.declared.Family.{Family}
use Rattle.family_spec.specs.Family.{open_with, member_at, put, begun, terms}
use Rattle.family_spec.specs.Member.{check_opened, check_same_cells, StepInputs, call_of}
use Rattle.family_spec.specs.Operations.{start_verdict, StartContract, open_member_verdict, OpenMemberContract, step_member_verdict, StepMemberContract}
use Rattle.call_values.specs.Values.{returned, open_values, balance_words, step_values, result_words}
use Rattle.call_values.proofs.ValueLaws.{room, room-refused, first-last}
use Rattle.family_calls.specs.List.{family_entries, family_words, family_in}
use Rattle.family_calls.specs.Calls.{call_room, start_call_verdict, FamilyStartReturns, open_call_verdict, FamilyOpenReturns, step_call_verdict, FamilyStepReturns}

-- ---- start

module _ (cap scale n : ℕ) (family : List ℕ) where
  pub start-no-room :
      {refusal : Refusal} → check_long (length family) family_entries ≡ Err refusal
      → (Err refusal ≡ start_call_verdict scale n family) × FamilyStartReturns cap scale n family (returned (Err refusal)) family
  unfolding start_call_verdict
  start-no-room h =
      let v = room-refused (length family) family_entries (start_verdict scale n) h in
      (sym v, record { returns = ap returned (sym v); gives = after-fail _ family v })

  module _ (a : FamilyAnswer Checked) (p : StartContract cap scale n a) (h : family_entries ≤ length family) where
    pub start-done :
        {family' : List ℕ} → a.answer ≡ Ok tt → family' ≡ written family 0 (family_words a.family)
        → (Ok tt ≡ start_call_verdict scale n family) × FamilyStartReturns cap scale n family 0 family'
    unfolding start_call_verdict
    start-done e w =
        let t = (answered-accepted (start_verdict scale n) tt tt (sym e ∙ p.answers)).0 in
        let v = room (length family) family_entries (start_verdict scale n) h ∙ t in (
          sym v,
          record {
            returns = ap returned (sym v);
            gives = after-pass family v (w ∙ ap (λ f. written family 0 (family_words f)) (p.gives ∙ ap (λ u. after u (begun cap scale n) (begun 0 0 0)) t));
          },
        )

    pub start-refused :
        {refusal : Refusal} → a.answer ≡ Err refusal → (Err refusal ≡ start_call_verdict scale n family) × FamilyStartReturns cap scale n family (returned (Err refusal)) family
    unfolding start_call_verdict
    start-refused e =
        let v = room (length family) family_entries (start_verdict scale n) h ∙ answered-refused (start_verdict scale n) tt _ _ (sym e ∙ p.answers) in
        (sym v, record { returns = ap returned (sym v); gives = after-fail _ family v })

-- ---- open

-- the lists of a call with room are long enough
module _ (family answer : List ℕ) (values : ℕ) (e : call_room family answer values ≡ Ok tt) where
  pub room-family : family_entries ≤ length family
  room-family = (long-decides (length family) family_entries).passes.0 (both_first (check_long (length family) family_entries) _ e)

  pub room-answer : values ≤ length answer
  room-answer = (long-decides (length answer) values).passes.0 (both_first _ (Ok tt) (both-second (check_long (length family) family_entries) _ e))

module _ (family : List ℕ) (i : ℕ) (kept : List ℕ) (k : ℕ) (answer : List ℕ) where
  abbrev f : Family
  f = family_in family

  open-chain : open_call_verdict family i kept k answer ≡ both (call_room family answer open_values) (open_member_verdict f i kept k)
  unfolding open_call_verdict
  open-chain = first-last (check_long (length family) family_entries ∷ check_long (length answer) open_values ∷ []) (open_member_verdict f i kept k)

  pub open-room-refused :
      {refusal : Refusal} → call_room family answer open_values ≡ Err refusal
      → (Err refusal ≡ open_call_verdict family i kept k answer) × FamilyOpenReturns family i kept k answer (returned (Err refusal)) family answer
  open-room-refused e =
      let v = open-chain ∙ ap (λ w. both w (open_member_verdict f i kept k)) e in
      (sym v, record { returns = ap returned (sym v); gives = after-fail _ family v; writes = after-fail _ answer v })

  module _ (e : call_room family answer open_values ≡ Ok tt) where
    open-past : open_call_verdict family i kept k answer ≡ open_member_verdict f i kept k
    open-past = open-chain ∙ ap (λ w. both w (open_member_verdict f i kept k)) e

    module _ (a : FamilyAnswer (Answered Balance)) (p : OpenMemberContract f i kept k a) where
      pub open_done :
          {b : Balance} {family' answer' : List ℕ} → a.answer ≡ Ok b → family' ≡ written family 0 (family_words a.family)
          → answer' ≡ written answer 0 (balance_words b) → (Ok tt ≡ open_call_verdict family i kept k answer) × FamilyOpenReturns family i kept k answer 0 family' answer'
      open_done {b} s u w =
          let t = answered-accepted (open_member_verdict f i kept k) b (open_balance kept k) (sym s ∙ p.tells.answers) in
          let v = open-past ∙ t.0 in (
            sym v,
            record {
              returns = ap returned (sym v);
              gives = after-pass family v (u ∙ ap (λ g. written family 0 (family_words g)) (p.gives ∙ ap (λ y. after y (put f i (open_with (sum kept))) f) t.0));
              writes = after-pass answer v (w ∙ ap (λ y. written answer 0 (balance_words y)) t.1);
            },
          )

      pub open-refused :
          {refusal : Refusal} → a.answer ≡ Err refusal
          → (Err refusal ≡ open_call_verdict family i kept k answer) × FamilyOpenReturns family i kept k answer (returned (Err refusal)) family answer
      open-refused s =
          let v = open-past ∙ answered-refused (open_member_verdict f i kept k) (open_balance kept k) _ _ (sym s ∙ p.tells.answers) in
          (sym v, record { returns = ap returned (sym v); gives = after-fail _ family v; writes = after-fail _ answer v })

-- ---- step

-- the checks of its shape
abbrev pub step_room : List ℕ → ℕ → StepInputs → List ℕ → Checked
step_room family i x answer =
    first
    (check_long (length family) family_entries
    ∷ check_opened i (member_at (family_in family) i)
    ∷ check_same_cells (cells x.lists) (family_in family).cells
    ∷ check_count (cells x.lists)
    ∷ check_nodes (cells x.lists) (nodes x.lists)
    ∷ check_long (length answer) step_values
    ∷ [])

module _ (family : List ℕ) (i : ℕ) (x : StepInputs) (answer : List ℕ) where
  abbrev g : Family
  g = family_in family

  abbrev c : StepCall
  c = call_of (terms g) (member_at g i) x

  step-chain : step_call_verdict family i x answer ≡ both (step_room family i x answer) (step_member_verdict g i x)
  unfolding step_call_verdict
  step-chain =
      first-last
      (check_long (length family) family_entries
      ∷ check_opened i (member_at g i)
      ∷ check_same_cells (cells x.lists) g.cells
      ∷ check_count (cells x.lists)
      ∷ check_nodes (cells x.lists) (nodes x.lists)
      ∷ check_long (length answer) step_values
      ∷ [])
      (step_member_verdict g i x)

  pub step-room-refused :
      {refusal : Refusal} → Typed c → step_room family i x answer ≡ Err refusal
      → (Err refusal ≡ step_call_verdict family i x answer) × FamilyStepReturns family i x answer (returned (Err refusal)) family x.kept x.scratch x.book answer
  step-room-refused y e =
      let v = step-chain ∙ ap (λ w. both w (step_member_verdict g i x)) e in (
        sym v,
        record {
          typed = y;
          returns = ap returned (sym v);
          gives = after-fail _ family v;
          leaves = leaves-refused (repair_call c) v;
          files = after-fail _ x.book v;
          writes = after-fail _ answer v;
        },
      )

  module _ (e : step_room family i x answer ≡ Ok tt) where
    pub step-family : family_entries ≤ length family
    step-family = (long-decides (length family) family_entries).passes.0 (both_first (check_long (length family) family_entries) _ e)

    pub step-answer : step_values ≤ length answer
    step-answer =
        (long-decides (length answer) step_values).passes.0
        (both_first _ (Ok tt)
        (both-second (check_nodes (cells x.lists) (nodes x.lists)) _
        (both-second (check_count (cells x.lists)) _
        (both-second (check_same_cells (cells x.lists) g.cells) _
        (both-second (check_opened i (member_at g i)) _ (both-second (check_long (length family) family_entries) _ e))))))

    step_past : step_call_verdict family i x answer ≡ step_member_verdict g i x
    step_past = step-chain ∙ ap (λ w. both w (step_member_verdict g i x)) e

    module _ (a : FamilyAnswer (Answered Stepped)) {kept : List ℕ} {scratch : List ℤ} {book : List ℕ} (p : StepMemberContract g i x a kept scratch book) where
      leaves-on : Leaves (step_call_verdict family i x answer) (repair_call c) kept scratch
      leaves-on = subst (λ v. Leaves v (repair_call c) kept scratch) (sym step_past) p.tells.tells.leaves

      files-on : book ≡ after (step_call_verdict family i x answer) (grown_buffer x.book x.length (step_entry c)) x.book
      files-on = p.tells.files ∙ ap (λ v. after v (grown_buffer x.book x.length (step_entry c)) x.book) (sym step_past)

      pub step-done :
          {y : Repair} {b : Balance} {l : ℕ} {family' answer' : List ℕ} → a.answer ≡ Ok (record { repair = y; balance = b; length = l }) → family' ≡ written family 0 (family_words a.family)
          → answer' ≡ written answer 0 (result_words y l) → (Ok tt ≡ step_call_verdict family i x answer) × FamilyStepReturns family i x answer 0 family' kept scratch book answer'
      step-done {y} {b} {l} s u w =
          let t = answered-accepted (step_member_verdict g i x) (record { repair = y; balance = b; length = l }) (step_result c) (sym s ∙ p.tells.tells.answers) in
          let v = step_past ∙ t.0 in (
            sym v,
            record {
              typed = p.tells.typed;
              returns = ap returned (sym v);
              gives = after-pass family v (u ∙ ap (λ q. written family 0 (family_words q)) (p.gives ∙ ap (λ q. after q (put g i (open_with (new_total c))) g) t.0));
              leaves = leaves-on;
              files = files-on;
              writes = after-pass answer v (w ∙ ap (λ q. written answer 0 (result_words q.repair q.length)) t.1);
            },
          )

      pub step-refused :
          {refusal : Refusal} → a.answer ≡ Err refusal
          → (Err refusal ≡ step_call_verdict family i x answer) × FamilyStepReturns family i x answer (returned (Err refusal)) family kept scratch book answer
      step-refused s =
          let v = step_past ∙ answered-refused (step_member_verdict g i x) (step_result c) _ _ (sym s ∙ p.tells.tells.answers) in
          (sym v, record { typed = p.tells.typed; returns = ap returned (sym v); gives = after-fail _ family v; leaves = leaves-on; files = files-on; writes = after-fail _ answer v })
