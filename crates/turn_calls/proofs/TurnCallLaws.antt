-- From an operation's contract to what its call returns and writes. Assumes nothing.
use Rattle.std.specs.Prelude.{Ok, Err, Some, None, Option}
use mathlib.Core.Path.{◌≡◌, refl, sym, ◌∙◌, ap, subst}
use Rattle.family_spec.specs.declared.Served.{Served}
use Rattle.family_spec.specs.declared.FamilyAnswer.{FamilyAnswer}
use Rattle.kept_spec.specs.declared.Stepped.{Stepped}
use mathlib.Core.List.{List, [], ◌∷◌}
use Prim.Native.Nat.{ℕ, ◌≤◌}
use lib.IntN.{ℤ}
use lib.ListN.{length}
use Rattle.numbers.specs.declared.Refusal.{Refusal}
use Rattle.numbers.specs.Lists.{written}
use Rattle.numbers.specs.Checks.{Checked, Answered, after, check_long}
use Rattle.numbers.proofs.CheckLaws.{answered-accepted, answered-refused, after-pass, after-fail}
use Rattle.family_spec.specs.declared.Family.{Family}
use Rattle.family_spec.specs.Member.{StepInputs}
use Rattle.family_spec.specs.Operations.{register_verdict, RegisterContract, TurnContract}
use Rattle.call_values.specs.Values.{returned}
use Rattle.call_values.proofs.ValueLaws.{room, room-refused}
use Rattle.family_calls.specs.List.{family_entries, family_words, family_in}
use Rattle.family_calls.specs.Calls.{call_room}
use Rattle.turn_calls.specs.TurnCalls.{register_call_verdict, registered_in, FamilyRegisterReturns, FamilyReads, turn_values, turn_words, turn_list, TurnCallBy, FamilyTurnReturns}

-- ---- register

module _ (family : List ℕ) (i : ℕ) where
  abbrev f : Family
  f = family_in family

  pub register-no-room :
      {refusal : Refusal} → check_long (length family) family_entries ≡ Err refusal
      → (Err refusal ≡ register_call_verdict family i) × FamilyRegisterReturns family i (returned (Err refusal)) family
  unfolding register_call_verdict
  register-no-room h =
      let v = room-refused (length family) family_entries (register_verdict f i) h in
      (sym v, record { returns = ap returned (sym v); gives = after-fail _ family v })

  module _ (a : FamilyAnswer Checked) (p : RegisterContract f i a) (h : family_entries ≤ length family) where
    pub register-done :
        {family' : List ℕ} → a.answer ≡ Ok tt → family' ≡ written family 0 (family_words a.family)
        → (Ok tt ≡ register_call_verdict family i) × FamilyRegisterReturns family i 0 family'
    unfolding register_call_verdict
    register-done e w =
        let t = (answered-accepted (register_verdict f i) tt tt (sym e ∙ p.answers)).0 in
        let v = room (length family) family_entries (register_verdict f i) h ∙ t in (
          sym v,
          record {
            returns = ap returned (sym v);
            gives = after-pass family v (w ∙ ap (λ g. written family 0 (family_words g)) (p.gives ∙ ap (λ u. after u (registered_in family i) f) t));
          },
        )

    pub register-refused :
        {refusal : Refusal} → a.answer ≡ Err refusal → (Err refusal ≡ register_call_verdict family i) × FamilyRegisterReturns family i (returned (Err refusal)) family
    unfolding register_call_verdict
    register-refused e =
        let v = room (length family) family_entries (register_verdict f i) h ∙ answered-refused (register_verdict f i) tt _ _ (sym e ∙ p.answers) in
        (sym v, record { returns = ap returned (sym v); gives = after-fail _ family v })

-- ---- a value of the family

module _ (value : Family → ℕ) (family answer : List ℕ) where
  pub read-refused :
      {refusal : Refusal} → call_room family answer 1 ≡ Err refusal → (Err refusal ≡ call_room family answer 1) × FamilyReads value family answer (returned (Err refusal)) answer
  read-refused v = (sym v, record { returns = ap returned (sym v); writes = after-fail _ answer v })

  pub read_done :
      {word : ℕ} {answer' : List ℕ} → call_room family answer 1 ≡ Ok tt → word ≡ value (family_in family) → answer' ≡ written answer 0 (word ∷ [])
      → (Ok tt ≡ call_room family answer 1) × FamilyReads value family answer 0 answer'
  read_done v e w = (sym v, record { returns = ap returned (sym v); writes = after-pass answer v (w ∙ ap (λ n. written answer 0 (n ∷ [])) e) })

-- ---- turn

module _ (family : List ℕ) (x : StepInputs) (answer : List ℕ) where
  pub turn-refused :
      {refusal : Refusal} → call_room family answer turn_values ≡ Err refusal
      → (Err refusal ≡ call_room family answer turn_values) × FamilyTurnReturns family x answer (returned (Err refusal)) family x.kept x.scratch x.book answer
  turn-refused v = (
    sym v,
    record {
      returns = ap returned (sym v);
      does = subst (λ w. TurnCallBy w family x answer family x.kept x.scratch x.book answer) (sym v) (record { gives = refl; keeps = refl; clears = refl; files = refl; writes = refl });
    },
  )

  module _ (v : call_room family answer turn_values ≡ Ok tt) (a : FamilyAnswer (Option Served)) {kept : List ℕ} {scratch : List ℤ} {book : List ℕ} (p : TurnContract (family_in family) x a kept scratch book) where
    made :
        {family' answer' : List ℕ} → family' ≡ turn_list a.answer family a.family → answer' ≡ written answer 0 (turn_words a.answer)
        → (Ok tt ≡ call_room family answer turn_values) × FamilyTurnReturns family x answer 0 family' kept scratch book answer'
    made {family' = family'} {answer' = answer'} u w = (
      sym v,
      record {
        returns = ap returned (sym v);
        does = subst (λ y. TurnCallBy y family x answer family' kept scratch book answer') (sym v) (record { turned = a; contract = p; gives = u; writes = w });
      },
    )

    pub turn-idled :
        {answer' : List ℕ} → a.answer ≡ None → answer' ≡ written answer 0 (turn_words None)
        → (Ok tt ≡ call_room family answer turn_values) × FamilyTurnReturns family x answer 0 family kept scratch book answer'
    turn-idled e w = made (ap (λ t. turn_list t family a.family) (sym e)) (w ∙ ap (λ t. written answer 0 (turn_words t)) (sym e))

    pub turn-served :
        {i : ℕ} {s : Answered Stepped} {family' answer' : List ℕ} → a.answer ≡ Some (record { member = i; stepped = s }) → family' ≡ written family 0 (family_words a.family)
        → answer' ≡ written answer 0 (turn_words (Some (record { member = i; stepped = s })))
        → (Ok tt ≡ call_room family answer turn_values) × FamilyTurnReturns family x answer 0 family' kept scratch book answer'
    turn-served e u w = made (u ∙ ap (λ t. turn_list t family a.family) (sym e)) (w ∙ ap (λ t. written answer 0 (turn_words t)) (sym e))
