-- From an operation's contract to what its call returns and writes, accepted or refused. Assumes nothing.
use Rattle.std.specs.Prelude.{Ok, Err}
use mathlib.Core.Path.{◌≡◌, sym, ◌∙◌, ap, subst}
use Rattle.kept_spec.specs.declared.Stepped.{Stepped}
use mathlib.Core.List.{List, [], ◌∷◌}
use Prim.Native.Nat.{ℕ, ◌≤◌}
use lib.IntN.{ℤ}
use lib.ListN.{length}
use lib.Ieee.{Float}
use mir.Syntax.{w64}
use mir.Val.{to_z, of_z}
use Rattle.numbers.specs.declared.Refusal.{Refusal}
use Rattle.numbers.specs.Lists.{written}
use Rattle.numbers.specs.Checks.{Checked, Answered, answered, after, both, first, check_count, check_long}
use Rattle.numbers.proofs.CheckLaws.{answered-accepted, answered-refused, after-pass, after-fail, both_first, both-second, long-decides}
use Rattle.caas_spec.specs.Operation.{SplitCall, items, split_verdict, split_masses, split_deficit, SplitContract}
use Rattle.caas_spec.proofs.OperationLaws.{split-accepts, split-deficit-read}
use Rattle.qlt_spec.specs.declared.Repair.{Repair}
use Rattle.qlt_spec.specs.Field.{cells, nodes}
use Rattle.qlt_spec.specs.Checks.{check_nodes}
use Rattle.qlt_spec.specs.Operation.{Leaves}
use Rattle.qlt_spec.proofs.OperationLaws.{leaves-refused}
use Rattle.book_spec.specs.LentBook.{grown_buffer}
use Rattle.kept_spec.specs.declared.Balance.{Balance}
use Rattle.kept_spec.specs.Open.{open_verdict, open_balance, OpenContract}
use Rattle.kept_spec.specs.Step.{StepCall, repair_call, step_verdict, step_result, StepContract, Typed, step_entry}
use Rattle.doubles_spec.specs.declared.CellDoubles.{CellDoubles}
use Rattle.doubles_spec.specs.declared.CellUnits.{CellUnits}
use Rattle.doubles_spec.specs.declared.ImportRefusal.{ImportRefusal}
use Rattle.doubles_spec.specs.Import.{Imported, import_verdict, import_units, import_tells, ImportContract}
use Rattle.doubles_spec.specs.Export.{export_verdict}
use Rattle.call_values.specs.Values.{returned, open_values, balance_words, step_values, result_words}
use Rattle.call_values.proofs.ValueLaws.{after-by, room, room-refused, first-last}
use Rattle.legzhuro_c.specs.Calls.{split_call_verdict, SplitReturns, open_call_verdict, OpenReturns, step_call_verdict, StepReturns, import_call_verdict, units_list, ImportReturns, export_call_verdict, ValueReturns}

-- ---- Split

-- the checks of its shape
abbrev split_shape : SplitCall → List ℤ → Checked
split_shape c deficit = first (check_count (items c) ∷ check_long (length deficit) 1 ∷ [])

module _ (c : SplitCall) (deficit : List ℤ) where
  split-chain : split_call_verdict c deficit ≡ both (split_shape c deficit) (split_verdict c)
  unfolding split_call_verdict
  split-chain = first-last (check_count (items c) ∷ check_long (length deficit) 1 ∷ []) (split_verdict c)

  pub split-shape-refused : {refusal : Refusal} → split_shape c deficit ≡ Err refusal → SplitReturns c deficit (returned (Err refusal)) c.masses deficit
  split-shape-refused e =
      let v = split-chain ∙ ap (λ w. both w (split_verdict c)) e in
      record { returns = ap returned (sym v); writes = after-fail _ c.masses v; tells = after-fail _ deficit v }

  module _ (e : split_shape c deficit ≡ Ok tt) where
    -- a call that passes them has room for d
    pub split-room : 1 ≤ length deficit
    split-room = (long-decides (length deficit) 1).passes.0 (both_first _ (Ok tt) (both-second (check_count (items c)) _ e))

    split-past : split_call_verdict c deficit ≡ split_verdict c
    split-past = split-chain ∙ ap (λ w. both w (split_verdict c)) e

    module _ {a : Answered ℤ} {masses : List ℤ} (p : SplitContract c a masses) where
      split-writes : masses ≡ after (split_call_verdict c deficit) (split_masses c) c.masses
      split-writes = p.writes ∙ after-by (split_masses c) c.masses (sym split-past)

      pub split_done : {d : ℤ} {deficit' : List ℤ} → a ≡ Ok d → deficit' ≡ written deficit 0 (to_z w64 (of_z w64 d) ∷ []) → SplitReturns c deficit 0 masses deficit'
      split_done {d} s w =
          let t = answered-accepted (split_verdict c) d (split_deficit c) (sym s ∙ p.answers) in
          let v = split-past ∙ t.0 in
          record { returns = ap returned (sym v); writes = split-writes; tells = after-pass deficit v (w ∙ ap (λ x. written deficit 0 (x ∷ [])) (split-deficit-read c ((split-accepts c).0 t.0) t.1)) }

      pub split-refused : {refusal : Refusal} → a ≡ Err refusal → SplitReturns c deficit (returned (Err refusal)) masses deficit
      split-refused s =
          let v = split-past ∙ answered-refused (split_verdict c) (split_deficit c) _ _ (sym s ∙ p.answers) in
          record { returns = ap returned (sym v); writes = split-writes; tells = after-fail _ deficit v }

-- ---- Open

module _ (kept : List ℕ) (k : ℕ) (answer : List ℕ) where
  pub open-no-room : {refusal : Refusal} → check_long (length answer) open_values ≡ Err refusal → OpenReturns kept k answer (returned (Err refusal)) answer
  unfolding open_call_verdict
  open-no-room h =
      let v = room-refused (length answer) open_values (open_verdict kept k) h in
      record { returns = ap returned (sym v); writes = after-fail _ answer v }

  module _ {a : Answered Balance} (p : OpenContract kept k a) (h : open_values ≤ length answer) where
    pub open_done : {b : Balance} {answer' : List ℕ} → a ≡ Ok b → answer' ≡ written answer 0 (balance_words b) → OpenReturns kept k answer 0 answer'
    unfolding open_call_verdict
    open_done {b} e w =
        let t = answered-accepted (open_verdict kept k) b (open_balance kept k) (sym e ∙ p.answers) in
        let v = room (length answer) open_values (open_verdict kept k) h ∙ t.0 in
        record { returns = ap returned (sym v); writes = after-pass answer v (w ∙ ap (λ x. written answer 0 (balance_words x)) t.1) }

    pub open-refused : {refusal : Refusal} → a ≡ Err refusal → OpenReturns kept k answer (returned (Err refusal)) answer
    unfolding open_call_verdict
    open-refused e =
        let v = room (length answer) open_values (open_verdict kept k) h ∙ answered-refused (open_verdict kept k) (open_balance kept k) _ _ (sym e ∙ p.answers) in
        record { returns = ap returned (sym v); writes = after-fail _ answer v }

-- ---- Step

-- the checks of its shape
abbrev pub step_shape : StepCall → List ℕ → Checked
step_shape c answer = first (check_count (cells c.lists) ∷ check_nodes (cells c.lists) (nodes c.lists) ∷ check_long (length answer) step_values ∷ [])

module _ (c : StepCall) (answer : List ℕ) where
  step-chain : step_call_verdict c answer ≡ both (step_shape c answer) (step_verdict c)
  unfolding step_call_verdict
  step-chain =
      first-last (check_count (cells c.lists) ∷ check_nodes (cells c.lists) (nodes c.lists) ∷ check_long (length answer) step_values ∷ []) (step_verdict c)

  pub step-shape-refused :
      {refusal : Refusal} → Typed c → step_shape c answer ≡ Err refusal
      → StepReturns c answer (returned (Err refusal)) c.kept c.scratch c.book answer
  step-shape-refused y e =
      let v = step-chain ∙ ap (λ w. both w (step_verdict c)) e in
      record { typed = y; returns = ap returned (sym v); leaves = leaves-refused (repair_call c) v; files = after-fail _ c.book v; writes = after-fail _ answer v }

  module _ (e : step_shape c answer ≡ Ok tt) where
    -- a call that passes them has room for its values
    pub step_room : step_values ≤ length answer
    step_room =
        (long-decides (length answer) step_values).passes.0
        (both_first _ (Ok tt) (both-second (check_nodes (cells c.lists) (nodes c.lists)) _ (both-second (check_count (cells c.lists)) _ e)))

    past-shape : step_call_verdict c answer ≡ step_verdict c
    past-shape = step-chain ∙ ap (λ w. both w (step_verdict c)) e

    module _ (a : Answered Stepped) {kept : List ℕ} {scratch : List ℤ} {book : List ℕ} (p : StepContract c a kept scratch book) where
      leaves-on : Leaves (step_call_verdict c answer) (repair_call c) kept scratch
      leaves-on = subst (λ v. Leaves v (repair_call c) kept scratch) (sym past-shape) p.tells.leaves

      files-on : book ≡ after (step_call_verdict c answer) (grown_buffer c.book c.length (step_entry c)) c.book
      files-on = p.files ∙ ap (λ v. after v (grown_buffer c.book c.length (step_entry c)) c.book) (sym past-shape)

      pub step-done :
          {x : Repair} {b : Balance} {l : ℕ} {answer' : List ℕ} → a ≡ Ok (record { repair = x; balance = b; length = l }) → answer' ≡ written answer 0 (result_words x l)
          → StepReturns c answer 0 kept scratch book answer'
      step-done {x} {b} {l} s w =
          let t = answered-accepted (step_verdict c) (record { repair = x; balance = b; length = l }) (step_result c) (sym s ∙ p.tells.answers) in
          let v = past-shape ∙ t.0 in
          record {
            typed = p.typed;
            returns = ap returned (sym v);
            leaves = leaves-on;
            files = files-on;
            writes = after-pass answer v (w ∙ ap (λ y. written answer 0 (result_words y.repair y.length)) t.1);
          }

      pub step-refused : {refusal : Refusal} → a ≡ Err refusal → StepReturns c answer (returned (Err refusal)) kept scratch book answer
      step-refused s =
          let v = past-shape ∙ answered-refused (step_verdict c) (step_result c) _ _ (sym s ∙ p.tells.answers) in
          record { typed = p.typed; returns = ap returned (sym v); leaves = leaves-on; files = files-on; writes = after-fail _ answer v }

-- ---- Import

module _ (c : CellDoubles) (k : ℕ) (units : List ℤ) where
  pub import-no-room : {refusal : Refusal} → check_long (length units) 5 ≡ Err refusal → ImportReturns c k units (returned (Err refusal)) units
  unfolding import_call_verdict
  import-no-room h =
      let v = room-refused (length units) 5 (import_verdict c k) h in
      record { returns = ap returned (sym v); writes = after-fail _ units v }

  module _ {a : Imported} (p : ImportContract c k a) (h : 5 ≤ length units) where
    pub import-done : {x : CellUnits} {units' : List ℤ} → a ≡ Ok x → units' ≡ written units 0 (units_list x) → ImportReturns c k units 0 units'
    unfolding import_tells import_call_verdict
    import-done {x} e w =
        let t = answered-accepted (import_verdict c k) x (import_units c k) (ap import_tells (sym e) ∙ p.answers) in
        let v = room (length units) 5 (import_verdict c k) h ∙ t.0 in
        record { returns = ap returned (sym v); writes = after-pass units v (w ∙ ap (λ y. written units 0 (units_list y)) t.1) }

    -- a refusal, of the scale or of a field, by what it tells
    pub import-refused : {refused : ImportRefusal} {refusal : Refusal} → a ≡ Err refused → Err refusal ≡ import_tells (Err refused) → ImportReturns c k units (returned (Err refusal)) units
    unfolding import_call_verdict
    import-refused e t =
        let v = room (length units) 5 (import_verdict c k) h ∙ answered-refused (import_verdict c k) (import_units c k) _ _ (t ∙ ap import_tells (sym e) ∙ p.answers) in
        record { returns = ap returned (sym v); writes = after-fail _ units v }

-- ---- Export, as a double and as a binary32

module _ (mass k : ℕ) (x : Float) (value : List Float) where
  pub value-no-room : {refusal : Refusal} → check_long (length value) 1 ≡ Err refusal → ValueReturns mass k x value (returned (Err refusal)) value
  unfolding export_call_verdict
  value-no-room h =
      let v = room-refused (length value) 1 (export_verdict mass k) h in
      record { returns = ap returned (sym v); writes = after-fail _ value v }

  -- by what the operation's answer tells
  module _ {a : Answered Float} (p : a ≡ answered (export_verdict mass k) x) (h : 1 ≤ length value) where
    pub value-done : {y : Float} {value' : List Float} → a ≡ Ok y → value' ≡ written value 0 (y ∷ []) → ValueReturns mass k x value 0 value'
    unfolding export_call_verdict
    value-done {y} e w =
        let t = answered-accepted (export_verdict mass k) y x (sym e ∙ p) in
        let v = room (length value) 1 (export_verdict mass k) h ∙ t.0 in
        record { returns = ap returned (sym v); writes = after-pass value v (w ∙ ap (λ u. written value 0 (u ∷ [])) t.1) }

    pub value-refused : {refusal : Refusal} → a ≡ Err refusal → ValueReturns mass k x value (returned (Err refusal)) value
    unfolding export_call_verdict
    value-refused e =
        let v = room (length value) 1 (export_verdict mass k) h ∙ answered-refused (export_verdict mass k) x _ _ (sym e ∙ p) in
        record { returns = ap returned (sym v); writes = after-fail _ value v }
