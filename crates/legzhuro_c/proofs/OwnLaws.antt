-- Each call has its operation's own contract, read off the return value and the lent list; with a list that is too short it writes
-- nothing. Assumes nothing.
use Rattle.std.specs.Prelude.{Ok, Err}
use mathlib.Core.Path.{◌≡◌, refl, sym, ◌∙◌, ap, ap₂, subst}
use mathlib.Core.Logic.{◌⊎◌, inl, inr, ⊎_elim}
use mathlib.Core.Bool.{Bool, true, false, ◌&&◌, cond}
use mathlib.Core.List.{List, [], ◌∷◌}
use Prim.Native.Nat.{ℕ, ◌≤◌, ◌<◌}
use native.Mathlib.Omega.{arith}
use lib.Dec.{ltb, leb, eqb}
use lib.IntN.{ℤ}
use lib.ListN.{length}
use lib.Ieee.{Float}
use Rattle.numbers.specs.Lists.{at_ℤ, written}
use Rattle.numbers.specs.Checks.{Checked, refused, answered, unless, both, check_count, check_long, rule}
use Rattle.numbers.proofs.TestLaws.{eq-means}
use Rattle.numbers.proofs.CheckLaws.{both-pass}
use Rattle.numbers.proofs.ChainLaws.{broken-first}
use Rattle.caas_spec.specs.Operation.{SplitCall, items, split_verdict, split_masses, split_deficit, SplitContract}
use Rattle.caas_spec.proofs.OperationLaws.{split-decides, split-numbers}
use Rattle.qlt_spec.specs.Field.{cells, nodes}
use Rattle.qlt_spec.specs.Checks.{check_nodes, check_shape}
use Rattle.qlt_spec.specs.Operation.{Leaves}
use Rattle.kept_spec.specs.Open.{open_verdict, open_balance, OpenContract}
use Rattle.kept_spec.specs.Step.{StepCall, repair_call, step_verdict, step_result, StepContract}
use Rattle.kept_spec.proofs.OpenLaws.{open-decides, open-numbers}
use Rattle.kept_spec.proofs.StepLaws.{step-decides, step-numbers}
use Rattle.doubles_spec.specs.declared.CellDoubles.{CellDoubles}
use Rattle.doubles_spec.specs.declared.CellUnits.{CellUnits}
use Rattle.doubles_spec.specs.declared.ImportRefusal.TheVariants.{Scale, Double}
use Rattle.doubles_spec.specs.Import.{double_at, import_verdict, import_rules, import_units, import_tells, import_answer, import_holds, carried, ImportContract}
use Rattle.doubles_spec.specs.Export.{export_verdict, ExportContract}
use Rattle.doubles_spec.specs.ExportSingle.{SingleContract}
use Rattle.doubles_spec.proofs.ImportLaws.{import-decides, import-refuses, import-numbers}
use Rattle.doubles_spec.proofs.ExportLaws.{export-decides, export-numbers, export-meets}
use Rattle.doubles_spec.proofs.SingleLaws.{single-meets}
use Rattle.call_values.specs.Values.{returned, told_by, open_values, balance_words, step_values, result_words, balance_in, result_in}
use Rattle.call_values.proofs.ValueLaws.{after-by, long-passes, long-fails, room, no_room, Numbered, told-own, numbered, balance-read, result-read, within-numbers}
use Rattle.legzhuro_c.specs.Calls.{split_call_verdict, SplitReturns, open_call_verdict, OpenReturns, step_call_verdict, StepReturns, import_call_verdict, units_list, ImportReturns, export_call_verdict, ValueReturns, ExportReturns, SingleReturns, units_in, value_in}

-- ---- Split

pub split-numbered : (c : SplitCall) → Numbered (split_verdict c)
split-numbered c = numbered _ (split-decides c) (split-numbers c) refl

deficit-read : (deficit : List ℤ) (d : ℤ) → at_ℤ (written deficit 0 (d ∷ [])) 0 ≡ d
unfolding written
deficit-read deficit d = refl

module _ (c : SplitCall) (deficit : List ℤ) where
  -- with room for d, the call's verdict is Split's: 1 stands in it once more
  split-long : 1 ≤ length deficit → split_call_verdict c deficit ≡ split_verdict c
  unfolding split_call_verdict split_verdict
  split-long h =
      ap (λ w. both (check_count (items c)) (both w (both (split_verdict c) (Ok tt)))) (long-passes (length deficit) 1 h) ∙ again (check_count (items c)) _
    where
      again : (s u : Checked) → both s (both (both s u) (Ok tt)) ≡ both s u
      again (Ok tt) u = both-pass u
      again (Err r) u = refl

  -- without it, the call is refused with 1 or 3
  split-no-room : length deficit < 1 → (number : ℕ) × ((split_call_verdict c deficit ≡ refused number 0) × ((number ≡ 1) ⊎ (number ≡ 3)))
  unfolding split_call_verdict check_count
  split-no-room h = go (ltb 0 (items c) && leb (items c) 512) (check_long (length deficit) 1) (long-fails (length deficit) 1 h) (both (split_verdict c) (Ok tt))
    where
      go : (a : Bool) (v : Checked) → v ≡ refused 3 0 → (w : Checked) → (number : ℕ) × ((both (unless a 1 0) (both v w) ≡ refused number 0) × ((number ≡ 1) ⊎ (number ≡ 3)))
      go false v e w = (1, (refl, inl refl))
      go true v e w = (3, (ap (λ x. both x w) e, inr refl))

  module _ (r : ℕ) (masses deficit' : List ℤ) (q : SplitReturns c deficit r masses deficit') where
    pub split-own : 1 ≤ length deficit → SplitContract c (told_by r (at_ℤ deficit' 0)) masses
    split-own h =
        let v = split-long h in
        let d = split_deficit c in
        record {
          answers =
              told-own (split_verdict c) r (at_ℤ deficit' 0) d (split-numbered c) (q.returns ∙ ap returned v)
              (λ e. ap (λ l. at_ℤ l 0) (q.tells ∙ after-by (written deficit 0 (d ∷ [])) deficit (v ∙ e)) ∙ deficit-read deficit d);
          writes = q.writes ∙ after-by (split_masses c) c.masses v;
        }

    pub split-short : length deficit < 1 → ((r ≡ 1) ⊎ (r ≡ 3)) × ((masses ≡ c.masses) × (deficit' ≡ deficit))
    split-short h =
        let n = split-no-room h in
        let e : r ≡ n.0 = q.returns ∙ ap returned n.1.0 ∙ omega arith in (
          ⊎_elim (λ x. inl (e ∙ x)) (λ x. inr (e ∙ x)) n.1.1,
          (q.writes ∙ after-by (split_masses c) c.masses n.1.0, q.tells ∙ after-by _ deficit n.1.0),
        )

-- ---- Open

pub open-numbered : (kept : List ℕ) (k : ℕ) → Numbered (open_verdict kept k)
open-numbered kept k = numbered _ (open-decides kept k) (open-numbers kept k) refl

module _ (kept : List ℕ) (k : ℕ) (answer : List ℕ) (r : ℕ) (answer' : List ℕ) where
  pub open_own : open_values ≤ length answer → OpenReturns kept k answer r answer' → OpenContract kept k (told_by r (balance_in answer'))
  unfolding open_call_verdict
  open_own h q =
      let v = room (length answer) open_values (open_verdict kept k) h in
      let b = open_balance kept k in
      record {
        answers =
            told-own (open_verdict kept k) r (balance_in answer') b (open-numbered kept k) (q.returns ∙ ap returned v)
            (λ e. ap balance_in (q.writes ∙ after-by (written answer 0 (balance_words b)) answer (v ∙ e)) ∙ balance-read answer b);
      }

  pub open-short : length answer < open_values → OpenReturns kept k answer r answer' → (r ≡ 3) × (answer' ≡ answer)
  unfolding open_call_verdict
  open-short h q =
      let v = no_room (length answer) open_values (open_verdict kept k) h in
      (q.returns ∙ ap returned v, q.writes ∙ after-by _ answer v)

-- ---- Step

pub step-numbered : (c : StepCall) → Numbered (step_verdict c)
step-numbered c = within-numbers _ (step-decides c) (step-numbers c) refl

module _ (c : StepCall) (answer : List ℕ) where
  -- with room for its values, the call's verdict is Step's: 1 and 2 stand in it once more
  step-long : step_values ≤ length answer → step_call_verdict c answer ≡ step_verdict c
  unfolding step_call_verdict step_verdict check_shape
  step-long h =
      ap (λ w. both (check_count (cells c.lists)) (both (check_nodes (cells c.lists) (nodes c.lists)) (both w (both (step_verdict c) (Ok tt))))) (long-passes (length answer) step_values h)
      ∙ again (check_count (cells c.lists)) (check_nodes (cells c.lists) (nodes c.lists)) _ _
    where
      again : (s t u w : Checked) → both s (both t (both (both (both s (both t u)) w) (Ok tt))) ≡ both (both s (both t u)) w
      again (Ok _) (Ok _) u w = both-pass (both u w)
      again (Ok tt) (Err r) u w = refl
      again (Err r) t u w = refl

  -- without it, the call is refused with 1, 2 or 3
  step-no-room : length answer < step_values → (number : ℕ) × ((step_call_verdict c answer ≡ refused number 0) × ((number ≡ 1) ⊎ ((number ≡ 2) ⊎ (number ≡ 3))))
  unfolding step_call_verdict check_count check_nodes
  step-no-room h =
      let n = cells c.lists in
      let m = nodes c.lists in
      go (ltb 0 n && leb n 512) (leb n m && leb m 1024) (check_long (length answer) step_values) (long-fails (length answer) step_values h) (both (step_verdict c) (Ok tt))
    where
      go : (a b : Bool) (v : Checked) → v ≡ refused 3 0 → (w : Checked) → (number : ℕ) × ((both (unless a 1 0) (both (unless b 2 0) (both v w)) ≡ refused number 0) × ((number ≡ 1) ⊎ ((number ≡ 2) ⊎ (number ≡ 3))))
      go false b v e w = (1, (refl, inl refl))
      go true false v e w = (2, (refl, inr (inl refl)))
      go true true v e w = (3, (ap (λ x. both x w) e, inr (inr refl)))

  module _ (r : ℕ) (kept : List ℕ) (scratch : List ℤ) (book answer' : List ℕ) where
    pub step-own : step_values ≤ length answer → StepReturns c answer r kept scratch book answer' → StepContract c (told_by r (result_in c answer')) kept scratch book
    step-own h q =
        let v = step-long h in
        record {
          typed = q.typed;
          tells =
              record {
                answers =
                    told-own (step_verdict c) r (result_in c answer') (step_result c) (step-numbered c) (q.returns ∙ ap returned v)
                    (λ e. ap (result_in c) (q.writes ∙ after-by (written answer 0 (result_words (step_result c).repair (step_result c).length)) answer (v ∙ e)) ∙ result-read c answer);
                leaves = subst (λ w. Leaves w (repair_call c) kept scratch) v q.leaves;
              };
          files = q.files ∙ after-by _ c.book v;
        }

    pub step-short : length answer < step_values → StepReturns c answer r kept scratch book answer' → (kept ≡ c.kept) × ((scratch ≡ c.scratch) × ((book ≡ c.book) × (answer' ≡ answer)))
    step-short h q =
        let v = (step-no-room h).1.0 in
        (q.leaves.writes ∙ after-by _ c.kept v, (q.leaves.clears ∙ after-by _ c.scratch v, (q.files ∙ after-by _ c.book v, q.writes ∙ after-by _ answer v)))

    pub step-short-returns : length answer < step_values → StepReturns c answer r kept scratch book answer' → (r ≡ 1) ⊎ ((r ≡ 2) ⊎ (r ≡ 3))
    step-short-returns h q =
        let n = step-no-room h in
        let e : r ≡ n.0 = q.returns ∙ ap returned n.1.0 ∙ omega arith in
        ⊎_elim (λ x. inl (e ∙ x)) (λ y. ⊎_elim (λ x. inr (inl (e ∙ x))) (λ x. inr (inr (e ∙ x))) y) n.1.1

-- ---- Import

-- number 9 has the place 0: no other rule has that number
import-place : (c : CellDoubles) (k place : ℕ) → import_verdict c k ≡ refused 9 place → place ≡ 0
unfolding import_rules
import-place c k place e = (broken-first (rule 9 (k ≤ 30)) _ 9 refl 9 place refl ((import-refuses c k 9 place).0 e)).0

pub import-numbered : (c : CellDoubles) (k : ℕ) → Numbered (import_verdict c k)
import-numbered c k = numbered _ (import-decides c k) (import-numbers c k) refl

import-tells : (v : Checked) (c : CellDoubles) (u : CellUnits) → ((place : ℕ) → v ≡ refused 9 place → place ≡ 0) → import_tells (import_answer (answered v u) c) ≡ answered v u
unfolding import_tells
import-tells (Ok tt) c u h = refl
import-tells (Err r) c u h = go (eqb r.number 9) refl
  where
    go : (b : Bool) → eqb r.number 9 ≡ b → import_tells (Err (cond b Scale (Double r.number r.place (double_at c r.place)))) ≡ Err r
    go true e =
        let n = (eq-means r.number 9).0 e in
        ap₂ refused (sym n) (sym (h r.place (ap (λ x. refused x r.place) n)))
    go false e = refl

import-holds : (v : Checked) (c : CellDoubles) (u : CellUnits) → import_holds (import_answer (answered v u) c) ≡ carried v c
unfolding import_holds carried
import-holds (Ok tt) c u = refl
import-holds (Err r) c u = go (eqb r.number 9)
  where
    go : (b : Bool) → import_holds (Err (cond b Scale (Double r.number r.place (double_at c r.place)))) ≡ cond b [] (double_at c r.place ∷ [])
    go true = refl
    go false = refl

units-read : (units : List ℤ) (u : CellUnits) → units_in (written units 0 (units_list u)) ≡ u
unfolding written
units-read units u = refl

module _ (c : CellDoubles) (k : ℕ) (units : List ℤ) (r : ℕ) (units' : List ℤ) where
  pub import-own : 5 ≤ length units → ImportReturns c k units r units' → ImportContract c k (import_answer (told_by r (units_in units')) c)
  unfolding import_call_verdict
  import-own h q =
      let v = room (length units) 5 (import_verdict c k) h in
      let u = import_units c k in
      let t =
      told-own (import_verdict c k) r (units_in units') u (import-numbered c k) (q.returns ∙ ap returned v)
      (λ e. ap units_in (q.writes ∙ after-by (written units 0 (units_list u)) units (v ∙ e)) ∙ units-read units u) in
      record {
        answers = ap (λ a. import_tells (import_answer a c)) t ∙ import-tells (import_verdict c k) c u (import-place c k);
        carries = ap (λ a. import_holds (import_answer a c)) t ∙ import-holds (import_verdict c k) c u;
      }

  pub import-short : length units < 5 → ImportReturns c k units r units' → (r ≡ 3) × (units' ≡ units)
  unfolding import_call_verdict
  import-short h q =
      let v = no_room (length units) 5 (import_verdict c k) h in
      (q.returns ∙ ap returned v, q.writes ∙ after-by _ units v)

-- ---- Export, as a double and as a binary32

pub export-numbered : (mass k : ℕ) → Numbered (export_verdict mass k)
export-numbered mass k = numbered _ (export-decides mass k) (export-numbers mass k) refl

value_read : (value : List Float) (x : Float) → value_in (written value 0 (x ∷ [])) ≡ x
unfolding written
value_read value x = refl

module _ (mass k : ℕ) (value : List Float) (r : ℕ) (value' : List Float) where
  -- whatever the value is
  module _ {x : Float} where
    value-own : 1 ≤ length value → ValueReturns mass k x value r value' → told_by r (value_in value') ≡ answered (export_verdict mass k) x
    unfolding export_call_verdict
    value-own h q =
        let v = room (length value) 1 (export_verdict mass k) h in
        told-own (export_verdict mass k) r (value_in value') x (export-numbered mass k) (q.returns ∙ ap returned v)
        (λ e. ap value_in (q.writes ∙ after-by (written value 0 (x ∷ [])) value (v ∙ e)) ∙ value_read value x)

    value-short : length value < 1 → ValueReturns mass k x value r value' → (r ≡ 3) × (value' ≡ value)
    unfolding export_call_verdict
    value-short h q =
        let v = no_room (length value) 1 (export_verdict mass k) h in
        (q.returns ∙ ap returned v, q.writes ∙ after-by _ value v)

  pub export-own : 1 ≤ length value → ExportReturns mass k value r value' → ExportContract mass k (told_by r (value_in value'))
  export-own h q =
      export-meets mass k (told_by r (value_in value')) (value-own h q)

  pub export-short : length value < 1 → ExportReturns mass k value r value' → (r ≡ 3) × (value' ≡ value)
  export-short = value-short

  pub single-own : 1 ≤ length value → SingleReturns mass k value r value' → SingleContract mass k (told_by r (value_in value'))
  single-own h q =
      single-meets mass k (told_by r (value_in value')) (value-own h q)

  pub single-short : length value < 1 → SingleReturns mass k value r value' → (r ≡ 3) × (value' ≡ value)
  single-short = value-short
