-- Each call has its operation's own contract, read off the return value and the lent lists; with a list that is too short it writes nothing.
-- Assumes nothing.
use Rattle.std.specs.Prelude.{Ok, Err}
use mathlib.Core.Path.{◌≡◌, refl, sym, ◌∙◌, ap, ap₂, subst}
use mathlib.Core.Logic.{◌⊎◌, inl, inr}
use mathlib.Core.Bool.{Bool, true, false, ◌&&◌}
use mathlib.Core.List.{List}
use Prim.Native.Nat.{ℕ, zero, suc, ◌+◌, ◌*◌, ◌≤◌, ◌<◌, ◌^◌}
use native.Mathlib.Omega.{arith}
use lib.Dec.{ltb, leb, eqb}
use lib.IntN.{ℤ}
use lib.ListN.{length}
use Rattle.numbers.specs.Lists.{sum, written}
use Rattle.numbers.specs.Checks.{Checked, refused, after, unless, both, check_count, check_long}
use Rattle.numbers.proofs.CheckLaws.{both-pass}
use Rattle.numbers.proofs.PartLaws.{length-kept}
use Rattle.qlt_spec.specs.Field.{cells, nodes}
use Rattle.qlt_spec.specs.Checks.{check_nodes, check_shape}
use Rattle.qlt_spec.specs.Operation.{Leaves}
use Rattle.kept_spec.specs.Open.{open_balance}
use Rattle.kept_spec.specs.Step.{StepCall, new_total, repair_call, step_result}
use Rattle.family_spec.specs.declared.Family.{Family}
use Rattle.family_spec.specs.Family.{open_with, member_at, put, begun, room, terms}
use Rattle.family_spec.specs.Member.{check_opened, check_same_cells, StepInputs, call_of, stepping_verdict}
use Rattle.family_spec.specs.Operations.{start_verdict, StartContract, open_member_verdict, OpenMemberContract, step_member_verdict, StepMemberContract}
use Rattle.family_spec.proofs.RuleLaws.{start-decides, start-accepts, start-numbers, opening-decides, opening-accepts, opening-numbers, stepping-decides, stepping-accepts, stepping-numbers}
use Rattle.call_values.specs.Values.{returned, told_by, open_values, balance_words, balance_in, step_values, result_in, result_words}
use Rattle.call_values.proofs.ValueLaws.{after-by, long-passes, long-fails, no_room, Numbered, told-own, numbered, within-numbers, balance-read, result-read}
use Rattle.family_calls.specs.List.{family_entries, family_words, family_in}
use Rattle.family_calls.specs.Calls.{start_call_verdict, FamilyStartReturns, open_call_verdict, FamilyOpenReturns, step_call_verdict, FamilyStepReturns, open_told, step_told}
use Rattle.family_calls.proofs.ListLaws.{Typed, in-typed, begun-typed, put_typed, family-read}
use Rattle.call_values.proofs.ValueLaws as values

-- ---- the family read from the list that a call left

pub read-after :
    (list list' : List ℕ) (g old : Family) (v : Checked) → list' ≡ after v (written list 0 (family_words g)) list → (v ≡ Ok tt → Typed g) → family_in list ≡ old
    → family_in list' ≡ after v g old
read-after list list' g old (Ok tt) e t h = ap family_in e ∙ family-read list g (t refl)
read-after list list' g old (Err r) e t h = ap family_in e ∙ h

-- the list keeps its length
pub length-after : (list list' : List ℕ) (g : Family) (v : Checked) → list' ≡ after v (written list 0 (family_words g)) list → family_entries ≤ length list → family_entries ≤ length list'
length-after list list' g (Ok tt) e h = let k = ap length e ∙ length-kept list 0 (family_words g) h in omega (arith, k, h)
length-after list list' g (Err r) e h = let k = ap length e in omega (arith, k, h)

-- ---- start

pub start-numbered : (scale n : ℕ) → Numbered (start_verdict scale n)
start-numbered scale n = numbered _ (start-decides scale n) (start-numbers scale n) refl

-- the family of a start that returned 0 is the one in the list; a refused one gives a family without cells
abbrev pub started_in : ℕ → List ℕ → Family
started_in zero family' = family_in family'
started_in (suc r) family' = begun 0 0 0

module _ (cap scale n : ℕ) (family : List ℕ) (r : ℕ) (family' : List ℕ) (q : FamilyStartReturns cap scale n family r family') where
  module _ (h : family_entries ≤ length family) where
    start-long : start_call_verdict scale n family ≡ start_verdict scale n
    unfolding start_call_verdict
    start-long = values.room (length family) family_entries (start_verdict scale n) h

    pub start-own : StartContract cap scale n (record { family = started_in r family'; answer = (told_by r tt) })
    start-own =
        record {
          answers = told-own (start_verdict scale n) r tt tt (start-numbered scale n) (q.returns ∙ ap returned start-long) (λ e. refl);
          gives = by-verdict (start_verdict scale n) refl;
        }
      where
        by-verdict : (v : Checked) → start_verdict scale n ≡ v → started_in r family' ≡ after v (begun cap scale n) (begun 0 0 0)
        by-verdict (Ok tt) e =
            let z : r ≡ 0 = q.returns ∙ ap returned (start-long ∙ e) in
            let f = (start-accepts scale n).0 e in
            ap (λ k. started_in k family') z
            ∙ read-after family family' (begun cap scale n) (family_in family) (Ok tt) (q.gives ∙ after-by (written family 0 (family_words (begun cap scale n))) family (start-long ∙ e))
            (λ p. begun-typed cap scale n (omega (arith, f.scale_small)) (omega (arith, f.few))) refl
        by-verdict (Err s) e = not-zero r (start-numbered scale n s.number s.place e).0 (q.returns ∙ ap returned (start-long ∙ e))
          where
            not-zero : (k : ℕ) → 0 < s.number → k ≡ s.number + s.place * 2 ^ 32 → started_in k family' ≡ begun 0 0 0
            not-zero zero h z = absurd (omega (arith, h, z))
            not-zero (suc k) h z = refl

    pub start-length : family_entries ≤ length family'
    start-length = length-after family family' (begun cap scale n) (start_call_verdict scale n family) q.gives h

  pub start-short : length family < family_entries → (r ≡ 3) × (family' ≡ family)
  unfolding start_call_verdict
  start-short h =
      let v = no_room (length family) family_entries (start_verdict scale n) h in
      (q.returns ∙ ap returned v, q.gives ∙ after-by _ family v)

-- ---- open

module _ (family : List ℕ) (i : ℕ) (kept : List ℕ) (k : ℕ) (answer : List ℕ) (r : ℕ) (family' answer' : List ℕ) (q : FamilyOpenReturns family i kept k answer r family' answer') where
  abbrev f : Family
  f = family_in family

  open-numbered : Numbered (open_member_verdict f i kept k)
  open-numbered =
      numbered _ (opening-decides (terms f) i (member_at f i) (room f i) kept k) (opening-numbers (terms f) i (member_at f i) (room f i) kept k) refl

  pub open-length : family_entries ≤ length family → family_entries ≤ length family'
  open-length h = length-after family family' (put f i (open_with (sum kept))) (open_call_verdict family i kept k answer) q.gives h

  module _ (h : family_entries ≤ length family) (a : open_values ≤ length answer) where
    open-long : open_call_verdict family i kept k answer ≡ open_member_verdict f i kept k
    unfolding open_call_verdict
    open-long =
        ap₂ (λ u w. both u (both w (both (open_member_verdict f i kept k) (Ok tt)))) (long-passes (length family) family_entries h) (long-passes (length answer) open_values a)
        ∙ both-pass (open_member_verdict f i kept k)

    pub open_own : OpenMemberContract f i kept k (record { family = family_in family'; answer = (open_told r answer') })
    open_own =
        let v = open-long in
        let b = open_balance kept k in
        record {
          tells =
              record {
                answers =
                    told-own (open_member_verdict f i kept k) r (balance_in answer') b open-numbered (q.returns ∙ ap returned v)
                    (λ e. ap balance_in (q.writes ∙ after-by (written answer 0 (balance_words b)) answer (v ∙ e)) ∙ balance-read answer b);
              };
          gives =
              read-after family family' (put f i (open_with (sum kept))) f (open_member_verdict f i kept k) (q.gives ∙ after-by _ family v)
              (λ e. let z = ((opening-accepts (terms f) i (member_at f i) (room f i) kept k).0 e).opening.small in put_typed f i (sum kept) (omega (arith, z)) (in-typed family)) refl;
        }

  -- with a list that is too short
  pub open-short : family_entries ≤ length family → length answer < open_values → (r ≡ 3) × ((family' ≡ family) × (answer' ≡ answer))
  unfolding open_call_verdict
  open-short h a =
      let v : open_call_verdict family i kept k answer ≡ refused 3 0 =
      ap₂ (λ u w. both u (both w (both (open_member_verdict f i kept k) (Ok tt)))) (long-passes (length family) family_entries h) (long-fails (length answer) open_values a) in
      (q.returns ∙ ap returned v, (q.gives ∙ after-by _ family v, q.writes ∙ after-by _ answer v))

  pub open-no-family : length family < family_entries → (r ≡ 3) × ((family' ≡ family) × (answer' ≡ answer))
  unfolding open_call_verdict
  open-no-family h =
      let v : open_call_verdict family i kept k answer ≡ refused 3 0 =
      ap (λ u. both u (both (check_long (length answer) open_values) (both (open_member_verdict f i kept k) (Ok tt)))) (long-fails (length family) family_entries h) in
      (q.returns ∙ ap returned v, (q.gives ∙ after-by _ family v, q.writes ∙ after-by _ answer v))

-- ---- step

pub step-numbered : (f : Family) (i : ℕ) (x : StepInputs) → Numbered (step_member_verdict f i x)
step-numbered f i x = within-numbers _ (stepping-decides (terms f) i (member_at f i) (room f i) x) (stepping-numbers (terms f) i (member_at f i) (room f i) x) refl

module _ (family : List ℕ) (i : ℕ) (x : StepInputs) (answer : List ℕ) (r : ℕ) (family' kept : List ℕ) (scratch : List ℤ) (book answer' : List ℕ) (q : FamilyStepReturns family i x answer r family' kept scratch book answer') where
  abbrev g : Family
  g = family_in family

  abbrev c : StepCall
  c = call_of (terms g) (member_at g i) x

  pub step-length : family_entries ≤ length family → family_entries ≤ length family'
  step-length h = length-after family family' (put g i (open_with (new_total c))) (step_call_verdict family i x answer) q.gives h

  -- with room, the call's verdict is the operation's: 19, 1 and 2 stand in it once more
  pub step-long : family_entries ≤ length family → step_values ≤ length answer → step_call_verdict family i x answer ≡ step_member_verdict g i x
  unfolding step_call_verdict stepping_verdict check_shape
  step-long h a =
      ap₂ (λ u w. both u (both (check_opened i (member_at g i)) (both (check_same_cells (cells x.lists) g.cells) (both (check_count (cells x.lists)) (both (check_nodes (cells x.lists) (nodes x.lists)) (both w (both (step_member_verdict g i x) (Ok tt))))))))
      (long-passes (length family) family_entries h) (long-passes (length answer) step_values a)
      ∙ again (check_opened i (member_at g i)) (check_same_cells (cells x.lists) g.cells) (check_count (cells x.lists)) (check_nodes (cells x.lists) (nodes x.lists)) _ _
    where
      again : (o e s t u w : Checked) → both o (both e (both s (both t (both (both o (both e (both (both s (both t u)) w))) (Ok tt))))) ≡ both o (both e (both (both s (both t u)) w))
      again (Ok _) (Ok _) (Ok _) (Ok _) u w = both-pass (both u w)
      again (Ok _) (Ok _) (Ok _) (Err r) u w = refl
      again (Ok _) (Ok _) (Err r) t u w = refl
      again (Ok tt) (Err r) s t u w = refl
      again (Err r) e s t u w = refl

  pub step-own : family_entries ≤ length family → step_values ≤ length answer → StepMemberContract g i x (record { family = family_in family'; answer = (step_told family i x r answer') }) kept scratch book
  step-own h a =
      let v = step-long h a in
      record {
        tells =
            record {
              typed = q.typed;
              tells =
                  record {
                    answers =
                        told-own (step_member_verdict g i x) r (result_in c answer') (step_result c) (step-numbered g i x) (q.returns ∙ ap returned v)
                        (λ e. ap (result_in c) (q.writes ∙ after-by (written answer 0 (result_words (step_result c).repair (step_result c).length)) answer (v ∙ e)) ∙ result-read c answer);
                    leaves = subst (λ w. Leaves w (repair_call c) kept scratch) v q.leaves;
                  };
              files = q.files ∙ after-by _ x.book v;
            };
        gives =
            read-after family family' (put g i (open_with (new_total c))) g (step_member_verdict g i x) (q.gives ∙ after-by _ family v)
            (λ e. let z = ((stepping-accepts (terms g) i (member_at g i) (room g i) x).0 e).stepping.masses.small in put_typed g i (new_total c) (omega (arith, z)) (in-typed family)) refl;
      }

  -- with a list for its values that is too short it is refused with 19, 1, 2 or 3
  step-no-room :
      family_entries ≤ length family → length answer < step_values
      → (number : ℕ) × ((step_call_verdict family i x answer ≡ refused number 0) × ((number ≡ 19) ⊎ ((number ≡ 1) ⊎ ((number ≡ 2) ⊎ (number ≡ 3)))))
  unfolding step_call_verdict check_opened check_same_cells check_count check_nodes
  step-no-room h a =
      let n = cells x.lists in
      let m = nodes x.lists in
      go (check_long (length family) family_entries) (long-passes (length family) family_entries h) (leb i 7 && (member_at g i).opened) (eqb n g.cells) (ltb 0 n && leb n 512) (leb n m && leb m 1024)
      (check_long (length answer) step_values) (long-fails (length answer) step_values a) (both (step_member_verdict g i x) (Ok tt))
    where
      go :
          (l : Checked) → l ≡ Ok tt → (a b c d : Bool) (v : Checked) → v ≡ refused 3 0 → (w : Checked)
          → (number : ℕ) × ((both l (both (unless a 19 0) (both (unless b 1 0) (both (unless c 1 0) (both (unless d 2 0) (both v w))))) ≡ refused number 0) × ((number ≡ 19) ⊎ ((number ≡ 1) ⊎ ((number ≡ 2) ⊎ (number ≡ 3)))))
      go l p false b c d v e w = (19, (ap (λ u. both u (refused 19 0)) p, inl refl))
      go l p true false c d v e w = (1, (ap (λ u. both u (refused 1 0)) p, inr (inl refl)))
      go l p true true false d v e w = (1, (ap (λ u. both u (refused 1 0)) p, inr (inl refl)))
      go l p true true true false v e w = (2, (ap (λ u. both u (refused 2 0)) p, inr (inr (inl refl))))
      go l p true true true true v e w = (3, (ap₂ (λ u y. both u (both y w)) p e, inr (inr (inr refl))))

  pub step-short :
      family_entries ≤ length family → length answer < step_values
      → ((r ≡ 19) ⊎ ((r ≡ 1) ⊎ ((r ≡ 2) ⊎ (r ≡ 3)))) × ((family' ≡ family) × ((kept ≡ x.kept) × ((scratch ≡ x.scratch) × ((book ≡ x.book) × (answer' ≡ answer)))))
  step-short h a =
      let z = step-no-room h a in
      let v = z.1.0 in
      let e : r ≡ z.0 = q.returns ∙ ap returned v ∙ omega arith in (
        subst (λ n. (n ≡ 19) ⊎ ((n ≡ 1) ⊎ ((n ≡ 2) ⊎ (n ≡ 3)))) (sym e) z.1.1,
        (q.gives ∙ after-by _ family v, (q.leaves.writes ∙ after-by _ x.kept v, (q.leaves.clears ∙ after-by _ x.scratch v, (q.files ∙ after-by _ x.book v, q.writes ∙ after-by _ answer v)))),
      )

  pub step-no-family : length family < family_entries → (r ≡ 3) × ((family' ≡ family) × ((kept ≡ x.kept) × ((scratch ≡ x.scratch) × ((book ≡ x.book) × (answer' ≡ answer)))))
  unfolding step_call_verdict
  step-no-family h =
      let v : step_call_verdict family i x answer ≡ refused 3 0 =
      ap (λ u. both u (both (check_opened i (member_at g i)) (both (check_same_cells (cells x.lists) g.cells) (both (check_count (cells x.lists)) (both (check_nodes (cells x.lists) (nodes x.lists)) (both (check_long (length answer) step_values) (both (step_member_verdict g i x) (Ok tt))))))))
      (long-fails (length family) family_entries h) in
      (q.returns ∙ ap returned v, (q.gives ∙ after-by _ family v, (q.leaves.writes ∙ after-by _ x.kept v, (q.leaves.clears ∙ after-by _ x.scratch v, (q.files ∙ after-by _ x.book v, q.writes ∙ after-by _ answer v)))))
