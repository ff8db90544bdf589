-- What a member is told and holds depends on its own calls, on the family's scale and cells and, at each call, on the room that the others leave
-- it, and on nothing else: of each operation, and of every history. Assumes nothing.
use Rattle.std.specs.Prelude.{Ok, Err, Some}
use mathlib.Core.Path.{◌≡◌, refl, sym, ◌∙◌, ap, ap₂, subst}
use mathlib.Core.Logic.{◌≢◌}
use mathlib.Core.List.{List, ◌∷◌, map}
use Prim.Native.Nat.{ℕ, ◌*◌}
use lib.IntN.{ℤ}
use Rattle.numbers.specs.Lists.{sum}
use Rattle.numbers.specs.Checks.{Checked, Answered, answered, after}
use Rattle.qlt_spec.specs.Field.{nodes, scratch_per_node, field}
use Rattle.qlt_spec.specs.Masses.{tree_masses}
use Rattle.qlt_spec.specs.Operation.{cleared}
use Rattle.book_spec.specs.LentBook.{grown_buffer}
use Rattle.kept_spec.specs.declared.Stepped.{Stepped}
use Rattle.kept_spec.specs.declared.Balance.{Balance}
use Rattle.kept_spec.specs.Open.{open_balance}
use Rattle.kept_spec.specs.Step.{new_total, step_result, step_entry}
use Rattle.kept_spec.specs.Run.{Run}
use Rattle.family_spec.specs.declared.Family.{Family}
use Rattle.family_spec.specs.declared.FamilyAnswer.{FamilyAnswer}
use Rattle.family_spec.specs.Family.{open_with, member_at, begun, room, Terms, terms}
use Rattle.family_spec.specs.Member.{check_opened, opening_verdict, StepInputs, call_of, stepping_verdict}
use Rattle.family_spec.specs.Operations.{start_verdict, StartContract, open_member_verdict, OpenMemberContract, step_member_verdict, StepMemberContract, RegisterContract, TurnContract}
use Rattle.family_spec.specs.History.{FamilyEvent, FamilyStanding, FamilyMoves, MemberEvent, calls_of, view, told, Held, held, tells_by, tells_all, holds_all, MemberMoves}
use Rattle.family_spec.proofs.FamilyLaws.{Eight, begun-closed, put-here, put_other, Steady}
use Rattle.family_spec.proofs.TurnLaws.{turn-serves}
use Rattle.family_spec.proofs.MemberLaws.{open-number, step-number, register-members, open-steady, step-steady, register-steady, run-own}

-- ---- each operation

-- a start answers alike whatever the cap, and gives every member and the scale and cells alike
pub start-alone :
    (cap cap' scale cells : ℕ) (r r' : FamilyAnswer Checked) → StartContract cap scale cells r → StartContract cap' scale cells r'
    → (r.answer ≡ r'.answer) × ((terms r.family ≡ terms r'.family) × ((i : ℕ) → member_at r.family i ≡ member_at r'.family i))
start-alone cap cap' scale cells r r' p q = (
  p.answers ∙ sym q.answers,
  (
    ap terms p.gives ∙ same-terms (start_verdict scale cells) ∙ sym (ap terms q.gives),
    λ i. ap (λ f. member_at f i) p.gives ∙ same-members (start_verdict scale cells) i ∙ sym (ap (λ f. member_at f i) q.gives),
  ),
)
  where
    same-terms : (v : Checked) → terms (after v (begun cap scale cells) (begun 0 0 0)) ≡ terms (after v (begun cap' scale cells) (begun 0 0 0))
    same-terms (Ok tt) = refl
    same-terms (Err r) = refl

    same-members : (v : Checked) (i : ℕ) → member_at (after v (begun cap scale cells) (begun 0 0 0)) i ≡ member_at (after v (begun cap' scale cells) (begun 0 0 0)) i
    same-members (Ok tt) i = begun-closed cap scale cells i ∙ sym (begun-closed cap' scale cells i)
    same-members (Err r) i = refl

-- two families that agree in scale and cells, in member i and in its room
pub record Alike (i : ℕ) (f g : Family) : Type 0 where
  pub terms : terms f ≡ terms g
  pub member : member_at f i ≡ member_at g i
  pub room : room f i ≡ room g i

module _ {f g : Family} {i : ℕ} (a : Alike i f g) (h : Eight f) (k : Eight g) where
  -- an opening with the same masses and scale answers alike and gives member i alike
  pub open-alone :
      {kept : List ℕ} {n : ℕ} (r r' : FamilyAnswer (Answered Balance)) → OpenMemberContract f i kept n r → OpenMemberContract g i kept n r'
      → (r.answer ≡ r'.answer) × (member_at r.family i ≡ member_at r'.family i)
  open-alone {kept} {n} r r' p q =
      let v : open_member_verdict f i kept n ≡ open_member_verdict g i kept n = λ z. opening_verdict (a.terms z) i (a.member z) (a.room z) kept n in (
        p.tells.answers ∙ ap (λ w. answered w (open_balance kept n)) v ∙ sym q.tells.answers,
        ap (λ u. member_at u i) p.gives
            ∙ put-here f h i (open_with (sum kept)) (open_member_verdict f i kept n) (λ e. open-number f i kept n e)
            ∙ ap₂ (λ w m. after w (open_with (sum kept)) m) v a.member
            ∙ sym (ap (λ u. member_at u i) q.gives ∙ put-here g k i (open_with (sum kept)) (open_member_verdict g i kept n) (λ e. open-number g i kept n e)),
      )

  -- a step with the same inputs answers alike, leaves the same lists and gives member i alike
  pub step-alone :
      {x : StepInputs} (r r' : FamilyAnswer (Answered Stepped)) {kept kept' : List ℕ} {scratch scratch' : List ℤ} {book book' : List ℕ} → StepMemberContract f i x r kept scratch book
      → StepMemberContract g i x r' kept' scratch' book'
      → (r.answer ≡ r'.answer)
      × ((kept ≡ kept') × ((scratch ≡ scratch') × ((book ≡ book') × (member_at r.family i ≡ member_at r'.family i))))
  step-alone {x} r r' p q =
      let v : step_member_verdict f i x ≡ step_member_verdict g i x = λ z. stepping_verdict (a.terms z) i (a.member z) (a.room z) x in
      let c : call_of (terms f) (member_at f i) x ≡ call_of (terms g) (member_at g i) x = λ z. call_of (a.terms z) (a.member z) x in (
        p.tells.tells.answers ∙ ap₂ (λ w d. answered w (step_result d)) v c ∙ sym q.tells.tells.answers,
        (
          p.tells.tells.leaves.writes ∙ ap₂ (λ w d. after w (tree_masses (field x.lists) (new_total d)) x.kept) v c ∙ sym q.tells.tells.leaves.writes,
          (
            p.tells.tells.leaves.clears ∙ ap (λ w. after w (cleared (scratch_per_node * nodes x.lists) x.scratch) x.scratch) v ∙ sym q.tells.tells.leaves.clears,
            (
              p.tells.files ∙ ap₂ (λ w d. after w (grown_buffer x.book x.length (step_entry d)) x.book) v c ∙ sym q.tells.files,
              ap (λ u. member_at u i) p.gives
                  ∙ put-here f h i (open_with (new_total (call_of (terms f) (member_at f i) x))) (step_member_verdict f i x) (λ e. step-number f i x e)
                  ∙ (λ z. after (v z) (open_with (new_total (c z))) (a.member z))
                  ∙ sym (ap (λ u. member_at u i) q.gives ∙ put-here g k i (open_with (new_total (call_of (terms g) (member_at g i) x))) (step_member_verdict g i x) (λ e. step-number g i x e)),
            ),
          ),
        ),
      )

  -- a registration answers alike and gives member i alike
  pub register-alone :
      (r r' : FamilyAnswer Checked) → RegisterContract f i r → RegisterContract g i r' → (r.answer ≡ r'.answer) × (member_at r.family i ≡ member_at r'.family i)
  register-alone r r' p q = (
    p.answers ∙ ap (λ m. answered (check_opened i m) tt) a.member ∙ sym q.answers,
    register-members p i ∙ a.member ∙ sym (register-members q i),
  )

  -- turns with the same inputs that serve member i answer alike, leave the same lists and give member i alike, whoever else waits
  pub turn_alone :
      {x : StepInputs} {u v : Family} {b c : Answered Stepped} {kept kept' : List ℕ} {scratch scratch' : List ℤ} {book book' : List ℕ}
      → TurnContract f x (record { family = u; answer = Some (record { member = i; stepped = b }) }) kept scratch book → TurnContract g x (record { family = v; answer = Some (record { member = i; stepped = c }) }) kept' scratch' book'
      → (b ≡ c) × ((kept ≡ kept') × ((scratch ≡ scratch') × ((book ≡ book') × (member_at u i ≡ member_at v i))))
  turn_alone p q =
      let s = turn-serves p in
      let t = turn-serves q in
      let z = step-alone _ _ s.contract t.contract in
      (z.0, (z.1.0, (z.1.1.0, (z.1.1.1.0, ap (λ h. member_at h i) s.ends ∙ z.1.1.1.1 ∙ sym (ap (λ h. member_at h i) t.ends)))))

-- and every call leaves the other members, the cap, the scale and the cells
pub open-others :
    {f : Family} {i : ℕ} {kept : List ℕ} {k : ℕ} (r : FamilyAnswer (Answered Balance)) → Eight f → OpenMemberContract f i kept k r
    → Steady f r.family × ((j : ℕ) → j ≢ i → member_at r.family j ≡ member_at f j)
open-others {f} {i} {kept} {k} r h p = (open-steady p, λ j n. ap (λ g. member_at g j) p.gives ∙ put_other f h i (open_with (sum kept)) (open_member_verdict f i kept k) j n)

pub step-others :
    {f : Family} {i : ℕ} {x : StepInputs} (r : FamilyAnswer (Answered Stepped)) {kept : List ℕ} {scratch : List ℤ} {book : List ℕ} → Eight f → StepMemberContract f i x r kept scratch book
    → Steady f r.family × ((j : ℕ) → j ≢ i → member_at r.family j ≡ member_at f j)
step-others {f} {i} {x} r h p = (
  step-steady p,
  λ j n. ap (λ g. member_at g j) p.gives ∙ put_other f h i (open_with (new_total (call_of (terms f) (member_at f i) x))) (step_member_verdict f i x) j n,
)

-- a registration leaves every member
pub register-others : {f : Family} {i : ℕ} (r : FamilyAnswer Checked) → RegisterContract f i r → Steady f r.family × ((j : ℕ) → member_at r.family j ≡ member_at f j)
register-others r p = (register-steady p, register-members p)

-- a turn leaves every member but the one that it serves
pub turn-others :
    {f : Family} {x : StepInputs} {g : Family} {i : ℕ} {answer : Answered Stepped} {kept : List ℕ} {scratch : List ℤ} {book : List ℕ} → Eight f
    → TurnContract f x (record { family = g; answer = Some (record { member = i; stepped = answer }) }) kept scratch book → Steady f g × ((j : ℕ) → j ≢ i → member_at g j ≡ member_at f j)
turn-others {f} h p =
    let t = turn-serves p in
    let z = step-others _ h t.contract in
    (subst (Steady f) (sym t.ends) (record { size = z.0.size; cap = z.0.cap; terms = z.0.terms }), λ j n. ap (λ k. member_at k j) t.ends ∙ z.1 j n)

-- ---- every history

-- a member's history is the function of its views
plays : {t : Terms} {i : ℕ} {h h' : Held} {es : List MemberEvent} → Run (MemberMoves t i) h es h' → (map told es ≡ tells_all t i h (map view es)) × (h' ≡ holds_all t i h (map view es))
unfolding tells_all holds_all
plays Run.done = (refl, refl)
plays {t} {i} {h} (Run.step {e = e} {es = es} m r) =
    let q = plays r in (
      (λ z. m.tells z ∷ q.0 z) ∙ ap (λ g. tells_by t i h.member (view e) ∷ tells_all t i g (map view es)) m.holds,
      q.1 ∙ ap (λ g. holds_all t i g (map view es)) m.holds,
    )

-- in a family
pub member-plays :
    (i : ℕ) {s t : FamilyStanding} {es : List FamilyEvent} → Eight s.family → Run FamilyMoves s es t
    → (map told (calls_of i es) ≡ tells_all (terms s.family) i (held s i) (map view (calls_of i es)))
    × (held t i ≡ holds_all (terms s.family) i (held s i) (map view (calls_of i es)))
member-plays i h r = plays (run-own i h r)

-- two histories that agree in a member's calls and rooms, of families of one scale and n, tell it the same and leave it the same
pub isolated :
    (i : ℕ) {s s' t t' : FamilyStanding} {es ds : List FamilyEvent} → Eight s.family → Eight s'.family → Run FamilyMoves s es t → Run FamilyMoves s' ds t'
    → terms s.family ≡ terms s'.family → held s i ≡ held s' i → map view (calls_of i es) ≡ map view (calls_of i ds)
    → (map told (calls_of i es) ≡ map told (calls_of i ds)) × (held t i ≡ held t' i)
isolated i h k r q t e c =
    let a = member-plays i h r in
    let b = member-plays i k q in (
      a.0 ∙ (λ z. tells_all (t z) i (e z) (c z)) ∙ sym b.0,
      a.1 ∙ (λ z. holds_all (t z) i (e z) (c z)) ∙ sym b.1,
    )
