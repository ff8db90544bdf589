-- From a family's verdict to its contract, of openings and steps: what a refused call and an accepted one give; and that there is a call for every
-- input, a registration too. Assumes nothing.
use Rattle.std.specs.Prelude.{Ok, Err}
use mathlib.Core.Path.{◌≡◌, refl, sym, ◌∙◌, ap, subst}
use mathlib.Core.List.{List, [], ◌∷◌}
use Prim.Native.Nat.{ℕ, suc, ◌*◌, ◌≤◌, ◌<◌}
use lib.IntN.{ℤ, pos, ◌+ℤ◌}
use lib.ListN.{length}
use Rattle.numbers.specs.Lists.{sum}
use Rattle.numbers.specs.Signed.{over}
use Rattle.numbers.specs.Checks.{Checked, Answered, refused, answered, after, both, first}
use Rattle.numbers.proofs.CheckLaws.{on, stop, both-assoc, both-pass, first-append, after-pass, after-fail}
use Rattle.qlt_spec.specs.Field.{cells, nodes, scratch_per_node, field}
use Rattle.qlt_spec.specs.Masses.{tree_masses}
use Rattle.qlt_spec.specs.Operation.{cleared}
use Rattle.book_spec.specs.LentBook.{grown_buffer, HasBook}
use Rattle.book_spec.specs.Book.{max_bytes, Book, closing, count, max_entries, book_blocks}
use Rattle.kept_spec.specs.declared.Stepped.{Stepped}
use Rattle.kept_spec.specs.declared.Balance.{Balance}
use Rattle.kept_spec.specs.Open.{open_checks_with, open_verdict_with, open_balance}
use Rattle.kept_spec.specs.Step.{StepCall, new_total, check_same_scale, step_verdict_with, step_result, StepBy, Typed, step_entry}
use Rattle.kept_spec.proofs.StepLaws.{mass_checks_with, of_book, masses-first, lent-passes, failed-promised, passed-promised}
use Rattle.family_spec.specs.declared.Member.{Member}
use Rattle.family_spec.specs.declared.Family.{Family}
use Rattle.family_spec.specs.declared.FamilyAnswer.{FamilyAnswer}
use Rattle.family_spec.specs.Family.{open_with, member_at, total_of, put, schedule, room, terms}
use Rattle.family_spec.specs.Waiting.{with_bit}
use Rattle.family_spec.specs.Member.{check_closed, check_opened, check_same_cells, check_room, check_source, opening_verdict, StepInputs, step_inputs, call_of, stepping_verdict}
use Rattle.family_spec.specs.Operations.{open_member_verdict, OpenMemberContract, taken, step_member_verdict, StepMemberContract, register_verdict, RegisterContract}

-- ---- open

-- 19; 1 of another n; Open's checks with 17 put in; 20
pub opening_is :
    (f : Family) (i : ℕ) (kept : List ℕ) (k : ℕ)
    → open_member_verdict f i kept k
    ≡ both (check_closed i (member_at f i))
    (both (check_same_cells (length kept) f.cells) (both (open_verdict_with (check_same_scale k f.scale ∷ []) kept k) (check_room (sum kept) (room f i))))
unfolding opening_verdict open_verdict_with
opening_is f i kept k =
    let own = check_same_scale k f.scale ∷ [] in
    let last = check_room (sum kept) (room f i) in
    ap (λ v. both (check_closed i (member_at f i)) (both (check_same_cells (length kept) f.cells) v))
    (sym (first-append (open_checks_with own kept k) (last ∷ [])) ∙ ap (both (open_verdict_with own kept k)) (both-pass last))

-- ---- step

module _ (f : Family) (i : ℕ) (x : StepInputs) where
  abbrev c : StepCall
  c = call_of (terms f) (member_at f i) x

  -- 19, and 1 of another n
  abbrev pub own_checks : Checked
  own_checks = both (check_opened i (member_at f i)) (check_same_cells (cells x.lists) f.cells)

  -- 20
  abbrev pub source_check : Checked
  source_check = check_source x.source (new_total c) (room f i)

  -- these, and then Step's checks with 20 put in
  pub verdict-is : step_member_verdict f i x ≡ both own_checks (step_verdict_with (source_check ∷ []) c)
  unfolding stepping_verdict step_verdict_with
  verdict-is = sym (both-assoc (check_opened i (member_at f i)) (check_same_cells (cells x.lists) f.cells) (step_verdict_with (source_check ∷ []) c))

  -- ---- lent a buffer that is long enough, the checks that look at neither the buffer nor its book, and then the book's

  abbrev pub member_checks : Checked
  member_checks = both own_checks (first (mass_checks_with c (source_check ∷ [])))

  masses-then-book : max_bytes ≤ length x.book → step_member_verdict f i x ≡ both member_checks (first (of_book c))
  masses-then-book h =
      verdict-is
      ∙ ap (both own_checks) (masses-first c (source_check ∷ []) h)
      ∙ sym (both-assoc own_checks (first (mass_checks_with c (source_check ∷ []))) (first (of_book c)))

  -- a step that they refuse is refused so, whatever its book
  pub member-refused :
      {number place : ℕ} → Typed c → max_bytes ≤ length x.book → member_checks ≡ refused number place
      → StepMemberContract f i x (record { family = f; answer = refused number place }) x.kept x.scratch x.book
  member-refused y h e =
      let v = masses-then-book h ∙ sym (stop (first (of_book c)) e) in
      record { tells = failed-promised c y v; gives = after-fail _ f v }

  -- a step that they pass is accepted, lent a book that closes with its member's total and is not full
  pub member-accepted :
      Typed c → (B : Book) → HasBook x.book x.length B → closing B ≡ total_of f i → count B < max_entries → member_checks ≡ Ok tt
      → StepMemberContract f i x
      (record {
        family = put f i (open_with (new_total c));
        answer = Ok (record { repair = (step_result c).repair; balance = (step_result c).balance; length = 512 * book_blocks (suc (count B)) });
      })
      (tree_masses (field x.lists) (new_total c)) (cleared (scratch_per_node * nodes x.lists) x.scratch) (grown_buffer x.book x.length (step_entry c))
  member-accepted y B h q l e =
      let v = masses-then-book h.room ∙ sym (on e (sym (lent-passes c B h q l))) in
      record { tells = passed-promised c y B h v; gives = after-pass f v refl }

  -- ---- as the code goes: past 19 and 1 it is the Step with 20 put in, of the member read and the source as it was handed on

  abbrev handed : Member → ℤ → StepCall
  handed m z = call_of (terms f) m (step_inputs x.kept z x.scale x.lists x.scratch x.book x.length)

  pub stepped-refused : {number place : ℕ} → Typed c → own_checks ≡ refused number place → StepBy (step_member_verdict f i x) c (refused number place) x.kept x.scratch x.book
  stepped-refused y e = failed-promised c y (verdict-is ∙ sym (stop (step_verdict_with (source_check ∷ []) c) e))

  pub stepped-by :
      {answer : Answered Stepped} {kept : List ℕ} {scratch : List ℤ} {book : List ℕ} (own : Checked) (m : Member) (z : ℤ) → own_checks ≡ Ok tt
      → own ≡ check_source z (over (pos (total_of f i) +ℤ z)) (room f i) → m ≡ member_at f i → z ≡ x.source
      → StepBy (step_verdict_with (own ∷ []) (handed m z)) (handed m z) answer kept scratch book → StepBy (step_member_verdict f i x) c answer kept scratch book
  stepped-by {answer} {kept} {scratch} {book} own m z e o h d p =
      let o' : own ≡ source_check = o ∙ ap (λ y. check_source y (over (pos (total_of f i) +ℤ y)) (room f i)) d in
      let v = verdict-is ∙ sym (on {u = step_verdict_with (source_check ∷ []) c} {w = step_verdict_with (source_check ∷ []) c} e refl) in
      subst (λ w. StepBy w c answer kept scratch book) (sym v)
      (subst (λ X. X) (λ y. StepBy (step_verdict_with (o' y ∷ []) (handed (h y) (d y))) (handed (h y) (d y)) answer kept scratch book) p)

  -- and the family takes the total of an accepted one over
  taken-by : (v : Checked) → taken f i (answered v (step_result c)) ≡ after v (put f i (open_with (new_total c))) f
  taken-by (Ok tt) = refl
  taken-by (Err r) = refl

  pub step-done :
      {answer : Answered Stepped} {kept : List ℕ} {scratch : List ℤ} {book : List ℕ} {g : Family} → StepBy (step_member_verdict f i x) c answer kept scratch book
      → g ≡ taken f i answer → StepMemberContract f i x (record { family = g; answer = answer }) kept scratch book
  step-done p q = record { tells = p; gives = q ∙ ap (taken f i) p.tells.answers ∙ taken-by (step_member_verdict f i x) }

-- ---- for every input of its types there is a call that keeps its contract

pub every-open : (f : Family) (i : ℕ) (kept : List ℕ) (k : ℕ) → (r : FamilyAnswer (Answered Balance)) × OpenMemberContract f i kept k r
every-open f i kept k = (
  record {
    family = after (open_member_verdict f i kept k) (put f i (open_with (sum kept))) f;
    answer = answered (open_member_verdict f i kept k) (open_balance kept k);
  },
  record { tells = record { answers = refl }; gives = refl },
)

pub every-register : (f : Family) (i : ℕ) → (r : FamilyAnswer Checked) × RegisterContract f i r
every-register f i = (
  record { family = after (register_verdict f i) (schedule f (with_bit f.waiting i) f.from) f; answer = answered (register_verdict f i) tt },
  record { answers = refl; gives = refl },
)

pub every-step :
    (f : Family) (i : ℕ) (x : StepInputs) → Typed (call_of (terms f) (member_at f i) x)
    → (r : FamilyAnswer (Answered Stepped)) × ((kept : List ℕ) × ((scratch : List ℤ) × ((book : List ℕ) × StepMemberContract f i x r kept scratch book)))
every-step f i x y =
    let v = step_member_verdict f i x in
    let c = call_of (terms f) (member_at f i) x in (
      record { family = after v (put f i (open_with (new_total c))) f; answer = answered v (step_result c) },
      (
        after v (tree_masses (field x.lists) (new_total c)) x.kept,
        (
          after v (cleared (scratch_per_node * nodes x.lists) x.scratch) x.scratch,
          (
            after v (grown_buffer x.book x.length (step_entry c)) x.book,
            record {
              tells = record { typed = y; tells = record { answers = refl; leaves = record { writes = refl; clears = refl } }; files = refl };
              gives = refl;
            },
          ),
        ),
      ),
    )
