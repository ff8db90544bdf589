-- The concrete history of specs/Example.antt is a history, after a start that is accepted: the checks of masses, and what they give, hold by
-- computing; the books' bytes are not computed, they are there by the laws of books. Assumes nothing.
use Rattle.std.specs.Prelude.{Ok, Some}
use mathlib.Core.Path.{◌≡◌, refl, sym, ◌∙◌, subst}
use mathlib.Core.Logic.{⊎_elim}
use mathlib.Core.Bool.{Bool, true}
use mathlib.Core.List.{List, [], ◌∷◌, ◌++◌}
use Prim.Native.Nat.{ℕ, suc, ◌*◌, ◌^◌, ◌≤◌, ◌<◌}
use native.Mathlib.Omega.{arith}
use lib.IntN.{ℤ, pos, negsuc, ◌+ℤ◌}
use lib.Signed.{◌≤ℤ◌, le_z_yes}
use lib.ListN.{replicate}
use Rattle.numbers.specs.Sums.{sum_to}
use Rattle.numbers.specs.Lists.{All, list_to, written}
use Rattle.numbers.specs.Signed.{min_ℤ, max_ℤ}
use Rattle.numbers.specs.Quota.{quota}
use Rattle.numbers.specs.Checks.{Answered, each_from, first_from, check_count, check_scale, check_total, refused}
use Rattle.numbers.proofs.CheckLaws.{answered-accepted, answered-refused}
use Rattle.caas_spec.specs.Split.{clip, clipped, deficit, capacity, portion, first_share, remainder, left, second_share, shares, result}
use Rattle.qlt_spec.specs.Tree.{leads, child_of, any_child, node_sum, parent_ok, node_ok, mass_from, mass_at}
use Rattle.qlt_spec.specs.Field.{outcome, outcome_number, low_in, high_in, change_of, field, nodes, scratch_per_node}
use Rattle.qlt_spec.specs.Masses.{mass_between, group_of, tree_mass, tree_masses, shared_of, tree_shared}
use Rattle.qlt_spec.specs.Checks.{check_nodes, check_lists, check_tree, bounds_ordered, check_order, check_sum, check_reach, check_shape, check_values}
use Rattle.qlt_spec.specs.Operation.{repair, cleared}
use Rattle.book_spec.specs.Book.{Entry, Book, book, count, closing, add, WellFormed, book_blocks, book_bytes}
use Rattle.book_spec.specs.LentBook.{HasBook}
use Rattle.book_spec.proofs.HeldLaws.{has-written, has-read}
use Rattle.book_spec.proofs.AddLaws.{add-count, add-closing, add-formed}
use Rattle.book_spec.proofs.StartLaws.{empty-closing}
use Rattle.kept_spec.specs.declared.Stepped.{Stepped}
use Rattle.kept_spec.specs.Step.{StepCall, new_total, check_same_scale, check_kept, step_result, step_entry, step_verdict}
use Rattle.kept_spec.specs.Run.{Run, collect}
use Rattle.kept_spec.specs.BookRun.{StartPromised, book_after, BookAccount, Act}
use Rattle.kept_spec.specs.Example.{two, lent_book, book_start}
use Rattle.kept_spec.proofs.ExampleLaws.{lent_book-held, typed, book-starts}
use Rattle.family_spec.specs.declared.Family.{Family}
use Rattle.family_spec.specs.declared.FamilyAnswer.{FamilyAnswer}
use Rattle.family_spec.specs.Family.{open_with, member_at, total_of, put, schedule, others, room, terms}
use Rattle.family_spec.specs.Waiting.{waits, with_bit, without_bit, first_waiting}
use Rattle.family_spec.specs.Member.{check_closed, check_opened, check_same_cells, check_room, check_source, opening_verdict, StepInputs, call_of}
use Rattle.family_spec.specs.Operations.{start_verdict, OpenMemberContract, StepMemberContract, RegisterContract, next_member, TurnContract, step_member_verdict, TurnBy}
use Rattle.family_spec.specs.History.{FamilyEvent, FamilyMoves, Lends, served_in, same, only, acts_of}
use Rattle.family_spec.specs.Claims.{Begins, MemberAccount, ledger_at}
use Rattle.family_spec.specs.Example.{filed, inputs, busy, again, book22, entry3, entry5, entry12, entry17, entry18, entry22, call1, start1, call2, start2, call3, call4, call5, call6, call7, call8, call9, call10, call11, call12, call13, call14, call15, call16, call17, call18, call19, call20, call21, call22, book3, book5, book12, book17, book18, turned, over, told, begin, events, last}
use Rattle.family_spec.proofs.AnswerLaws.{member_checks, member-refused, member-accepted}
use Rattle.family_spec.proofs.TurnLaws.{served-same}
use Rattle.family_spec.proofs.Histories.{accounts, always-steps, always-serves, lends-whole}
use Rattle.family_spec.proofs.AccountLaws.{counted, counted-pass}
use Rattle.family_spec.proofs.RuleLaws.{SteppingOwn}

pub begins : Begins 20 20 2 begin
unfolding check_count check_scale start_verdict
begins = record { contract = record { answers = refl; gives = refl }; empty = λ i. refl; no_book = λ i. refl; no_length = λ i. refl }

-- ---- books of one block

-- with a record more
grows :
    {b : List ℕ} {B : Book} (e : Entry) (total : ℕ) → HasBook b 512 B → closing B ≡ total → count B < 41 → e.total < 2 ^ 32 → e.outcome ≤ 2
    → negsuc 2147483647 ≤ℤ e.source → e.source ≤ℤ pos 2147483647 → pos e.total ≡ pos total +ℤ e.source → HasBook (filed b e) 512 (add B e)
unfolding filed
grows {b} {B} e total h q few small o least most s =
    let g : WellFormed (add B e) = add-formed B e h.formed (omega arith) small o least most (subst (λ t. pos e.total ≡ pos t +ℤ e.source) (sym q) s) in
    let l : 512 * book_blocks (count (add B e)) ≡ 512 = omega (arith, add-count B e) in
    subst (λ C. HasBook (written b 0 (book_bytes (add C e))) 512 (add B e)) (sym (has-read h))
    (subst (λ n. HasBook (written b 0 (book_bytes (add B e))) n (add B e)) l (has-written b (add B e) h.room h.bytes g))

module _
    (f : Family) (i : ℕ) (kept : List ℕ) (source : ℤ) {b : List ℕ} {B : Book} (h : HasBook b 512 B) (least : negsuc 2147483647 ≤ℤ source)
    (most : source ≤ℤ pos 2147483647)
  where
    abbrev x : StepInputs
    x = inputs kept source b

    abbrev c : StepCall
    c = call_of (terms f) (member_at f i) x

    -- a step that is lent such a book
    accepts :
        closing B ≡ total_of f i → count B < 41 → member_checks f i x ≡ Ok tt
        → StepMemberContract f i x
        (record { family = put f i (open_with (new_total c)); answer = Ok (record { repair = (step_result c).repair; balance = (step_result c).balance; length = 512 }) })
        (tree_masses (field two) (new_total c)) (cleared (scratch_per_node * nodes two) (replicate 12 (pos 1))) (filed b (step_entry c))
    unfolding filed
    accepts q few e =
        let n : 512 * book_blocks (suc (count B)) ≡ 512 = omega arith in
        subst
        (λ l.
        StepMemberContract f i x
        (record { family = put f i (open_with (new_total c)); answer = Ok (record { repair = (step_result c).repair; balance = (step_result c).balance; length = l }) })
        (tree_masses (field two) (new_total c)) (cleared (scratch_per_node * nodes two) (replicate 12 (pos 1))) (filed b (step_entry c)))
        n (member-accepted f i x (typed c h least most) B h q (omega arith) e)

    refuses :
        (number : ℕ) → member_checks f i x ≡ refused number 0
        → StepMemberContract f i x (record { family = f; answer = refused number 0 }) kept (replicate 12 (pos 1)) b
    refuses number e = member-refused f i x (typed c h least most) h.room e

-- those that stand, one after another
held0 : HasBook (lent_book 8) 512 (book 8 [])
held0 = lent_book-held 8 (omega arith)

held1 : HasBook (lent_book 4) 512 (book 4 [])
held1 = lent_book-held 4 (omega arith)

held3 : HasBook book3 512 (book 8 (entry3 ∷ []))
held3 = grows entry3 8 held0 (empty-closing 8) (omega arith) (omega arith) (omega arith) (le_z_yes tt) (le_z_yes tt) refl

held5 : HasBook book5 512 (book 4 (entry5 ∷ []))
held5 = grows entry5 4 held1 (empty-closing 4) (omega arith) (omega arith) (omega arith) (le_z_yes tt) (le_z_yes tt) refl

held12 : HasBook book12 512 (book 8 (entry3 ∷ entry12 ∷ []))
held12 = grows entry12 10 held3 (add-closing (book 8 []) entry3) (omega arith) (omega arith) (omega arith) (le_z_yes tt) (le_z_yes tt) refl

held17 : HasBook book17 512 (book 8 (entry3 ∷ entry12 ∷ entry17 ∷ []))
held17 =
    grows entry17 6 held12 (add-closing (book 8 (entry3 ∷ [])) entry12) (omega arith) (omega arith) (omega arith) (le_z_yes tt) (le_z_yes tt) refl

held18 : HasBook book18 512 (book 8 (entry3 ∷ entry12 ∷ entry17 ∷ entry18 ∷ []))
held18 =
    grows entry18 6 held17 (add-closing (book 8 (entry3 ∷ entry12 ∷ [])) entry17) (omega arith) (omega arith) (omega arith) (le_z_yes tt) (le_z_yes tt) refl

-- ---- the contracts

-- exactly what the contract of a call promises of an event
abbrev Promised : FamilyEvent → Type 0
Promised (FamilyEvent.opens f i kept k r) = OpenMemberContract f i kept k r
Promised (FamilyEvent.steps f i x r kept scratch book) = StepMemberContract f i x r kept scratch book
Promised (FamilyEvent.registers f i r) = RegisterContract f i r
Promised (FamilyEvent.turns f x r kept scratch book) = TurnContract f x r kept scratch book
Promised (FamilyEvent.books f i e) = StartPromised e

contracts : All Promised events
unfolding sum_to list_to written min_ℤ max_ℤ quota each_from first_from check_count check_scale clip clipped deficit capacity portion first_share remainder left
    second_share shares result leads child_of any_child node_sum parent_ok node_ok mass_from mass_at mass_between outcome outcome_number low_in high_in change_of group_of
    tree_mass tree_masses shared_of tree_shared check_nodes check_lists check_tree bounds_ordered check_order check_sum check_reach check_shape check_values repair cleared
    check_total check_same_scale check_kept others room check_closed check_opened check_same_cells check_room check_source opening_verdict
    waits with_bit without_bit first_waiting next_member
contracts =
    All.more {e = call1} (record { tells = record { answers = refl }; gives = refl })
    (All.more {e = start1} (book-starts 8 (omega arith))
    (All.more {e = call2} (record { tells = record { answers = refl }; gives = refl })
    (All.more {e = start2} (book-starts 4 (omega arith))
    (All.more {e = call3} (accepts _ 0 _ (pos 2) held0 (le_z_yes tt) (le_z_yes tt) (empty-closing 8) (omega arith) refl)
    (All.more {e = call4} (refuses _ 1 _ (pos 7) held1 (le_z_yes tt) (le_z_yes tt) 20 refl)
    (All.more {e = call5} (accepts _ 1 _ (pos 6) held1 (le_z_yes tt) (le_z_yes tt) (empty-closing 4) (omega arith) refl)
    (All.more {e = call6} (record { tells = record { answers = refl }; gives = refl })
    (All.more {e = call7} (record { tells = record { answers = refl }; gives = refl })
    (All.more {e = call8} (refuses _ 2 _ (pos 0) held3 (le_z_yes tt) (le_z_yes tt) 19 refl)
    (All.more {e = call9} (record { tells = record { answers = refl }; gives = refl })
    (All.more {e = call10} (refuses _ 0 _ (pos 0) held3 (le_z_yes tt) (le_z_yes tt) 3 refl)
    (All.more {e = call11} (refuses _ 0 _ (pos 0) held5 (le_z_yes tt) (le_z_yes tt) 12 refl)
    (All.more {e = call12} (accepts _ 0 _ (negsuc 3) held3 (le_z_yes tt) (le_z_yes tt) (add-closing (book 8 []) entry3) (omega arith) refl)
    (All.more {e = call13} (record { answers = refl; gives = refl })
    (All.more {e = call14} (record { answers = refl; gives = refl })
    (All.more {e = call15} (record { answers = refl; gives = refl })
    (All.more {e = call16} (record { answers = refl; gives = refl })
    (All.more {e = call17} (accepts _ 0 _ (pos 0) held12 (le_z_yes tt) (le_z_yes tt) (add-closing (book 8 (entry3 ∷ [])) entry12) (omega arith) refl)
    (All.more {e = call18} (record { serves_next = record { step = record { family = schedule turned 3 0; answer = told 10 }; contract = accepts _ 0 _ (pos 4) held17 (le_z_yes tt) (le_z_yes tt) (add-closing (book 8 (entry3 ∷ entry12 ∷ [])) entry17) (omega arith) refl; answers = refl; gives = refl } })
    (All.more {e = call19} (record { serves_next = record { step = record { family = turned; answer = refused 20 0 }; contract = refuses _ 1 _ (pos 1) held5 (le_z_yes tt) (le_z_yes tt) 20 refl; answers = refl; gives = refl } })
    (All.more {e = call20} (record { serves_next = record { answers = refl; gives = refl; keeps = refl; leaves = refl; files = refl } })
    (All.more {e = call21} (record { answers = refl; gives = refl })
    (All.more {e = call22} (record { serves_next = record { step = record { family = schedule over 1 2; answer = told 6 }; contract = accepts _ 0 _ (negsuc 3) held18 (le_z_yes tt) (le_z_yes tt) (add-closing (book 8 (entry3 ∷ entry12 ∷ entry17 ∷ [])) entry18) (omega arith) refl; answers = refl; gives = refl } }) All.none)))))))))))))))))))))))

-- ---- so they are a history

-- the steps were lent their member's masses, a part of them, or, refused, other lists; and their member's book or, refused, another
runs : All Promised events → Run FamilyMoves begin events last
runs (All.more a (All.more a' (All.more b (All.more b' (All.more c (All.more d (All.more e (All.more f (All.more g (All.more h (All.more i (All.more j (All.more k (All.more l
    (All.more m (All.more n (All.more o (All.more p (All.more q (All.more r (All.more s (All.more t (All.more u (All.more v All.none)))))))))))))))))))))))) =
    Run.step (FamilyMoves.opens a)
    (Run.step (FamilyMoves.books a' refl refl refl)
    (Run.step (FamilyMoves.opens b)
    (Run.step (FamilyMoves.books b' refl refl refl)
    (Run.step (always-steps _ _ _ _ _ _ _ c refl refl refl)
    (Run.step (always-steps _ _ _ _ _ _ _ d refl refl refl)
    (Run.step (always-steps _ _ _ _ _ _ _ e refl refl refl)
    (Run.step (FamilyMoves.opens f)
    (Run.step (FamilyMoves.opens g)
    (Run.step (FamilyMoves.steps h (Lends.elsewhere (λ x. x)) (Lends.elsewhere (λ x. x)) (λ x. absurd x))
    (Run.step (FamilyMoves.opens i)
    (Run.step (FamilyMoves.steps j (Lends.own (4 ∷ []) [] refl (λ x. absurd x)) (lends-whole _ _ refl) (λ x. absurd x))
    (Run.step (FamilyMoves.steps k (Lends.elsewhere (λ x. x)) (Lends.elsewhere (λ x. x)) (λ x. absurd x))
    (Run.step (always-steps _ _ _ _ _ _ _ l refl refl refl)
    (Run.step (FamilyMoves.registers m)
    (Run.step (FamilyMoves.registers n)
    (Run.step (FamilyMoves.registers o)
    (Run.step (FamilyMoves.registers p)
    (Run.step (always-steps _ _ _ _ _ _ _ q refl refl refl)
    (Run.step (always-serves _ _ _ _ _ _ _ _ r refl refl refl)
    (Run.step (always-serves _ _ _ _ _ _ _ _ s refl refl refl)
    (Run.step (FamilyMoves.idles t)
    (Run.step (FamilyMoves.registers u)
    (Run.step (always-serves _ _ _ _ _ _ _ _ v refl refl refl) Run.done)))))))))))))))))))))))

pub example : Run FamilyMoves begin events last
example = runs contracts

-- so the theorems speak of it
pub example-account : MemberAccount 0 events last
example-account = accounts begins example 0 refl

-- and of whom its turns served
pub example-served : served_in events ≡ 0 ∷ 1 ∷ 0 ∷ []
unfolding collect
example-served = refl

-- ---- the book of member 0: it has the records of its accepted steps

-- a step of it counts as a Step if it was accepted, or was refused with a number that is none of the family's own
module _ {f : Family} {i : ℕ} {x : StepInputs} {r : FamilyAnswer (Answered Stepped)} {kept : List ℕ} {scratch : List ℤ} {book : List ℕ} (p : StepMemberContract f i x r kept scratch book) where
  abbrev counts : Bool
  counts = same (step_member_verdict f i x) (step_verdict (call_of (terms f) (member_at f i) x))

  accepted-counts : (z : Stepped) → r.answer ≡ Ok z → counts ≡ true
  accepted-counts z e =
      counted-pass (terms f) i (member_at f i) (room f i) x
      (answered-accepted (step_member_verdict f i x) z (step_result (call_of (terms f) (member_at f i) x)) (sym e ∙ p.tells.tells.answers)).0

  refused-counts : (number place : ℕ) → r.answer ≡ refused number place → (SteppingOwn number → ⊥) → counts ≡ true
  refused-counts number place e n =
      counted (terms f) i (member_at f i) (room f i) x number place
      (answered-refused (step_member_verdict f i x) (step_result (call_of (terms f) (member_at f i) x)) number place (sym e ∙ p.tells.tells.answers)) n

-- so does one in a turn
served-counts :
    (i total : ℕ) (f : Family) {x : StepInputs} {g : Family} {kept : List ℕ} {scratch : List ℤ} {book : List ℕ} → TurnContract f x (record { family = g; answer = Some (record { member = i; stepped = told total }) }) kept scratch book
    → next_member f ≡ Some i → same (step_member_verdict f i x) (step_verdict (call_of (terms f) (member_at f i) x)) ≡ true
served-counts i total f {x} {g} {kept} {scratch} {book} p e =
    let q = subst (λ n. TurnBy n f x (record { family = g; answer = Some (record { member = i; stepped = told total }) }) kept scratch book) e p.serves_next in
    accepted-counts q.contract _ (sym (served-same q.answers).1)

-- its steps after the start of its book: those that count
abbrev act : StepInputs → ℕ → Answered Stepped → List ℕ → List ℤ → List ℕ → Act
act x total answer kept scratch book =
    Act.steps (record { call = call_of (terms over) (open_with total) x; answer = answer; kept = kept; scratch = scratch; book = book })

abbrev acts : Bool → Bool → Bool → Bool → Bool → Bool → Bool → List Act
acts b3 b10 b11 b12 b17 b18 b22 =
    only b3 (act (inputs (3 ∷ 5 ∷ []) (pos 2) (lent_book 8)) 8 (told 10) (4 ∷ 6 ∷ []) (replicate 12 (pos 0)) book3)
    ++ (only b10 (act (inputs (6 ∷ []) (pos 0) book3) 10 (refused 3 0) (6 ∷ []) (replicate 12 (pos 1)) book3)
    ++ (only b11 (act (inputs (5 ∷ 4 ∷ []) (pos 0) book5) 10 (refused 12 0) (5 ∷ 4 ∷ []) (replicate 12 (pos 1)) book5)
    ++ (only b12 (act (inputs (4 ∷ 6 ∷ []) (negsuc 3) book3) 10 (told 6) (2 ∷ 4 ∷ []) (replicate 12 (pos 0)) book12)
    ++ (only b17 (act (inputs (2 ∷ 4 ∷ []) (pos 0) book12) 6 (told 6) (2 ∷ 4 ∷ []) (replicate 12 (pos 0)) book17)
    ++ (only b18 (act (inputs (2 ∷ 4 ∷ []) (pos 4) book17) 6 (told 10) (4 ∷ 6 ∷ []) (replicate 12 (pos 0)) book18)
    ++ (only b22 (act (inputs (4 ∷ 6 ∷ []) (negsuc 3) book18) 10 (told 6) (2 ∷ 4 ∷ []) (replicate 12 (pos 0)) book22) ++ []))))))

acts-are : All Promised events → acts_of (terms last.family) 0 events ≡ Act.starts (book_start 8) ∷ acts true true true true true true true
unfolding collect next_member first_waiting waits
acts-are (All.more a (All.more a' (All.more b (All.more b' (All.more c (All.more d (All.more e (All.more f (All.more g (All.more h (All.more i (All.more j (All.more k (All.more l
    (All.more m (All.more n (All.more o (All.more p (All.more q (All.more r (All.more s (All.more t (All.more u (All.more v All.none)))))))))))))))))))))))) =
    let b3 = accepted-counts c _ refl in
    let b10 = refused-counts j 3 0 refl (⊎_elim (λ x. omega arith) (⊎_elim (λ x. omega arith) (λ x. omega arith))) in
    let b11 = refused-counts k 12 0 refl (⊎_elim (λ x. omega arith) (⊎_elim (λ x. omega arith) (λ x. omega arith))) in
    let b12 = accepted-counts l _ refl in
    let b17 = accepted-counts q _ refl in
    let b18 = served-counts 0 10 busy r refl in
    let b22 = served-counts 0 6 again v refl in
    λ z. Act.starts (book_start 8) ∷ acts (b3 z) (b10 z) (b11 z) (b12 z) (b17 z) (b18 z) (b22 z)

pub example-book : BookAccount (book 8 (entry3 ∷ entry12 ∷ entry17 ∷ entry18 ∷ entry22 ∷ [])) (ledger_at last 0)
unfolding book_after
example-book = example-account.books [] (acts true true true true true true true) (book_start 8) (acts-are contracts)
