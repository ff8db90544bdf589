-- Each member keeps the whole account of its own run: a member's history holds a run of Step with its book, and demand 3 and the account of the book
-- are its account. Assumes nothing.
use Rattle.std.specs.Prelude.{Ok, Err}
use mathlib.Core.Path.{◌≡◌, refl, sym, ◌∙◌, ap, subst}
use mathlib.Core.Logic.{◌⊎◌, inl, ⊎_elim}
use mathlib.Core.Bool.{true, false}
use mathlib.Core.List.{List, [], ◌∷◌, ◌++◌}
use Prim.Native.Nat.{ℕ, ◌*◌}
use lib.Dec.{eqb}
use lib.IntN.{ℤ}
use borrow.Author.Tests.{eqb-true, eq-eqb}
use Rattle.numbers.specs.Lists.{sum, written}
use Rattle.numbers.specs.Checks.{Checked, Answered, answered, after, OneOf, refused}
use Rattle.numbers.proofs.TestLaws.{Tested, holds, fails, tested, not_so, clash, and_first, and_second, and_intro}
use Rattle.numbers.proofs.CheckLaws.{stop, answered-accepted}
use Rattle.numbers.proofs.ChainLaws.{Verdict, passed, failed, verdict, fails-number, no_number}
use Rattle.qlt_spec.specs.Field.{nodes, scratch_per_node, field}
use Rattle.qlt_spec.specs.Masses.{tree_masses}
use Rattle.qlt_spec.specs.Operation.{cleared}
use Rattle.book_spec.specs.LentBook.{grown_buffer, grown_length}
use Rattle.book_spec.specs.StartBook.{book_start_verdict}
use Rattle.book_spec.specs.Book.{book_bytes}
use Rattle.kept_spec.specs.declared.Balance.{Balance}
use Rattle.kept_spec.specs.declared.Stepped.{Stepped}
use Rattle.kept_spec.specs.Open.{open_verdict, open_balance}
use Rattle.kept_spec.specs.Step.{StepCall, new_total, step_verdict, step_result, step_entry, Typed}
use Rattle.kept_spec.specs.Run.{Run, collect}
use Rattle.kept_spec.specs.Account.{Event, Accepts, balance_after, Promised, Moves, Account}
use Rattle.kept_spec.specs.BookRun.{Act, Ledger, ledger, LedgerMoves, Lent, length_after, StartEvent, book_after, BookAccount, steps_in, standing_of}
use Rattle.kept_spec.proofs.RunLaws.{run-append}
use Rattle.kept_spec.proofs.StepLaws.{step-decides, step-numbers}
use Rattle.kept_spec.proofs.BookLaws.{book-demand3, ledger-always-moves}
use Rattle.family_spec.specs.declared.Member.{Member}
use Rattle.family_spec.specs.Family.{open_with, member_at, Terms, terms}
use Rattle.family_spec.specs.Member.{opening_verdict, StepInputs, call_of, stepping_verdict}
use Rattle.family_spec.specs.History.{FamilyEvent, FamilyStanding, FamilyMoves, only, MemberEvent, stepping, opened, stepped, Held, held, tells_by, holds_by, MemberMoves, balance_told, opening_of, same, act_of, openings_of, steps_of, LentWhole, started, acts_of}
use Rattle.family_spec.specs.Claims.{MemberAccount}
use Rattle.family_spec.proofs.RuleLaws.{opened-decides, opening-opens, opening-accepts, SteppingOwn, stepping-steps, stepping-refused}
use Rattle.family_spec.proofs.FamilyLaws.{Eight}
use Rattle.family_spec.proofs.MemberLaws.{run-own, run-steady}
use Rattle.book_spec.specs.Book as book_of

-- ---- verdicts that are the same

same-means : (u v : Checked) → same u v ≡ true → u ≡ v
unfolding same
same-means (Ok u) (Ok w) e = refl
same-means (Ok tt) (Err r) e = absurd (clash e refl)
same-means (Err r) (Ok tt) e = absurd (clash e refl)
same-means (Err r) (Err s) e =
    let a = eqb-true r.number s.number (and_first (eqb r.number s.number) (eqb r.place s.place) e) in
    let b = eqb-true r.place s.place (and_second (eqb r.number s.number) (eqb r.place s.place) e) in
    λ x. refused (a x) (b x)

same-fail : {u v : Checked} {number place : ℕ} → u ≡ refused number place → v ≡ refused number place → same u v ≡ true
unfolding same
same-fail {u} {v} {number} {place} e f = rw (e, f) (and_intro (eq-eqb number number refl) (eq-eqb place place refl))

same-pass : {u v : Checked} → u ≡ Ok tt → v ≡ Ok tt → same u v ≡ true
unfolding same
same-pass {u} {v} e f = rw (e, f) refl

-- ---- which calls count as Steps

module _ (t : Terms) (i : ℕ) (m : Member) (space : ℤ) (x : StepInputs) where
  abbrev mine : Checked
  mine = stepping_verdict t i m space x

  abbrev c : StepCall
  c = call_of t m x

  abbrev theirs : Checked
  theirs = step_verdict c

  -- an accepted one does
  pub counted-pass : mine ≡ Ok tt → same mine theirs ≡ true
  counted-pass e = same-pass e (stepping-steps t i m space x e)

  -- a refused one does if its number is none of the family's own
  pub counted : (number place : ℕ) → mine ≡ refused number place → (SteppingOwn number → ⊥) → same mine theirs ≡ true
  counted number place e n = ⊎_elim (λ o. absurd (n o)) (λ b. same-fail e b) (stepping-refused t i m space x number place e)

  -- and does not if it is 19 or 20, which Step never refuses with
  pub uncounted : (number place : ℕ) → mine ≡ refused number place → (number ≡ 19) ⊎ (number ≡ 20) → same mine theirs ≡ false
  uncounted number place e h =
      not_so (same mine theirs) (λ s. above (step-numbers c number (fails-number (step-decides c) (sym (same-means mine theirs s) ∙ e))))
    where
      above : OneOf (1 ∷ 2 ∷ 3 ∷ 17 ∷ 4 ∷ 5 ∷ 6 ∷ 7 ∷ 12 ∷ 13 ∷ 8 ∷ 14 ∷ 15 ∷ 16 ∷ 21 ∷ []) number → ⊥
      above o = ⊎_elim (λ q. no_number (1 ∷ 2 ∷ 3 ∷ 17 ∷ 4 ∷ 5 ∷ 6 ∷ 7 ∷ 12 ∷ 13 ∷ 8 ∷ 14 ∷ 15 ∷ 16 ∷ 21 ∷ []) 19 refl (subst (OneOf _) q o))
          (λ q. no_number (1 ∷ 2 ∷ 3 ∷ 17 ∷ 4 ∷ 5 ∷ 6 ∷ 7 ∷ 12 ∷ 13 ∷ 8 ∷ 14 ∷ 15 ∷ 16 ∷ 21 ∷ []) 20 refl (subst (OneOf _) q o)) h

  -- a member that is not open is told 19
  closed-step : m.opened ≡ false → mine ≡ refused 19 0
  unfolding stepping_verdict
  closed-step o = sym (stop _ (((opened-decides i m).fails 19 0).1 (refl, (refl, λ h. clash h.1 o))))

-- ---- a step of a member is a Step, unless the family refused it

-- what stands of a member, as of a kept field by itself
abbrev ledger_of : Terms → Held → Ledger
ledger_of t h = record { kept = h.kept; balance = record { total = h.member.total; scale = t.scale }; book = h.book; length = h.length }

module _ (t : Terms) (i : ℕ) (m : Member) (space : ℤ) (x : StepInputs) (answer : Answered Stepped) (kept : List ℕ) (scratch : List ℤ) (book : List ℕ) where
  abbrev v : Checked
  v = stepping_verdict t i m space x

  abbrev d : StepCall
  d = call_of t m x

  abbrev masses : List ℕ
  masses = tree_masses (field x.lists) (new_total d)

  abbrev clear : List ℤ
  clear = cleared (scratch_per_node * nodes x.lists) x.scratch

  abbrev filed : List ℕ
  filed = grown_buffer x.book x.length (step_entry d)

  abbrev the_step : Event
  the_step = record { call = d; answer = answer; kept = kept; scratch = scratch; book = book }

  abbrev own : List Act
  own = only (same v (step_verdict d)) (Act.steps the_step)

  module _ (typed : Typed d) (told-as : stepped answer kept scratch book ≡ stepped (answered v (step_result d)) (after v masses x.kept) (after v clear x.scratch) (after v filed x.book)) where
    answers : answer ≡ answered v (step_result d)
    answers = cc

    keeps : kept ≡ after v masses x.kept
    keeps = cc

    clears : scratch ≡ after v clear x.scratch
    clears = cc

    files : book ≡ after v filed x.book
    files = cc

    promised : v ≡ step_verdict d → Promised the_step
    promised e =
        record {
          typed = typed;
          tells =
              record {
                answers = answers ∙ ap (λ w. answered w (step_result d)) e;
                leaves = record { writes = keeps ∙ ap (λ w. after w masses x.kept) e; clears = clears ∙ ap (λ w. after w clear x.scratch) e };
              };
          files = files ∙ ap (λ w. after w filed x.book) e;
        }

    -- refused: whatever stands, stands
    refused-step : {number place : ℕ} → v ≡ refused number place → (s : Ledger) → Run LedgerMoves s own s
    refused-step {number} {place} e s = by-test (tested (same v (step_verdict d)))
      where
        told-refused : answer ≡ refused number place
        told-refused = answers ∙ ap (λ w. answered w (step_result d)) e

        none : Accepts answer → ⊥
        none a = subst Accepts told-refused a

        stays : Promised the_step → LedgerMoves s (Act.steps the_step) s
        stays p =
            subst (λ l. LedgerMoves s (Act.steps the_step) (record { kept = s.kept; balance = s.balance; book = s.book; length = l }))
            (ap (λ a. length_after a s.length) told-refused)
            (LedgerMoves.steps (Moves.elsewhere p none) (Lent.elsewhere none) (λ a. absurd (none a)))

        by-test : Tested (same v (step_verdict d)) → Run LedgerMoves s (only (same v (step_verdict d)) (Act.steps the_step)) s
        by-test (holds b) = rw b (Run.step (stays (promised (same-means v (step_verdict d) b))) Run.done)
        by-test (fails b) = rw b Run.done

    -- accepted: its masses, its new balance and its book stand
    accepted-step :
        v ≡ Ok tt → (h : Held) → (Accepts answer → LentWhole x h)
        → Run LedgerMoves (record { kept = h.kept; balance = d.balance; book = h.book; length = h.length }) own
        (record { kept = masses; balance = (step_result d).balance; book = filed; length = (step_result d).length })
    accepted-step e h lent =
        let b : same v (step_verdict d) ≡ true = counted-pass t i m space x e in
        let w = lent yes in
        rw b
        (subst (λ s. Run LedgerMoves (record { kept = h.kept; balance = d.balance; book = h.book; length = h.length }) (Act.steps the_step ∷ []) s) after-it
        (Run.step
        (ledger-always-moves (record { kept = h.kept; balance = d.balance; book = h.book; length = h.length }) the_step
        (promised (e ∙ sym (stepping-steps t i m space x e))) w.kept refl w.book w.length) Run.done))
      where
        told-accepted : answer ≡ Ok (step_result d)
        told-accepted = answers ∙ ap (λ w. answered w (step_result d)) e

        yes : Accepts answer
        yes = subst Accepts (sym told-accepted) tt

        after-it :
            ◌≡◌ {A = Ledger}
            (record { kept = kept; balance = balance_after answer d.balance; book = book; length = length_after answer h.length })
            (record { kept = masses; balance = (step_result d).balance; book = filed; length = (step_result d).length })
        after-it = λ z.
            record {
              kept = (keeps ∙ ap (λ w. after w masses x.kept) e) z;
              balance = ap (λ a. balance_after a d.balance) told-accepted z;
              book = (files ∙ ap (λ w. after w filed x.book) e) z;
              length = ap (λ a. length_after a h.length) told-accepted z;
            }

-- ---- one call of a member

opened-parts : {a b : Answered Balance} → opened a ≡ opened b → a ≡ b
opened-parts e = cc

-- a step that tells what it should, of the member as it stands
module _ {t : Terms} {i : ℕ} {h h' : Held} {m : Member} {space : ℤ} {x : StepInputs} {answer : Answered Stepped} {kept : List ℕ} {scratch : List ℤ} {book : List ℕ} (p : MemberMoves t i h (MemberEvent.steps m space x answer kept scratch book) h') where
  told-by :
      stepped answer kept scratch book
      ≡ stepped (answered (v t i m space x answer kept scratch book) (step_result (call_of t m x))) (after (v t i m space x answer kept scratch book) (masses t i m space x answer kept scratch book) x.kept)
      (after (v t i m space x answer kept scratch book) (clear t i m space x answer kept scratch book) x.scratch)
      (after (v t i m space x answer kept scratch book) (filed t i m space x answer kept scratch book) x.book)
  unfolding tells_by
  told-by = p.tells ∙ ap (λ n. tells_by t i n (stepping space x)) (sym p.given)

  -- what it holds, by the verdict
  abbrev held_by : Checked → Held
  held_by w =
      record {
        member = after w (open_with (new_total (call_of t h.member x))) h.member;
        kept = after w (tree_masses (field x.lists) (new_total (call_of t h.member x))) h.kept;
        book = after w (grown_buffer x.book x.length (step_entry (call_of t h.member x))) h.book;
        length = after w (grown_length x.book x.length) h.length;
      }

  holds_as : (w : Checked) → stepping_verdict t i m space x ≡ w → h' ≡ held_by w
  unfolding holds_by
  holds_as w e = p.holds ∙ ap held_by (ap (λ n. stepping_verdict t i n space x) (sym p.given) ∙ e)

  step-refused : {number place : ℕ} → stepping_verdict t i m space x ≡ refused number place → (h' ≡ h) × ((s : Ledger) → Run LedgerMoves s (act_of t i (MemberEvent.steps m space x answer kept scratch book)) s)
  step-refused {number} {place} e = (holds_as (refused number place) e, λ s. refused-step t i m space x answer kept scratch book p.typed told-by e s)

  step-accepted : stepping_verdict t i m space x ≡ Ok tt → (h'.member.opened ≡ true) × Run LedgerMoves (ledger_of t h) (act_of t i (MemberEvent.steps m space x answer kept scratch book)) (ledger_of t h')
  step-accepted e =
      let now : h' ≡ held_by (Ok tt) = holds_as (Ok tt) e in (
        ap (λ g. g.member.opened) now,
        subst (λ s. Run LedgerMoves (ledger_of t h) (act_of t i (MemberEvent.steps m space x answer kept scratch book)) s)
            (ap (λ n. after_call n) p.given ∙ ap (ledger_of t) (sym now))
            (subst (λ n. Run LedgerMoves (record { kept = h.kept; balance = record { total = n.total; scale = t.scale }; book = h.book; length = h.length }) (act_of t i (MemberEvent.steps m space x answer kept scratch book)) (after_call m))
            p.given (accepted-step t i m space x answer kept scratch book p.typed told-by e h p.lent)),
      )
    where
      after_call : Member → Ledger
      after_call n =
          record {
            kept = tree_masses (field x.lists) (new_total (call_of t n x));
            balance = record { total = new_total (call_of t n x); scale = t.scale };
            book = grown_buffer x.book x.length (step_entry (call_of t n x));
            length = grown_length x.book x.length;
          }

-- a start of its book: the new one stands
books-starts :
    {t : Terms} {i : ℕ} {h h' : Held} {m : Member} {e : StartEvent} → MemberMoves t i h (MemberEvent.books m e) h'
    → (h'.member ≡ h.member) × Run LedgerMoves (ledger_of t h) (Act.starts e ∷ []) (ledger_of t h')
unfolding tells_by holds_by
books-starts {t} {h = h} {m = m} {e = e} p =
    let told-as = p.tells in
    let a : e.answer ≡ answered (book_start_verdict e.total e.buffer) 512 = (start-parts told-as).0 in
    let w : e.left ≡ after (book_start_verdict e.total e.buffer) new e.buffer = (start-parts told-as).1 in
    let z = answered-accepted (book_start_verdict e.total e.buffer) p.lent.size 512 (sym p.lent.accepts ∙ a) in (
      ap (λ g. g.member) p.holds,
      subst (λ s. Run LedgerMoves (ledger_of t h) (Act.starts e ∷ []) s)
          ((λ y.
          record {
            kept = h.kept;
            balance = record { total = h.member.total; scale = t.scale };
            book = (w ∙ ap (λ u. after u new e.buffer) z.0 ∙ ap (λ u. after u new h.book) (sym z.0)) y;
            length = (z.1 ∙ ap (λ u. after u 512 h.length) (sym z.0)) y;
          })
          ∙ ap (ledger_of t) (sym p.holds))
          (Run.step (LedgerMoves.starts {s = ledger_of t h} (record { typed = p.typed; answers = a; writes = w }) p.lent.accepts (p.lent.from ∙ ap (λ n. n.total) p.given)) Run.done),
    )
  where
    new : List ℕ
    new = written e.buffer 0 (book_bytes (book_of.book e.total []))

    start-parts : {b c : Answered ℕ} {l k : List ℕ} → started b l ≡ started c k → (b ≡ c) × (l ≡ k)
    start-parts q = (cc, cc)

-- an opening, by its verdict
module _ {t : Terms} {i : ℕ} {h h' : Held} {m : Member} {space : ℤ} {kept : List ℕ} {k : ℕ} {answer : Answered Balance} (p : MemberMoves t i h (MemberEvent.opens m space kept k answer) h') where
  opening-tells : answer ≡ answered (opening_verdict t i h.member space kept k) (open_balance kept k)
  unfolding tells_by
  opening-tells = opened-parts p.tells

  opening-refused : {number place : ℕ} → opening_verdict t i h.member space kept k ≡ refused number place → (h' ≡ h) × (opening_of (MemberEvent.opens m space kept k answer) ≡ [])
  unfolding holds_by
  opening-refused e = (
    p.holds ∙ (λ z. record { member = after (e z) (open_with (sum kept)) h.member; kept = after (e z) kept h.kept; book = h.book; length = h.length }),
    ap balance_told (opening-tells ∙ ap (λ w. answered w (open_balance kept k)) e),
  )

  opening-accepted : opening_verdict t i h.member space kept k ≡ Ok tt → (h' ≡ record { member = open_with (sum kept); kept = kept; book = h.book; length = h.length }) × (opening_of (MemberEvent.opens m space kept k answer) ≡ open_balance kept k ∷ [])
  unfolding holds_by
  opening-accepted e = (
    p.holds ∙ (λ z. record { member = after (e z) (open_with (sum kept)) h.member; kept = after (e z) kept h.kept; book = h.book; length = h.length }),
    ap balance_told (opening-tells ∙ ap (λ w. answered w (open_balance kept k)) e),
  )

-- a registration leaves what it holds
registering-holds : {t : Terms} {i : ℕ} {h h' : Held} {m : Member} {answer : Checked} → MemberMoves t i h (MemberEvent.registers m answer) h' → h' ≡ h
unfolding holds_by
registering-holds p = p.holds

-- a member that is open stays open, is not opened again, and its call is a run of Step
record Lives (t : Terms) (i : ℕ) (h : Held) (e : MemberEvent) (h' : Held) : Type 0 where
  still : h'.member.opened ≡ true
  none : opening_of e ≡ []
  moves : Run LedgerMoves (ledger_of t h) (act_of t i e) (ledger_of t h')

same-lives : {t : Terms} {i : ℕ} {h h' : Held} {e : MemberEvent} → h.member.opened ≡ true → h' ≡ h → opening_of e ≡ [] → ((s : Ledger) → Run LedgerMoves s (act_of t i e) s) → Lives t i h e h'
same-lives {t} {i} {h} {h'} {e} o q n r =
    record {
      still = ap (λ g. g.member.opened) q ∙ o;
      none = n;
      moves = subst (λ s. Run LedgerMoves (ledger_of t h) (act_of t i e) s) (ap (ledger_of t) (sym q)) (r (ledger_of t h));
    }

lives : {t : Terms} {i : ℕ} {h h' : Held} (e : MemberEvent) → h.member.opened ≡ true → MemberMoves t i h e h' → Lives t i h e h'
lives {t} {i} {h} {h'} (MemberEvent.opens m space kept k answer) o p = by-verdict (verdict (opening_verdict t i h.member space kept k))
  where
    by-verdict : Verdict (opening_verdict t i h.member space kept k) → Lives t i h (MemberEvent.opens m space kept k answer) h'
    by-verdict (passed e) = absurd (clash o ((opening-accepts t i h.member space kept k).0 e).not_open)
    by-verdict (failed number place e) = let q = opening-refused p e in same-lives o q.0 q.1 (λ s. Run.done)
lives {t} {i} {h} {h'} (MemberEvent.steps m space x answer kept scratch book) o p = by-verdict (verdict (stepping_verdict t i m space x))
  where
    by-verdict : Verdict (stepping_verdict t i m space x) → Lives t i h (MemberEvent.steps m space x answer kept scratch book) h'
    by-verdict (passed e) = let q = step-accepted p e in record { still = q.0; none = refl; moves = q.1 }
    by-verdict (failed number place e) = let q = step-refused p e in same-lives o q.0 refl q.1
lives {t} {i} {h} {h'} (MemberEvent.registers m answer) o p = same-lives o (registering-holds p) refl (λ s. Run.done)
lives (MemberEvent.books m e) o p = let q = books-starts p in record { still = ap (λ n. n.opened) q.0 ∙ o; none = refl; moves = q.1 }

-- ---- a member's history

-- from when it is open: a run of Step
lives-on :
    {t : Terms} {i : ℕ} {h h' : Held} {es : List MemberEvent} → h.member.opened ≡ true → Run (MemberMoves t i) h es h'
    → (collect opening_of es ≡ []) × Run LedgerMoves (ledger_of t h) (collect (act_of t i) es) (ledger_of t h')
unfolding collect
lives-on o Run.done = (refl, Run.done)
lives-on o (Run.step {e = e} {es = es} m r) =
    let a = lives e o m in
    let b = lives-on a.still r in
    (ap (λ l. l ++ collect opening_of es) a.none ∙ b.0, run-append a.moves b.1)

pub lives-end : {t : Terms} {i : ℕ} {h h' : Held} {es : List MemberEvent} → h.member.opened ≡ true → Run (MemberMoves t i) h es h' → h'.member.opened ≡ true
lives-end o Run.done = o
lives-end o (Run.step {e = e} m r) = lives-end (lives e o m).still r

-- a member that is not open: nothing happens to it, or it is opened
data Begun (t : Terms) (i : ℕ) (h : Held) (e : MemberEvent) (h' : Held) : Type 0 where
  stays : h' ≡ h → opening_of e ≡ [] → act_of t i e ≡ [] → Begun t i h e h'
  begins :
      (kept : List ℕ) → open_verdict kept t.scale ≡ Ok tt → h' ≡ record { member = open_with (sum kept); kept = kept; book = h.book; length = h.length }
      → opening_of e ≡ open_balance kept t.scale ∷ [] → act_of t i e ≡ [] → Begun t i h e h'

begins-by : {t : Terms} {i : ℕ} {h h' : Held} (e : MemberEvent) → h.member.opened ≡ false → MemberMoves t i h e h' → Begun t i h e h'
begins-by {t} {i} {h} {h'} (MemberEvent.opens m space kept k answer) o p = by-verdict (verdict (opening_verdict t i h.member space kept k))
  where
    by-verdict : Verdict (opening_verdict t i h.member space kept k) → Begun t i h (MemberEvent.opens m space kept k answer) h'
    by-verdict (passed e) =
        let q = opening-accepted p e in
        let k-is = ((opening-accepts t i h.member space kept k).0 e).same_scale in
        Begun.begins kept (ap (open_verdict kept) (sym k-is) ∙ opening-opens t i h.member space kept k e) q.0 (q.1 ∙ ap (λ n. open_balance kept n ∷ []) k-is) refl
    by-verdict (failed number place e) = let q = opening-refused p e in Begun.stays q.0 q.1 refl
begins-by {t} {i} {h} {h'} (MemberEvent.steps m space x answer kept scratch book) o p =
    let e = closed-step t i m space x (ap (λ n. n.opened) p.given ∙ o) in
    Begun.stays (step-refused p e).0 refl
    (ap (λ b. only b (Act.steps (record { call = call_of t m x; answer = answer; kept = kept; scratch = scratch; book = book }))) (uncounted t i m space x 19 0 e (inl refl)))
begins-by (MemberEvent.registers m answer) o p = Begun.stays (registering-holds p) refl refl
begins-by (MemberEvent.books m e) o p = absurd (clash (ap (λ n. n.opened) (sym p.given) ∙ p.lent.is_open) o)

-- the opening, and the run of Step after it
record Life (t : Terms) (i : ℕ) (es : List MemberEvent) (end : Held) : Type 0 where
  masses : List ℕ
  fits : open_verdict masses t.scale ≡ Ok tt
  once : collect opening_of es ≡ open_balance masses t.scale ∷ []
  buffer : List ℕ
  length : ℕ
  run : Run LedgerMoves (ledger (record { kept = masses; balance = open_balance masses t.scale }) buffer length) (collect (act_of t i) es) (ledger_of t end)

life : {t : Terms} {i : ℕ} {h h' : Held} {es : List MemberEvent} → h.member.opened ≡ false → h'.member.opened ≡ true → Run (MemberMoves t i) h es h' → Life t i es h'
unfolding collect
life o n Run.done = absurd (clash n o)
life {t} {i} {h} {h'} o n (Run.step {t = g} {e = e} {es = es} m r) = by-case (begins-by e o m) (λ c. life c n r)
  where
    by-case : Begun t i h e g → (g.member.opened ≡ false → Life t i es h') → Life t i (e ∷ es) h'
    by-case (Begun.stays q a s) ih =
        let z = ih (ap (λ y. y.member.opened) q ∙ o) in
        record {
          masses = z.masses;
          fits = z.fits;
          once = ap (λ l. l ++ collect opening_of es) a ∙ z.once;
          buffer = z.buffer;
          length = z.length;
          run =
              subst (λ l. Run LedgerMoves (ledger (record { kept = z.masses; balance = open_balance z.masses t.scale }) z.buffer z.length) (l ++ collect (act_of t i) es) (ledger_of t h'))
              (sym s) z.run;
        }
    by-case (Begun.begins kept w q a b) ih =
        let z = lives-on (ap (λ y. y.member.opened) q) r in
        record {
          masses = kept;
          fits = w;
          once = (λ y. a y ++ z.0 y);
          buffer = h.book;
          length = h.length;
          run =
              subst (λ l. Run LedgerMoves (ledger (record { kept = kept; balance = open_balance kept t.scale }) h.book h.length) (l ++ collect (act_of t i) es) (ledger_of t h')) (sym b)
              (subst (λ s. Run LedgerMoves s (collect (act_of t i) es) (ledger_of t h')) (ap (ledger_of t) q) z.1);
        }

-- a member that is never opened has no opening and no Step, and holds what it held
abbrev Nothing : Terms → ℕ → Held → List MemberEvent → Held → Type 0
Nothing t i h es h' = (collect opening_of es ≡ []) × (collect (act_of t i) es ≡ []) × (h' ≡ h)

none_yet : {t : Terms} {i : ℕ} {h h' : Held} {es : List MemberEvent} → h.member.opened ≡ false → h'.member.opened ≡ false → Run (MemberMoves t i) h es h' → Nothing t i h es h'
unfolding collect
none_yet o n Run.done = (refl, refl, refl)
none_yet {t} {i} {h} {h'} o n (Run.step {t = g} {e = e} {es = es} m r) = by-case (begins-by e o m) (λ c. none_yet c n r)
  where
    by-case : Begun t i h e g → (g.member.opened ≡ false → Nothing t i g es h') → (opening_of e ++ collect opening_of es ≡ []) × (act_of t i e ++ collect (act_of t i) es ≡ []) × (h' ≡ h)
    by-case (Begun.stays q a s) ih = let z = ih (ap (λ y. y.member.opened) q ∙ o) in (λ y. a y ++ z.0 y, λ y. s y ++ z.1 y, z.2 ∙ q)
    by-case (Begun.begins kept w q a b) ih = absurd (clash (lives-end (ap (λ y. y.member.opened) q) r) n)

-- demand 3 of it, and the account of its book
life-account :
    {t : Terms} {i : ℕ} {es : List MemberEvent} {end : Held} (z : Life t i es end)
    → Account (open_balance z.masses t.scale) (steps_in (collect (act_of t i) es)) (standing_of (ledger_of t end))
    × ((before rest : List Act) (e : StartEvent) → collect (act_of t i) es ≡ before ++ (Act.starts e ∷ rest)
    → BookAccount (book_after rest (book_of.book e.total [])) (ledger_of t end))
life-account {t} {i} {es} {end} z =
    let b = open_balance z.masses t.scale in
    book-demand3 z.masses t.scale (Ok b) b (record { answers = ap (λ w. answered w b) (sym z.fits) }) refl
    z.buffer z.length (collect (act_of t i) es) (ledger_of t end) z.run

-- ---- every history

-- a member that was not open and is at the end keeps its whole account
pub member-account :
    (i : ℕ) {s t : FamilyStanding} {es : List FamilyEvent} → Eight s.family → (member_at s.family i).opened ≡ false → Run FamilyMoves s es t
    → (member_at t.family i).opened ≡ true → MemberAccount i es t
member-account i {s} {t} {es} eight o r n =
    let z = life o n (run-own i eight r) in
    let k = (run-steady r).terms in
    record {
      opening = open_balance z.masses s.family.scale;
      once = z.once;
      account =
          subst (λ u. Account (open_balance z.masses s.family.scale) (steps_of u i es) (record { kept = t.kept i; balance = record { total = (member_at t.family i).total; scale = u.scale } })) (sym k)
          (life-account z).0;
      books = λ before rest e q.
          subst
          (λ u. BookAccount (book_after rest (book_of.book e.total [])) (record { kept = t.kept i; balance = record { total = (member_at t.family i).total; scale = u.scale }; book = t.book i; length = t.length i }))
          (sym k) ((life-account z).1 before rest e (subst (λ u. acts_of u i es ≡ before ++ (Act.starts e ∷ rest)) k q));
    }

-- one that is not open at the end has no opening and no Step, and holds what it held
pub member-none :
    (i : ℕ) {s t : FamilyStanding} {es : List FamilyEvent} → Eight s.family → (member_at s.family i).opened ≡ false → Run FamilyMoves s es t
    → (member_at t.family i).opened ≡ false → (openings_of i es ≡ []) × (acts_of (terms t.family) i es ≡ []) × (held t i ≡ held s i)
member-none i {s} {t} {es} eight o r n =
    let z = none_yet o n (run-own i eight r) in
    (z.0, subst (λ u. acts_of u i es ≡ []) (sym (run-steady r).terms) z.1, z.2)
