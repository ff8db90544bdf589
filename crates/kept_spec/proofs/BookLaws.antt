-- The book of every run: after an accepted opening and every run of Step calls that hand on a book, from any start of a book on, the buffer has the
-- book of the records of the accepted steps since the last start; it closes with its opening total plus the recorded sources, which is the sum of
-- the kept masses. The account of the masses is demand 3's, by the run without the book. Runs are not empty talk: a book that is lent along changes
-- nothing but 21, and a full one can be replaced. Assumes nothing.
use Rattle.std.specs.Prelude.{Ok, Err}
use mathlib.Core.Path.{◌≡◌, refl, sym, ◌∙◌, ap, ap₂, subst}
use mathlib.Core.List.{List, [], ◌∷◌, ◌++◌, append-nil}
use Prim.Native.Nat.{ℕ, ◌≤◌}
use native.Mathlib.Omega.{arith}
use lib.ListN.{length}
use Rattle.numbers.specs.Checks.{Answered, refused, first, max_total}
use Rattle.numbers.proofs.PartLaws.{part-whole}
use Rattle.numbers.proofs.CheckLaws.{on, answered-accepted}
use Rattle.book_spec.specs.Book.{entry, Book, book, count, closing, add, max_entries, max_bytes}
use Rattle.book_spec.specs.StartBook.{book_start_verdict}
use Rattle.book_spec.specs.LentBook.{held_in, HasBook, check_full}
use Rattle.book_spec.proofs.ReportLaws.{closing-recorded}
use Rattle.book_spec.proofs.HeldLaws.{has-read}
use Rattle.book_spec.proofs.StartLaws.{empty-closing, book-start-accepts, started}
use Rattle.book_spec.proofs.LentLaws.{full-decides}
use Rattle.kept_spec.specs.declared.Balance.{Balance}
use Rattle.kept_spec.specs.declared.Stepped.{Stepped}
use Rattle.kept_spec.specs.Open.{OpenContract}
use Rattle.kept_spec.specs.Step.{StepCall, step_verdict}
use Rattle.kept_spec.specs.Run.{Run}
use Rattle.kept_spec.specs.Account.{Event, Standing, told, Accepts, balance_after, Promised, Moves, book_after_step, Account}
use Rattle.kept_spec.specs.BookRun.{StartEvent, StartPromised, Act, step_in, steps_in, Ledger, standing_of, ledger, Lent, length_after, LedgerMoves, recorded_by, book_by, book_after, BookAccount}
use Rattle.kept_spec.proofs.RunLaws.{run-through, run-split}
use Rattle.kept_spec.proofs.StepLaws.{before_book, lent-verdict, accepted-fits, accepted-total, accepted-facts, refused-keeps}
use Rattle.kept_spec.proofs.Demand3.{demand3, always-moves}

-- ---- a list that was lent

-- to a call that was lent the whole, and that leaves it as it was unless it is accepted: what the call left stands
pub lent-left : {stands given left t : List ℕ} {A : Type 0} → Lent stands given left A t → given ≡ stands → ((A → ⊥) → left ≡ given) → t ≡ left
lent-left {given = given} {left = left} (Lent.own before rest part whole) e h =
    let w = part-whole before given rest (e ∙ part) in ap₂ (λ x y. x ++ (left ++ y)) w.0 w.1 ∙ append-nil left
lent-left (Lent.elsewhere n) e h = sym (h n ∙ e)

-- to a call that was accepted: it was the whole, and what was left is the whole
pub lent-accepted : {stands given left t : List ℕ} {A : Type 0} → Lent stands given left A t → A → (given ≡ stands) × (t ≡ left)
lent-accepted (Lent.own before rest part whole) a = (whole a, lent-left (Lent.own before rest part whole) (whole a) (λ n. absurd (n a)))
lent-accepted (Lent.elsewhere h) a = absurd (h a)

-- to one that left it as it was
pub lent_same : {stands given left t : List ℕ} {A : Type 0} → Lent stands given left A t → left ≡ given → t ≡ stands
lent_same (Lent.own before rest part whole) e = ap (λ l. before ++ (l ++ rest)) e ∙ sym part
lent_same (Lent.elsewhere h) e = refl

-- ---- one move

abbrev pub BalanceIs : Answered Stepped → Standing → Standing → Type 0
BalanceIs a s t = t.balance ≡ balance_after a s.balance

pub moves-promised : {s t : Standing} {e : Event} → Moves s e t → Promised e
moves-promised (Moves.lent before rest p part w) = p
moves-promised (Moves.elsewhere p h) = p

pub moves-balance : {s t : Standing} {e : Event} → Moves s e t → BalanceIs (told e) s t
moves-balance (Moves.lent before rest p part w) = refl
moves-balance {s} {e = e} (Moves.elsewhere p h) = by-told (told e) h
  where
    by-told : (a : Answered Stepped) → (Accepts a → ⊥) → BalanceIs a s s
    by-told (Ok r) h = absurd (h tt)
    by-told (Err r) h = refl

-- the buffer has a book that closes with the total standing
pub record Booking (s : Ledger) (B : Book) : Type 0 where
  pub held : HasBook s.book s.length B
  pub closes : closing B ≡ s.balance.total
  pub small : s.balance.total ≤ max_total

-- a step that is lent the book leaves it so, with its record more if it is accepted
module _ (s : Ledger) (e : Event) (t : Standing) (left : List ℕ) (B : Book) (b : Booking s B) (p : Promised e) where
  abbrev c : StepCall
  c = e.call

  book-accepted :
      (r : Stepped) → told e ≡ Ok r → (c.book ≡ s.book) × (left ≡ e.book) → c.length ≡ s.length → t.balance ≡ r.balance
      → Booking (ledger t left r.length) (add B (entry c.source r.repair.outcome r.balance.total))
  book-accepted r q u l z =
      let f = (accepted-facts e p r q).filed in
      let same : held_in c.book c.length ≡ B = ap₂ (λ d n. held_in d n) u.0 l ∙ has-read b.held in
      let grown : book_after_step c r ≡ add B (entry c.source r.repair.outcome r.balance.total) = ap (λ x. add x (entry c.source r.repair.outcome r.balance.total)) same in
      record {
        held = subst (λ x. HasBook x r.length (add B (entry c.source r.repair.outcome r.balance.total))) (sym u.1) (subst (λ x. HasBook e.book r.length x) grown f.left);
        closes = ap closing (sym grown) ∙ f.closes ∙ ap (λ x. x.total) (sym z);
        small = omega (arith, accepted-total e p r q, (accepted-fits e p r q).masses.small, ap (λ x. x.total) z);
      }

  book-refused : left ≡ s.book → t.balance ≡ s.balance → Booking (ledger t left s.length) B
  book-refused u z =
      record {
        held = subst (λ x. HasBook x s.length B) (sym u) b.held;
        closes = b.closes ∙ ap (λ x. x.total) (sym z);
        small = omega (arith, b.small, ap (λ x. x.total) z);
      }

steps-booking :
    {s : Ledger} {e : Event} {t : Standing} {left : List ℕ} (B : Book) → Booking s B → Moves (standing_of s) e t
    → Lent s.book e.call.book e.book (Accepts (told e)) left → (Accepts (told e) → e.call.length ≡ s.length)
    → Booking (ledger t left (length_after (told e) s.length)) (recorded_by (told e) e.call.source B)
steps-booking {s} {e} {t} {left} B b m k l = by-told (told e) refl k l (moves-balance m)
  where
    by-told :
        (a : Answered Stepped) → told e ≡ a → Lent s.book e.call.book e.book (Accepts a) left → (Accepts a → e.call.length ≡ s.length)
        → BalanceIs a (standing_of s) t → Booking (ledger t left (length_after a s.length)) (recorded_by a e.call.source B)
    by-told (Ok r) q k l z = book-accepted s e t left B b (moves-promised m) r q (lent-accepted k tt) (l tt) z
    by-told (Err r) q k l z = book-refused s e t left B b (moves-promised m) (lent_same k (refused-keeps e (moves-promised m) r.number r.place q).1.1) z

-- a start in any state leaves a book without records
starts-booking :
    (s : Ledger) {e : StartEvent} {l : ℕ} → StartPromised e → e.answer ≡ Ok l → e.total ≡ s.balance.total
    → Booking (ledger (standing_of s) e.left l) (book e.total [])
starts-booking s {e} {l} p q u =
    let f = (book-start-accepts e.total e.buffer).0 (answered-accepted (book_start_verdict e.total e.buffer) l 512 (sym q ∙ p.answers)).0 in
    record { held = started p q; closes = empty-closing e.total ∙ u; small = omega (arith, f.small, u) }

moves-booking : {s t : Ledger} {a : Act} (B : Book) → Booking s B → LedgerMoves s a t → Booking t (book_by a B)
moves-booking B b (LedgerMoves.steps m k l) = steps-booking B b m k l
moves-booking {s} B b (LedgerMoves.starts p q u) = starts-booking s p q u

-- ---- every run

pub run-booking : {s t : Ledger} {acts : List Act} (B : Book) → Booking s B → Run LedgerMoves s acts t → Booking t (book_after acts B)
unfolding book_after
run-booking B b Run.done = b
run-booking {acts = a ∷ acts} B b (Run.step m r) = run-booking (book_by a B) (moves-booking B b m) r

-- the same masses and balances without the book
move-plain : {s t : Ledger} {a : Act} → LedgerMoves s a t → Run Moves (standing_of s) (step_in a) (standing_of t)
move-plain (LedgerMoves.steps m k l) = Run.step m Run.done
move-plain (LedgerMoves.starts p q u) = Run.done

pub ledger-run : {s t : Ledger} {acts : List Act} → Run LedgerMoves s acts t → Run Moves (standing_of s) (steps_in acts) (standing_of t)
ledger-run {s} {t} {acts} r = run-through step_in standing_of (λ x. Unit) (λ x y a i m. (move-plain m, tt)) s t acts tt r

-- from any start on
pub book-from-start :
    {s t : Ledger} {e : StartEvent} {rest : List Act} → Run LedgerMoves s (Act.starts e ∷ rest) t → Booking t (book_after rest (book e.total []))
book-from-start {s} {e = e} (Run.step (LedgerMoves.starts p q u) r) = run-booking (book e.total []) (starts-booking s p q u) r

-- THE theorem with a book: demand 3 of the steps, and the account of the book
pub book-demand3 :
    (opened : List ℕ) (k : ℕ) (answer : Answered Balance) (opening : Balance) → OpenContract opened k answer → answer ≡ Ok opening
    → (buffer : List ℕ) (l : ℕ) (acts : List Act) (end : Ledger) → Run LedgerMoves (ledger (record { kept = opened; balance = opening }) buffer l) acts end
    → Account opening (steps_in acts) (standing_of end)
    × ((before rest : List Act) (e : StartEvent) → acts ≡ before ++ (Act.starts e ∷ rest) → BookAccount (book_after rest (book e.total [])) end)
book-demand3 opened k answer opening p t buffer l acts end r =
    let a = demand3 opened k answer opening p t (steps_in acts) (standing_of end) (ledger-run r) in (
      a,
      λ before rest e q.
          let b = book-from-start (run-split before (subst (λ x. Run LedgerMoves (ledger (record { kept = opened; balance = opening }) buffer l) x end) q r)).1.1 in
          record { held = b.held; adds_up = closing-recorded _ b.held.formed; sums = b.closes ∙ sym a.standing; closes = b.closes },
    )

-- ---- runs are not empty talk

-- what Step's contract promises of a call that is lent what stands moves a run on, accepted or refused
pub ledger-always-moves :
    (s : Ledger) (e : Event) → Promised e → e.call.kept ≡ s.kept → e.call.balance ≡ s.balance → e.call.book ≡ s.book → e.call.length ≡ s.length
    → LedgerMoves s (Act.steps e)
    (record { kept = e.kept; balance = balance_after (told e) s.balance; book = e.book; length = length_after (told e) s.length })
ledger-always-moves s e p k b d l =
    subst
    (λ x. LedgerMoves s (Act.steps e) (record { kept = e.kept; balance = balance_after (told e) s.balance; book = x; length = length_after (told e) s.length }))
    (append-nil e.book)
    (LedgerMoves.steps (always-moves (standing_of s) e p k b) (Lent.own [] [] (sym d ∙ sym (append-nil e.call.book)) (λ a. d)) (λ a. l))

module _ (s : Ledger) (B : Book) (b : Booking s B) where
  -- lent what stands, a step is refused as its other checks refuse it; else it is accepted, and refused with 21 if the book is full
  module _ (c : StepCall) (z : c.balance ≡ s.balance) (d : c.book ≡ s.book) (l : c.length ≡ s.length) (others : first (before_book c []) ≡ Ok tt) where
    held : HasBook c.book c.length B
    held = subst (λ x. HasBook c.book x B) (sym l) (subst (λ x. HasBook x s.length B) (sym d) b.held)

    full-or-not : step_verdict c ≡ check_full B
    full-or-not = lent-verdict c B held (b.closes ∙ ap (λ x. x.total) (sym z)) ∙ sym (on others refl)

    pub goes_on : count B ≤ 2623 → step_verdict c ≡ Ok tt
    goes_on h = full-or-not ∙ (full-decides B).passes.1 (omega arith)

    pub full-refused : count B ≡ max_entries → step_verdict c ≡ refused 21 0
    full-refused h = full-or-not ∙ ((full-decides B).fails 21 0).1 (refl, (refl, λ m. omega arith))

  -- a book that stands can be replaced, in any buffer that is long enough, by one that opens with its closing total
  pub replaceable : (buffer : List ℕ) → max_bytes ≤ length buffer → book_start_verdict (closing B) buffer ≡ Ok tt
  replaceable buffer h = (book-start-accepts (closing B) buffer).1 (record { room = h; small = omega (arith, b.closes, b.small) })
