-- Runs of the calls from C are runs of Step, so the theorem about every run (demand 3) holds of them. A call whose list for the values is too
-- short is refused before Step is called, and leaves everything. Assumes nothing.
use Rattle.std.specs.Prelude.{Ok}
use mathlib.Core.Path.{◌≡◌, refl, sym, ◌∙◌, ap, subst}
use mathlib.Core.Logic.{⊎_elim}
use mathlib.Core.Bool.{Bool, true, false, cond}
use mathlib.Core.List.{List, [], ◌∷◌, ◌++◌}
use Prim.Native.Nat.{ℕ, zero, suc, ◌≤◌, ◌<◌}
use native.Mathlib.Omega.{arith}
use lib.Dec.{leb}
use lib.ListN.{length}
use borrow.Author.Tests.{leb-true, leb-false}
use Rattle.book_spec.specs.Book.{book}
use Rattle.kept_spec.specs.declared.Balance.{Balance}
use Rattle.kept_spec.specs.Run.{Run, collect}
use Rattle.kept_spec.specs.Account.{Standing, told, balance_after, Promised, Moves, Account, Accepts}
use Rattle.kept_spec.specs.BookRun.{StartEvent, Act, Ledger, ledger, standing_of, Lent, length_after, LedgerMoves, BookAccount, book_after, steps_in}
use Rattle.kept_spec.proofs.RunLaws.{run-collect}
use Rattle.kept_spec.proofs.Demand3.{demand3}
use Rattle.kept_spec.proofs.BookLaws.{book-demand3, lent_same}
use Rattle.call_values.specs.Values.{told_by, open_values, step_values, balance_in, result_in}
use Rattle.legzhuro_c.specs.Calls.{OpenReturns}
use Rattle.legzhuro_c.specs.CallRuns.{CallEvent, event_of, steps_of, CallPromised, CallMoves, acts_of, CallAct, LedgerCallMoves}
use Rattle.legzhuro_c.proofs.OwnLaws.{open_own, step-own, step-short, step-short-returns}

-- with room for its values, a call keeps Step's contract
pub call-promised : (e : CallEvent) → step_values ≤ length e.answer → CallPromised e → Promised (event_of e)
call-promised e room p = step-own e.call e.answer e.returned e.kept e.scratch e.book e.answer' room p

-- ---- without it

module _ (e : CallEvent) (short : length e.answer < step_values) (p : CallPromised e) where
  -- it returns 1, 2 or 3, which tells a refusal
  small : (0 < e.returned) × (e.returned < 4)
  small =
      ⊎_elim (λ x. omega (arith, x)) (λ y. ⊎_elim (λ x. omega (arith, x)) (λ x. omega (arith, x)) y)
      (step-short-returns e.call e.answer e.returned e.kept e.scratch e.book e.answer' short p)

  balance-stays : (b : Balance) → balance_after (told (event_of e)) b ≡ b
  balance-stays b = by-return e.returned small.0
    where
      by-return : (r : ℕ) → 0 < r → balance_after (told_by r (result_in e.call e.answer')) b ≡ b
      by-return zero h = absurd (omega arith)
      by-return (suc r) h = refl

  length-stays : (l : ℕ) → length_after (told (event_of e)) l ≡ l
  length-stays l = by-return e.returned small.0
    where
      by-return : (r : ℕ) → 0 < r → length_after (told_by r (result_in e.call e.answer')) l ≡ l
      by-return zero h = absurd (omega arith)
      by-return (suc r) h = refl

  book-stays : e.book ≡ e.call.book
  book-stays = (step-short e.call e.answer e.returned e.kept e.scratch e.book e.answer' short p).1.1.0

  kept-stays : e.kept ≡ e.call.kept
  kept-stays = (step-short e.call e.answer e.returned e.kept e.scratch e.book e.answer' short p).0

-- ---- moves

by-room : (s : Standing) (t : Standing) (e : CallEvent) → CallMoves s e t → (b : Bool) → leb step_values (length e.answer) ≡ b → Run Moves s (cond b (event_of e ∷ []) []) t
by-room s t e (CallMoves.lent before rest p part w) true r =
    Run.step (Moves.lent before rest (call-promised e (leb-true step_values _ r) p) part w) Run.done
by-room s t e (CallMoves.lent before rest p part w) false r =
    let h = leb-false step_values _ r in
    subst (Run Moves s [])
    (λ i. record {
      kept = (part ∙ ap (λ l. before ++ (l ++ rest)) (sym (kept-stays e h p))) i;
      balance = sym (balance-stays e h p s.balance) i;
    })
    Run.done
by-room s t e (CallMoves.elsewhere p n) true r = Run.step (Moves.elsewhere (call-promised e (leb-true step_values _ r) p) n) Run.done
by-room s t e (CallMoves.elsewhere p n) false r = Run.done

pub call-run : (s t : Standing) (es : List CallEvent) → Run CallMoves s es t → Run Moves s (collect steps_of es) t
call-run = run-collect steps_of (λ s t e m. by-room s t e m (leb step_values (length e.answer)) refl)

-- an opening from C that returned 0, and then any run of steps from C
pub call-account :
    (kept : List ℕ) (k : ℕ) (answer answer' : List ℕ) (opening : Balance) → open_values ≤ length answer → OpenReturns kept k answer 0 answer' → opening ≡ balance_in answer'
    → (es : List CallEvent) (end : Standing) → Run CallMoves (record { kept = kept; balance = opening }) es end
    → Account opening (collect steps_of es) end
call-account kept k answer answer' opening h q o es end r =
    demand3 kept k (told_by 0 (balance_in answer')) opening (open_own kept k answer 0 answer' h q) (ap Ok (sym o)) (collect steps_of es) end (call-run _ end es r)

-- ---- with a book

-- what a call promises, and that one without room for its values leaves masses and balance
call_kept : {s t : Standing} {e : CallEvent} → CallMoves s e t → CallPromised e
call_kept (CallMoves.lent before rest p part w) = p
call_kept (CallMoves.elsewhere p n) = p

call_stays : {s t : Standing} {e : CallEvent} → CallMoves s e t → length e.answer < step_values → t ≡ s
call_stays {s} {e = e} (CallMoves.lent before rest p part w) h =
    λ i. record { kept = (ap (λ l. before ++ (l ++ rest)) (kept-stays e h p) ∙ sym part) i; balance = balance-stays e h p s.balance i }
call_stays (CallMoves.elsewhere p n) h = refl

steps-by :
    (s : Ledger) (e : CallEvent) {t : Standing} {book : List ℕ} → CallMoves (standing_of s) e t → Lent s.book e.call.book e.book (Accepts (told (event_of e))) book
    → (Accepts (told (event_of e)) → e.call.length ≡ s.length) → (b : Bool) → leb step_values (length e.answer) ≡ b
    → Run LedgerMoves s (cond b (Act.steps (event_of e) ∷ []) []) (ledger t book (length_after (told (event_of e)) s.length))
steps-by s e {t} {book} m k l true r = one-step (by-room (standing_of s) t e m true r)
  where
    one-step : Run Moves (standing_of s) (event_of e ∷ []) t → Run LedgerMoves s (Act.steps (event_of e) ∷ []) (ledger t book (length_after (told (event_of e)) s.length))
    one-step (Run.step n Run.done) = Run.step (LedgerMoves.steps n k l) Run.done
steps-by s e m k l false r =
    let h = leb-false step_values _ r in
    let z = call_stays m h in
    subst (Run LedgerMoves s [])
    (λ i.
    record {
      kept = (sym z i).kept;
      balance = (sym z i).balance;
      book = sym (lent_same k (book-stays e h (call_kept m))) i;
      length = sym (length-stays e h (call_kept m) s.length) i;
    })
    Run.done

call-act : (s t : Ledger) (a : CallAct) → LedgerCallMoves s a t → Run LedgerMoves s (acts_of a) t
call-act s t a (LedgerCallMoves.steps {e = e} m k l) = steps-by s e m k l (leb step_values (length e.answer)) refl
call-act s t a (LedgerCallMoves.starts p q u) = Run.step (LedgerMoves.starts p q u) Run.done

pub ledger-call-run : (s t : Ledger) (acts : List CallAct) → Run LedgerCallMoves s acts t → Run LedgerMoves s (collect acts_of acts) t
ledger-call-run = run-collect acts_of call-act

-- an opening from C that returned 0, and then any run of steps from C that hand on a book, and of starts of books
pub call-book-account :
    (kept : List ℕ) (k : ℕ) (answer answer' : List ℕ) (opening : Balance) → open_values ≤ length answer → OpenReturns kept k answer 0 answer' → opening ≡ balance_in answer'
    → (buffer : List ℕ) (l : ℕ) (acts : List CallAct) (end : Ledger) → Run LedgerCallMoves (ledger (record { kept = kept; balance = opening }) buffer l) acts end
    → Account opening (steps_in (collect acts_of acts)) (standing_of end)
    × ((before rest : List Act) (e : StartEvent) → collect acts_of acts ≡ before ++ (Act.starts e ∷ rest) → BookAccount (book_after rest (book e.total [])) end)
call-book-account kept k answer answer' opening h q o buffer l acts end r =
    book-demand3 kept k (told_by 0 (balance_in answer')) opening (open_own kept k answer 0 answer' h q) (ap Ok (sym o)) buffer l (collect acts_of acts) end
    (ledger-call-run _ end acts r)
