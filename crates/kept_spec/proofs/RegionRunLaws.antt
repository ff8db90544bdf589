-- Edits stay in their region, of two runs that hand on a book: where each pair of steps is lent what stands in its run, and the one's field is the
-- other's edited below a node, masses of cells outside these nodes, balance and book stay the same. Assumes nothing.
use Rattle.std.specs.Prelude.{Ok, Err}
use mathlib.Core.Path.{◌≡◌, refl, sym, ◌∙◌, ap, subst}
use mathlib.Core.List.{List, []}
use Prim.Native.Nat.{ℕ}
use Rattle.numbers.specs.Lists.{at, sum, written}
use Rattle.numbers.specs.Checks.{Answered, after}
use Rattle.numbers.proofs.CheckLaws.{answered-accepted}
use Rattle.qlt_spec.specs.Field.{field}
use Rattle.qlt_spec.specs.Region.{SameTold, both_accepted, both_refused}
use Rattle.book_spec.specs.Book.{book, book_bytes}
use Rattle.book_spec.specs.StartBook.{book_start_verdict}
use Rattle.kept_spec.specs.declared.Stepped.{Stepped}
use Rattle.kept_spec.specs.Run.{Run}
use Rattle.kept_spec.specs.Account.{Event, Standing, told, Accepts, balance_after, Promised, Moves}
use Rattle.kept_spec.specs.BookRun.{StartEvent, StartPromised, Act, Ledger, length_after, LedgerMoves}
use Rattle.kept_spec.specs.Region.{EditedStep, SameStepped, SameSteps, LentAll, EditedCalls, EditedActs, EditedMoves, SameLedgers}
use Rattle.kept_spec.proofs.StepLaws.{accepted-sum, refused-keeps}
use Rattle.kept_spec.proofs.Demand3.{lent-whole}
use Rattle.kept_spec.proofs.BookLaws.{lent-left, moves-promised, moves-balance, ledger-always-moves}
use Rattle.kept_spec.proofs.RegionLaws.{step-region}

-- ---- a step that is lent all that stands

-- what stands after it, by what it told
abbrev stands_by : Answered Stepped → Ledger → Event → Ledger
stands_by a s e = record { kept = e.kept; balance = balance_after a s.balance; book = e.book; length = length_after a s.length }

-- one that is not accepted leaves its lists
keeps : (e : Event) → Promised e → (Accepts (told e) → ⊥) → (e.kept ≡ e.call.kept) × (e.book ≡ e.call.book)
keeps e p n = by-told (told e) refl n
  where
    by-told : (a : Answered Stepped) → told e ≡ a → (Accepts a → ⊥) → (e.kept ≡ e.call.kept) × (e.book ≡ e.call.book)
    by-told (Ok r) t n = absurd (n tt)
    by-told (Err r) t n = let k = refused-keeps e p r.number r.place t in (k.0, k.1.1)

masses-left : {s t : Standing} {e : Event} → Moves s e t → e.call.kept ≡ s.kept → t.kept ≡ e.kept
masses-left {s} {e = e} (Moves.lent before rest p part w) k = lent-whole s e before rest p part k
masses-left {e = e} (Moves.elsewhere p n) k = sym ((keeps e p n).0 ∙ k)

stands_after : {s t : Ledger} {e : Event} → LedgerMoves s (Act.steps e) t → LentAll s e.call → t ≡ stands_by (told e) s e
stands_after {s} {t} {e} m z = by-step e t m z
  where
    by-step : (e : Event) (t : Ledger) → LedgerMoves s (Act.steps e) t → LentAll s e.call → t ≡ stands_by (told e) s e
    by-step e t (LedgerMoves.steps m k l) z =
        λ i. record {
          kept = masses-left m z.kept i;
          balance = moves-balance m i;
          book = lent-left k z.book (λ n. (keeps e (moves-promised m) n).1) i;
          length = length_after (told e) s.length;
        }

step-promised : {s t : Ledger} {e : Event} → LedgerMoves s (Act.steps e) t → Promised e
step-promised {s} {t} {e} m = by-step e t m
  where
    by-step : (e : Event) (t : Ledger) → LedgerMoves s (Act.steps e) t → Promised e
    by-step e t (LedgerMoves.steps m k l) = moves-promised m

-- ---- a step in each run

module _ {Mine : ℕ → Type 0} {s t : Ledger} (e d : Event) (h : EditedCalls Mine s t e.call d.call) (z : SameLedgers Mine (s, t)) where
  edited-step : EditedStep e.call d.call h.node
  edited-step =
      record {
        past = h.past;
        past' = h.past';
        fields = h.fields;
        balance = h.lent.balance ∙ z.balance ∙ sym h.lent'.balance;
        source = h.source;
        scale = h.scale;
        kept = ap sum h.lent.kept ∙ z.sums ∙ sym (ap sum h.lent'.kept);
        book = h.lent.book ∙ z.book ∙ sym h.lent'.book;
        length = h.lent.length ∙ z.length ∙ sym h.lent'.length;
      }

  module _ (p : Promised e) (q : Promised d) where
    -- what both told and left
    pub pair-region : SameSteps (field e.call.lists) h.node (told e) (told d) e.kept d.kept e.book d.book
    pair-region = step-region e.call d.call edited-step e.answer d.answer p q

    pair-stands : SameLedgers Mine (stands_by (told e) s e, stands_by (told d) t d)
    pair-stands = by-told refl refl pair-region.told
      where
        by-told :
            {a b : Answered Stepped} → told e ≡ a → told d ≡ b → SameTold (SameStepped (field e.call.lists) h.node e.kept d.kept) a b
            → SameLedgers Mine (stands_by a s e, stands_by b t d)
        by-told x y (both_accepted {x = r} {y = r'} k) =
            record {
              masses = λ i m. k.repair.cells i (h.mine i m).0 (h.mine i m).1;
              sums = accepted-sum e p r x ∙ ap (λ o. o.total) k.balance ∙ sym (accepted-sum d q r' y);
              balance = k.balance;
              book = pair-region.books;
              length = k.length;
            }
        by-told x y (both_refused {number} {place}) =
            let one = (refused-keeps e p number place x).0 ∙ h.lent.kept in
            let other = (refused-keeps d q number place y).0 ∙ h.lent'.kept in
            record {
              masses = λ i m. ap (λ l. at l i) one ∙ z.masses i m ∙ sym (ap (λ l. at l i) other);
              sums = ap sum one ∙ z.sums ∙ sym (ap sum other);
              balance = z.balance;
              book = pair-region.books;
              length = z.length;
            }

-- ---- a start of a book in each run

starts-same :
    {Mine : ℕ → Type 0} {s t u w : Ledger} {e d : StartEvent} → e.buffer ≡ d.buffer → SameLedgers Mine (s, t) → LedgerMoves s (Act.starts e) u
    → LedgerMoves t (Act.starts d) w → SameLedgers Mine (u, w)
starts-same {e = e} {d} same z (LedgerMoves.starts {l = l} p a x) (LedgerMoves.starts {l = l'} q b y) =
    let total : e.total ≡ d.total = x ∙ ap (λ o. o.total) z.balance ∙ sym y in
    record {
      masses = z.masses;
      sums = z.sums;
      balance = z.balance;
      book =
          p.writes
          ∙ (λ i. after (book_start_verdict (total i) (same i)) (written (same i) 0 (book_bytes (book (total i) []))) (same i))
          ∙ sym q.writes;
      length = told-length p a ∙ sym (told-length q b);
    }
  where
    told-length : {e : StartEvent} {l : ℕ} → StartPromised e → e.answer ≡ Ok l → l ≡ 512
    told-length {e} {l} p a = (answered-accepted (book_start_verdict e.total e.buffer) l 512 (sym a ∙ p.answers)).1

-- ---- every two runs

pair-moves :
    {Mine : ℕ → Type 0} {s t u w : Ledger} {a b : Act} → EditedActs Mine s t a b → SameLedgers Mine (s, t) → LedgerMoves s a u → LedgerMoves t b w
    → SameLedgers Mine (u, w)
pair-moves {Mine} (EditedActs.steps {e} {d} h) z m n =
    subst (SameLedgers Mine) (λ i. (sym (stands_after m h.lent) i, sym (stands_after n h.lent') i)) (pair-stands e d h z (step-promised m) (step-promised n))
pair-moves (EditedActs.starts same) z m n = starts-same same z m n

-- the claim, of runs: from ledgers that are the same but for masses of other cells to such ledgers
pub runs-region : {Mine : ℕ → Type 0} {s t : Ledger × Ledger} {acts : List (Act × Act)} → SameLedgers Mine s → Run (EditedMoves Mine) s acts t → SameLedgers Mine t
runs-region z Run.done = z
runs-region z (Run.step m r) = runs-region (pair-moves m.edited z m.moves m.moves') r

-- both may start from one ledger
pub same-ledger : (Mine : ℕ → Type 0) (s : Ledger) → SameLedgers Mine (s, s)
same-ledger Mine s = record { masses = λ i m. refl; sums = refl; balance = refl; book = refl; length = refl }

-- and every two steps so given that keep Step's contract move both on
pub edited-always-moves :
    {Mine : ℕ → Type 0} (s t : Ledger) (e d : Event) → Promised e → Promised d → EditedCalls Mine s t e.call d.call
    → EditedMoves Mine (s, t) (Act.steps e, Act.steps d) (stands_by (told e) s e, stands_by (told d) t d)
edited-always-moves s t e d p q h =
    record {
      moves = ledger-always-moves s e p h.lent.kept h.lent.balance h.lent.book h.lent.length;
      moves' = ledger-always-moves t d q h.lent'.kept h.lent'.balance h.lent'.book h.lent'.length;
      edited = EditedActs.steps h;
    }
