-- The concrete run of specs/Example.antt is a run, after an opening that is accepted: the checks of masses, and what they give, hold by computing; the
-- book's bytes are not computed, they are there by the laws of books. Assumes nothing.
use Rattle.std.specs.Prelude.{Ok}
use mathlib.Core.Path.{◌≡◌, refl, sym, ◌∙◌, ap, ap₂, subst}
use mathlib.Core.List.{List, [], ◌∷◌, ◌++◌, append-nil, map}
use Prim.Native.Nat.{ℕ, zero, suc, ◌*◌, ◌^◌, ◌≤◌, ◌<◌}
use native.Mathlib.Omega.{arith}
use lib.IntN.{pos, negsuc, ◌+ℤ◌, +ℤ_idr}
use lib.Signed.{◌≤ℤ◌, le_z_yes}
use lib.ListN.{length, replicate, length-replicate, get_or-replicate}
use Rattle.numbers.specs.Sums.{sum_to}
use Rattle.numbers.specs.Lists.{All, list_to, written}
use Rattle.numbers.specs.Signed.{min_ℤ, max_ℤ}
use Rattle.numbers.specs.Quota.{quota}
use Rattle.numbers.specs.Checks.{refused, each_from, first_from, check_count, check_scale, check_total, answered, after, max_total}
use Rattle.caas_spec.specs.Split.{clip, clipped, deficit, capacity, portion, first_share, remainder, left, second_share, shares, result}
use Rattle.qlt_spec.specs.Tree.{leads, child_of, any_child, node_sum, parent_ok, node_ok, mass_from, mass_at}
use Rattle.qlt_spec.specs.Field.{outcome, outcome_number, low_in, high_in, change_of}
use Rattle.qlt_spec.specs.Masses.{mass_between, group_of, tree_mass, tree_masses, shared_of, tree_shared}
use Rattle.qlt_spec.specs.Checks.{check_nodes, check_lists, check_tree, bounds_ordered, check_order, check_sum, check_reach, check_shape, check_values}
use Rattle.qlt_spec.specs.Operation.{repair, cleared}
use Rattle.blocks.specs.Words.{Bytes}
use Rattle.book_spec.specs.Book.{Entry, entry, unused, Book, book, count, entry_at, total_after, closing, add, max_entries, max_bytes, WellFormed, book_blocks}
use Rattle.book_spec.specs.LentBook.{HasBook}
use Rattle.book_spec.proofs.HeldLaws.{has-written, has-read}
use Rattle.book_spec.proofs.AddLaws.{add-closing}
use Rattle.book_spec.proofs.StartLaws.{empty-formed, empty-closing, book-start-accepts}
use Rattle.kept_spec.specs.Open.{open_verdict, OpenContract}
use Rattle.kept_spec.specs.Step.{StepCall, Typed, check_same_scale, check_kept, step_verdict}
use Rattle.kept_spec.specs.Run.{Run, collect}
use Rattle.kept_spec.specs.Account.{Promised, Moves, Account}
use Rattle.kept_spec.specs.BookRun.{StartEvent, StartPromised, Act, ledger, Lent, LedgerMoves, book_after, BookAccount}
use Rattle.kept_spec.specs.Example.{zeros, buffered, lent_book, book_start, first_entry, eighth_entry, one_record, two_records, begin, start_call, first_call, events, last, begin_ledger, acts, last_ledger, full_book, full_call}
use Rattle.kept_spec.proofs.StepLaws.{room-passes, refused-promised, accepted-promised, accepted-facts}
use Rattle.kept_spec.proofs.BookLaws.{Booking, ledger-run, book-demand3, full-refused}

-- ---- buffers

zeros-room : max_bytes ≤ length zeros
unfolding zeros
zeros-room = omega (arith, length-replicate {A = ℕ} max_bytes 0)

zeros-bytes : Bytes zeros
unfolding zeros
zeros-bytes = go max_bytes
  where
    go : (n : ℕ) → Bytes (replicate n 0)
    go zero i = omega arith
    go (suc n) zero = omega arith
    go (suc n) (suc i) = go n i

pub buffered-held : (B : Book) → WellFormed B → HasBook (buffered B) (512 * book_blocks (count B)) B
unfolding buffered
buffered-held B g = has-written zeros B zeros-room zeros-bytes g

pub lent_book-held : (total : ℕ) → total < 2 ^ 32 → HasBook (lent_book total) 512 (book total [])
lent_book-held total h = buffered-held (book total []) (empty-formed total h)

-- a call that is lent a book has bytes
pub typed : (c : StepCall) {B : Book} → HasBook c.book c.length B → negsuc 2147483647 ≤ℤ c.source → c.source ≤ℤ pos 2147483647 → Typed c
typed c h least most = record { bytes = h.bytes; least = least; most = most }

-- ---- the opening, and the start of a book

pub opens : OpenContract (3 ∷ 5 ∷ []) 20 (Ok begin.balance)
unfolding sum_to check_count check_scale check_total open_verdict
opens = record { answers = refl }

pub book-starts : (total : ℕ) → total ≤ max_total → StartPromised (book_start total)
unfolding buffered
book-starts total h =
    let e = (book-start-accepts total zeros).1 (record { room = zeros-room; small = h }) in
    record { typed = zeros-bytes; answers = ap (λ v. answered v 512) (sym e); writes = ap (λ v. after v (lent_book total) zeros) (sym e) }

pub starts : StartPromised start_call
starts = book-starts 8 (omega arith)

held_start : HasBook (lent_book 8) 512 (book 8 [])
held_start = lent_book-held 8 (omega arith)

-- ---- each call gives and leaves what Step's contract promises

-- the first then leaves a buffer that has its record
held_first : Promised first_call → HasBook one_record 512 (book 8 (first_entry ∷ []))
held_first p = subst (λ B. HasBook one_record 512 (add B first_entry)) (has-read held_start) (accepted-facts first_call p _ refl).filed.left

-- the refused ones whatever their book
contracts : All Promised events
unfolding sum_to list_to written min_ℤ max_ℤ quota each_from first_from check_count clip clipped deficit capacity portion first_share remainder left
    second_share shares result leads child_of any_child node_sum parent_ok node_ok mass_from mass_at mass_between outcome outcome_number low_in high_in change_of group_of
    tree_mass tree_masses shared_of tree_shared check_nodes check_lists check_tree bounds_ordered check_order check_sum check_reach check_shape check_values repair cleared
    check_total check_same_scale check_kept
contracts =
    let h = held_start in
    let a : Promised first_call = accepted-promised _ (typed _ h (le_z_yes tt) (le_z_yes tt)) (book 8 []) h (empty-closing 8) (omega arith) refl in
    let k = held_first a in
    let o = lent_book-held 7 (omega arith) in
    All.more a
    (All.more (refused-promised _ (typed _ k (le_z_yes tt) (le_z_yes tt)) k.room 8 0 refl)
    (All.more (refused-promised _ (typed _ k (le_z_yes tt) (le_z_yes tt)) k.room 12 0 refl)
    (All.more (refused-promised _ (typed _ k (le_z_yes tt) (le_z_yes tt)) k.room 17 0 refl)
    (All.more (refused-promised _ (typed _ k (le_z_yes tt) (le_z_yes tt)) k.room 17 0 refl)
    (All.more (refused-promised _ (typed _ k (le_z_yes tt) (le_z_yes tt)) k.room 3 0 refl)
    (All.more (refused-promised _ (typed _ o (le_z_yes tt) (le_z_yes tt)) o.room 3 0 refl)
    (All.more (accepted-promised _ (typed _ k (le_z_yes tt) (le_z_yes tt)) _ k (add-closing (book 8 []) first_entry) (omega arith) refl) All.none)))))))

-- ---- so they are a run

-- a call that is lent the whole buffer
whole : (stands left : List ℕ) {A : Type 0} → Lent stands stands left A left
whole stands left {A} = subst (λ t. Lent stands stands left A t) (append-nil left) (Lent.own [] [] (sym (append-nil stands)) (λ a. refl))

-- the refused calls were lent the whole list of masses, a part of it, or none of it, and the whole buffer or another one
runs : All Promised events → Run LedgerMoves begin_ledger acts last_ledger
runs (All.more a (All.more b (All.more c (All.more d (All.more e (All.more f (All.more g (All.more h All.none)))))))) =
    Run.step (LedgerMoves.starts starts refl refl)
    (Run.step (LedgerMoves.steps (Moves.lent [] [] a refl (λ x. (refl, refl))) (whole (lent_book 8) one_record) (λ x. refl))
    (Run.step (LedgerMoves.steps (Moves.lent [] [] b refl (λ x. absurd x)) (whole one_record one_record) (λ x. absurd x))
    (Run.step (LedgerMoves.steps (Moves.lent [] [] c refl (λ x. absurd x)) (whole one_record one_record) (λ x. absurd x))
    (Run.step (LedgerMoves.steps (Moves.lent [] [] d refl (λ x. absurd x)) (whole one_record one_record) (λ x. absurd x))
    (Run.step (LedgerMoves.steps (Moves.lent [] [] e refl (λ x. absurd x)) (whole one_record one_record) (λ x. absurd x))
    (Run.step (LedgerMoves.steps (Moves.lent (4 ∷ []) [] f refl (λ x. absurd x)) (whole one_record one_record) (λ x. absurd x))
    (Run.step (LedgerMoves.steps (Moves.elsewhere g (λ x. x)) (Lent.elsewhere (λ x. x)) (λ x. absurd x))
    (Run.step (LedgerMoves.steps (Moves.lent [] [] h refl (λ x. (refl, refl))) (whole one_record two_records) (λ x. refl)) Run.done))))))))

pub example-ledger : Run LedgerMoves begin_ledger acts last_ledger
example-ledger = runs contracts

-- and one without the book
pub example : Run Moves begin events last
unfolding collect
example = ledger-run example-ledger

-- so the theorems speak of it
accounts :
    Account begin.balance events last
    × ((before rest : List Act) (e : StartEvent) → acts ≡ before ++ (Act.starts e ∷ rest) → BookAccount (book_after rest (book e.total [])) last_ledger)
unfolding collect
accounts = book-demand3 (3 ∷ 5 ∷ []) 20 (Ok begin.balance) begin.balance opens refl zeros 0 acts last_ledger example-ledger

pub example-account : Account begin.balance events last
example-account = accounts.0

pub example-book : BookAccount (book 8 (first_entry ∷ eighth_entry ∷ [])) last_ledger
unfolding book_after
example-book = accounts.1 [] (map Act.steps events) start_call refl

-- ---- a call more, with a full book

-- a book of n records with source 0
module _ (total n : ℕ) where
  abbrev still : Entry
  still = entry (pos 0) 0 total

  abbrev B : Book
  B = book total (replicate n still)

  still-at : (i : ℕ) → i < count B → entry_at B i ≡ still
  still-at i h = get_or-replicate n i still unused (omega (arith, length-replicate n still))

  still-total : (i : ℕ) → i ≤ count B → total_after B i ≡ total
  unfolding total_after
  still-total zero h = refl
  still-total (suc i) h = ap (λ e. e.total) (still-at i h)

  still-closing : closing B ≡ total
  unfolding closing
  still-closing = still-total (count B) (omega arith)

  still_formed : n ≤ max_entries → total < 2 ^ 32 → WellFormed B
  still_formed few small =
      record {
        few = omega (arith, length-replicate n still);
        opening_word = small;
        total_word = λ i h. omega (arith, ap (λ e. e.total) (still-at i h));
        outcomes = λ i h. omega (arith, ap (λ e. e.outcome) (still-at i h));
        least = λ i h. subst (λ e. negsuc 2147483647 ≤ℤ e.source) (sym (still-at i h)) (le_z_yes tt);
        most = λ i h. subst (λ e. e.source ≤ℤ pos 2147483647) (sym (still-at i h)) (le_z_yes tt);
        follows = λ i h.
            ap pos (still-total (suc i) h)
            ∙ sym (+ℤ_idr (pos total))
            ∙ ap₂ (λ t e. pos t +ℤ e.source) (sym (still-total i (omega arith))) (sym (still-at i h));
      }

full-booking : Booking (ledger last (buffered full_book) max_bytes) full_book
full-booking =
    record {
      held =
          subst (λ l. HasBook (buffered full_book) l full_book) (ap (λ n. 512 * book_blocks n) (length-replicate max_entries (entry (pos 0) 0 6)))
          (buffered-held full_book (still_formed 6 max_entries (omega arith) (omega arith)));
      closes = still-closing 6 max_entries;
      small = omega arith;
    }

-- every other check passes
pub full-example : step_verdict full_call ≡ refused 21 0
unfolding sum_to each_from first_from check_count leads child_of any_child node_sum parent_ok node_ok check_nodes check_lists check_tree bounds_ordered check_order
    check_sum check_reach check_shape check_values check_total check_same_scale check_kept
full-example =
    full-refused (ledger last (buffered full_book) max_bytes) full_book full-booking full_call refl refl refl (room-passes full_call full-booking.held.room)
    (length-replicate max_entries (entry (pos 0) 0 6))
