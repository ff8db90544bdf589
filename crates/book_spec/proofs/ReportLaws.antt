-- A book's account: its closing total is its opening total plus the recorded sources, and its report says so. Assumes nothing.
use Rattle.std.specs.Prelude.{Ok}
use mathlib.Core.Path.{◌≡◌, refl, sym, ◌∙◌, ap, subst}
use mathlib.Core.List.{List}
use Prim.Native.Nat.{ℕ, zero, suc, ◌+◌, ◌*◌, ◌/◌, ◌%◌, ◌≤◌, ◌<◌}
use native.Mathlib.Omega.{arith}
use lib.IntN.{ℤ, pos, ◌+ℤ◌, +ℤ_idr, +ℤ_assoc}
use lib.ListN.{length}
use Rattle.numbers.specs.Sums.{ℕ_adds, ℤ_adds, sum_to}
use Rattle.numbers.specs.Signed.{over, under}
use Rattle.numbers.proofs.SignedLaws.{add_parts}
use Rattle.numbers.proofs.SumLaws.{sum_to-ext, sum_to-parts}
use Rattle.blocks.specs.Words.{Bytes, word_signed}
use Rattle.blocks.specs.Blocks.{payload_word}
use Rattle.book_spec.specs.declared.BookReport.{BookReport}
use Rattle.book_spec.specs.Book.{Book, count, entry_at, total_after, closing, recorded, WellFormed, report_of, used_of, entry_of, book_of}
use Rattle.book_spec.specs.ReadBook.{BookFits, BookReadContract}
use Rattle.book_spec.proofs.ReadLaws.{book-read-done}
use Rattle.book_spec.proofs.MeansLaws.{read-formed, read-entry, read-closing}

module _ (B : Book) (g : WellFormed B) where
  abbrev source : ℕ → ℤ
  source i = (entry_at B i).source

  -- the total after i records is the opening total plus the first i sources
  pub after-sum : (i : ℕ) → i ≤ count B → pos (total_after B i) ≡ pos B.opening +ℤ sum_to ℤ_adds i source
  unfolding total_after sum_to
  after-sum zero l = sym (+ℤ_idr (pos B.opening))
  after-sum (suc i) l =
      g.follows i (omega arith)
      ∙ ap (λ x. x +ℤ source i) (after-sum i (omega arith))
      ∙ +ℤ_assoc (pos B.opening) (sum_to ℤ_adds i source) (source i)

  pub closing-recorded : pos (closing B) ≡ pos B.opening +ℤ recorded B
  unfolding closing recorded
  closing-recorded = after-sum (count B) (omega arith)

  -- the report: closing = opening + in − out
  pub report-balances : (report_of B).closing + (report_of B).outflow ≡ (report_of B).opening + (report_of B).inflow
  unfolding report_of recorded
  report-balances =
      omega (arith, ap over closing-recorded, ap under closing-recorded, add_parts (pos B.opening) (recorded B), sum_to-parts (count B) source)

-- a report that was given is that of a book whose totals follow, and balances
pub reported : {file : List ℕ} {r : BookReport} → BookReadContract file (Ok r) → (r ≡ report_of (book_of file)) × (r.closing + r.outflow ≡ r.opening + r.inflow)
reported {file} {r} p =
    let d = book-read-done p in
    (d.1, subst (λ q. q.closing + q.outflow ≡ q.opening + q.inflow) (sym d.1) (report-balances (book_of file) (read-formed file p.typed d.0)))

-- the sums as code makes them, from the word of each source
module _ (file : List ℕ) (y : Bytes file) (f : BookFits (length file) file) where
  abbrev source_word : ℕ → ℕ
  source_word i = payload_word file (1 + i / 41) (3 * (i % 41) + 1)

  source-read : (i : ℕ) → i < count (book_of file) → (entry_at (book_of file) i).source ≡ word_signed (source_word i)
  unfolding entry_of
  source-read i l = ap (λ e. e.source) (read-entry file y f i l)

  pub report-inflow : (report_of (book_of file)).inflow ≡ sum_to ℕ_adds (count (book_of file)) (λ i. over (word_signed (source_word i)))
  unfolding report_of
  report-inflow = sum_to-ext ℕ_adds (count (book_of file)) _ _ (λ i l. ap over (source-read i l))

  pub report-outflow : (report_of (book_of file)).outflow ≡ sum_to ℕ_adds (count (book_of file)) (λ i. under (word_signed (source_word i)))
  unfolding report_of
  report-outflow = sum_to-ext ℕ_adds (count (book_of file)) _ _ (λ i l. ap under (source-read i l))

  -- the two totals that are printed stand in the first block and in the last
  pub report-ends : ((report_of (book_of file)).opening ≡ payload_word file 1 0) × ((report_of (book_of file)).closing ≡ payload_word file (length file / 512) (3 * used_of file (length file / 512)))
  unfolding report_of book_of
  report-ends = (refl, read-closing file y f)
