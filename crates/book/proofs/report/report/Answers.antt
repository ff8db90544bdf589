-- `book::report::report` meets its contract: each number of the report is read off the file, or added up from it.
use mathlib.Core.Path.{◌≡◌, sym, ◌∙◌, ap}
use mathlib.Core.List.{List}
use Prim.Native.Nat.{ℕ, ◌+◌, ◌*◌, ◌/◌, ◌%◌}
use Rattle.numbers.specs.Sums.{ℕ_adds, sum_to}
use Rattle.numbers.specs.Signed.{over, under}
use Rattle.blocks.specs.Words.{Bytes, word_signed}
use Rattle.blocks.specs.Blocks.{payload_word}
use lib.IntN.{ℤ}
use Rattle.book_spec.specs.declared.BookReport.{BookReport}
use Rattle.book_spec.specs.Book.{report_of, book_of}
use Rattle.book_spec.proofs.ReportLaws.{report-inflow, report-outflow, report-ends}
use Rattle.book_spec.proofs.MeansLaws.{read-closing}
use Rattle.book.proofs.report.report.Goals as goal

abbrev source : List ℕ → ℕ → ℤ
source file i = word_signed (payload_word file (1 + i / 41) (3 * (i % 41) + 1))

-- a report is its four numbers
same : (r : BookReport) {opening inflow outflow closing : ℕ} → opening ≡ r.opening → inflow ≡ r.inflow → outflow ≡ r.outflow → closing ≡ r.closing → record { opening = opening; inflow = inflow; outflow = outflow; closing = closing } ≡ r
same r p q s t = rw (p, q, s, t)

pub returns : goal.returns
returns c =
    let file = c.args.file.now in
    let y : Bytes file = λ i. (c.type_inv.file i).fits in
    let n = c.count_of-n.ensures.0 in
    let ends = report-ends file y c.requires in
    same (report_of (book_of file))
    (c.payload_word-opening.ensures ∙ sym ends.0)
    (c.flows-inflow.ensures.inflow ∙ ap (λ k. sum_to ℕ_adds k (λ i. over (source file i))) n ∙ sym (report-inflow file y c.requires))
    (c.flows-inflow.ensures.outflow ∙ ap (λ k. sum_to ℕ_adds k (λ i. under (source file i))) n ∙ sym (report-outflow file y c.requires))
    (c.closing_of-closing.ensures ∙ read-closing file y c.requires ∙ sym ends.1)
