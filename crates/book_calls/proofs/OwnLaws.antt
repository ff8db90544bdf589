-- Each call has its operation's own contract, read off the return value and the lent lists; with a list that is too short it writes nothing.
-- Assumes nothing.
use mathlib.Core.Path.{◌≡◌, refl, ◌∙◌, ap}
use mathlib.Core.List.{List, [], ◌∷◌}
use Prim.Native.Nat.{ℕ, ◌≤◌, ◌<◌}
use lib.ListN.{length}
use Rattle.numbers.specs.Lists.{at, written}
use Rattle.book_spec.specs.declared.BookReport.{BookReport}
use Rattle.book_spec.specs.Book.{book, book_bytes, book_of, report_of}
use Rattle.book_spec.specs.ReadBook.{book_verdict, BookReadContract}
use Rattle.book_spec.specs.StartBook.{book_start_verdict, BookStartContract}
use Rattle.book_spec.proofs.ReadLaws.{book-decides, book-numbers}
use Rattle.book_spec.proofs.StartLaws.{book-start-decides, book-start-numbers}
use Rattle.call_values.specs.Values.{returned, told_by}
use Rattle.call_values.proofs.ValueLaws.{after-by, room, no_room, Numbered, told-own, within-numbers, numbered}
use Rattle.book_calls.specs.BookCalls.{start_values, book_start_call_verdict, BookStartReturns, report_values, book_report_call_verdict, report_words, BookReportReturns, report_in}

-- ---- start

pub book-start-numbered : (total : ℕ) (buffer : List ℕ) → Numbered (book_start_verdict total buffer)
book-start-numbered total buffer = numbered _ (book-start-decides total buffer) (book-start-numbers total buffer) refl

length-read : (answer : List ℕ) (l : ℕ) → at (written answer 0 (l ∷ [])) 0 ≡ l
unfolding written
length-read answer l = refl

module _ (total : ℕ) (buffer answer : List ℕ) (r : ℕ) (buffer' answer' : List ℕ) (q : BookStartReturns total buffer answer r buffer' answer') where
  pub book-start-own : start_values ≤ length answer → BookStartContract total buffer (told_by r (at answer' 0)) buffer'
  unfolding book_start_call_verdict
  book-start-own h =
      let v = room (length answer) start_values (book_start_verdict total buffer) h in
      record {
        typed = q.typed;
        answers =
            told-own (book_start_verdict total buffer) r (at answer' 0) 512 (book-start-numbered total buffer) (q.returns ∙ ap returned v)
            (λ e. ap (λ x. at x 0) (q.tells ∙ after-by (written answer 0 (512 ∷ [])) answer (v ∙ e)) ∙ length-read answer 512);
        writes = q.writes ∙ after-by (written buffer 0 (book_bytes (book total []))) buffer v;
      }

  pub book-start-short : length answer < start_values → (r ≡ 3) × (buffer' ≡ buffer) × (answer' ≡ answer)
  unfolding book_start_call_verdict
  book-start-short h =
      let v = no_room (length answer) start_values (book_start_verdict total buffer) h in
      (q.returns ∙ ap returned v, q.writes ∙ after-by _ buffer v, q.tells ∙ after-by _ answer v)

-- ---- report

pub book-numbered : (file : List ℕ) → Numbered (book_verdict (length file) file)
book-numbered file = within-numbers _ (book-decides (length file) file) (book-numbers (length file) file) refl

report-read : (answer : List ℕ) (b : BookReport) → report_in (written answer 0 (report_words b)) ≡ b
unfolding written
report-read answer b = refl

module _ (file answer : List ℕ) (r : ℕ) (answer' : List ℕ) (q : BookReportReturns file answer r answer') where
  pub book-report-own : report_values ≤ length answer → BookReadContract file (told_by r (report_in answer'))
  unfolding book_report_call_verdict
  book-report-own h =
      let v = room (length answer) report_values (book_verdict (length file) file) h in
      let b = report_of (book_of file) in
      record {
        typed = q.typed;
        answers =
            told-own (book_verdict (length file) file) r (report_in answer') b (book-numbered file) (q.returns ∙ ap returned v)
            (λ e. ap report_in (q.writes ∙ after-by (written answer 0 (report_words b)) answer (v ∙ e)) ∙ report-read answer b);
      }

  pub book-report-short : length answer < report_values → (r ≡ 3) × (answer' ≡ answer)
  unfolding book_report_call_verdict
  book-report-short h =
      let v = no_room (length answer) report_values (book_verdict (length file) file) h in
      (q.returns ∙ ap returned v, q.writes ∙ after-by _ answer v)
