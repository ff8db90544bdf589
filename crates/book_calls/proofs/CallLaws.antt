-- From an operation's contract to what its call returns and writes, accepted or refused. Assumes nothing.
use Rattle.std.specs.Prelude.{Ok, Err}
use mathlib.Core.Path.{◌≡◌, sym, ◌∙◌, ap}
use mathlib.Core.List.{List, [], ◌∷◌}
use Prim.Native.Nat.{ℕ, ◌≤◌}
use lib.ListN.{length}
use Rattle.numbers.specs.declared.Refusal.{Refusal}
use Rattle.numbers.specs.Lists.{written}
use Rattle.numbers.specs.Checks.{Answered, after, check_long}
use Rattle.numbers.proofs.CheckLaws.{answered-accepted, answered-refused, after-pass, after-fail}
use Rattle.blocks.specs.Words.{Bytes}
use Rattle.book_spec.specs.declared.BookReport.{BookReport}
use Rattle.book_spec.specs.Book.{book, book_bytes, book_of, report_of}
use Rattle.book_spec.specs.ReadBook.{book_verdict, BookReadContract}
use Rattle.book_spec.specs.StartBook.{book_start_verdict, BookStartContract}
use Rattle.call_values.specs.Values.{returned}
use Rattle.call_values.proofs.ValueLaws.{after-by, room, room-refused}
use Rattle.book_calls.specs.BookCalls.{start_values, book_start_call_verdict, BookStartReturns, report_values, book_report_call_verdict, report_words, BookReportReturns}

-- ---- start

module _ (total : ℕ) (buffer answer : List ℕ) where
  pub start-no-room :
      {refusal : Refusal} → Bytes buffer → check_long (length answer) start_values ≡ Err refusal
      → (Err refusal ≡ book_start_call_verdict total buffer answer) × BookStartReturns total buffer answer (returned (Err refusal)) buffer answer
  unfolding book_start_call_verdict
  start-no-room t h =
      let v = room-refused (length answer) start_values (book_start_verdict total buffer) h in
      (sym v, record { typed = t; returns = ap returned (sym v); writes = after-fail _ buffer v; tells = after-fail _ answer v })

  module _ {a : Answered ℕ} {buffer' : List ℕ} (p : BookStartContract total buffer a buffer') (h : start_values ≤ length answer) where
    -- with room the call's verdict is the operation's, so the buffer is left as the operation leaves it
    start-writes : buffer' ≡ after (book_start_call_verdict total buffer answer) (written buffer 0 (book_bytes (book total []))) buffer
    unfolding book_start_call_verdict
    start-writes = p.writes ∙ after-by _ buffer (sym (room (length answer) start_values (book_start_verdict total buffer) h))

    pub start-done :
        {l : ℕ} {answer' : List ℕ} → a ≡ Ok l → answer' ≡ written answer 0 (l ∷ [])
        → (Ok tt ≡ book_start_call_verdict total buffer answer) × BookStartReturns total buffer answer 0 buffer' answer'
    unfolding book_start_call_verdict
    start-done {l} e w =
        let t = answered-accepted (book_start_verdict total buffer) l 512 (sym e ∙ p.answers) in
        let v = room (length answer) start_values (book_start_verdict total buffer) h ∙ t.0 in (
          sym v,
          record {
            typed = p.typed;
            returns = ap returned (sym v);
            writes = start-writes;
            tells = after-pass answer v (w ∙ ap (λ x. written answer 0 (x ∷ [])) t.1);
          },
        )

    pub start-refused :
        {refusal : Refusal} → a ≡ Err refusal → (Err refusal ≡ book_start_call_verdict total buffer answer) × BookStartReturns total buffer answer (returned (Err refusal)) buffer' answer
    unfolding book_start_call_verdict
    start-refused e =
        let v = room (length answer) start_values (book_start_verdict total buffer) h ∙ answered-refused (book_start_verdict total buffer) 512 _ _ (sym e ∙ p.answers) in
        (sym v, record { typed = p.typed; returns = ap returned (sym v); writes = start-writes; tells = after-fail _ answer v })

-- ---- report

module _ (file answer : List ℕ) where
  pub report-no-room :
      {refusal : Refusal} → Bytes file → check_long (length answer) report_values ≡ Err refusal
      → (Err refusal ≡ book_report_call_verdict file answer) × BookReportReturns file answer (returned (Err refusal)) answer
  unfolding book_report_call_verdict
  report-no-room t h =
      let v = room-refused (length answer) report_values (book_verdict (length file) file) h in
      (sym v, record { typed = t; returns = ap returned (sym v); writes = after-fail _ answer v })

  module _ {a : Answered BookReport} (p : BookReadContract file a) (h : report_values ≤ length answer) where
    pub report-done :
        {b : BookReport} {answer' : List ℕ} → a ≡ Ok b → answer' ≡ written answer 0 (report_words b)
        → (Ok tt ≡ book_report_call_verdict file answer) × BookReportReturns file answer 0 answer'
    unfolding book_report_call_verdict
    report-done {b} e w =
        let t = answered-accepted (book_verdict (length file) file) b (report_of (book_of file)) (sym e ∙ p.answers) in
        let v = room (length answer) report_values (book_verdict (length file) file) h ∙ t.0 in (
          sym v,
          record {
            typed = p.typed;
            returns = ap returned (sym v);
            writes = after-pass answer v (w ∙ ap (λ x. written answer 0 (report_words x)) t.1);
          },
        )

    pub report-refused :
        {refusal : Refusal} → a ≡ Err refusal → (Err refusal ≡ book_report_call_verdict file answer) × BookReportReturns file answer (returned (Err refusal)) answer
    unfolding book_report_call_verdict
    report-refused e =
        let v = room (length answer) report_values (book_verdict (length file) file) h ∙ answered-refused (book_verdict (length file) file) (report_of (book_of file)) _ _ (sym e ∙ p.answers) in
        (sym v, record { typed = p.typed; returns = ap returned (sym v); writes = after-fail _ answer v })
