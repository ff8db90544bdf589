-- The calls that write a field file and read an answer file: from the operation's contract to what the call returns and writes, and back.
-- Assumes nothing.
use Rattle.std.specs.Prelude.{Ok, Err}
use mathlib.Core.Path.{◌≡◌, refl, sym, ◌∙◌, ap, subst}
use Rattle.files_spec.specs.declared.Repaired.{Repaired}
use mathlib.Core.Logic.{◌↔◌}
use mathlib.Core.List.{List, ◌++◌}
use Prim.Native.Nat.{ℕ, ◌*◌, ◌-◌, ◌≤◌, ◌<◌}
use native.Mathlib.Nat.{sub-zero}
use native.Mathlib.Decide.{dec_lt}
use native.Mathlib.Omega.{arith}
use borrow.Author.Tests.{le-leb, lt-leb}
use lib.ListN.{length, take, drop, take-append-drop}
use lib.Seq.{length-take-le}
use Rattle.numbers.specs.declared.Refusal.{Refusal}
use Rattle.numbers.specs.Lists.{written}
use Rattle.numbers.specs.Checks.{Checked, Answered}
use Rattle.numbers.proofs.CheckLaws.{answered-accepted, answered-refused, after-pass, after-fail}
use Rattle.numbers.proofs.PartLaws.{part-written}
use Rattle.qlt_spec.specs.declared.Repair.{Repair}
use Rattle.files_spec.specs.FieldFile.{field_blocks}
use Rattle.files_spec.specs.WriteField.{FieldWriteCall, field_write_verdict, FieldWriteContract}
use Rattle.files_spec.specs.ReadAnswer.{answer_cells, answer_masses, answer_read_verdict, AnswerReadFits, answer_of, AnswerReadContract}
use Rattle.files_spec.proofs.WriteFieldLaws.{field-write-decides, field-write-numbers}
use Rattle.files_spec.proofs.ReadAnswerLaws.{length-masses, answer-read-decides, answer-read-numbers, answer-read-accepts, answer-read-done, answer-read-refused}
use Rattle.call_values.specs.Values.{returned, told_by}
use Rattle.call_values.proofs.ValueLaws.{after-by, Numbered, told-own, numbered}
use Rattle.legzhuro_c.specs.FileCalls.{WriteFieldReturns, read_values, answer_room, read_answer_verdict, ReadAnswerFits, repaired_words, ReadAnswerReturns, repaired_in}

-- ---- Write a field file

module _ {c : FieldWriteCall} {a : Answered ℕ} {buffer : List ℕ} (p : FieldWriteContract c a buffer) where
  pub write-field-done : {l : ℕ} → a ≡ Ok l → WriteFieldReturns c 0 buffer
  write-field-done {l} e =
      let v = (answered-accepted (field_write_verdict c) l (512 * field_blocks c.cells c.nodes) (sym e ∙ p.answers)).0 in
      record { typed = p.typed; returns = ap returned (sym v); writes = p.writes }

  pub write-field-refused : {refusal : Refusal} → a ≡ Err refusal → WriteFieldReturns c (returned (Err refusal)) buffer
  write-field-refused e =
      let v = answered-refused (field_write_verdict c) (512 * field_blocks c.cells c.nodes) _ _ (sym e ∙ p.answers) in
      record { typed = p.typed; returns = ap returned (sym v); writes = p.writes }

-- the call has the operation's own contract
pub write-field-numbered : (c : FieldWriteCall) → Numbered (field_write_verdict c)
write-field-numbered c = numbered _ (field-write-decides c) (field-write-numbers c) refl

pub write-field-own : (c : FieldWriteCall) (r : ℕ) (buffer : List ℕ) → WriteFieldReturns c r buffer → FieldWriteContract c (told_by r (512 * field_blocks c.cells c.nodes)) buffer
write-field-own c r buffer q =
    let l : ℕ = 512 * field_blocks c.cells c.nodes in
    record {
      typed = q.typed;
      answers = told-own (field_write_verdict c) r l l (write-field-numbered c) q.returns (λ e. refl);
      writes = q.writes;
    }

-- ---- Read an answer

-- the room for masses
room-long : (masses answer : ℕ) → read_values ≤ answer → answer_room masses answer ≡ masses
room-long masses answer h = rw (le-leb read_values answer h)

room-short : (masses answer : ℕ) → answer < read_values → answer_room masses answer ≡ 0
room-short masses answer h = rw (lt-leb read_values answer h)

room-some : (masses answer n : ℕ) → 0 < n → n ≤ answer_room masses answer → read_values ≤ answer
room-some masses answer n z h = go (dec_lt answer read_values)
  where
    go : Dec (answer < read_values) → read_values ≤ answer
    go (yes l) = absurd (omega (arith, room-short masses answer l))
    go (no l) = omega arith

pub room_in : (masses answer : ℕ) → answer_room masses answer ≤ masses
room_in masses answer = go (dec_lt answer read_values)
  where
    go : Dec (answer < read_values) → answer_room masses answer ≤ masses
    go (yes l) = omega (arith, room-short masses answer l)
    go (no l) = omega (arith, room-long masses answer (omega arith))

-- a call is accepted exactly if the operation is and there is room for the values
pub read-answer-accepts : (file masses answer : List ℕ) → (read_answer_verdict file masses answer ≡ Ok tt) ↔ ReadAnswerFits file masses answer
unfolding read_answer_verdict
read-answer-accepts file masses answer =
    let k : ℕ = answer_room (length masses) (length answer) in
    let t = answer-read-accepts file k in (
      λ e.
          let f = t.0 e in
          let h : read_values ≤ length answer = room-some (length masses) (length answer) (answer_cells file) f.head.some f.head.room_for in
          record { read = subst (AnswerReadFits file) (room-long (length masses) (length answer) h) f; values = h },
      λ f. t.1 (subst (AnswerReadFits file) (sym (room-long (length masses) (length answer) f.values)) f.read),
    )

-- the part of the list that is lent, k entries, comes back before the rest
module _ (file masses answer : List ℕ) (k : ℕ) (d : k ≡ answer_room (length masses) (length answer)) where
  lent : length (take k masses) ≡ k
  lent = length-take-le k masses (omega (arith, room_in (length masses) (length answer)))

  same : answer_read_verdict file (length (take k masses)) ≡ read_answer_verdict file masses answer
  unfolding read_answer_verdict
  same = ap (answer_read_verdict file) (lent ∙ d)

  module _ {a : Answered Repaired} {part : List ℕ} (part-read : AnswerReadContract file (take (k - 0) masses) a part) where
    p : AnswerReadContract file (take k masses) a part
    p = subst (λ i. AnswerReadContract file (take i masses) a part) (sub-zero k) part-read

    module _ {n : ℕ} {x : Repair} (e : a ≡ Ok (record { cells = n; repair = x })) where
      done : AnswerReadFits file (length (take k masses)) × ((n ≡ answer_cells file) × ((x ≡ (answer_of file).repair) × (part ≡ written (take k masses) 0 (answer_masses file))))
      done = answer-read-done (subst (λ b. AnswerReadContract file (take k masses) b part) e p)

      -- there is room for the values
      pub read-answer-room : read_values ≤ length answer
      read-answer-room = let f = done.0.head in room-some (length masses) (length answer) (answer_cells file) f.some (omega (arith, f.room_for, lent))

      pub read-answer-done :
          {answer' : List ℕ} → answer' ≡ written answer 0 (repaired_words (record { cells = n; repair = x }))
          → ReadAnswerReturns file masses answer 0 (part ++ drop (k - 0) masses) answer'
      read-answer-done w =
          let f = done in
          let v = sym same ∙ (answer-read-accepts file (length (take k masses))).1 f.0 in
          let l : length (answer_masses file) ≤ k = omega (arith, length-masses file, f.0.head.room_for, lent) in
          record {
            bytes = p.bytes;
            returns = ap returned (sym v);
            writes = after-pass masses v (rw (sub-zero k, f.1.1.1) (part-written k masses (answer_masses file) l));
            tells = after-pass answer v (w ∙ rw (f.1.0, f.1.1.0));
          }

    pub read-answer-refused :
        {refusal : Refusal} → a ≡ Err refusal
        → ReadAnswerReturns file masses answer (returned (Err refusal)) (part ++ drop (k - 0) masses) answer
    read-answer-refused e =
        let f = answer-read-refused (subst (λ b. AnswerReadContract file (take k masses) b part) e p) in
        let v = sym same ∙ f.0 in
        record {
          bytes = p.bytes;
          returns = ap returned (sym v);
          writes = rw (sub-zero k, f.1) (take-append-drop k masses) ∙ after-fail _ masses v;
          tells = after-fail _ answer v;
        }

-- the call has the operation's own contract, if there is room for its values; else it is refused and writes nothing
pub read-answer-numbered : (file : List ℕ) (k : ℕ) → Numbered (answer_read_verdict file k)
read-answer-numbered file k = numbered _ (answer-read-decides file k) (answer-read-numbers file k) refl

repaired-read : (answer : List ℕ) (x : Repaired) → repaired_in (written answer 0 (repaired_words x)) ≡ x
unfolding written
repaired-read answer x = refl

module _ (file masses answer : List ℕ) (r : ℕ) (masses' answer' : List ℕ) (q : ReadAnswerReturns file masses answer r masses' answer') where
  pub read-answer-own : read_values ≤ length answer → AnswerReadContract file masses (told_by r (repaired_in answer')) masses'
  unfolding read_answer_verdict
  read-answer-own h =
      let v : read_answer_verdict file masses answer ≡ answer_read_verdict file (length masses) = ap (answer_read_verdict file) (room-long (length masses) (length answer) h) in
      let x = answer_of file in
      record {
        bytes = q.bytes;
        answers =
            told-own (answer_read_verdict file (length masses)) r (repaired_in answer') x (read-answer-numbered file (length masses)) (q.returns ∙ ap returned v)
            (λ e. ap repaired_in (q.tells ∙ after-by (written answer 0 (repaired_words x)) answer (v ∙ e)) ∙ repaired-read answer x);
        writes = q.writes ∙ after-by (written masses 0 (answer_masses file)) masses v;
      }

  pub read-answer-short : length answer < read_values → (0 < r) × ((masses' ≡ masses) × (answer' ≡ answer))
  read-answer-short h = go (read_answer_verdict file masses answer) refl
    where
      go : (v : Checked) → read_answer_verdict file masses answer ≡ v → (0 < r) × ((masses' ≡ masses) × (answer' ≡ answer))
      go (Ok tt) e = absurd (omega (arith, ((read-answer-accepts file masses answer).0 e).values))
      go (Err r) e =
          let n = read-answer-numbered file (answer_room (length masses) (length answer)) r.number r.place (unfold read_answer_verdict in e) in
          (omega (arith, q.returns ∙ ap returned e, n.0), (q.writes ∙ after-by _ masses e, q.tells ∙ after-by _ answer e))
