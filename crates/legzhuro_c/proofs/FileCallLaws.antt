-- The file call's contract, by what repairing the file told and, of an accepted one, what writing the answer told. Assumes nothing.
use Rattle.std.specs.Prelude.{Ok, Err}
use mathlib.Core.Path.{◌≡◌, refl, sym, ◌∙◌, ap, subst}
use mathlib.Core.List.{List}
use Prim.Native.Nat.{ℕ, ◌*◌, ◌-◌}
use native.Mathlib.Nat.{sub-zero}
use lib.IntN.{ℤ}
use lib.ListN.{take}
use Rattle.numbers.specs.declared.Refusal.{Refusal}
use Rattle.numbers.specs.Lists.{written}
use Rattle.numbers.specs.Checks.{Checked, Answered, answered, after, both}
use Rattle.numbers.proofs.CheckLaws.{both-pass, answered-accepted, answered-refused}
use Rattle.qlt_spec.specs.declared.Repair.{Repair}
use Rattle.files_spec.specs.ReadField.{file_cells}
use Rattle.files_spec.specs.AnswerFile.{answer_blocks, answer_bytes}
use Rattle.files_spec.specs.WriteAnswer.{write_call, write_verdict, WriteContract}
use Rattle.repair_file.specs.RepairFile.{file_verdict, file_repair, file_masses}
use Rattle.repair_file.proofs.FileLaws.{FileDone}
use Rattle.legzhuro_c.specs.Calls.{call_verdict, number_of, ReconstructReturns}

-- the number of an answer is that of the verdict that it tells
abbrev written_number : Answered ℕ → ℕ
written_number (Ok l) = 0
written_number (Err r) = r.number

number-told : (w : Answered ℕ) (v : Checked) (l : ℕ) → w ≡ answered v l → written_number w ≡ number_of v
number-told (Ok k) v l e = sym (ap number_of (answered-accepted v k l e).0)
number-told (Err r) v l e = sym (ap number_of (answered-refused v l r.number r.place e))

module _ (file answer : List ℕ) where
  abbrev bytes : List ℕ
  bytes = answer_bytes (file_cells file) (file_repair file) (file_masses file)

  -- a file that is refused
  pub call-refused : {refusal : Refusal} → file_verdict file ≡ Err refusal → ReconstructReturns file answer (number_of (Err refusal)) answer
  unfolding call_verdict
  call-refused e =
      record {
        returns = rw e refl;
        writes = rw e refl;
      }

  -- an accepted one: the answer is that of the front of the masses
  module _ {n : ℕ} {r : Repair} {ts : List ℤ} {ms : List ℕ} {w : Answered ℕ} {answer' : List ℕ} (d : FileDone file n r ts ms) (p : WriteContract (write_call n r (take (n - 0) ms) answer) w answer') where
    by-answer : ReconstructReturns file answer (written_number w) answer'
    unfolding call_verdict
    by-answer =
        let v = write_verdict (write_call (file_cells file) (file_repair file) (file_masses file) answer) in
        let f : call_verdict file answer ≡ v = ap (λ x. both x (both v (Ok tt))) d.accepts ∙ both-pass v in
        let q : WriteContract (write_call (file_cells file) (file_repair file) (file_masses file) answer) w answer' = rw (sub-zero n, d.masses, d.repair, d.cells) at p in
        record {
          returns = number-told w v (512 * answer_blocks (file_cells file)) q.answers ∙ sym (ap number_of f);
          writes = q.writes ∙ sym (ap (λ x. after x (written answer 0 bytes) answer) f);
        }

    pub call-done : {l : ℕ} → w ≡ Ok l → ReconstructReturns file answer 0 answer'
    call-done e = subst (λ x. ReconstructReturns file answer (written_number x) answer') e by-answer

    pub call-no-room : {refusal : Refusal} → w ≡ Err refusal → ReconstructReturns file answer refusal.number answer'
    call-no-room e = subst (λ x. ReconstructReturns file answer (written_number x) answer') e by-answer
