-- The line of a query by the verdicts, as the code comes to them: of reading, of the cell's number, of Reconstruct. Assumes nothing.
use Rattle.std.specs.Prelude.{Ok}
use mathlib.Core.Path.{◌≡◌, sym, ◌∙◌, ap, ap₂}
use mathlib.Core.List.{List}
use Prim.Native.Nat.{ℕ}
use native.Mathlib.Omega.{arith}
use lib.IntN.{ℤ}
use lib.ListN.{length}
use Rattle.numbers.specs.Checks.{Checked, refused, both}
use Rattle.numbers.proofs.CheckLaws.{both-pass}
use Rattle.qlt_spec.specs.Field.{Lists, max_scratch, field, outcome, outcome_number}
use Rattle.qlt_spec.specs.Operation.{reconstruct_verdict}
use Rattle.files_spec.specs.FieldFile.{fronts}
use Rattle.files_spec.specs.ReadField.{file_cells, file_total, file_lists, read_verdict, ReadContract}
use Rattle.files_spec.proofs.ReadLaws.{read_done, read-refused, read-accepts}
use Rattle.repair_file.specs.RepairFile.{largest, file_call, front_call}
use Rattle.repair_file.proofs.FileLaws.{Roomy, read-largest, same_lists, front-verdict}
use Rattle.text.specs.Text.{refusal_line}
use Rattle.query_spec.specs.declared.Parts.{Parts}
use Rattle.query_spec.specs.Parts.{cell_parts}
use Rattle.query_spec.specs.Query.{check_cell, query_verdict, parts_line, refused_line, line_by, query_text}
use Rattle.query_spec.proofs.QueryLaws.{cell-decides, read-other, refused-other}

module _ (f : Lists) (M cell : ℕ) where
  -- ---- by Reconstruct's verdict

  pub line_refused : {v : Checked} {number place : ℕ} → v ≡ refused number place → refused_line number place f.safe_lows f.safe_highs M ≡ line_by v f M cell
  line_refused e = sym (ap (λ v. line_by v f M cell) e)

  pub line-parts :
      {v : Checked} {o : ℕ} {p : Parts} → v ≡ Ok tt → o ≡ outcome_number (outcome (field f) M) → p ≡ cell_parts (field f) M cell → parts_line o p ≡ line_by v f M cell
  line-parts e q t = ap₂ parts_line q t ∙ sym (ap (λ v. line_by v f M cell) e)

  -- ---- by that of the cell's number before it, which fails with 3

  pub line-no-cell : (n : ℕ) {number place : ℕ} (v : Checked) → check_cell cell n ≡ refused number place → refusal_line number place ≡ line_by (both (check_cell cell n) v) f M cell
  line-no-cell n {number} {place} v e =
      sym
      (ap (λ w. line_by (both w v) f M cell) e
      ∙ refused-other number place f.safe_lows f.safe_highs M (λ d. omega (arith, d, (((cell-decides cell n).fails number place).0 e).0)))

  pub line-cell : (n : ℕ) (v : Checked) → check_cell cell n ≡ Ok tt → line_by v f M cell ≡ line_by (both (check_cell cell n) v) f M cell
  line-cell n v e = sym (ap (λ w. line_by (both w v) f M cell) e)

-- ---- by reading's before both

module _ (file : List ℕ) (cell : ℕ) (s : Lists) (roomy : Roomy s) where
  -- what comes after it
  abbrev rest : Checked
  rest = both (check_cell cell (file_cells file)) (both (reconstruct_verdict (file_call file)) (Ok tt))

  pub line-unread : {number place : ℕ} {t : Lists} → ReadContract file s (refused number place) t → refusal_line number place ≡ query_text file cell
  unfolding query_text query_verdict
  line-unread {number} {place} p =
      let e : read_verdict file largest ≡ refused number place = sym (read-largest file s roomy) ∙ (read-refused p).0 in
      sym
      (ap (λ v. line_by (both v rest) (file_lists file) (file_total file) cell) e
      ∙ refused-other number place (file_lists file).safe_lows (file_lists file).safe_highs (file_total file) (read-other file e))

  pub line_read :
      {t : Lists} {n m M : ℕ} → ReadContract file s (Ok (record { cells = n; nodes = m; total = M })) t → (masses : List ℕ) (scratch : List ℤ) → length masses ≡ 512 → length scratch ≡ max_scratch
      → line_by (both (check_cell cell n) (reconstruct_verdict (front_call n m M t masses scratch))) (fronts n m t) M cell ≡ query_text file cell
  unfolding query_text query_verdict
  line_read {t} {n} {m} {M} p masses scratch few wide =
      let e = (read_done p).1 in
      let v : read_verdict file largest ≡ (Ok tt) = sym (read-largest file s roomy) ∙ (read-accepts file s).1 (read_done p).0 in
      ap (λ w. line_by (both (check_cell cell n) w) (fronts n m t) M cell) (front-verdict file s roomy p masses scratch few wide ∙ sym (both-pass (reconstruct_verdict (file_call file))))
      ∙ ap₂ (λ k g. line_by (both (check_cell cell k) (both (reconstruct_verdict (file_call file)) (Ok tt))) g M cell) e.0 (same_lists file s roomy p)
      ∙ ap (λ K. line_by rest (file_lists file) K cell) e.1.1.0
      ∙ sym (ap (λ w. line_by (both w rest) (file_lists file) (file_total file) cell) v)
