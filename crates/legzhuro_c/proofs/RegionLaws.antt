-- Edits stay in their region, of two calls on files and of two steps from C, from their contracts alone. Assumes nothing.
use Rattle.std.specs.Prelude.{Ok, Err}
use mathlib.Core.Path.{◌≡◌, refl, sym, ◌∙◌, ap, subst}
use mathlib.Core.List.{List, [], ◌∷◌}
use Prim.Native.Nat.{ℕ, ◌*◌, ◌≤◌}
use lib.Dec.{leb}
use lib.IntN.{ℤ}
use lib.ListN.{length}
use Rattle.numbers.specs.Lists.{written}
use Rattle.numbers.specs.Checks.{Checked, after, unless, first}
use Rattle.numbers.proofs.CheckLaws.{both_first}
use Rattle.qlt_spec.specs.Field.{field}
use Rattle.files_spec.specs.ReadField.{file_cells, file_lists}
use Rattle.files_spec.specs.AnswerFile.{answer_blocks, answer_bytes}
use Rattle.files_spec.proofs.FrontLaws.{held-sized}
use Rattle.repair_file.specs.RepairFile.{file_verdict, file_repair, file_masses}
use Rattle.repair_file.specs.Region.{EditedFile}
use Rattle.repair_file.proofs.RegionLaws.{file-region}
use Rattle.kept_spec.specs.Step.{StepCall}
use Rattle.kept_spec.specs.Region.{EditedStep, SameSteps}
use Rattle.kept_spec.proofs.RegionLaws.{step-region}
use Rattle.call_values.specs.Values.{told_by, step_values, result_in}
use Rattle.legzhuro_c.specs.Calls.{call_verdict, number_of, ReconstructReturns, StepReturns}
use Rattle.legzhuro_c.specs.Region.{SameReturns, both_written, both_refused}
use Rattle.legzhuro_c.proofs.AnswerLaws.{call-is}
use Rattle.legzhuro_c.proofs.OwnLaws.{step-own}

-- ---- the call on files

module _ {file edited : List ℕ} {v : ℕ} (h : EditedFile file edited v) (answer answer' : List ℕ) (room : length answer ≡ length answer') where
  call-verdict-same : call_verdict file answer ≡ call_verdict edited answer'
  call-verdict-same =
      call-is file answer
      ∙ (λ i. first ((file-region h).verdict i ∷ unless (leb (512 * answer_blocks ((file-region h).cells i)) (room i)) 3 0 ∷ []))
      ∙ sym (call-is edited answer')

  -- the claim, of the call on files
  pub call-region :
      {r q : ℕ} {left left' : List ℕ} → ReconstructReturns file answer r left → ReconstructReturns edited answer' q left'
      → SameReturns (field (file_lists file)) v answer left answer' left' r q
  call-region {r} {q} {left} {left'} k l = go (call_verdict file answer) refl
    where
      Same : ℕ → ℕ → Type 0
      Same a b = SameReturns (field (file_lists file)) v answer left answer' left' a b

      -- by the number that both return
      told : (w : Checked) → call_verdict file answer ≡ w → Same (number_of w) (number_of w) → Same r q
      told w e t =
          subst (λ a. Same a q) (sym (k.returns ∙ ap number_of e))
          (subst (Same (number_of w)) (sym (l.returns ∙ ap number_of (sym call-verdict-same ∙ e))) t)

      -- the number of cells in both answers is the field's
      cells_are : file_cells file ≡ (field (file_lists file)).n
      cells_are = sym (held-sized file).targets

      filed : (file : List ℕ) → ℕ → List ℕ → List ℕ
      filed f n a = written a 0 (answer_bytes n (file_repair f) (file_masses f))

      go : (w : Checked) → call_verdict file answer ≡ w → Same r q
      go (Ok tt) e =
          told (Ok tt) e
          (both_written
          (k.writes ∙ ap (λ u. after u (filed file (file_cells file) answer) answer) e ∙ ap (λ n. filed file n answer) cells_are)
          (l.writes
          ∙ ap (λ u. after u (filed edited (file_cells edited) answer') answer') (sym call-verdict-same ∙ e)
          ∙ ap (λ n. filed edited n answer') (sym (file-region h).cells ∙ cells_are))
          ((file-region h).repair (both_first (file_verdict file) _ (sym (call-is file answer) ∙ e))))
      go (Err r) e =
          told (Err r) e
          (both_refused
          (k.writes ∙ ap (λ u. after u (filed file (file_cells file) answer) answer) e)
          (l.writes ∙ ap (λ u. after u (filed edited (file_cells edited) answer') answer') (sym call-verdict-same ∙ e)))

-- ---- steps, by what is read off the return values and the lists of the answers

pub step-call-region :
    (c d : StepCall) {v : ℕ} → EditedStep c d v → (answer answer' : List ℕ) → step_values ≤ length answer → step_values ≤ length answer'
    → (r q : ℕ) (xs ys : List ℕ) (scratch scratch' : List ℤ) (book book' left left' : List ℕ)
    → StepReturns c answer r xs scratch book left → StepReturns d answer' q ys scratch' book' left'
    → SameSteps (field c.lists) v (told_by r (result_in c left)) (told_by q (result_in d left')) xs ys book book'
step-call-region c d {v} h answer answer' long long' r q xs ys scratch scratch' book book' left left' k l =
    step-region c d h (told_by r (result_in c left)) (told_by q (result_in d left')) (step-own c answer r xs scratch book left long k)
    (step-own d answer' q ys scratch' book' left' long' l)
