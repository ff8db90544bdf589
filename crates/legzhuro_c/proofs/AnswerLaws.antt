-- What the file call's verdict means: of writing's checks only the buffer's length is left to fail; and what holds of the masses in its answer.
-- Assumes nothing.
use Rattle.std.specs.Prelude.{Ok, Err}
use mathlib.Core.Path.{◌≡◌, refl, sym, ◌∙◌, ap, subst}
use mathlib.Core.Logic.{inl, inr, ◌↔◌}
use mathlib.Core.List.{List, [], ◌∷◌}
use Prim.Native.Nat.{ℕ, ◌*◌, ◌≤◌}
use native.Mathlib.Omega.{arith}
use lib.Dec.{leb}
use lib.ListN.{length}
use borrow.Author.Tests.{leb-true, le-leb}
use Rattle.numbers.specs.Sums.{ℕ_adds, sum_to}
use Rattle.numbers.specs.Lists.{at}
use Rattle.numbers.specs.Checks.{Checked, refused, unless, both, first, rule, Broken, DecidesAll, RefuseWith}
use Rattle.numbers.proofs.TestLaws.{Tested, holds, fails, tested, clash, le-means}
use Rattle.numbers.proofs.CheckLaws.{on, last, both_first, both-second, decides-unless, decides-then, decides-none, decides-append}
use Rattle.numbers.proofs.ChainLaws.{refuse-with, refuse-append}
use Rattle.qlt_spec.specs.Field.{field, outcome_number, outcome}
use Rattle.qlt_spec.specs.declared.Outcome.{Outcome}
use Rattle.qlt_spec.specs.declared.Outcome.TheVariants.{Attainable, Below, Above}
use Rattle.qlt_spec.specs.Facts.{FieldFacts}
use Rattle.qlt_spec.specs.Operation.{repair}
use Rattle.qlt_spec.proofs.OperationLaws.{fits-facts}
use Rattle.files_spec.specs.ReadField.{file_cells, file_total, HeadFits, file_lists}
use Rattle.files_spec.specs.AnswerFile.{answer_blocks}
use Rattle.files_spec.specs.WriteAnswer.{WriteCall, write_call, write_verdict, write_rules, WriteFits}
use Rattle.files_spec.proofs.WriteLaws.{write-accepts, write-refuses}
use Rattle.repair_file.specs.RepairFile.{largest, file_call, file_verdict, file_rules, file_repair, file_masses}
use Rattle.repair_file.proofs.FileLaws.{length-cells, length-masses}
use Rattle.repair_file.proofs.VerdictLaws.{file-decides, file-accepts, file-numbers}
use Rattle.legzhuro_c.specs.Calls.{call_verdict, call_rules, CallFits}

number_small : (o : Outcome) → outcome_number o ≤ 2
unfolding outcome_number
number_small Attainable = omega arith
number_small Below = omega arith
number_small Above = omega arith

-- ---- a file that is accepted

module _ (file : List ℕ) (e : file_verdict file ≡ Ok tt) where
  head-fits : HeadFits file largest
  head-fits = ((file-accepts file).0 e).read.head

  -- all that holds of an accepted field holds of the masses in the answer
  pub file-facts : FieldFacts (field (file_lists file)) (file_total file) (file_masses file)
  unfolding file_masses
  file-facts = fits-facts (file_call file) ((file-accepts file).0 e).repair

  outcome-small : (file_repair file).outcome ≤ 2
  unfolding file_repair repair
  outcome-small = number_small (outcome (field (file_lists file)) (file_total file))

  adds_up : sum_to ℕ_adds (file_cells file) (at (file_masses file)) ≡ (file_repair file).total
  unfolding file_repair repair
  adds_up = subst (λ n. sum_to ℕ_adds n (at (file_masses file)) ≡ file_total file) (length-cells file) file-facts.total

  -- writing its answer asks for nothing but room
  pub answer-fits : (answer : List ℕ) → 512 * answer_blocks (file_cells file) ≤ length answer → WriteFits (write_call (file_cells file) (file_repair file) (file_masses file) answer)
  answer-fits answer h =
      record {
        some = head-fits.some;
        few = head-fits.few;
        space = h;
        masses = omega (arith, length-masses file);
        outcome = outcome-small;
        adds_up = adds_up;
      }

-- ---- the call

module _ (file answer : List ℕ) where
  abbrev w : WriteCall
  w = write_call (file_cells file) (file_repair file) (file_masses file) answer

  -- the buffer is long enough
  abbrev Space : Type 0
  Space = 512 * answer_blocks (file_cells file) ≤ length answer

  -- past reading and Reconstruct, writing asks for nothing else
  space-is : file_verdict file ≡ Ok tt → write_verdict w ≡ unless (leb (512 * answer_blocks (file_cells file)) (length answer)) 3 0
  space-is e = go (tested (leb (512 * answer_blocks (file_cells file)) (length answer)))
    where
      broken : (Space → ⊥) → Broken (write_rules w) 3 0
      broken n = unfold write_rules Broken in (inr (((head-fits file e).some, (head-fits file e).few), inl (refl, (refl, λ x. n x.0))))

      go : Tested (leb (512 * answer_blocks (file_cells file)) (length answer)) → write_verdict w ≡ unless (leb (512 * answer_blocks (file_cells file)) (length answer)) 3 0
      go (holds t) = (write-accepts w).1 (answer-fits file e answer (leb-true _ _ t)) ∙ sym (ap (λ b. unless b 3 0) t)
      go (fails t) = (write-refuses w 3 0).1 (broken (λ h. clash (le-leb _ _ h) t)) ∙ sym (ap (λ b. unless b 3 0) t)

  -- so the chain is that of reading and Reconstruct, then the buffer's length
  abbrev space : Checked
  space = unless (leb (512 * answer_blocks (file_cells file)) (length answer)) 3 0

  pub call-is : call_verdict file answer ≡ first (file_verdict file ∷ space ∷ [])
  unfolding call_verdict
  call-is = go (file_verdict file) refl
    where
      go : (v : Checked) → file_verdict file ≡ v → first (v ∷ write_verdict w ∷ []) ≡ first (v ∷ space ∷ [])
      go (Ok tt) e = ap (λ u. both u (Ok tt)) (space-is e)
      go (Err r) e = refl

  -- accepted if every rule holds; refused with a number at a place if those before it hold and this one is broken there
  pub call-decides : DecidesAll (call_verdict file answer) (call_rules file answer)
  call-decides =
      subst (λ v. DecidesAll v (call_rules file answer)) (sym call-is)
      (decides-append (file_verdict file) (first (space ∷ [])) (file_rules file) (rule 3 Space ∷ []) (file-decides file)
      (decides-then space (Ok tt) (rule 3 Space) [] (decides-unless _ 3 (le-means (512 * answer_blocks (file_cells file)) (length answer))) decides-none))

  pub call-refuses : (number place : ℕ) → (call_verdict file answer ≡ refused number place) ↔ Broken (call_rules file answer) number place
  call-refuses = call-decides.fails

  pub call-accepts : (call_verdict file answer ≡ Ok tt) ↔ CallFits file answer
  unfolding call_verdict
  call-accepts = (
    λ e.
        record {
          file_fits = (file-accepts file).0 (both_first (file_verdict file) _ e);
          space = ((write-accepts w).0 (both_first (write_verdict w) (Ok tt) (both-second (file_verdict file) _ e))).space;
        },
    λ h.
        let f = (file-accepts file).1 h.file_fits in
        sym (on f (last (write_verdict w) (sym ((write-accepts w).1 (answer-fits file f answer h.space))))),
  )

  -- it refuses with 01's numbers and no others
  pub call-numbers : RefuseWith (call_rules file answer) (14 ∷ 15 ∷ 16 ∷ 1 ∷ 2 ∷ 3 ∷ 4 ∷ 5 ∷ 6 ∷ 7 ∷ 8 ∷ [])
  call-numbers =
      refuse-append (file_rules file) (rule 3 Space ∷ []) _ (3 ∷ []) _ (file-numbers file) (refuse-with (rule 3 Space ∷ []) (3 ∷ []) refl refl) refl refl
