-- What the verdict of a file means: reading's rules, then Reconstruct's; and which numbers it refuses with. Assumes nothing.
use Rattle.std.specs.Prelude.{Ok}
use mathlib.Core.Path.{◌≡◌, refl, sym, subst}
use mathlib.Core.Logic.{◌↔◌}
use mathlib.Core.List.{List, [], ◌∷◌}
use Prim.Native.Nat.{ℕ}
use Rattle.numbers.specs.Checks.{refused, both, DecidesAll, Broken, RefuseWith}
use Rattle.numbers.proofs.CheckLaws.{on, last, both_first, both-second, both-pass, decides-append}
use Rattle.numbers.proofs.ChainLaws.{refuse-append}
use Rattle.qlt_spec.specs.Operation.{reconstruct_verdict, reconstruct_rules}
use Rattle.qlt_spec.proofs.OperationLaws.{reconstruct-decides, reconstruct-accepts, reconstruct-numbers}
use Rattle.files_spec.specs.ReadField.{read_verdict, read_rules}
use Rattle.files_spec.proofs.ReadLaws.{read-decides, read-accepts, read-numbers}
use Rattle.repair_file.specs.RepairFile.{largest, file_call, file_verdict, file_rules, FileFits}

module _ (file : List ℕ) where
  -- accepted if every rule holds; refused with a number at a place if those before it hold and this one is broken there
  pub file-decides : DecidesAll (file_verdict file) (file_rules file)
  unfolding file_verdict
  file-decides =
      decides-append (read_verdict file largest) (both (reconstruct_verdict (file_call file)) (Ok tt)) (read_rules file largest) (reconstruct_rules (file_call file)) (read-decides file largest)
      (subst (λ v. DecidesAll v (reconstruct_rules (file_call file))) (sym (both-pass (reconstruct_verdict (file_call file)))) (reconstruct-decides (file_call file)))

  pub file-refuses : (number place : ℕ) → (file_verdict file ≡ refused number place) ↔ Broken (file_rules file) number place
  file-refuses = file-decides.fails

  pub file-accepts : (file_verdict file ≡ Ok tt) ↔ FileFits file
  unfolding file_verdict
  file-accepts = (
    λ e.
        record {
          read = (read-accepts file largest).0 (both_first (read_verdict file largest) _ e);
          repair = (reconstruct-accepts (file_call file)).0 (both_first (reconstruct_verdict (file_call file)) (Ok tt) (both-second (read_verdict file largest) _ e));
        },
    λ f. sym (on ((read-accepts file largest).1 f.read) (last (reconstruct_verdict (file_call file)) (sym ((reconstruct-accepts (file_call file)).1 f.repair)))),
  )

  -- it refuses with 01's numbers and no others
  pub file-numbers : RefuseWith (file_rules file) (14 ∷ 15 ∷ 16 ∷ 1 ∷ 2 ∷ 3 ∷ 4 ∷ 5 ∷ 6 ∷ 7 ∷ 8 ∷ [])
  file-numbers = refuse-append (read_rules file largest) (reconstruct_rules (file_call file)) _ _ _ (read-numbers file largest) (reconstruct-numbers (file_call file)) refl refl
