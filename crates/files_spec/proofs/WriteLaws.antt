-- What writing's verdict means, and the file part by part. Assumes
-- nothing.
use Rattle.std.specs.Prelude.{Ok}
use mathlib.Core.Path.{◌≡◌, refl, sym, ◌∙◌, ap}
use mathlib.Core.Logic.{◌↔◌}
use mathlib.Core.List.{List, [], ◌∷◌, ◌++◌}
use Prim.Native.Nat.{ℕ, ◌+◌, ◌*◌, ◌-◌, ◌≤◌}
use native.Mathlib.Omega.{arith}
use lib.ListN.{length, take}
use lib.Seq.{length-take-le, get_or-take}
use borrow.Author.Tests.{lt-leb}
use Rattle.numbers.specs.Sums.{ℕ_adds, sum_to}
use Rattle.numbers.specs.Lists.{at, written, sum}
use Rattle.numbers.specs.Checks.{refused, Decides, rule, rule_for, Holds, Broken, DecidesAll, RefuseWith}
use Rattle.numbers.proofs.TestLaws.{and-means, le-means, eq-means}
use Rattle.numbers.proofs.SumLaws.{sum_to-ext}
use Rattle.numbers.proofs.CheckLaws.{decides-for, decides-unless, decides-then, decides-none, count-decides}
use Rattle.numbers.proofs.ChainLaws.{refuse-with}
use Rattle.blocks.specs.Blocks.{block_bytes, file_bytes}
use Rattle.block_tables.specs.Tables.{table_bytes, list_table}
use Rattle.numbers.proofs.PartLaws.{written_on}
use Rattle.blocks.proofs.BlockLaws.{length-block_bytes}
use Rattle.block_tables.proofs.TableLaws.{list_fits, table-file}
use Rattle.qlt_spec.specs.declared.Repair.{Repair}
use Rattle.files_spec.specs.AnswerFile.{mass_blocks, answer_blocks, answer_head, mass_block, answer_words, answer_bytes}
use Rattle.files_spec.specs.WriteAnswer.{WriteCall, check_space, check_outcome, check_masses, write_verdict, write_rules, WriteFits}

-- ---- each check

pub space-decides : (n buffer masses : ℕ) → Decides (check_space n buffer masses) (rule 3 ((512 * answer_blocks n ≤ buffer) × (n ≤ masses)))
unfolding check_space
space-decides n buffer masses = decides-unless _ 3 (and-means (le-means (512 * answer_blocks n) buffer) (le-means n masses))

pub outcome-decides : (outcome : ℕ) → Decides (check_outcome outcome) (rule_for 16 1 (outcome ≤ 2))
unfolding check_outcome
outcome-decides outcome = decides-for _ 16 1 (le-means outcome 2)

pub masses-decides : (n : ℕ) (masses : List ℕ) (M : ℕ) → Decides (check_masses n masses M) (rule 12 (sum_to ℕ_adds n (at masses) ≡ M))
unfolding check_masses
masses-decides n masses M = decides-unless _ 12 (eq-means (sum_to ℕ_adds n (at masses)) M)

-- ---- the verdict

module _ (c : WriteCall) where
  -- accepted if every rule holds; refused with a number at a place if those before it hold and this one is broken there
  pub write-decides : DecidesAll (write_verdict c) (write_rules c)
  unfolding write_verdict write_rules
  write-decides =
      decides-then _ _ _ _ (count-decides c.cells)
      (decides-then _ _ _ _ (space-decides c.cells (length c.buffer) (length c.masses))
      (decides-then _ _ _ _ (outcome-decides c.repair.outcome)
      (decides-then _ _ _ _ (masses-decides c.cells c.masses c.repair.total) decides-none)))

  rules-fit : Holds (write_rules c) ↔ WriteFits c
  unfolding write_rules Holds
  rules-fit = (
    λ h. record { some = h.0.0; few = h.0.1; space = h.1.0.0; masses = h.1.0.1; outcome = h.1.1.0; adds_up = h.1.1.1.0 },
    λ f. ((f.some, f.few), ((f.space, f.masses), (f.outcome, (f.adds_up, tt)))),
  )

  pub write-accepts : (write_verdict c ≡ Ok tt) ↔ WriteFits c
  write-accepts = (λ e. rules-fit.0 (write-decides.passes.0 e), λ f. write-decides.passes.1 (rules-fit.1 f))

  pub write-refuses : (number place : ℕ) → (write_verdict c ≡ refused number place) ↔ Broken (write_rules c) number place
  write-refuses = write-decides.fails

  pub write-numbers : RefuseWith (write_rules c) (1 ∷ 3 ∷ 16 ∷ 12 ∷ [])
  unfolding write_rules
  write-numbers = refuse-with (write_rules c) (1 ∷ 3 ∷ 16 ∷ 12 ∷ []) refl refl

-- ---- the file

-- the sum of the first masses
pub sum-part : (n : ℕ) (masses : List ℕ) → n ≤ length masses → sum (take n masses) ≡ sum_to ℕ_adds n (at masses)
sum-part n masses h =
    ap (λ k. sum_to ℕ_adds k (at (take n masses))) (length-take-le n masses h)
    ∙ sum_to-ext ℕ_adds n (at (take n masses)) (at masses) (λ i l. get_or-take n masses i 0 l)

module _ (n : ℕ) (r : Repair) (masses : List ℕ) where
  -- the blocks after the first are those of the masses
  pub mass_words : (k : ℕ) → answer_words n r masses (2 + k) ≡ mass_block n masses k
  unfolding answer_words
  mass_words k =
      let e : 2 + k - 2 ≡ k = omega arith in
      rw (lt-leb (2 + k) 1 (omega arith), e)

  -- block 1, then the masses
  answer-parts : answer_bytes n r masses ≡ block_bytes 1 (answer_head n r) ++ table_bytes list_table n (λ i j. at masses i) 2 (mass_blocks n)
  unfolding answer_bytes file_bytes answer_words
  answer-parts = table-file list_table list_fits n (λ i j. at masses i) (answer_words n r masses) 1 2 (mass_blocks n) refl (λ k l. mass_words k)

  -- as the code writes them
  pub answer-written : (d : List ℕ) → written (written d 0 (block_bytes 1 (answer_head n r))) (512 * (2 - 1)) (table_bytes list_table n (λ i j. at masses i) 2 (mass_blocks n)) ≡ written d 0 (answer_bytes n r masses)
  answer-written d =
      written_on d (block_bytes 1 (answer_head n r)) (table_bytes list_table n (λ i j. at masses i) 2 (mass_blocks n)) 0 512 (omega arith) (omega (arith, length-block_bytes 1 (answer_head n r)))
      ∙ ap (written d 0) (sym answer-parts)
