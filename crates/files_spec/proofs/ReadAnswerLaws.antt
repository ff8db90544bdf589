-- What the verdict on an answer file means, and what the contract alone says of a call. Assumes
-- nothing.
use Rattle.std.specs.Prelude.{Ok}
use mathlib.Core.Path.{◌≡◌, refl, sym, ◌∙◌, ap, subst}
use Rattle.files_spec.specs.declared.Repaired.{Repaired}
use mathlib.Core.Logic.{◌↔◌}
use mathlib.Core.Bool.{Bool, true, false, cond}
use mathlib.Core.List.{List, [], ◌∷◌, ◌++◌}
use Prim.Native.Nat.{ℕ, ◌-◌, ◌≤◌, ◌<◌}
use native.Mathlib.Omega.{arith}
use native.Mathlib.Decide.{ℕ_discrete}
use borrow.Author.Tests.{lt-leb}
use lib.Dec.{leb}
use lib.ListN.{length}
use Rattle.numbers.specs.Sums.{ℕ_adds, sum_to}
use Rattle.numbers.specs.Lists.{at, list_to, written, sum}
use Rattle.numbers.specs.Checks.{refused, after, both, each_from, Decides, rule, Holds, Broken, DecidesAll, RefuseWith}
use Rattle.numbers.proofs.SumLaws.{sum_to-ext}
use Rattle.numbers.proofs.ListLaws.{length-list_to, get_d-list_to}
use Rattle.numbers.proofs.CheckLaws.{both_first, both-second, both-assoc, both-pass, each-ext, answered-accepted, answered-refused, decides-then, decides-none, alone, decides-append, decides-each, count-decides, long-decides}
use Rattle.numbers.proofs.ChainLaws.{refuse-with, refuse-each, refuse-append}
use Rattle.blocks.specs.Blocks.{block_of, payload_word, check_block, SoundBlock, SpareZero, block_rules}
use Rattle.block_tables.specs.Tables.{table_used, check_table, list_table}
use Rattle.blocks.proofs.BlockLaws.{sound-decides, spare-decides, block-decides}
use Rattle.blocks.proofs.FileLaws.{length-decides, blocks-decides, mark-decides, later-fits}
use Rattle.block_tables.proofs.TableLaws.{table_used-small, used-same, list_fits}
use Rattle.qlt_spec.specs.declared.Repair.{Repair}
use Rattle.files_spec.specs.AnswerFile.{mass_blocks, answer_blocks, head_used, answer_used, mass_word}
use Rattle.files_spec.specs.ReadAnswer.{answer_cells, answer_repair, answer_masses, max_answer_file, answer_head_verdict, answer_later_verdict, answer_sum_verdict, answer_read_verdict, answer_head_rules, answer_later_rules, answer_read_rules, AnswerHeadFits, AnswerMeasured, AnswerReadFits, answer_of, AnswerReadContract}
use Rattle.files_spec.proofs.WriteLaws.{outcome-decides, masses-decides}

-- ---- the blocks

-- no block uses more words than its payload has
pub answer-used-small : (n b : ℕ) → answer_used n b ≤ 125
unfolding answer_used
answer-used-small n b = go (leb b 1)
  where
    go : (p : Bool) → cond p head_used (table_used list_table n (b - 2)) ≤ 125
    go true = omega arith
    go false = table_used-small list_table list_fits n (b - 2)

-- a later block uses what the table of masses says
pub used-masses : (n b : ℕ) → 2 ≤ b → answer_used n b ≡ table_used list_table n (b - 2)
unfolding answer_used
used-masses n b l = rw (lt-leb b 1 (omega arith))

module _ (file : List ℕ) where
  abbrev n : ℕ
  n = answer_cells file

  abbrev k : ℕ
  k = answer_blocks n

  abbrev M : ℕ
  M = (answer_repair file).total

  -- ---- the repair

  -- before ticket 2 of 02 the words from 6 on were spare: they are 0 exactly if the spare words are, and the sum shared out is read as 0. So
  -- the files that were accepted then are those that are accepted now with 0
  pub older-shared : SpareZero file 6 1 ↔ (SpareZero file head_used 1 × ((answer_repair file).shared ≡ 0))
  older-shared = (
    λ z. ((λ i l h. z i (omega arith) h), rw (z 6 (omega arith) (omega arith), z 7 (omega arith) (omega arith))),
    λ t i l h. go t i l h (ℕ_discrete i 6) (ℕ_discrete i 7),
  )
    where
      go : SpareZero file head_used 1 × ((answer_repair file).shared ≡ 0) → (i : ℕ) → 6 ≤ i → i < 125 → Dec (i ≡ 6) → Dec (i ≡ 7) → payload_word file 1 i ≡ 0
      go t i l h (yes e) q = ap (payload_word file 1) e ∙ omega (arith, t.1)
      go t i l h (no d) (yes e) = ap (payload_word file 1) e ∙ omega (arith, t.1)
      go t i l h (no d) (no e) = t.0 i (omega arith) h

  -- ---- the masses

  pub length-masses : length (answer_masses file) ≡ n
  unfolding answer_masses
  length-masses = length-list_to n (mass_word file)

  -- their sum is that of the file's words
  pub masses-at : sum_to ℕ_adds n (at (answer_masses file)) ≡ sum_to ℕ_adds n (mass_word file)
  unfolding answer_masses
  masses-at = sum_to-ext ℕ_adds n (at (list_to n (mass_word file))) (mass_word file) (λ i l. get_d-list_to n (mass_word file) i 0 l)

  sum_first : sum (answer_masses file) ≡ sum_to ℕ_adds n (at (answer_masses file))
  sum_first = ap (λ i. sum_to ℕ_adds i (at (answer_masses file))) length-masses

  pub masses-sum : sum (answer_masses file) ≡ sum_to ℕ_adds n (mass_word file)
  masses-sum = sum_first ∙ masses-at

  -- ---- the later blocks and the sum

  later-decides : DecidesAll (answer_later_verdict file) (answer_later_rules file)
  unfolding answer_later_verdict answer_later_rules
  later-decides = decides-each (check_block file (answer_used n)) (block_rules file (answer_used n)) (λ b. block-decides file (answer_used n) b (answer-used-small n b)) 2 (k - 1)

  later-accepts : (answer_later_verdict file ≡ Ok tt) ↔ ((b : ℕ) → 2 ≤ b → b ≤ k → SoundBlock (block_of file b) b × SpareZero file (answer_used n b) b)
  unfolding answer_later_verdict
  later-accepts = later-fits file (answer_used n) (answer-used-small n) k

  -- the later blocks are those of the masses
  pub answer-later-table : answer_later_verdict file ≡ check_table list_table file 2 n
  unfolding answer_later_verdict check_table
  answer-later-table =
      let e : k - 1 ≡ mass_blocks n = omega arith in
      ap (each_from (check_block file (answer_used n)) 2) e
      ∙ each-ext _ _ 2 (mass_blocks n) (λ b l h. used-same file (answer_used n) (λ b. table_used list_table n (b - 2)) b (used-masses n b l))

  sum-decides : Decides (answer_sum_verdict file) (rule 12 (sum (answer_masses file) ≡ M))
  unfolding answer_sum_verdict
  sum-decides = subst (λ x. Decides (answer_sum_verdict file) (rule 12 (x ≡ M))) (sym sum_first) (masses-decides n (answer_masses file) M)

  -- ---- the verdict

  module _ (room : ℕ) where
    head-decides : DecidesAll (answer_head_verdict file room) (answer_head_rules file room)
    unfolding answer_head_verdict answer_head_rules
    head-decides =
        decides-then _ _ _ _ (length-decides max_answer_file (length file))
        (decides-then _ _ _ _ (sound-decides file 1)
        (decides-then _ _ _ _ (mark-decides file)
        (decides-then _ _ _ _ (outcome-decides (answer_repair file).outcome)
        (decides-then _ _ _ _ (spare-decides file head_used 1 (omega arith))
        (decides-then _ _ _ _ (count-decides n)
        (decides-then _ _ _ _ (blocks-decides (length file) k)
        (decides-then _ _ _ _ (long-decides room n) decides-none)))))))

    chain : answer_read_verdict file room ≡ both (both (answer_head_verdict file room) (answer_later_verdict file)) (answer_sum_verdict file)
    unfolding answer_read_verdict
    chain =
        ap (λ v. both (answer_head_verdict file room) (both (answer_later_verdict file) v)) (both-pass (answer_sum_verdict file))
        ∙ sym (both-assoc (answer_head_verdict file room) (answer_later_verdict file) (answer_sum_verdict file))

    -- accepted if every rule holds; refused with a number at a place if those before it hold and this one is broken there
    pub answer-read-decides : DecidesAll (answer_read_verdict file room) (answer_read_rules file room)
    answer-read-decides =
        subst (λ v. DecidesAll v (answer_read_rules file room)) (sym chain)
        (decides-append _ _ (answer_head_rules file room ++ answer_later_rules file) _
        (decides-append _ _ (answer_head_rules file room) (answer_later_rules file) head-decides later-decides)
        (alone _ _ sum-decides))

    head-rules : Holds (answer_head_rules file room) ↔ AnswerHeadFits file room
    unfolding answer_head_rules Holds
    head-rules = (
      λ h.
          record {
            whole = h.1.1.1.1.1.1.0;
            sound = h.1.0;
            mark = h.1.1.0;
            outcome = h.1.1.1.0;
            spare = h.1.1.1.1.0;
            some = h.1.1.1.1.1.0.0;
            few = h.1.1.1.1.1.0.1;
            room_for = h.1.1.1.1.1.1.1.0;
          },
      λ f. (
        (omega (arith, f.whole), (omega (arith, f.whole, f.few), omega (arith, f.whole))),
        (f.sound, (f.mark, (f.outcome, (f.spare, ((f.some, f.few), (f.whole, (f.room_for, tt))))))),
      ),
    )

    pub answer-head-accepts : (answer_head_verdict file room ≡ Ok tt) ↔ AnswerHeadFits file room
    answer-head-accepts = (λ e. head-rules.0 (head-decides.passes.0 e), λ f. head-decides.passes.1 (head-rules.1 f))

    pub answer-head-measured : AnswerHeadFits file room → AnswerMeasured file
    answer-head-measured f = record { whole = f.whole; some = f.some; few = f.few }

    pub answer-read-accepts : (answer_read_verdict file room ≡ Ok tt) ↔ AnswerReadFits file room
    answer-read-accepts = (
      λ e.
          let p = sym chain ∙ e in
          let q = both_first (both (answer_head_verdict file room) (answer_later_verdict file)) _ p in
          let l = later-accepts.0 (both-second (answer_head_verdict file room) _ q) in
          record {
            head = answer-head-accepts.0 (both_first _ _ q);
            sound = λ b i j. (l b i j).0;
            spare = λ b i j. (l b i j).1;
            adds_up = sum-decides.passes.0 (both-second (both (answer_head_verdict file room) (answer_later_verdict file)) _ p);
          },
      λ f.
          let h = answer-head-accepts.1 f.head in
          let l = later-accepts.1 (λ b i j. (f.sound b i j, f.spare b i j)) in
          let s = sum-decides.passes.1 f.adds_up in
          chain ∙ rw (h, l, s) refl,
    )

    pub answer-read-refuses : (number place : ℕ) → (answer_read_verdict file room ≡ refused number place) ↔ Broken (answer_read_rules file room) number place
    answer-read-refuses = answer-read-decides.fails

    -- the numbers
    pub answer-read-numbers : RefuseWith (answer_read_rules file room) (14 ∷ 15 ∷ 16 ∷ 1 ∷ 3 ∷ 12 ∷ [])
    unfolding answer_head_rules answer_later_rules
    answer-read-numbers =
        refuse-append (answer_head_rules file room ++ answer_later_rules file) (rule 12 (sum (answer_masses file) ≡ M) ∷ []) (14 ∷ 15 ∷ 16 ∷ 1 ∷ 3 ∷ []) (12 ∷ []) _
        (refuse-each (answer_head_rules file room) (block_rules file (answer_used n)) 2 _ _ (refuse-with (answer_head_rules file room) (14 ∷ 15 ∷ 16 ∷ 1 ∷ 3 ∷ []) refl refl) (λ b. refl))
        (refuse-with (rule 12 (sum (answer_masses file) ≡ M) ∷ []) (12 ∷ []) refl refl) refl refl

-- ---- from the contract alone

-- a file that was read fits; the answer is what block 1 says, and the masses are those of the file, later entries being untouched
pub answer-read-done : {file masses masses' : List ℕ} {n : ℕ} {r : Repair} → AnswerReadContract file masses (Ok (record { cells = n; repair = r })) masses' → AnswerReadFits file (length masses) × ((n ≡ answer_cells file) × ((r ≡ answer_repair file) × (masses' ≡ written masses 0 (answer_masses file))))
answer-read-done {file} {masses} {masses'} {n} {r} p =
    let e = answered-accepted (answer_read_verdict file (length masses)) (record { cells = n; repair = r }) (answer_of file) p.answers in (
      (answer-read-accepts file (length masses)).0 e.0,
      (ap (λ (z : Repaired). z.cells) e.1, (ap (λ (z : Repaired). z.repair) e.1, p.writes ∙ ap (λ v. after v (written masses 0 (answer_masses file)) masses) e.0)),
    )

-- a refused call left the masses as they were
pub answer-read-refused : {file masses masses' : List ℕ} {number place : ℕ} → AnswerReadContract file masses (refused number place) masses' → (answer_read_verdict file (length masses) ≡ refused number place) × (masses' ≡ masses)
answer-read-refused {file} {masses} {masses'} {number} {place} p =
    let e = answered-refused (answer_read_verdict file (length masses)) (answer_of file) number place p.answers in
    (e, p.writes ∙ ap (λ v. after v (written masses 0 (answer_masses file)) masses) e)
