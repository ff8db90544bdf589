-- Laws of reading and repairing a file: verdicts go by lengths, the front of a list that was read is what the file holds, and what the
-- contract alone says of a call. Assumes nothing.
use Rattle.std.specs.Prelude.{Ok, Err}
use mathlib.Core.Path.{◌≡◌, refl, sym, ◌∙◌, ap}
use Rattle.files_spec.specs.declared.Sizes.{Sizes}
use Rattle.files_spec.specs.declared.Repaired.{Repaired}
use mathlib.Core.List.{List, ◌++◌}
use Prim.Native.Nat.{ℕ, ◌*◌, ◌≤◌, ◌<◌}
use native.Mathlib.Nat.{sub-zero}
use native.Mathlib.Omega.{arith}
use lib.IntN.{ℤ, pos}
use lib.ListN.{length, take, drop, take-append-drop}
use lib.Seq.{length-take-le}
use borrow.Author.Tests.{le-leb}
use Rattle.numbers.specs.Lists.{list_to, written}
use Rattle.numbers.specs.Checks.{Checked, Answered, refused, answered, after, both}
use Rattle.numbers.proofs.CheckLaws.{both_first, both-pass, answered-accepted, answered-refused}
use Rattle.numbers.proofs.ListLaws.{length-list_to}
use Rattle.numbers.proofs.PartLaws.{put_back, front-written}
use Rattle.qlt_spec.specs.declared.Repair.{Repair}
use Rattle.qlt_spec.specs.Field.{Lists, nodes, scratch_per_node, max_scratch, field}
use Rattle.qlt_spec.specs.Masses.{tree_mass, tree_masses}
use Rattle.qlt_spec.specs.Operation.{reconstruct_call, reconstruct_verdict, repair, cleared, ReconstructContract}
use Rattle.qlt_spec.proofs.OperationLaws.{checks-by}
use Rattle.files_spec.specs.ReadField.{file_cells, file_nodes, file_total, head_verdict, read_verdict, ReadFits, lists_read, ReadContract, file_lists}
use Rattle.files_spec.proofs.FrontLaws.{held-sized, fronts-over}
use Rattle.files_spec.proofs.ReadLaws.{read_done, read-refused, read-accepts}
use Rattle.files_spec.specs.FieldFile.{fronts}
use Rattle.repair_file.specs.RepairFile.{largest, file_call, file_verdict, file_repair, file_masses, repaired_of, RepairsFile, front_call, beside, RepairsFronts}

-- ---- verdicts go by lengths

-- reading looks at the lent lists by their lengths alone
pub read-lengths :
    (file : List ℕ) (s t : Lists)
    → length s.targets ≡ length t.targets → length s.lows ≡ length t.lows → length s.highs ≡ length t.highs
    → length s.safe_lows ≡ length t.safe_lows → length s.safe_highs ≡ length t.safe_highs → length s.weights ≡ length t.weights
    → length s.parents ≡ length t.parents → read_verdict file s ≡ read_verdict file t
unfolding read_verdict head_verdict
read-lengths file s t a b c d e f g = rw (a, b, c, d, e, f, g)

-- lists that have room for every field
pub record Roomy (s : Lists) : Type 0 where
  pub targets : length s.targets ≡ 512
  pub lows : length s.lows ≡ 512
  pub highs : length s.highs ≡ 512
  pub safe_lows : length s.safe_lows ≡ 512
  pub safe_highs : length s.safe_highs ≡ 512
  pub weights : length s.weights ≡ 512
  pub parents : length s.parents ≡ 1024

pub read-largest : (file : List ℕ) (s : Lists) → Roomy s → read_verdict file s ≡ read_verdict file largest
read-largest file s r =
    read-lengths file s largest
    (r.targets ∙ sym (length-list_to 512 (λ i. pos 0)))
    (r.lows ∙ sym (length-list_to 512 (λ i. 0)))
    (r.highs ∙ sym (length-list_to 512 (λ i. 0)))
    (r.safe_lows ∙ sym (length-list_to 512 (λ i. 0)))
    (r.safe_highs ∙ sym (length-list_to 512 (λ i. 0)))
    (r.weights ∙ sym (length-list_to 512 (λ i. 0)))
    (r.parents ∙ sym (length-list_to 1024 (λ i. 0)))

-- Reconstruct looks at masses by their length, and asks of scratch that it is long enough
pub verdict-lengths :
    (f : Lists) (M : ℕ) (masses masses' : List ℕ) (scratch scratch' : List ℤ)
    → length masses ≡ length masses' → scratch_per_node * nodes f ≤ length scratch → scratch_per_node * nodes f ≤ length scratch'
    → reconstruct_verdict (reconstruct_call f M masses scratch) ≡ reconstruct_verdict (reconstruct_call f M masses' scratch')
unfolding reconstruct_verdict
verdict-lengths f M masses masses' scratch scratch' e h h' =
    checks-by scratch_per_node scratch_per_node f M masses masses' scratch scratch' e (le-leb _ _ h ∙ sym (le-leb _ _ h'))

-- ---- the front of a list

front {ℓ} : {X : Type ℓ} (l : List X) (n : ℕ) (f : ℕ → X) → take n (written l 0 (list_to n f)) ≡ list_to n f
front l n f = front-written l (list_to n f) n (length-list_to n f)

pub fronts-read : (file : List ℕ) (s : Lists) → fronts (file_cells file) (file_nodes file) (lists_read file s) ≡ file_lists file
fronts-read file s = fronts-over (file_cells file) (file_nodes file) s (file_lists file) (held-sized file)

-- ---- sizes of what a file holds

pub length-cells : (file : List ℕ) → length (file_lists file).targets ≡ file_cells file
length-cells file = (held-sized file).targets

pub length-nodes : (file : List ℕ) → nodes (file_lists file) ≡ file_nodes file
length-nodes file = (held-sized file).parents

pub masses-are : (file : List ℕ) → file_masses file ≡ list_to (file_cells file) (tree_mass (field (file_lists file)) (file_total file))
unfolding file_masses tree_masses
masses-are file = ap (λ k. list_to k (tree_mass (field (file_lists file)) (file_total file))) (length-cells file)

pub length-masses : (file : List ℕ) → length (file_masses file) ≡ file_cells file
length-masses file = ap length (masses-are file) ∙ length-list_to (file_cells file) _

-- ---- Reconstruct on the front of longer lists

pub beside-answered : (v : Checked) (n : ℕ) (r : Repair) → beside n (answered v r) ≡ answered v (record { cells = n; repair = r })
beside-answered (Ok tt) n r = refl
beside-answered (Err e) n r = refl

-- the part that was lent is put back before the rest
back : (v : Checked) (n : ℕ) (masses part new : List ℕ) → length new ≡ n → part ≡ after v new (take n masses)
    → part ++ drop n masses ≡ after v (written masses 0 new) masses
back (Ok tt) n masses part new h e = rw e (rw sub-zero at (put_back 0 n masses new (omega arith)))
back (Err r) n masses part new h e = rw e (take-append-drop n masses)

pub fronts-repaired :
    (n m M : ℕ) (s : Lists) (masses part : List ℕ) (scratch scratch' : List ℤ) (a : Answered Repair) (r : Answered Repaired) → n ≤ length s.targets
    → ReconstructContract (front_call n m M s masses scratch) a part scratch' → r ≡ beside n a
    → RepairsFronts n m M s masses scratch r (part ++ drop n masses) scratch'
unfolding tree_masses
fronts-repaired n m M s masses part scratch scratch' a r h p e =
    record {
      answers = e ∙ ap (beside n) p.answers;
      writes = back (reconstruct_verdict (front_call n m M s masses scratch)) n masses part (tree_masses (field (fronts n m s)) M) (length-list_to _ _ ∙ length-take-le n s.targets h) p.leaves.writes;
      leaves = p.leaves.clears;
    }

-- ---- the whole contract

module _ (file : List ℕ) (s : Lists) (roomy : Roomy s) where
  -- the verdict of a file that is refused by reading, and of one that is read
  unread-verdict : {number place : ℕ} → read_verdict file s ≡ refused number place → file_verdict file ≡ refused number place
  unfolding file_verdict
  unread-verdict e = ap (λ x. both x (both (reconstruct_verdict (file_call file)) (Ok tt))) (sym (read-largest file s roomy) ∙ e)

  read-verdict : read_verdict file s ≡ Ok tt → file_verdict file ≡ reconstruct_verdict (file_call file)
  unfolding file_verdict
  read-verdict e = ap (λ x. both x (both (reconstruct_verdict (file_call file)) (Ok tt))) (sym (read-largest file s roomy) ∙ e) ∙ both-pass (reconstruct_verdict (file_call file))

  reads-by : {r : Answered Sizes} {t : Lists} → ReadContract file s r t → t ≡ after (read_verdict file largest) (lists_read file s) s
  reads-by p = p.writes ∙ ap (λ x. after x (lists_read file s) s) (read-largest file s roomy)

  pub file-unread : (masses : List ℕ) (scratch : List ℤ) {number place : ℕ} {t : Lists}
      → ReadContract file s (refused number place) t → RepairsFile file s masses scratch (refused number place) t masses scratch
  file-unread masses scratch p =
      let f = unread-verdict (read-refused p).0 in
      record {
        answers = sym (ap (λ x. answered x (repaired_of file)) f);
        reads = reads-by p;
        writes = sym (ap (λ x. after x (written masses 0 (file_masses file)) masses) f);
        leaves = sym (ap (λ x. after x (cleared (scratch_per_node * file_nodes file) scratch) scratch) f);
      }

  module _ {t : Lists} {n m M : ℕ} (p : ReadContract file s (Ok (record { cells = n; nodes = m; total = M })) t) where
    fit : ReadFits file s
    fit = (read_done p).0

    -- the fronts of the lists that were read are the file's field
    pub same_lists : fronts n m t ≡ file_lists file
    same_lists = let e = (read_done p).1 in rw (e.0, e.1.0, e.1.1.1) (fronts-read file s)

    module _ (masses : List ℕ) (scratch : List ℤ) (few : length masses ≡ 512) (wide : length scratch ≡ max_scratch) where
      -- Reconstruct's verdict on them is that of the file's call
      pub front-verdict : reconstruct_verdict (front_call n m M t masses scratch) ≡ reconstruct_verdict (file_call file)
      front-verdict =
          let e = (read_done p).1 in
          let z : scratch_per_node * nodes (file_lists file) ≤ max_scratch = omega (arith, length-nodes file, fit.head.nodes_few) in
          let l : length (take n masses) ≡ file_cells file = length-take-le n masses (omega (arith, e.0, fit.head.few)) ∙ e.0 in
          ap (λ f. reconstruct_verdict (reconstruct_call f M (take n masses) scratch)) same_lists
          ∙ ap (λ k. reconstruct_verdict (reconstruct_call (file_lists file) k (take n masses) scratch)) e.1.1.0
          ∙ verdict-lengths (file_lists file) (file_total file) (take n masses) (list_to (file_cells file) (λ i. 0)) scratch (list_to (scratch_per_node * file_nodes file) (λ i. pos 0)) (l ∙ sym (length-list_to (file_cells file) (λ i. 0))) (omega arith) (omega (arith, length-nodes file, length-list_to (scratch_per_node * file_nodes file) (λ i. pos 0)))

      same-verdict : reconstruct_verdict (front_call n m M t masses scratch) ≡ file_verdict file
      same-verdict = front-verdict ∙ sym (read-verdict ((read-accepts file s).1 fit))

      pub file-read : (r : Answered Repaired) (masses' : List ℕ) (scratch' : List ℤ) → RepairsFronts n m M t masses scratch r masses' scratch' → RepairsFile file s masses scratch r t masses' scratch'
      unfolding file_repair file_masses
      file-read r masses' scratch' q =
          let e = (read_done p).1 in
          record {
            answers = q.answers ∙ rw (same-verdict, same_lists, e.0, e.1.1.0) (beside-answered (file_verdict file) (file_cells file) (repair (file_lists file) (file_total file)));
            reads = reads-by p;
            writes =
                q.writes
                ∙ ap (λ v. after v (written masses 0 (tree_masses (field (fronts n m t)) M)) masses) same-verdict
                ∙ ap (λ f. after (file_verdict file) (written masses 0 (tree_masses (field f) M)) masses) same_lists
                ∙ ap (λ k. after (file_verdict file) (written masses 0 (tree_masses (field (file_lists file)) k)) masses) e.1.1.0;
            leaves =
                q.leaves
                ∙ ap (λ v. after v (cleared (scratch_per_node * nodes (fronts n m t)) scratch) scratch) same-verdict
                ∙ ap (λ f. after (file_verdict file) (cleared (scratch_per_node * nodes f) scratch) scratch) same_lists
                ∙ ap (λ k. after (file_verdict file) (cleared (scratch_per_node * k) scratch) scratch) (length-nodes file);
          }

-- ---- from the contract alone

-- an accepted file: n and r are told, and `ts` and `ms` are the lists of targets and masses as they are left
pub record FileDone (file : List ℕ) (n : ℕ) (r : Repair) (ts : List ℤ) (ms : List ℕ) : Type 0 where
  pub accepts : file_verdict file ≡ Ok tt
  pub cells : n ≡ file_cells file
  pub repair : r ≡ file_repair file
  pub some : 0 < n
  pub few : n ≤ 512
  pub masses : take n ms ≡ file_masses file
  pub targets : take n ts ≡ (file_lists file).targets

module _ {file : List ℕ} {s t : Lists} {masses masses' : List ℕ} {scratch scratch' : List ℤ} where
  -- the masses of an accepted file stand at the front of their list
  pub left-masses : {a : Answered Repaired} → RepairsFile file s masses scratch a t masses' scratch' → file_verdict file ≡ Ok tt → take (file_cells file) masses' ≡ file_masses file
  left-masses p e = rw (p.writes, e, masses-are file) (front masses (file_cells file) _)

  pub file-done : {n : ℕ} {r : Repair} → RepairsFile file s masses scratch (Ok (record { cells = n; repair = r })) t masses' scratch' → FileDone file n r t.targets masses'
  unfolding file_verdict
  file-done {n} {r} p =
      let e = answered-accepted (file_verdict file) (record { cells = n; repair = r }) (repaired_of file) p.answers in
      let c : n ≡ file_cells file = ap (λ (z : Repaired). z.cells) e.1 in
      let v : read_verdict file largest ≡ (Ok tt) = both_first _ _ e.0 in
      let f = ((read-accepts file largest).0 v).head in
      let l = fronts-read file s in
      record {
        accepts = e.0;
        cells = c;
        repair = ap (λ (z : Repaired). z.repair) e.1;
        some = omega (arith, c, f.some);
        few = omega (arith, c, f.few);
        masses = ap (λ k. take k masses') c ∙ left-masses p e.0;
        targets = rw (p.reads, v, c) (ap (λ (z : Lists). z.targets) l);
      }

  pub file-refused : {number place : ℕ} → RepairsFile file s masses scratch (refused number place) t masses' scratch' → file_verdict file ≡ refused number place
  file-refused {number} {place} p = answered-refused (file_verdict file) (repaired_of file) number place p.answers
