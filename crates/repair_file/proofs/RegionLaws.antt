-- Edits stay in their region, of two field files and of two calls that repair them, from their contracts alone. Assumes nothing.
use Rattle.std.specs.Prelude.{Ok}
use mathlib.Core.Path.{◌≡◌, sym, ◌∙◌, ap₂, subst}
use Rattle.files_spec.specs.declared.Repaired.{Repaired}
use mathlib.Core.List.{List, [], ◌∷◌}
use Prim.Native.Nat.{ℕ, ◌*◌}
use native.Mathlib.Omega.{arith}
use lib.IntN.{ℤ}
use lib.ListN.{length, take}
use Rattle.numbers.specs.Checks.{Answered, first}
use Rattle.numbers.proofs.ListLaws.{length-list_to}
use Rattle.qlt_spec.specs.Field.{Lists, scratch_per_node, field}
use Rattle.qlt_spec.specs.Facts.{FieldFacts}
use Rattle.qlt_spec.specs.Operation.{ValuesFit, repair}
use Rattle.qlt_spec.specs.Region.{PastSeven, SameRepair, SameTold}
use Rattle.qlt_spec.proofs.OperationLaws.{fits-facts}
use Rattle.qlt_spec.proofs.RegionCallLaws.{verdict-same, repair-same, told_same}
use Rattle.files_spec.specs.ReadField.{file_cells, file_nodes, file_total, ReadFits, file_lists}
use Rattle.files_spec.proofs.FrontLaws.{held-sized}
use Rattle.files_spec.proofs.ReadLaws.{read-accepts}
use Rattle.repair_file.specs.RepairFile.{largest, file_call, file_verdict, file_repair, file_masses, repaired_of, RepairsFile}
use Rattle.repair_file.specs.Region.{EditedFile, SameFiles, SameRepaired}
use Rattle.repair_file.proofs.FileLaws.{left-masses}
use Rattle.repair_file.proofs.VerdictLaws.{file-accepts}

-- a field that is read breaks none of 1 to 3: the call has masses for each cell, and as much scratch as is asked for
read-shape : {file : List ℕ} → ReadFits file largest → ValuesFit (file_lists file) → PastSeven (file_lists file) (length (file_call file).masses) (length (file_call file).scratch)
read-shape {file} h r =
    let z = held-sized file in
    let masses : length (file_call file).masses ≡ file_cells file = length-list_to (file_cells file) _ in
    let scratch : length (file_call file).scratch ≡ scratch_per_node * file_nodes file = length-list_to (scratch_per_node * file_nodes file) _ in
    record {
      shape =
          record {
            some = omega (arith, z.targets, h.head.some);
            few = omega (arith, z.targets, h.head.few);
            nodes_room = omega (arith, z.targets, z.parents, h.head.nodes_room);
            nodes_few = omega (arith, z.parents, h.head.nodes_few);
            lengths =
                record {
                  masses = masses ∙ sym z.targets;
                  lows = z.lows ∙ sym z.targets;
                  highs = z.highs ∙ sym z.targets;
                  safe_lows = z.safe_lows ∙ sym z.targets;
                  safe_highs = z.safe_highs ∙ sym z.targets;
                  weights = z.weights ∙ sym z.targets;
                  scratch = omega (arith, scratch, z.parents);
                };
          };
      values = r;
    }

module _ {file edited : List ℕ} {v : ℕ} (h : EditedFile file edited v) where
  past : PastSeven (file_lists file) (length (file_call file).masses) (length (file_call file).scratch)
  past = read-shape h.read h.values

  past' : PastSeven (file_lists edited) (length (file_call edited).masses) (length (file_call edited).scratch)
  past' = read-shape h.read' h.values'

  file-verdict-same : file_verdict file ≡ file_verdict edited
  unfolding file_verdict
  file-verdict-same =
      ap₂ (λ a b. first (a ∷ b ∷ []))
      ((read-accepts file largest).1 h.read ∙ sym ((read-accepts edited largest).1 h.read'))
      (verdict-same (file_call file) (file_call edited) past past' h.total h.fields)

  cells_same : file_cells file ≡ file_cells edited
  cells_same = sym (held-sized file).targets ∙ h.fields.tree.cells ∙ (held-sized edited).targets

  repairs-same : file_verdict file ≡ Ok tt → SameRepair (field (file_lists file)) v (file_repair file) (file_repair edited) (file_masses file) (file_masses edited)
  unfolding file_repair file_masses
  repairs-same e =
      subst (λ M. SameRepair (field (file_lists file)) v (repair (file_lists file) (file_total file)) (repair (file_lists edited) M) (file_masses file) (file_masses edited)) h.total
      (repair-same past past' h.fields
      (fits-facts (file_call file) ((file-accepts file).0 e).repair)
      (subst (λ M. FieldFacts (field (file_lists edited)) M (file_masses edited)) (sym h.total)
      (fits-facts (file_call edited) ((file-accepts edited).0 (sym file-verdict-same ∙ e)).repair)))

  -- the claim, of two files
  pub file-region : SameFiles file edited v
  file-region = record { verdict = file-verdict-same; cells = cells_same; repair = repairs-same }

  -- and of two calls that repair them
  module _ (a b : Answered Repaired) {s t s' t' : Lists} {xs ys xs' ys' : List ℕ} {scratch scratch' left left' : List ℤ} where
    pub repair-file-region :
        RepairsFile file s xs scratch a t xs' left → RepairsFile edited s' ys scratch' b t' ys' left'
        → SameTold (SameRepaired (field (file_lists file)) v xs' ys') a b
    repair-file-region p q = told_same (repaired_of file) (repaired_of edited) file-verdict-same p.answers q.answers same
      where
        same : file_verdict file ≡ Ok tt → SameRepaired (field (file_lists file)) v xs' ys' (repaired_of file) (repaired_of edited)
        same e =
            record {
              cells = cells_same;
              repair =
                  subst (λ l. SameRepair (field (file_lists file)) v (file_repair file) (file_repair edited) l (take (file_cells edited) ys')) (sym (left-masses p e))
                  (subst (SameRepair (field (file_lists file)) v (file_repair file) (file_repair edited) (file_masses file)) (sym (left-masses q (sym file-verdict-same ∙ e)))
                  (repairs-same e));
            }
