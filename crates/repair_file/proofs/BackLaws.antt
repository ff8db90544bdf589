-- The field in the bytes of a field that a file can hold is that field, and the file's verdict is Reconstruct's. Assumes nothing.
use Rattle.std.specs.Prelude.{Ok}
use mathlib.Core.Path.{◌≡◌, ◌∙◌, ap}
use Rattle.files_spec.specs.declared.Sizes.{Sizes}
use Prim.Native.Nat.{ℕ, ◌*◌}
use native.Mathlib.Omega.{arith}
use lib.IntN.{pos}
use lib.ListN.{length}
use Rattle.numbers.specs.Lists.{list_to}
use Rattle.numbers.specs.Checks.{both}
use Rattle.numbers.proofs.CheckLaws.{both-pass}
use Rattle.numbers.proofs.ListLaws.{length-list_to}
use Rattle.qlt_spec.specs.Field.{Lists, cells, nodes, scratch_per_node}
use Rattle.qlt_spec.specs.Operation.{reconstruct_call, reconstruct_verdict}
use Rattle.files_spec.specs.FieldFile.{field_bytes}
use Rattle.files_spec.specs.ReadField.{Room, file_cells, file_nodes, file_total, file_lists}
use Rattle.files_spec.specs.Stored.{Storable, FieldBack}
use Rattle.files_spec.proofs.BackLaws.{field_back}
use Rattle.repair_file.specs.RepairFile.{largest, file_call, file_verdict}

module _ (f : Lists) (M : ℕ) (g : Storable f M) where
  -- the largest lists have room for it
  room : Room (cells f) (nodes f) largest
  room =
      let signed : length largest.targets ≡ 512 = length-list_to 512 _ in
      let short : length largest.lows ≡ 512 = length-list_to 512 _ in
      let long : length largest.parents ≡ 1024 = length-list_to 1024 _ in
      let h = g.few in
      record {
        targets = omega (arith, h, signed);
        lows = omega (arith, h, short);
        highs = omega (arith, h, short);
        safe_lows = omega (arith, h, short);
        safe_highs = omega (arith, h, short);
        weights = omega (arith, h, short);
        parents = omega (arith, g.nodes_few, long);
      }

  back : FieldBack f M largest
  back = field_back f M g largest room

  same_cells : file_cells (field_bytes f M) ≡ cells f
  same_cells = ap (λ (z : Sizes). z.cells) back.sizes

  same_nodes : file_nodes (field_bytes f M) ≡ nodes f
  same_nodes = ap (λ (z : Sizes). z.nodes) back.sizes

  same_total : file_total (field_bytes f M) ≡ M
  same_total = ap (λ (z : Sizes). z.total) back.sizes

  same_lists : file_lists (field_bytes f M) ≡ f
  same_lists = back.held

pub stored-lists :
    (f : Lists) (M : ℕ) → Storable f M
    → (file_lists (field_bytes f M) ≡ f) × ((file_cells (field_bytes f M) ≡ cells f) × ((file_nodes (field_bytes f M) ≡ nodes f) × (file_total (field_bytes f M) ≡ M)))
stored-lists f M g = (same_lists f M g, (same_cells f M g, (same_nodes f M g, same_total f M g)))

pub stored-verdict :
    (f : Lists) (M : ℕ) → Storable f M
    → file_verdict (field_bytes f M) ≡ reconstruct_verdict (reconstruct_call f M (list_to (cells f) (λ i. 0)) (list_to (scratch_per_node * nodes f) (λ i. pos 0)))
unfolding file_verdict
stored-verdict f M g =
    ap (λ x. both x (both (reconstruct_verdict (file_call (field_bytes f M))) (Ok tt))) (back f M g).passes
    ∙ both-pass (reconstruct_verdict (file_call (field_bytes f M)))
    ∙ rw (same_lists f M g, same_cells f M g, same_nodes f M g, same_total f M g)
