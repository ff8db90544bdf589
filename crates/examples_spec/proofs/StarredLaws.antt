-- 01's starred examples and that of ticket 6 of 02 hold: one fact over the whole table. The bytes of E1's file go by the law that what is
-- written is read back; all else is computed. Assumes nothing.
use Rattle.std.specs.Prelude.{Ok}
use mathlib.Core.Path.{◌≡◌, refl, ◌∙◌, ap, ap₂}
use mathlib.Core.List.{List, [], ◌∷◌, map}
use Prim.Native.Nat.{ℕ, zero, suc, ◌*◌, ◌^◌, ◌<◌}
use native.Mathlib.Omega.{arith}
use lib.IntN.{pos, negsuc}
use lib.Ieee.{of_bits}
use lib.Signed.{◌≤ℤ◌}
use Rattle.numbers.specs.Sums.{sum_to}
use Rattle.numbers.specs.Lists.{at_ℤ, list_to}
use Rattle.numbers.specs.Signed.{min_ℤ, max_ℤ}
use Rattle.numbers.specs.Quota.{quota}
use Rattle.numbers.specs.Checks.{each_from, first_from, every_from, check_count, check_scale}
use Rattle.caas_spec.specs.Split.{clip, clipped, deficit, capacity, portion, first_share, remainder, left, second_share, shares, result}
use Rattle.caas_spec.specs.Operation as caas
use Rattle.caas_spec.specs.Operation.{check_lengths, check_highs, check_weights, split_verdict, split_masses, split_deficit}
use Rattle.scratch_spec.specs.Columns.{width}
use Rattle.qlt_spec.specs.Tree.{leads, child_of, any_child, node_sum, parent_ok, node_ok, mass_from, mass_at}
use Rattle.qlt_spec.specs.Field.{Lists, cells, nodes, field, outcome, outcome_number, low_in, high_in, change_of}
use Rattle.qlt_spec.specs.Masses.{mass_between, group_of, tree_mass, tree_masses, shared_of, tree_shared}
use Rattle.qlt_spec.specs.Checks.{check_nodes, check_lists, check_tree, bounds_ordered, check_order, check_sum, check_reach, check_shape, check_values}
use Rattle.qlt_spec.specs.Operation.{ReconstructCall, reconstruct_call, reconstruct_verdict, repair}
use Rattle.doubles_spec.specs.Import.{check_finite, check_target, check_bound, import_verdict, import_units, carried}
use Rattle.blocks.specs.Words.{Words}
use Rattle.files_spec.specs.FieldFile.{field_bytes}
use Rattle.files_spec.specs.Stored.{Storable}
use Rattle.repair_file.specs.RepairFile.{file_repair, file_masses}
use Rattle.repair_file.proofs.BackLaws.{stored-lists, stored-verdict}
use Rattle.text.specs.Ascii.{ascii}
use Rattle.text.specs.Text.{digits_of, signed_number}
use Rattle.listing.specs.Listing.{head_line, cell_line, cell_lines, listing}
use Rattle.report.specs.Report.{text_by, report_text}
use Rattle.query_spec.specs.Parts.{split_parts, cell_parts}
use Rattle.query_spec.specs.Query.{parts_line, query_text}
use Rattle.query_spec.proofs.QueryLaws.{query-repaired, text-parts}
use Rattle.examples_spec.specs.Starred.{gives, text, Row, rows, others, e1_lists}

-- ---- the text for the file of a field that is accepted

-- Reconstruct's call for it
abbrev call_of : Lists → ℕ → ReconstructCall
call_of f M = reconstruct_call f M (list_to (cells f) (λ i. 0)) (list_to (width * nodes f) (λ i. pos 0))

text_of : (f : Lists) (M : ℕ) → Storable f M → reconstruct_verdict (call_of f M) ≡ Ok tt → report_text (field_bytes f M) ≡ listing (cells f) (repair f M) (tree_masses (field f) M) f.targets
unfolding report_text file_repair file_masses
text_of f M g e =
    let s = stored-lists f M g in
    ap (λ v. text_by v (field_bytes f M)) (stored-verdict f M g ∙ e)
    ∙ rw (s.0, s.1.0, s.1.1.1)

-- the line for one of its cells
query-of :
    (f : Lists) (M cell : ℕ) → Storable f M → reconstruct_verdict (call_of f M) ≡ Ok tt → cell < cells f
    → query_text (field_bytes f M) cell ≡ parts_line (outcome_number (outcome (field f) M)) (cell_parts (field f) M cell)
query-of f M cell g e l =
    let s = stored-lists f M g in
    text-parts (field_bytes f M) cell ((query-repaired (field_bytes f M) cell).1 (stored-verdict f M g ∙ e, omega (arith, s.1.0)))
    ∙ rw (s.0, s.1.1.1)

-- ---- E1

-- a file can hold it
abbrev Small : List ℕ → Type 0
Small [] = Unit
Small (x ∷ l) = (x < 2 ^ 32) × Small l

words : (l : List ℕ) → Small l → Words l
words [] s i = omega arith
words (x ∷ l) s zero = s.0
words (x ∷ l) s (suc i) = words l s.1 i

four : (x : ℕ) → x < 2 ^ 32 → Small (x ∷ x ∷ x ∷ x ∷ [])
four x h = (h, (h, (h, (h, tt))))

least : (i : ℕ) → negsuc 2147483647 ≤ℤ at_ℤ e1_lists.targets i
least zero = record { le = tt }
least (suc zero) = record { le = tt }
least (suc (suc zero)) = record { le = tt }
least (suc (suc (suc zero))) = record { le = tt }
least (suc (suc (suc (suc i)))) = record { le = tt }

most : (i : ℕ) → at_ℤ e1_lists.targets i ≤ℤ pos 2147483647
most zero = record { le = tt }
most (suc zero) = record { le = tt }
most (suc (suc zero)) = record { le = tt }
most (suc (suc (suc zero))) = record { le = tt }
most (suc (suc (suc (suc i)))) = record { le = tt }

storable : Storable e1_lists 16
storable =
    record {
      some = omega arith;
      few = omega arith;
      nodes_room = omega arith;
      nodes_few = omega arith;
      lows = refl;
      highs = refl;
      safe_lows = refl;
      safe_highs = refl;
      weights = refl;
      typed =
          record {
            least = least;
            most = most;
            low_words = words e1_lists.lows (four 0 (omega arith));
            high_words = words e1_lists.highs (four 8 (omega arith));
            safe_low_words = words e1_lists.safe_lows (four 0 (omega arith));
            safe_high_words = words e1_lists.safe_highs (four 10 (omega arith));
            weight_words = words e1_lists.weights (four 0 (omega arith));
            parent_words = words e1_lists.parents (omega arith, (omega arith, (omega arith, (omega arith, (omega arith, (omega arith, (omega arith, tt)))))));
            total_word = omega arith;
          };
    }

e1-verdict : reconstruct_verdict (call_of e1_lists 16) ≡ Ok tt
unfolding sum_to list_to each_from first_from check_count child_of any_child parent_ok node_ok check_nodes check_lists check_tree bounds_ordered check_order check_sum check_reach check_shape check_values reconstruct_verdict
e1-verdict = refl

e1-listing :
    listing (cells e1_lists) (repair e1_lists 16) (tree_masses (field e1_lists) 16) e1_lists.targets
    ≡ ascii "outcome 0 cells 4 total 16 change 4\n0 0 2\n1 7 -2\n2 4 0\n3 5 0\n"
unfolding sum_to list_to min_ℤ max_ℤ quota clip clipped deficit capacity portion first_share remainder left second_share shares result leads child_of node_sum mass_from mass_at outcome outcome_number low_in high_in change_of mass_between group_of tree_mass tree_masses repair digits_of signed_number head_line cell_line cell_lines listing
e1-listing = refl

pub e1-text : report_text (field_bytes e1_lists 16) ≡ ascii "outcome 0 cells 4 total 16 change 4\n0 0 2\n1 7 -2\n2 4 0\n3 5 0\n"
e1-text = text_of e1_lists 16 storable e1-verdict ∙ e1-listing

e1-parts : parts_line (outcome_number (outcome (field e1_lists) 16)) (cell_parts (field e1_lists) 16 1) ≡ ascii "outcome 0 clipping -1 first 0 second -1\n"
unfolding sum_to min_ℤ max_ℤ quota clip clipped deficit capacity portion first_share remainder left second_share shares result leads child_of node_sum mass_from mass_at outcome outcome_number low_in high_in mass_between group_of tree_mass digits_of signed_number split_parts cell_parts parts_line
e1-parts = refl

e1-query : query_text (field_bytes e1_lists 16) 1 ≡ ascii "outcome 0 clipping -1 first 0 second -1\n"
e1-query = query-of e1_lists 16 1 storable e1-verdict (omega arith) ∙ e1-parts

-- ---- the rows after them
rest : map (λ r. gives r.asked) others ≡ map (λ r. r.wanted) others
unfolding sum_to list_to min_ℤ max_ℤ quota each_from first_from every_from check_count clip clipped deficit capacity portion first_share remainder left
    second_share shares result check_lengths caas.check_split_order check_highs check_weights caas.check_split_reach split_verdict
    split_masses split_deficit leads child_of any_child node_sum parent_ok node_ok mass_from mass_at outcome outcome_number low_in high_in change_of mass_between group_of tree_mass tree_masses
    shared_of tree_shared check_nodes check_lists check_tree bounds_ordered check_order check_sum check_reach check_shape check_values reconstruct_verdict repair check_scale check_finite
    check_target check_bound import_verdict import_units carried of_bits
rest = refl

-- what the definitions give is what must be given, in every row
pub starred : map (λ (r : Row). gives r.asked) rows ≡ map (λ (r : Row). r.wanted) rows
starred = ap₂ ◌∷◌ (ap text e1-text) (ap₂ ◌∷◌ (ap text e1-query) rest)
