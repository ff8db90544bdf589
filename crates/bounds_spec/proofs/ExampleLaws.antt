-- The concrete calls of specs/Example.antt: their contracts hold by computing, save that the step's book is there by the laws of books. So the theorems
-- of consistency speak of them. Assumes nothing.
use Rattle.std.specs.Prelude.{Ok}
use mathlib.Core.Path.{refl}
use mathlib.Core.List.{[], ◌∷◌}
use Prim.Native.Nat.{ℕ, zero, suc, ◌<◌}
use native.Mathlib.Omega.{arith}
use lib.IntN.{pos, negsuc}
use lib.Signed.{le_z_yes}
use lib.ListN.{replicate}
use Rattle.numbers.specs.Sums.{sum_to}
use Rattle.numbers.specs.Lists.{list_to, written}
use Rattle.numbers.specs.Signed.{min_ℤ, max_ℤ}
use Rattle.numbers.specs.Quota.{quota}
use Rattle.numbers.specs.Checks.{refused, each_from, first_from, check_count, check_total}
use Rattle.caas_spec.specs.Split.{clip, clipped, deficit, capacity, portion, first_share, remainder, left, second_share, shares, result}
use Rattle.qlt_spec.specs.declared.Repair.{Repair}
use Rattle.qlt_spec.specs.Tree.{leads, child_of, any_child, node_sum, parent_ok, node_ok, mass_from, mass_at}
use Rattle.qlt_spec.specs.Field.{outcome, outcome_number, low_in, high_in, change_of}
use Rattle.qlt_spec.specs.Masses.{mass_between, group_of, tree_mass, tree_masses, shared_of, tree_shared}
use Rattle.qlt_spec.specs.Checks.{check_nodes, check_lists, check_tree, bounds_ordered, check_order, check_sum, check_reach, check_shape, check_values}
use Rattle.qlt_spec.specs.Operation.{reconstruct_verdict, repair, cleared, ReconstructContract}
use Rattle.book_spec.specs.LentBook.{grown_buffer}
use Rattle.book_spec.specs.Book.{entry, book}
use Rattle.book_spec.proofs.StartLaws.{empty-closing}
use Rattle.kept_spec.specs.Step.{check_same_scale, check_kept}
use Rattle.kept_spec.specs.Account.{Event, Promised}
use Rattle.kept_spec.specs.Example.{lent_book}
use Rattle.kept_spec.proofs.ExampleLaws.{lent_book-held, typed}
use Rattle.kept_spec.proofs.StepLaws.{accepted-promised}
use Rattle.bounds_spec.specs.Ratios.{ratio_of, low_mass, high_mass, chosen}
use Rattle.bounds_spec.specs.Bounds.{check_bounds_lengths, ratios_ok, check_ratios, bounds_verdict, BoundsContract}
use Rattle.bounds_spec.specs.Consistency.{Uniform, Consistent}
use Rattle.bounds_spec.specs.Example.{rounded_call, rounded, refused_call, quarter, quarter_bounds, quarter_call, repair_call, quarter_step}
use Rattle.bounds_spec.proofs.ConsistencyLaws.{reconstruct-consistent, step-consistent}

-- ---- conversions

-- one that rounds, one that is refused, and that of the field below
pub conversions : BoundsContract rounded_call (Ok tt) rounded × BoundsContract refused_call (refused 18 1) refused_call.lent × BoundsContract quarter_call (Ok tt) quarter_bounds
unfolding list_to each_from first_from check_count low_mass high_mass chosen check_bounds_lengths ratios_ok check_ratios bounds_verdict
conversions = (record { answers = refl; writes = refl }, record { answers = refl; writes = refl }, record { answers = refl; writes = refl })

-- ---- the field with every ratio a quarter

two : (P : ℕ → Type 0) → P 0 → P 1 → (c : ℕ) → c < 2 → P c
two P a b zero l = a
two P a b (suc zero) l = b
two P a b (suc (suc c)) l = absurd (omega arith)

pub uniform : Uniform quarter (ratio_of 262144)
uniform = record { low = two _ refl refl; high = two _ refl refl; even = two _ refl refl }

abbrev repaired : Repair
repaired = record { outcome = 0; total = 3; change = 13; shared = 0 }

abbrev pub stepped : Event
stepped =
    record {
      call = quarter_step;
      answer = Ok (record { repair = repaired; balance = record { total = 3; scale = 20 }; length = 512 });
      kept = 1 ∷ 2 ∷ [];
      scratch = replicate 12 (pos 0);
      book = grown_buffer (lent_book 4) 512 (entry (negsuc 0) 0 3);
    }

repairs-it : ReconstructContract repair_call (Ok repaired) (1 ∷ 2 ∷ []) (replicate 12 (pos 0)) × Promised stepped
unfolding sum_to list_to written min_ℤ max_ℤ quota each_from first_from check_count clip clipped deficit capacity portion first_share remainder left
    second_share shares result leads child_of any_child node_sum parent_ok node_ok mass_from mass_at mass_between outcome outcome_number low_in high_in change_of group_of
    tree_mass tree_masses shared_of tree_shared check_nodes check_lists check_tree bounds_ordered check_order check_sum check_reach check_shape check_values repair cleared
    reconstruct_verdict check_total check_same_scale check_kept
repairs-it =
    let h = lent_book-held 4 (omega arith) in (
      record { answers = refl; leaves = record { writes = refl; clears = refl } },
      accepted-promised quarter_step (typed quarter_step h (le_z_yes tt) (le_z_yes tt)) (book 4 []) h (empty-closing 4) (omega arith) refl,
    )

-- so the theorems speak of it
pub example-repaired : Consistent quarter (ratio_of 262144) (1 ∷ 2 ∷ [])
example-repaired = reconstruct-consistent conversions.2 uniform repaired refl repairs-it.0

pub example-stepped : Consistent quarter (ratio_of 262144) (1 ∷ 2 ∷ [])
example-stepped = step-consistent conversions.2 uniform stepped _ refl repairs-it.1 refl
