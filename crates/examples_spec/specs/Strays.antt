-- 'Where programs stray' of 01, with the rounding of ticket 3 of 02: fields at which a program that strays gives something else, by the
-- definitions that Reconstruct's contract cites; and what E2 gives with each share rounded alone. Assumes nothing.
use Rattle.std.specs.Prelude.{Ok, ◌≡◌, refl, List, [], ◌∷◌, map, ℕ, ◌+◌, ◌*◌, pos, negsuc, nat_abs, replicate}
use Rattle.numbers.specs.Sums.{ℕ_adds, sum_to}
use Rattle.numbers.specs.Lists.{list_to}
use Rattle.numbers.specs.Signed.{min_ℤ, max_ℤ}
use Rattle.numbers.specs.Quota.{quota}
use Rattle.numbers.specs.Checks.{Answered, answered, after, each_from, first_from, check_count}
use Rattle.caas_spec.specs.Group.{Group, sum_in}
use Rattle.caas_spec.specs.Split.{clip, clipped, deficit, capacity, portion, first_share, remainder, left, second_share, shares, result, all_capacity}
use Rattle.caas_spec.specs.Operation.{item_group, split_deficit}
use Rattle.qlt_spec.specs.declared.Repair.{Repair}
use Rattle.qlt_spec.specs.Tree.{leads, child_of, any_child, node_sum, parent_ok, node_ok, mass_from, mass_at}
use Rattle.qlt_spec.specs.Field.{lists, field, outcome, outcome_number, low_in, high_in, change_of}
use Rattle.qlt_spec.specs.Masses.{mass_between, group_of, tree_mass, tree_masses, shared_of, tree_shared}
use Rattle.qlt_spec.specs.Checks.{check_nodes, check_lists, check_tree, bounds_ordered, check_order, check_sum, check_reach, check_shape, check_values}
use Rattle.qlt_spec.specs.Operation.{ReconstructCall, reconstruct_call, reconstruct_verdict, repair}
use Rattle.examples_spec.specs.Starred.{e1_lists, e2, e4}

-- a call, what it tells, and the masses that it leaves
pub record Row : Type 0 where
  pub given : ReconstructCall
  pub told : Answered Repair
  pub masses : List ℕ

-- E1 with no tree: sharing over all cells
abbrev flat : ReconstructCall
flat =
    reconstruct_call (lists e1_lists.targets e1_lists.lows e1_lists.highs e1_lists.safe_lows e1_lists.safe_highs e1_lists.weights (replicate 5 4))
    16 (replicate 4 9) (replicate 28 (pos 1))

-- targets −4, 6, 6, the first two below one node: clipped before they are added up they would give 0 4 4
abbrev clipping : ReconstructCall
clipping =
    reconstruct_call (lists (negsuc 3 ∷ pos 6 ∷ pos 6 ∷ []) (replicate 3 0) (replicate 3 8) (replicate 3 0) (replicate 3 10) (replicate 3 0) (3 ∷ 3 ∷ 4 ∷ 4 ∷ 4 ∷ []))
    8 (replicate 3 9) (replicate 20 (pos 1))

-- E4's field at a total that equals the sum of the lows, or of the highs: no safety bounds
abbrev equal : ℕ → ReconstructCall
equal M = e4 M (2 ∷ 2 ∷ 2 ∷ [])

abbrev pub rows : List Row
rows =
    record { given = flat; told = Ok (record { outcome = 0; total = 16; change = 4; shared = 1 }); masses = 0 ∷ 8 ∷ 3 ∷ 5 ∷ [] }
    ∷ record { given = clipping; told = Ok (record { outcome = 0; total = 8; change = 8; shared = 4 }); masses = 0 ∷ 2 ∷ 6 ∷ [] }
    ∷ record { given = equal 8; told = Ok (record { outcome = 0; total = 8; change = 0; shared = 0 }); masses = 3 ∷ 5 ∷ [] }
    ∷ record { given = equal 10; told = Ok (record { outcome = 0; total = 10; change = 2; shared = 2 }); masses = 4 ∷ 6 ∷ [] }
    ∷ []

abbrev pub got : Row → Row
got r =
    record {
      given = r.given;
      told = answered (reconstruct_verdict r.given) (repair r.given.lists r.given.total);
      masses = after (reconstruct_verdict r.given) (tree_masses (field r.given.lists) r.given.total) r.given.masses;
    }

-- what the definitions give, in every row
pub strays : map got rows ≡ rows
unfolding sum_to list_to min_ℤ max_ℤ quota each_from first_from check_count clip clipped deficit capacity portion first_share remainder left second_share shares result leads child_of any_child node_sum parent_ok node_ok mass_from mass_at outcome outcome_number low_in high_in change_of mass_between group_of tree_mass tree_masses shared_of tree_shared check_nodes check_lists check_tree bounds_ordered check_order check_sum check_reach check_shape check_values reconstruct_verdict repair
strays = refl

-- each share of a split without weights rounded alone: D × capacity ÷ C, whatever the items before were given
abbrev pub alone : Group → ℕ → ℕ → ℕ
alone G M u = quota (nat_abs (deficit G M) * capacity G (deficit G M) u) (all_capacity G M)

-- E2 with M 2 would gain a unit
pub alone_gains : sum_in ℕ_adds (item_group (e2 (pos 2))) (alone (item_group (e2 (pos 2))) 2) ≡ nat_abs (split_deficit (e2 (pos 2))) + 1
unfolding sum_to min_ℤ max_ℤ quota clip clipped deficit capacity split_deficit
alone_gains = refl
