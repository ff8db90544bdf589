-- Of the fields of specs/Example.antt: the second is the first edited below node 4, both are past checks 1 to 7, and for M 20 they have other masses
-- below that node and the same ones outside; with another sum of targets the masses outside are others. Assumes nothing.
use Rattle.std.specs.Prelude.{Ok}
use mathlib.Core.Path.{◌≡◌, refl}
use mathlib.Core.Bool.{true≢false}
use mathlib.Core.List.{[], ◌∷◌}
use Prim.Native.Nat.{ℕ, zero, suc, ◌<◌}
use native.Mathlib.Omega.{arith}
use Rattle.numbers.specs.Sums.{sum_to}
use Rattle.numbers.specs.Lists.{list_to}
use Rattle.numbers.specs.Signed.{min_ℤ, max_ℤ}
use Rattle.numbers.specs.Quota.{quota}
use Rattle.numbers.specs.Checks.{each_from, first_from, check_count}
use Rattle.caas_spec.specs.Split.{clip, clipped, deficit, capacity, portion, first_share, remainder, left, second_share, shares, result}
use Rattle.qlt_spec.specs.Tree.{leads, child_of, any_child, node_sum, parent_ok, node_ok, mass_from, mass_at}
use Rattle.qlt_spec.specs.Field.{Lists, field, outcome, low_in, high_in}
use Rattle.qlt_spec.specs.Masses.{mass_between, tree_mass, tree_masses}
use Rattle.qlt_spec.specs.Checks.{shape_of, check_nodes, check_lists, check_tree, bounds_ordered, check_order, check_sum, check_shape, check_values}
use Rattle.qlt_spec.specs.Region.{Outside, SameCell, EditedField, PastSeven, AgreeOutside}
use Rattle.qlt_spec.specs.Example.{plain, edited, other_sum}
use Rattle.qlt_spec.proofs.CheckLaws.{shape-fits, values-fit}
use Rattle.qlt_spec.proofs.RegionCallLaws.{region}

same-cell : (c : ℕ) → c < 4 → Outside (field plain) 4 c → SameCell (field plain) (field edited) c
unfolding leads
same-cell zero l e = absurd (true≢false e)
same-cell (suc zero) l e = absurd (true≢false e)
same-cell (suc (suc zero)) l e = record { target = refl; low = refl; high = refl; safe_low = refl; safe_high = refl; weight = refl }
same-cell (suc (suc (suc zero))) l e = record { target = refl; low = refl; high = refl; safe_low = refl; safe_high = refl; weight = refl }
same-cell (suc (suc (suc (suc c)))) l e = absurd (omega arith)

pub example-edited : EditedField (field plain) (field edited) 4
unfolding sum_to leads node_sum
example-edited =
    record {
      node = omega arith;
      tree = record { cells = refl; nodes = refl; parents = refl };
      outside = same-cell;
      sums = record { target = refl; low = refl; high = refl; safe_low = refl; safe_high = refl; weight = refl };
    }

-- with a list of 4 masses and a scratch of 28 numbers
abbrev Passes : Lists → Type 0
Passes f = (shape_of 4 f 28 ≡ Ok tt) × (check_values f ≡ Ok tt)

passes : Passes plain × Passes edited
unfolding sum_to each_from first_from check_count child_of any_child parent_ok node_ok check_nodes check_lists check_tree bounds_ordered check_order check_sum check_shape check_values
passes = ((refl, refl), (refl, refl))

past : {f : Lists} → Passes f → PastSeven f 4 28
past {f} p = record { shape = (shape-fits f 4 28).0 p.0; values = (values-fit f).0 p.1 }

-- the claim, of these two
pub example-agrees : (M : ℕ) → AgreeOutside (field plain) (field edited) M 4
example-agrees = region (past passes.0) (past passes.1) example-edited

-- the masses for M 20, by computing: others below node 4, the same outside; and others outside with another sum of targets below it
pub example-masses :
    (tree_masses (field plain) 20 ≡ 2 ∷ 8 ∷ 5 ∷ 5 ∷ [])
    × ((tree_masses (field edited) 20 ≡ 7 ∷ 3 ∷ 5 ∷ 5 ∷ []) × (tree_masses (field other_sum) 20 ≡ 5 ∷ 7 ∷ 3 ∷ 5 ∷ []))
unfolding sum_to list_to min_ℤ max_ℤ quota clip clipped deficit capacity portion first_share remainder left second_share shares result leads child_of node_sum mass_from mass_at mass_between outcome low_in high_in tree_mass tree_masses
example-masses = (refl, (refl, refl))
