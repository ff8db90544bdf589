-- The checks 1 to 8 of Reconstruct, which Step shares, each with its number and place. Assumes nothing.
use Rattle.std.specs.Prelude.{Bool, ◌&&◌, List, [], ◌∷◌, ℕ, ◌*◌, leb, eqb, length}
use Rattle.numbers.specs.Lists.{at, sum}
use Rattle.numbers.specs.Checks.{Checked, unless, first, first_from, check_count, max_total}
use Rattle.qlt_spec.specs.Tree.{node_ok}
use Rattle.qlt_spec.specs.Field.{Lists, cells, nodes, scratch_per_node}

-- 2: m below n or above 1024
unfoldable pub check_nodes : ℕ → ℕ → Checked
check_nodes n m = unless (leb n m && leb m 1024) 2 0

-- 3: a list of another length (`masses` is that of the masses, or of the kept masses), or scratch under p × m, p numbers for each node
unfoldable pub check_lists : (p n m masses lows highs safe_lows safe_highs weights scratch : ℕ) → Checked
check_lists p n m masses lows highs safe_lows safe_highs weights scratch =
    unless
    (eqb masses n && (eqb lows n && (eqb highs n && (eqb safe_lows n && (eqb safe_highs n && (eqb weights n && leb (p * m) scratch))))))
    3 0

-- 4: the smallest node that breaks a rule of the tree
unfoldable pub check_tree : ℕ → List ℕ → Checked
check_tree n parents = first_from (node_ok (at parents) n (length parents)) 4 0 (length parents)

-- 5: crossed bounds, first cell
unfoldable pub bounds_ordered : (safe_low low high safe_high : ℕ) → Bool
bounds_ordered safe_low low high safe_high = leb safe_low low && (leb low high && leb high safe_high)

unfoldable pub check_order : ℕ → (lows highs safe_lows safe_highs : List ℕ) → Checked
check_order n lows highs safe_lows safe_highs =
    first_from (λ c. bounds_ordered (at safe_lows c) (at lows c) (at highs c) (at safe_highs c)) 5 0 n

-- 6 and 7: a list that adds up to over 2147483647
unfoldable pub check_sum : ℕ → List ℕ → Checked
check_sum number xs = unless (leb (sum xs) max_total) number 0

-- 8: M outside the sums of safe lows and safe highs
unfoldable pub check_reach : (safe_lows safe_highs : List ℕ) → ℕ → Checked
check_reach safe_lows safe_highs M = unless (leb (sum safe_lows) M && leb M (sum safe_highs)) 8 0

-- ---- the chains that operations are made of

-- 1 to 3, of lengths alone
abbrev pub shape_checks : (p n m masses lows highs safe_lows safe_highs weights scratch : ℕ) → List Checked
shape_checks p n m masses lows highs safe_lows safe_highs weights scratch =
    check_count n ∷ check_nodes n m ∷ check_lists p n m masses lows highs safe_lows safe_highs weights scratch ∷ []

unfoldable pub check_shape : (p n m masses lows highs safe_lows safe_highs weights scratch : ℕ) → Checked
check_shape p n m masses lows highs safe_lows safe_highs weights scratch =
    first (shape_checks p n m masses lows highs safe_lows safe_highs weights scratch)

abbrev pub shape_with : ℕ → ℕ → Lists → ℕ → Checked
shape_with p masses f scratch =
    check_shape p (cells f) (nodes f) masses (length f.lows) (length f.highs) (length f.safe_lows) (length f.safe_highs) (length f.weights) scratch

abbrev pub shape_of : ℕ → Lists → ℕ → Checked
shape_of masses f scratch = shape_with scratch_per_node masses f scratch

-- 4 to 7, of the field's values
abbrev pub value_checks : Lists → List Checked
value_checks f =
    check_tree (cells f) f.parents
    ∷ check_order (cells f) f.lows f.highs f.safe_lows f.safe_highs
    ∷ check_sum 6 f.safe_highs
    ∷ check_sum 7 f.weights
    ∷ []

unfoldable pub check_values : Lists → Checked
check_values f = first (value_checks f)
