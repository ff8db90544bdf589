-- Queries of cells (02, ticket 6) by the definitions that the operation's contract cites: E1, E4 to E8 of 01 and fields beside them, each
-- with the line for a cell; and arguments with their numbers. Assumes nothing.
use Rattle.std.specs.Prelude.{◌≡◌, refl, List, [], ◌∷◌, map, ℕ, pos, replicate}
use Prim.Native.String.{String}
use Rattle.numbers.specs.Sums.{sum_to}
use Rattle.numbers.specs.Lists.{list_to}
use Rattle.numbers.specs.Signed.{min_ℤ, max_ℤ}
use Rattle.numbers.specs.Quota.{quota}
use Rattle.numbers.specs.Checks.{each_from, first_from, check_count}
use Rattle.caas_spec.specs.Split.{clip, clipped, deficit, capacity, portion, first_share, remainder, left, second_share, shares, result}
use Rattle.qlt_spec.specs.Tree.{leads, child_of, any_child, node_sum, parent_ok, node_ok, mass_from, mass_at}
use Rattle.qlt_spec.specs.Field.{lists, outcome, outcome_number, low_in, high_in}
use Rattle.qlt_spec.specs.Masses.{mass_between, group_of, tree_mass}
use Rattle.qlt_spec.specs.Checks.{check_nodes, check_lists, check_tree, bounds_ordered, check_order, check_sum, check_reach, check_shape, check_values}
use Rattle.qlt_spec.specs.Operation.{ReconstructCall, reconstruct_call, reconstruct_verdict}
use Rattle.text.specs.Ascii.{ascii}
use Rattle.text.specs.Text.{digits_of, signed_number, value_from, refusal_text}
use Rattle.arguments.specs.Argument.{all_digits, argument, too_large}
use Rattle.query_spec.specs.Parts.{split_parts, alone_parts, cell_parts}
use Rattle.query_spec.specs.Query.{is_below, distance, parts_line, beyond_line, refused_line, line_by}
use Rattle.examples_spec.specs.Starred.{e1_lists, e4, e8}

-- a field, a cell, and the line
pub record Row : Type 0 where
  pub given : ReconstructCall
  pub cell : ℕ
  pub line : List ℕ

abbrev row : ReconstructCall → ℕ → String → Row
row given cell line = record { given = given; cell = cell; line = ascii line }

abbrev e1 : ReconstructCall
e1 = reconstruct_call e1_lists 16 (replicate 4 9) (replicate 28 (pos 1))

-- E3's items as the cells of a field
abbrev e3 : ReconstructCall
e3 =
    reconstruct_call (lists (pos 0 ∷ pos 0 ∷ []) (0 ∷ 0 ∷ []) (10 ∷ 3 ∷ []) (0 ∷ 0 ∷ []) (10 ∷ 3 ∷ []) (1 ∷ 3 ∷ []) (2 ∷ 2 ∷ 2 ∷ []))
    8 (replicate 2 9) (replicate 12 (pos 1))

-- E4's field with safe lows 2 and 3
abbrev floor : ℕ → ReconstructCall
floor M =
    reconstruct_call (lists (pos 3 ∷ pos 5 ∷ []) (3 ∷ 5 ∷ []) (4 ∷ 6 ∷ []) (2 ∷ 3 ∷ []) (replicate 2 10) (replicate 2 0) (2 ∷ 2 ∷ 2 ∷ []))
    M (replicate 2 9) (replicate 12 (pos 1))

abbrev tree : List ℕ
tree = 2 ∷ 2 ∷ 2 ∷ []

abbrev pub rows : List Row
rows =
    row e1 0 "outcome 0 clipping 2 first 0 second 0\n"
    ∷ row e1 1 "outcome 0 clipping -1 first 0 second -1\n"
    ∷ row e1 2 "outcome 0 clipping 0 first 0 second 0\n"
    -- both shares: the weights would give cell 1 six units, of which it can take three
    ∷ row e3 0 "outcome 0 clipping 0 first 2 second 3\n"
    ∷ row e3 1 "outcome 0 clipping 0 first 3 second 0\n"
    -- E4 and E5: safety bounds in force
    ∷ row (e4 4 tree) 0 "outcome 1 clipping 0 first 0 second -2\n"
    ∷ row (e4 14 tree) 0 "outcome 2 clipping 1 first 0 second 2\n"
    -- E6, and on the other side
    ∷ row (e4 21 tree) 0 "refused 8 0 above 1\n"
    ∷ row (floor 4) 1 "refused 8 0 below 1\n"
    ∷ row (floor 0) 1 "refused 8 0 below 5\n"
    -- at the sum itself
    ∷ row (floor 5) 1 "outcome 1 clipping 0 first 0 second -2\n"
    -- E7, and E8 with its one node
    ∷ row (e4 4 (2 ∷ 2 ∷ [])) 0 "refused 4 0\n"
    ∷ row e8 0 "outcome 2 clipping 0 first 0 second 4\n"
    ∷ []

abbrev line_of : Row → List ℕ
line_of r = line_by (reconstruct_verdict r.given) r.given.lists r.given.total r.cell

pub queries_told : map line_of rows ≡ map (λ r. r.line) rows
unfolding sum_to list_to min_ℤ max_ℤ quota each_from first_from check_count clip clipped deficit capacity portion first_share remainder left second_share shares result leads child_of any_child node_sum parent_ok node_ok mass_from mass_at outcome outcome_number low_in high_in mass_between group_of tree_mass check_nodes check_lists check_tree bounds_ordered check_order check_sum check_reach check_shape check_values reconstruct_verdict digits_of signed_number refusal_text split_parts alone_parts cell_parts is_below distance parts_line beyond_line refused_line
queries_told = refl

-- ---- arguments

abbrev pub words : List String
words = "0" ∷ "12" ∷ "007" ∷ "4294967294" ∷ "4294967295" ∷ "4294967296" ∷ "99999999999999999999" ∷ "" ∷ "-1" ∷ "+1" ∷ "1 " ∷ " 1" ∷ "0x1" ∷ "1a" ∷ []

abbrev pub values : List ℕ
values =
    0 ∷ 12 ∷ 7 ∷ 4294967294 ∷ too_large ∷ too_large ∷ too_large ∷ too_large ∷ too_large ∷ too_large ∷ too_large ∷ too_large ∷ too_large ∷ too_large ∷ []

pub words_told : map (λ w. argument (ascii w)) words ≡ values
unfolding all_digits argument value_from
words_told = refl
