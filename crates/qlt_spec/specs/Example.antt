-- Concrete fields, so that the claim about edits is not empty talk: two on E1's tree that differ in cells 0 and 1, which lie below node 4, in all six
-- values, with the same sums; and one in which the sum of the targets below node 4 is another. Assumes nothing.
use Rattle.std.specs.Prelude.{List, [], ◌∷◌, ℕ, ℤ, pos, negsuc}
use Rattle.qlt_spec.specs.Field.{Lists, lists}

abbrev parents : List ℕ
parents = 4 ∷ 4 ∷ 5 ∷ 5 ∷ 6 ∷ 6 ∷ 6 ∷ []

-- with these targets
abbrev with_targets : List ℤ → Lists
with_targets targets = lists targets (1 ∷ 2 ∷ 0 ∷ 0 ∷ []) (8 ∷ 8 ∷ 8 ∷ 8 ∷ []) (0 ∷ 1 ∷ 0 ∷ 0 ∷ []) (10 ∷ 10 ∷ 10 ∷ 10 ∷ []) (1 ∷ 2 ∷ 1 ∷ 0 ∷ []) parents

abbrev pub plain : Lists
plain = with_targets (negsuc 1 ∷ pos 9 ∷ pos 4 ∷ pos 5 ∷ [])

abbrev pub edited : Lists
edited =
    lists (pos 6 ∷ pos 1 ∷ pos 4 ∷ pos 5 ∷ []) (3 ∷ 0 ∷ 0 ∷ 0 ∷ []) (7 ∷ 9 ∷ 8 ∷ 8 ∷ []) (1 ∷ 0 ∷ 0 ∷ 0 ∷ []) (7 ∷ 13 ∷ 10 ∷ 10 ∷ [])
    (3 ∷ 0 ∷ 1 ∷ 0 ∷ []) parents

-- 8 more in the target of cell 0
abbrev pub other_sum : Lists
other_sum = with_targets (pos 6 ∷ pos 9 ∷ pos 4 ∷ pos 5 ∷ [])
