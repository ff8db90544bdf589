-- Concrete calls, so that the statements are not empty talk: a conversion that rounds, one that is refused, and a field with every ratio a
-- quarter, repaired by Reconstruct and by Step. Assumes nothing.
use Rattle.std.specs.Prelude.{[], ◌∷◌, pos, negsuc, replicate}
use Rattle.qlt_spec.specs.Field.{Lists, lists}
use Rattle.qlt_spec.specs.Operation.{ReconstructCall, reconstruct_call}
use Rattle.kept_spec.specs.Step.{StepCall, step_call}
use Rattle.kept_spec.specs.Example.{lent_book}
use Rattle.bounds_spec.specs.Bounds.{Mixing, mixing, Bounds, bounds, BoundsCall, bounds_call}

-- the four lists as they were lent
abbrev lent : Bounds
lent = bounds (7 ∷ 7 ∷ []) (7 ∷ 7 ∷ []) (7 ∷ 7 ∷ []) (7 ∷ 7 ∷ [])

-- air 5 and 6; low ratios 1/4 and 1/8, high ratios 3/4 and 1/2: the lows 1.25 and 0.75 go up, the highs 3.75 and 3 down; the safe lows are by
-- 1/8, 0.625 and 0.75, the safe highs by 3/4, 3.75 and 4.5
abbrev pub rounded_call : BoundsCall
rounded_call = bounds_call (mixing (5 ∷ 6 ∷ []) (262144 ∷ 131072 ∷ []) (786432 ∷ 524288 ∷ [])) lent

abbrev pub rounded : Bounds
rounded = bounds (2 ∷ 1 ∷ []) (3 ∷ 3 ∷ []) (1 ∷ 1 ∷ []) (3 ∷ 4 ∷ [])

-- the second high ratio is above 1048576
abbrev pub refused_call : BoundsCall
refused_call = bounds_call (mixing (5 ∷ 6 ∷ []) (262144 ∷ 131072 ∷ []) (1048576 ∷ 1048577 ∷ [])) lent

-- air 4 and 8, every ratio 1/4: all four bounds are 1 and 2
abbrev pub quarter : Mixing
quarter = mixing (4 ∷ 8 ∷ []) (262144 ∷ 262144 ∷ []) (262144 ∷ 262144 ∷ [])

abbrev pub quarter_bounds : Bounds
quarter_bounds = bounds (1 ∷ 2 ∷ []) (1 ∷ 2 ∷ []) (1 ∷ 2 ∷ []) (1 ∷ 2 ∷ [])

abbrev pub quarter_call : BoundsCall
quarter_call = bounds_call quarter lent

-- a field with these bounds under one root, targets −5 and 9
abbrev quarter_lists : Lists
quarter_lists = lists (negsuc 4 ∷ pos 9 ∷ []) (1 ∷ 2 ∷ []) (1 ∷ 2 ∷ []) (1 ∷ 2 ∷ []) (1 ∷ 2 ∷ []) (0 ∷ 1 ∷ []) (2 ∷ 2 ∷ 2 ∷ [])

-- its repair for the total 3, and a step to it from kept masses 3 and 1 with source −1, lent a book without records
abbrev pub repair_call : ReconstructCall
repair_call = reconstruct_call quarter_lists 3 (7 ∷ 7 ∷ []) (replicate 12 (pos 1))

abbrev pub quarter_step : StepCall
quarter_step = step_call (record { total = 4; scale = 20 }) (3 ∷ 1 ∷ []) (negsuc 0) 20 quarter_lists (replicate 12 (pos 1)) (lent_book 4) 512
