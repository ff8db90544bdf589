-- The three parts of a cell's correction (02, ticket 6): those of 01's steps at the cell's parent. Assumes nothing.
use Rattle.std.specs.Prelude.{cond, ℕ, eqb, ℤ, pos, ◌+ℤ◌, ◌-ℤ◌}
use Rattle.numbers.specs.Roundings.{signed}
use Rattle.caas_spec.specs.Group.{Group}
use Rattle.caas_spec.specs.Split.{clipped, deficit, surplus, first_of, second_of}
use Rattle.qlt_spec.specs.Field.{Field, outcome}
use Rattle.qlt_spec.specs.Masses.{group_of, tree_mass}
use Rattle.query_spec.specs.declared.Parts.{Parts}

-- one split of a mass M: what clipping, the first share and the second share change at an item; a share has a minus sign if d < 0
unfoldable pub split_parts : Group → ℕ → ℕ → Parts
split_parts G M u =
    record {
      clipping = pos (clipped G u) -ℤ G.target u;
      first = signed (surplus (deficit G M)) (first_of G M u);
      second = signed (surplus (deficit G M)) (second_of G M u);
    }

-- a field of one node has no split: the correction is all second share
unfoldable pub alone_parts : Field → ℕ → ℕ → Parts
alone_parts F M c = record { clipping = pos 0; first = pos 0; second = pos M -ℤ F.target c }

-- of a cell: at the split of its parent's mass, by the bounds in force
unfoldable pub cell_parts : Field → ℕ → ℕ → Parts
cell_parts F M c = cond (eqb F.m 1) (alone_parts F M c) (split_parts (group_of F (outcome F M) (F.up c)) (tree_mass F M (F.up c)) c)

-- what the parts add up to
abbrev pub parts_sum : Parts → ℤ
parts_sum p = (p.clipping +ℤ p.first) +ℤ p.second

-- the parts by what an item has after each step: clipped, moved by its first share, and by both
unfoldable pub parts_by : (clip first both : ℕ) → ℤ → Parts
parts_by clip first both target = record { clipping = pos clip -ℤ target; first = pos first -ℤ pos clip; second = pos both -ℤ pos first }
