-- `walks::group::split_watched` meets its contract: what each of the three walks requires follows from what the ones before it ensure
-- (`clipping`, `sharing-1`, `sharing-2`), and what they leave together is the split, with what stood in u's place after each
-- (`split-watched`); d is given (`d-is`). There is room for all of d, so it fits.
use mathlib.Core.Path.{◌≡◌, ◌∙◌, ap}
use Prim.Native.Nat.{ℕ}
use mathlib.Core.List.{List}
use native.Mathlib.Omega.{arith}
use lib.IntN.{ℤ, pos, ◌-ℤ◌, nat_abs}
use mir.Syntax.{w64}
use mir.Val.{to_z, of_z}
use Rattle.caas_spec.specs.Split.{deficit, surplus}
use Rattle.scratch_spec.specs.Columns.{MASS, num}
use Rattle.scratch_spec.specs.Walks.{group_in, Splitting, Clipped}
use Rattle.scratch_spec.proofs.WalkLaws.{own_row}
use Rattle.scratch_spec.proofs.NodeLaws.{clipping, deficit-read, deficit-is, sharing-1, given-most, sharing-2, split-watched}
use Rattle.walks.proofs.group.split_watched.Goals as goal

-- what the code computes is d
d-is :
    {m v : ℕ} {s s₁ : List ℤ} {sum all mass : ℕ} {d : ℤ}
    → Splitting m v s → Clipped m v s s₁ sum all → mass ≡ num MASS s v → d ≡ pos mass -ℤ pos sum
    → to_z w64 (of_z w64 d) ≡ deficit (group_in m v s) (num MASS s v)
d-is ok c em ed = deficit-read ok (deficit-is ok c em ed)

pub get_above-mass-requires : goal.get_above-mass-requires
get_above-mass-requires c = own_row c.requires.splitting.rising MASS (omega arith)

pub clip_walk-clipped-requires : goal.clip_walk-clipped-requires
clip_walk-clipped-requires c = clipping c.requires.splitting

pub get_above-clip-requires : goal.get_above-clip-requires
get_above-clip-requires c = record { column = omega arith; row = omega (arith, c.requires.in_row.row, c.clip_walk-clipped.ensures.laid.kept.long) }

pub difference-deficit-requires : goal.difference-deficit-requires
difference-deficit-requires c = (c.get_above-mass.ensures.1, omega (arith, c.clip_walk-clipped.ensures.sums, (clipping c.requires.splitting).small))

pub share_walk-shares-requires : goal.share_walk-shares-requires
share_walk-shares-requires c =
    let e = d-is c.requires.splitting c.clip_walk-clipped.ensures c.get_above-mass.ensures.0 c.difference-deficit.ensures in
    sharing-1 c.requires.splitting c.clip_walk-clipped.ensures (ap surplus e) (c.unsigned_abs-size.ensures.value ∙ ap nat_abs e)

pub get_above-first-requires : goal.get_above-first-requires
get_above-first-requires c =
    record {
      column = omega arith;
      row = omega (arith, c.requires.in_row.row, c.clip_walk-clipped.ensures.laid.kept.long, c.share_walk-shares.ensures.laid.kept.long);
    }

pub overflow_sub-size : goal.overflow_sub-size
overflow_sub-size c =
    let e = d-is c.requires.splitting c.clip_walk-clipped.ensures c.get_above-mass.ensures.0 c.difference-deficit.ensures in
    given-most c.requires.splitting c.clip_walk-clipped.ensures (ap surplus e) (c.unsigned_abs-size.ensures.value ∙ ap nat_abs e) c.share_walk-shares.ensures

pub share_walk-requires : goal.share_walk-requires
share_walk-requires c =
    let e = d-is c.requires.splitting c.clip_walk-clipped.ensures c.get_above-mass.ensures.0 c.difference-deficit.ensures in
    sharing-2 c.requires.splitting c.clip_walk-clipped.ensures (ap surplus e) (c.unsigned_abs-size.ensures.value ∙ ap nat_abs e) c.share_walk-shares.ensures

pub get_above-both-requires : goal.get_above-both-requires
get_above-both-requires c =
    record {
      column = omega arith;
      row =
          omega (
            arith,
            c.requires.in_row.row,
            c.clip_walk-clipped.ensures.laid.kept.long,
            c.share_walk-shares.ensures.laid.kept.long,
            c.share_walk.ensures.laid.kept.long,
          );
    }

pub returns : goal.returns
returns c =
    let e = d-is c.requires.splitting c.clip_walk-clipped.ensures c.get_above-mass.ensures.0 c.difference-deficit.ensures in
    record {
      split_watched =
          split-watched c.requires.splitting c.clip_walk-clipped.ensures (ap surplus e) (c.unsigned_abs-size.ensures.value ∙ ap nat_abs e)
          c.share_walk-shares.ensures
          c.share_walk.ensures
          c.get_above-clip.ensures.0 c.get_above-first.ensures.0 c.get_above-both.ensures.0;
      deficit_value = e;
    }
