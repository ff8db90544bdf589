-- `split::work::load` meets its contract: each column is filled from its list, and the last two stores are in the row after the items.
use mathlib.Core.Path.{◌≡◌, refl, ◌∙◌, ap, subst}
use mathlib.Core.List.{List}
use Prim.Native.Nat.{ℕ}
use native.Mathlib.Omega.{arith}
use lib.IntN.{ℤ}
use lib.ListN.{length}
use mir.Syntax.{w64}
use mir.ValLaws.{to_z-of_z}
use Rattle.numbers.specs.Lists.{at_ℤ}
use Rattle.numbers.specs.Signed.{over}
use Rattle.numbers.proofs.SignedLaws.{about}
use Rattle.scratch_spec.specs.Columns.{LOW, HIGH, WEIGHT}
use Rattle.scratch_spec.proofs.ColumnLaws.{storable-mass, storable-any}
use Rattle.split.proofs.ItemLaws.{Filled, stored-as, loaded}
use borrow.Author.Rules.{rules}
use Rattle.split.proofs.work.load.Goals as goal

-- a list of as many elements fills as many rows
rows : (k n : ℕ) (xs old new : List ℤ) → length xs ≡ n → Filled k (length xs) (at_ℤ xs) old new → Filled k n (at_ℤ xs) old new
rows k n xs old new e h = subst (λ m. Filled k m (at_ℤ xs) old new) e h

above-is : (c : goal.After-above) → c.above.result ≡ over c.args.total
above-is c = c.above.ensures ∙ ap over (to_z-of_z w64 c.args.total c.ranges.total)

pub fill-requires : goal.fill-requires
fill-requires c = let s = c in (omega (arith, s.requires.width_in_bounds), λ u l. storable-mass _)

pub fill-requires-2 : goal.fill-requires-2
fill-requires-2 c =
    let s = c in
    (omega (arith, s.requires.width_in_bounds, s.requires.targets_len_bound, c.fill.ensures.kept.long), λ u l. storable-any LOW (s.requires.all_storable.0.each u l))

pub fill-requires-3 : goal.fill-requires-3
fill-requires-3 c =
    let s = c in
    (omega (arith, s.requires.width_in_bounds, s.requires.targets_len_bound, c.fill.ensures.kept.long, c.fill-2.ensures.kept.long), λ u l. storable-any HIGH (s.requires.all_storable.1.each u l))

pub fill-requires-4 : goal.fill-requires-4
fill-requires-4 c =
    let s = c in
    (omega (arith, s.requires.width_in_bounds, s.requires.targets_len_bound, c.fill.ensures.kept.long, c.fill-2.ensures.kept.long, c.fill-3.ensures.kept.long), λ u l. storable-any WEIGHT (s.requires.all_storable.2.each u l))

pub put-requires-2 : goal.put-requires-2
put-requires-2 c = (search rules, omega (arith, above-is c, about c.args.total, c.ranges.total.sfits), λ j. absurd (j refl))

pub returns : goal.returns
returns c = let s = c in
    let n = length s.args.targets.now in
    loaded s.args.targets.now s.args.lows.now s.args.highs.now s.args.weights.now s.args.total _ _ _ _ _ _ _ _ s.requires.width_in_bounds
    c.fill.ensures
    (rows LOW n s.args.lows.now _ _ s.requires.targets_len_bound.1 c.fill-2.ensures)
    (rows HIGH n s.args.highs.now _ _ s.requires.targets_len_bound.2 c.fill-3.ensures)
    (rows WEIGHT n s.args.weights.now _ _ s.requires.targets_len_bound.3 c.fill-4.ensures)
    c.link.ensures
    c.put.ensures
    (stored-as (above-is c.before.before) c.put-2.ensures)
