-- `split::work::split_items` meets its contract: the rows hold the items, so the masses that the walks leave are the results, and d is theirs.
use mathlib.Core.Path.{◌≡◌, ◌∙◌, subst}
use mathlib.Core.List.{List}
use lib.IntN.{ℤ}
use lib.ListN.{length}
use mir.Syntax.{w64}
use mir.ValLaws.{to_z-of_z}
use Rattle.caas_spec.specs.Operation.{split_call}
use Rattle.scratch_spec.proofs.NodeLaws.{deficit-read}
use Rattle.split.specs.Items.{ItemsLoaded}
use Rattle.split.proofs.ItemLaws.{lows-storable, highs-storable, weights-storable, items-splitting, masses-done, deficit-done}
use Rattle.split.proofs.work.split_items.Goals as goal

-- what was loaded, of the total itself
loaded-is :
    {targets lows highs weights s : List ℤ} {x total : ℤ}
    → x ≡ total → ItemsLoaded targets lows highs weights x s → ItemsLoaded targets lows highs weights total s
loaded-is {targets} {lows} {highs} {weights} {s} e l = subst (λ (z : ℤ). ItemsLoaded targets lows highs weights z s) e l

pub load-requires : goal.load-requires
load-requires c =
    let k = split_call c.args.targets.now c.args.lows.now c.args.highs.now c.args.weights.now c.args.total c.args.masses.now in
    let f = c.requires.split_fits in
    record {
      targets_len_bound = (f.few, f.lengths.lows, f.lengths.highs, f.lengths.weights);
      width_in_bounds = c.requires.width_in_bounds;
      all_storable = (lows-storable k f, highs-storable k f, weights-storable k f);
    }

pub split_group-deficit-requires : goal.split_group-deficit-requires
split_group-deficit-requires c =
    let a = c.args in
    let k = split_call a.targets.now a.lows.now a.highs.now a.weights.now a.total a.masses.now in
    items-splitting k c.requires.split_fits _ (loaded-is (to_z-of_z w64 a.total c.ranges.total) c.load.ensures)

pub returns : goal.returns
returns c =
    let a = c.args in
    let k = split_call a.targets.now a.lows.now a.highs.now a.weights.now a.total a.masses.now in
    let f = c.requires.split_fits in
    let l = loaded-is (to_z-of_z w64 a.total c.ranges.total) c.load.ensures in
    record {
      masses_after = c.copy_masses.ensures ∙ masses-done k f _ l _ c.split_group-deficit.ensures.split_done (length a.masses.now) f.lengths.masses;
      value = deficit-done k f _ l (deficit-read (items-splitting k f _ l) c.split_group-deficit.ensures.value);
    }
