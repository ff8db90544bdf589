-- `bounds::work::convert` meets its contract: the bounds of the cells passed stand in the lists.
use mathlib.Core.Path.{◌≡◌, refl, sym, ◌∙◌, subst}
use Prim.Native.Nat.{◌≤◌}
use native.Mathlib.Omega.{arith}
use lib.ListN.{length}
use Rattle.bounds_spec.specs.Ratios.{parts}
use Rattle.bounds_spec.proofs.BoundsLaws.{field_fits}
use Rattle.bounds.proofs.FillLaws.{filled_none, field_is, cell-is, filled-lengths, filled_next, filled-all}
use Rattle.bounds.proofs.work.convert.Goals as goal

pub field_ratios-field-requires : goal.field_ratios-field-requires
field_ratios-field-requires c = let f = c.requires in (omega (arith, f.some, f.lengths.low_ratios), f.lengths.high_ratios ∙ sym f.lengths.low_ratios)

pub loop-c-init : goal.loop-c-init
loop-c-init c = filled_none _ _

pub bounds-low_ratios-c : goal.bounds-low_ratios-c
bounds-low_ratios-c c = omega (arith, c.requires.lengths.low_ratios)

pub bounds-high_ratios-c : goal.bounds-high_ratios-c
bounds-high_ratios-c c = omega (arith, c.requires.lengths.high_ratios)

pub bounds_of-cell-requires : goal.bounds_of-cell-requires
bounds_of-cell-requires c =
    let f = c.requires in
    let r = f.ratios c.loop-c.c c.loop-c-test.true in
    let e = field_is _ _ f.lengths c.field_ratios-field.ensures.0 c.field_ratios-field.ensures.1 in
    let m = field_fits _ f.some f.ratios in
    (r.low, r.high, subst (λ q. q.smallest_low.0 ≤ parts) (sym e) m.0, subst (λ q. q.largest_high.0 ≤ parts) (sym e) m.1)

pub put_cell-requires : goal.put_cell-requires
put_cell-requires c =
    let l = c.loop-c in
    let h = filled-lengths _ _ c.requires.lengths l.auto.c-end l.invariant in
    (omega (arith, h.lows), omega (arith, h.highs), omega (arith, h.safe_lows), omega (arith, h.safe_highs))

pub loop-c-preserved : goal.loop-c-preserved
loop-c-preserved c =
    let l = c.loop-c in
    let f = c.requires in
    let put = c.put_cell.ensures in
    let e = field_is _ _ f.lengths c.field_ratios-field.ensures.0 c.field_ratios-field.ensures.1 in
    let cell = cell-is _ _ f.lengths l.c c.bounds_of-cell.ensures refl refl refl e in
    filled_next _ _ f.lengths c.loop-c-test.true l.invariant cell put.0 put.1 put.2 put.3

pub returns : goal.returns
returns c =
    let l = c.loop-c in
    let e : l.c ≡ length c.args.air.now = omega arith in
    filled-all _ _ c.requires.lengths e l.invariant
