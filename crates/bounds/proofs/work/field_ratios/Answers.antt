-- `bounds::work::field_ratios` meets its contract: the ratios so far are those of the cells passed.
use mathlib.Core.Path.{◌≡◌, refl, ◌∙◌, ap}
use Prim.Native.Nat.{min, max}
use native.Mathlib.Numerals.{add-one}
use native.Mathlib.Omega.{arith}
use lib.ListN.{length}
use Rattle.numbers.specs.Lists.{at}
use Rattle.bounds_spec.specs.Ratios.{chosen, least_of, most_of}
use Rattle.bounds.proofs.work.field_ratios.Goals as goal

pub loop-c-init : goal.loop-c-init
unfolding chosen
loop-c-init c = (refl, refl)

pub loop-c-preserved : goal.loop-c-preserved
unfolding chosen
loop-c-preserved c =
    let l = c.loop-c in (
      rw add-one (c.smaller-smallest.ensures ∙ ap (λ m. min m (at c.args.low_ratios.now l.c)) l.invariant.0),
      rw add-one (c.larger-largest.ensures ∙ ap (λ m. max m (at c.args.high_ratios.now l.c)) l.invariant.1),
    )

pub returns : goal.returns
returns c =
    let l = c.loop-c in
    let a = c.args in
    let e : l.c ≡ length a.low_ratios.now = omega arith in
    (l.invariant.0 ∙ ap (least_of (at a.low_ratios.now)) e, l.invariant.1 ∙ ap (most_of (at a.high_ratios.now)) e)
