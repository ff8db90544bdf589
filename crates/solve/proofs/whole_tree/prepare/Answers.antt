-- `solve::whole_tree::prepare` meets its contract: each list is loaded into its column, and no later store touches it (`prepared`).
use mathlib.Core.Path.{refl}
use native.Mathlib.Omega.{arith}
use Rattle.solve_spec.proofs.SolveLaws.{root_in, total-small, valid-for, lows-small, highs-small, weights-small, prepared}
use Rattle.solve.proofs.whole_tree.prepare.Goals as goal

pub load-requires : goal.load-requires
load-requires c =
    let a = c.args in
    let ok = c.requires in
    record { m_in_bounds = omega arith; valid = valid-for ok a.in_force.now.lows.now ok.lows_long; m_in_bounds_2 = omega (arith, ok.size, c.load_targets.ensures.kept.long); xs_bound = lows-small ok }

pub load-requires-2 : goal.load-requires-2
load-requires-2 c =
    let a = c.args in
    let ok = c.requires in
    let long = c.load.ensures.kept.long in
    record { m_in_bounds = omega arith; valid = valid-for ok a.in_force.now.highs.now ok.highs_long; m_in_bounds_2 = omega (arith, ok.size, c.load_targets.ensures.kept.long, long); xs_bound = highs-small ok }

pub load-requires-3 : goal.load-requires-3
load-requires-3 c =
    let a = c.args in
    let ok = c.requires in
    let long = c.load_targets.ensures.kept.long in
    let long₂ = c.load.ensures.kept.long in
    record { m_in_bounds = omega arith; valid = valid-for ok a.in_force.now.weights.now ok.weights_long; m_in_bounds_2 = omega (arith, ok.size, long, long₂, c.load-2.ensures.kept.long); xs_bound = weights-small ok }

pub overflow_sub-m : goal.overflow_sub-m
overflow_sub-m c = omega (arith, root_in c.requires)

pub put-requires : goal.put-requires
put-requires c =
    let ok = c.requires in
    let long = c.load_targets.ensures.kept.long in
    let long₂ = c.load.ensures.kept.long in
    let long₃ = c.load-2.ensures.kept.long in
    let long₄ = c.load-3.ensures.kept.long in
    let long₅ = c.fill_with.ensures.kept.long in
    (record { column = omega arith; row = omega (arith, ok.size, root_in ok, long, long₂, long₃, long₄, long₅) }, omega (arith, total-small ok), λ j. absurd (j refl))

pub returns : goal.returns
returns c =
    prepared c.requires
    c.load_targets.ensures
    c.load.ensures
    c.load-2.ensures
    c.load-3.ensures
    refl
    c.fill_with.ensures
    c.put.ensures
