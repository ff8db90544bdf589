-- `solve::descend::link` meets its contract: `LinkState` holds from turn to turn (`link_start`, `link-turn`), and at 0 all nodes are
-- linked. A node's parent is below m, so every row is in the scratch.
use mathlib.Core.Path.{refl}
use native.Mathlib.Omega.{arith}
use Rattle.solve_spec.proofs.LinkLaws.{link_start, node_row, parent_row, first-most, link-turn, link-end}
use Rattle.solve.proofs.descend.link.Goals as goal

pub overflow_sub-root : goal.overflow_sub-root
overflow_sub-root c = omega (arith, c.requires.valid.some, c.requires.valid.room)

pub loop-u-init : goal.loop-u-init
loop-u-init c = link_start c.requires.valid _ c.requires.by_index

pub bounds-parents-u : goal.bounds-parents-u
bounds-parents-u c = omega (arith, c.loop-u.invariant.within)

pub get_above-first-requires : goal.get_above-first-requires
get_above-first-requires c =
    parent_row c.requires.valid c.requires.m_in_bounds_2 c.loop-u.invariant (omega arith) refl refl

pub put-requires : goal.put-requires
put-requires c =
    let r = c.requires in (
      node_row r.valid r.m_in_bounds_2 c.loop-u.invariant (omega arith),
      c.get_above-first.ensures.1,
      λ j. omega (arith, r.m_bound, first-most r.valid r.m_in_bounds_2 c.loop-u.invariant (omega arith) refl c.get_above-first.ensures.0),
    )

pub put-requires-in-loop-u : goal.put-requires-in-loop-u
put-requires-in-loop-u c =
    let r = c.requires in (
      parent_row r.valid r.m_in_bounds_2 c.loop-u.invariant (omega arith) refl c.put.ensures.long,
      omega (arith, c.loop-u.invariant.within, r.m_bound),
      λ j. omega (arith, c.loop-u.invariant.within, r.m_bound),
    )

pub loop-u-preserved : goal.loop-u-preserved
loop-u-preserved c =
    let r = c.requires in
    link-turn r.valid r.m_in_bounds_2 c.loop-u.invariant (omega arith)
    refl
    c.get_above-first.ensures.0
    refl
    c.put.ensures
    c.put-in-loop-u.ensures

pub shape_of-s : goal.shape_of-s
shape_of-s c = c.loop-u.invariant.same.long

pub returns : goal.returns
returns c =
    let e = link-end c.loop-u.invariant (omega arith) in
    record { linked = e.0; same_data = e.1 }
