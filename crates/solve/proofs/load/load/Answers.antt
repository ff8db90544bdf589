-- `solve::load::load` meets its contract: the cells have their values, whose sum is small, so they can be added up.
use native.Mathlib.Omega.{arith}
use lib.ListN.{length}
use Rattle.numbers.specs.Lists.{at}
use Rattle.numbers.proofs.SumLaws.{sum_to-summand}
use Rattle.scratch_spec.proofs.ColumnLaws.{number-below}
use Rattle.solve_spec.proofs.GatherLaws.{load-gathering, load-end}
use Rattle.solve.proofs.load.load.Goals as goal

pub fill-requires : goal.fill-requires
fill-requires c =
    let xs = c.args.xs.now in
    let pre = c.requires in
    (pre.valid.room, pre.m_in_bounds_2, λ u l. omega (arith, sum_to-summand (length xs) (at xs) u l, pre.xs_bound))

pub gather-requires : goal.gather-requires
gather-requires c =
    let pre = c.requires in
    record { m_in_bounds = pre.m_in_bounds; gathering = load-gathering pre.valid c.fill.ensures pre.m_in_bounds_2 (number-below c.args.column) (omega (arith, pre.xs_bound)) (λ j. pre.xs_bound) }

pub returns : goal.returns
returns c = load-end c.requires.valid c.fill.ensures c.gather.ensures
