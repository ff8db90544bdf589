-- `solve::load::load_targets` meets its contract: as `load`; 512 targets of 32 bits each do not add up to too much.
use mathlib.Core.Path.{refl}
use native.Mathlib.Omega.{arith}
use Rattle.solve_spec.proofs.GatherLaws.{load-gathering, load-end, targets-small}
use Rattle.solve.proofs.load.load_targets.Goals as goal

pub gather-requires : goal.gather-requires
gather-requires c =
    let pre = c.requires in
    let filled = c.fill_targets.ensures in
    record { m_in_bounds = pre.m_in_bounds; gathering = load-gathering pre.valid filled.laid pre.m_in_bounds_2 (omega arith) (targets-small filled pre.xs_len_bound) (λ j. absurd (j refl)) }

pub returns : goal.returns
returns c = load-end c.requires.valid c.fill_targets.ensures.laid c.gather.ensures
