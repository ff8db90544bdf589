-- `solve::whole_tree::solve` meets its contract: the columns are those of the tree, so the splits leave its masses (`solved`).
use native.Mathlib.Omega.{arith}
use lib.ListN.{length}
use Rattle.solve_spec.proofs.SolveLaws.{descending, long-end, mass-fits, masses-long, solved}
use Rattle.solve.proofs.whole_tree.solve.Goals as goal

pub descend-shared-requires : goal.descend-shared-requires
descend-shared-requires c =
    record { k_le_m = (c.requires.solvable.valid.room, omega arith); by_index = (length c.args.in_force.now.targets.now, (omega arith, descending c.requires.solvable c.prepare.ensures)) }

pub take_out-requires : goal.take_out-requires
take_out-requires c =
    let ok = c.requires.solvable in record { masses_in_bounds = omega (arith, long-end c.requires.solvable c.prepare.ensures c.descend-shared.ensures, c.requires.masses_len, ok.valid.room, ok.size); by_index = λ i l. mass-fits ok c.prepare.ensures c.descend-shared.ensures i (omega (arith, l, c.requires.masses_len)) }

pub clear-requires : goal.clear-requires
clear-requires c =
    omega (arith, long-end c.requires.solvable c.prepare.ensures c.descend-shared.ensures, c.requires.solvable.size)

pub change-change-requires : goal.change-change-requires
change-change-requires c =
    let e = masses-long c.requires.solvable c.prepare.ensures c.descend-shared.ensures c.requires.masses_len c.take_out.ensures in
    (e, omega (arith, e, c.requires.solvable.few))

pub returns : goal.returns
returns c =
    solved c.requires.solvable
    c.prepare.ensures
    c.descend-shared.ensures
    c.requires.masses_len
    c.take_out.ensures
    c.clear.ensures
    c.change-change.ensures
