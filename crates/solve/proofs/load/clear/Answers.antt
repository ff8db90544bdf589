-- `solve::load::clear` meets its contract: k zeros stand before what lies past them.
use mathlib.Core.Path.{refl}
use native.Mathlib.Omega.{arith}
use lib.IntN.{pos}
use lib.ListN.{length-take}
use Rattle.solve_spec.proofs.GatherLaws.{cleared-by}
use Rattle.solve.proofs.load.clear.Goals as goal

pub returns : goal.returns
returns c =
    let zeros = c.fill.ensures in
    let long = length-take c.args.k c.args.s.now in
    cleared-by c.args.k c.args.s.now c.fill.new.self (omega (arith, zeros.len, long)) (λ i l. zeros.clones i (pos 0) (omega (arith, long)) refl)
