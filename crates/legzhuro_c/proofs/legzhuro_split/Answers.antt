-- `legzhuro_c::legzhuro_split` meets its contract: it is the call of `calls`.
use mathlib.Core.Path.{subst}
use lib.IntN.{ℤ}
use mir.Syntax.{w64}
use mir.ValLaws.{to_z-of_z}
use Rattle.caas_spec.specs.Operation.{split_call}
use Rattle.call_values.specs.Values.{returned}
use Rattle.legzhuro_c.specs.Calls.{SplitReturns}
use Rattle.legzhuro_c.proofs.legzhuro_split.Goals as goal

pub returns : goal.returns
returns c =
    let a = c.args in
    let done = c.split in
    rw c.returned.ensures
    (subst (λ (z : ℤ). SplitReturns (split_call a.targets.now a.lows.now a.highs.now a.weights.now z a.masses.now) a.deficit.now (returned done.result) done.new.masses done.new.deficit)
    (to_z-of_z w64 a.total c.ranges.total) done.ensures)
