-- `legzhuro_c::calls::split` meets its contract: the shape's checks first, and then what Split tells is returned and written.
use Rattle.std.proofs.lemmas.Result.{err_from_is_err_and}
use mathlib.Core.Path.{sym, subst}
use lib.IntN.{ℤ}
use mir.Syntax.{w64}
use mir.ValLaws.{to_z-of_z}
use Rattle.caas_spec.specs.Operation.{split_call, SplitContract}
use Rattle.legzhuro_c.proofs.CallLaws.{split-shape-refused, split-room, split_done, split-refused}
use Rattle.legzhuro_c.proofs.calls.split.Goals as goal

pub returns-in_err-split_shape : goal.returns-in_err-split_shape
returns-in_err-split_shape c =
    let a = c.args in
    let p = err_from_is_err_and c.from_residual.result c.from_residual.ensures.1 in
    rw (p.1, p.2) (split-shape-refused (split_call a.targets.now a.lows.now a.highs.now a.weights.now a.total a.masses.now) a.deficit.now (sym c.in_err-split_shape.ensures))

pub returns-in_err-d : goal.returns-in_err-d
returns-in_err-d c =
    let a = c.args in
    let x = λ (z : ℤ). split_call a.targets.now a.lows.now a.highs.now a.weights.now z a.masses.now in
    let p = err_from_is_err_and c.from_residual-in_err-d.result c.from_residual-in_err-d.ensures.1 in
    rw (p.1, p.2)
    (split-refused (x a.total) a.deficit.now (sym c.in_ok-split_shape.ensures)
    (subst (λ (z : ℤ). SplitContract (x z) c.split.result c.split.new.masses) (to_z-of_z w64 a.total c.ranges.total) c.split.ensures)
    c.in_err-d.was)

pub put_deficit-requires : goal.put_deficit-requires
put_deficit-requires c =
    let a = c.args in
    split-room (split_call a.targets.now a.lows.now a.highs.now a.weights.now a.total a.masses.now) a.deficit.now (sym c.in_ok-split_shape.ensures)

pub returns : goal.returns
returns c =
    let a = c.args in
    let x = λ (z : ℤ). split_call a.targets.now a.lows.now a.highs.now a.weights.now z a.masses.now in
    split_done (x a.total) a.deficit.now (sym c.in_ok-split_shape.ensures)
    (subst (λ (z : ℤ). SplitContract (x z) c.split.result c.split.new.masses) (to_z-of_z w64 a.total c.ranges.total) c.split.ensures)
    c.in_ok-d.was c.put_deficit.ensures
