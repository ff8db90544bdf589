-- `split::verdict::check_order` meets its contract: the verdict is that of the places from u on.
use mathlib.Core.Path.{◌≡◌, sym, ◌∙◌}
use native.Mathlib.Nat.{sub-zero}
use native.Mathlib.Omega.{arith}
use lib.ListN.{length}
use Rattle.numbers.specs.Lists.{at_ℤ}
use Rattle.numbers.proofs.SignedLaws.{read_back}
use Rattle.numbers.proofs.CheckLaws.{first_on, first-here, first-none}
use Rattle.caas_spec.specs.Operation.{ordered_at, check_split_order}
use Rattle.split.proofs.CheckLaws.{ordered_then, ordered_else}
use Rattle.split.proofs.verdict.check_order.Goals as goal
use Rattle.split.proofs.verdict.check_order.Goals.{then-low-ge0, else-low-ge0}

pub loop-u-init : goal.loop-u-init
loop-u-init c = rw sub-zero

pub returns-then-not-low-highs : goal.returns-then-not-low-highs
unfolding check_split_order
returns-then-not-low-highs c =
    let lows = c.args.lows.now in
    let highs = c.args.highs.now in
    let u = c.loop-u.u in
    let e : c.if-low-ge0.value ≡ ordered_at lows highs u =
    elim c.if-low-ge0.branch [
      | then-low-ge0 w ↦ ordered_then lows highs u (read_back (at_ℤ lows u) (omega arith)) (read_back (at_ℤ highs u) (omega arith)) w.if-low-ge0.true w.value-is
      | else-low-ge0 w ↦ ordered_else lows highs u (read_back (at_ℤ lows u) (omega arith)) w.if-low-ge0.false w.value-is
    ] in
    cc (c.at.ensures, c.loop-u.invariant ∙ first-here (ordered_at lows highs) 5 u (length lows) (omega arith) (sym e ∙ c.if-not-low-highs.true))

pub loop-u-preserved : goal.loop-u-preserved
loop-u-preserved c =
    let lows = c.args.lows.now in
    let highs = c.args.highs.now in
    let u = c.loop-u.u in
    let e : c.if-low-ge0.value ≡ ordered_at lows highs u =
    elim c.if-low-ge0.branch [
      | then-low-ge0 w ↦ ordered_then lows highs u (read_back (at_ℤ lows u) (omega arith)) (read_back (at_ℤ highs u) (omega arith)) w.if-low-ge0.true w.value-is
      | else-low-ge0 w ↦ ordered_else lows highs u (read_back (at_ℤ lows u) (omega arith)) w.if-low-ge0.false w.value-is
    ] in
    c.loop-u.invariant ∙ first_on (ordered_at lows highs) 5 u (length lows) (omega arith) (sym e ∙ c.if-not-low-highs.false)

pub returns : goal.returns
unfolding check_split_order
returns c =
    let lows = c.args.lows.now in
    sym (c.loop-u.invariant ∙ first-none (ordered_at lows c.args.highs.now) 5 c.loop-u.u (length lows) (omega arith))
