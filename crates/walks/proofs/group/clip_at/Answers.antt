-- `walks::group::clip_at` meets its contract: the larger of low and the smaller of target and high is the clipped target (`clip-is`).
use mathlib.Core.Path.{sym, ◌∙◌, ap₂}
use Prim.Native.Nat.{min, max}
use native.Mathlib.Omega.{arith}
use Rattle.caas_spec.proofs.SplitLaws.{clip-is}
use Rattle.walks.proofs.group.clip_at.Goals as goal

pub returns : goal.returns
returns c =
    let target = c.get_above-target.ensures in
    let low = c.get_above-low.ensures in
    let high = c.get_above-high.ensures in (
      c.max.ensures ∙ ap₂ max low.0 (c.min.ensures ∙ ap₂ min target.0 high.0) ∙ sym (clip-is _ _ _),
      omega (arith, c.max.ensures, c.min.ensures, low.1, high.1),
    )
