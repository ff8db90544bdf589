-- `bounds::verdict::check_ratios` meets its contract: the verdict is that of the cells from c on.
use Rattle.std.specs.Prelude.{Err}
use mathlib.Core.Path.{ap, sym, ◌∙◌}
use native.Mathlib.Nat.{sub-zero}
use lib.ListN.{length}
use Rattle.numbers.proofs.CheckLaws.{first_on, first-here, first-none}
use Rattle.bounds_spec.specs.Bounds.{ratios_ok_at, check_ratios}
use Rattle.bounds.proofs.verdict.check_ratios.Goals as goal

pub loop-c-init : goal.loop-c-init
loop-c-init c = rw sub-zero

pub returns-then-not-ratios_ok_at : goal.returns-then-not-ratios_ok_at
unfolding check_ratios
returns-then-not-ratios_ok_at c = let a = c.args in
    ap Err c.at.ensures ∙ sym (c.loop-c.invariant ∙ first-here (ratios_ok_at a.low_ratios.now a.high_ratios.now) 18 c.loop-c.c (length a.low_ratios.now) c.loop-c-test.true (sym c.ratios_ok_at.ensures ∙ c.if-not-ratios_ok_at.true))

pub loop-c-preserved : goal.loop-c-preserved
loop-c-preserved c = let a = c.args in
    c.loop-c.invariant ∙ first_on (ratios_ok_at a.low_ratios.now a.high_ratios.now) 18 c.loop-c.c (length a.low_ratios.now) c.loop-c-test.true (sym c.ratios_ok_at.ensures ∙ c.if-not-ratios_ok_at.false)

pub returns : goal.returns
unfolding check_ratios
returns c = let a = c.args in
    sym (c.loop-c.invariant ∙ first-none (ratios_ok_at a.low_ratios.now a.high_ratios.now) 18 c.loop-c.c (length a.low_ratios.now) c.loop-c-test.false)
