-- `field_checks::values::check_order` meets its contract: the verdict is that of the cells from c on.
use Rattle.std.specs.Prelude.{Err}
use mathlib.Core.Path.{sym, ◌∙◌, ap}
use lib.ListN.{length}
use Rattle.numbers.proofs.CheckLaws.{first_on, first-here, first-none}
use Rattle.qlt_spec.specs.Field.{lists_of}
use Rattle.qlt_spec.specs.Checks.{check_order}
use Rattle.field_checks.specs.Lists.{ordered}
use Rattle.field_checks.proofs.values.check_order.Goals as goal

pub returns-then-not-in_order : goal.returns-then-not-in_order
unfolding check_order
returns-then-not-in_order c =
    let f = c.args.field.now in
    ap Err c.at.ensures
    ∙ sym (c.loop-c.invariant ∙ first-here (ordered (lists_of f)) 5 c.loop-c.c (length f.targets.now) c.loop-c-test.true (sym c.in_order.ensures ∙ c.if-not-in_order.true))

pub loop-c-preserved : goal.loop-c-preserved
loop-c-preserved c =
    let f = c.args.field.now in
    c.loop-c.invariant ∙ first_on (ordered (lists_of f)) 5 c.loop-c.c (length f.targets.now) c.loop-c-test.true (sym c.in_order.ensures ∙ c.if-not-in_order.false)

pub returns : goal.returns
unfolding check_order
returns c =
    let f = c.args.field.now in
    sym (c.loop-c.invariant ∙ first-none (ordered (lists_of f)) 5 c.loop-c.c (length f.targets.now) c.loop-c-test.false)
