-- `field_checks::tree::first_bad` meets its contract: the verdict is that of the nodes from v on.
use Rattle.std.specs.Prelude.{Err}
use mathlib.Core.Path.{◌≡◌, refl, sym, ◌∙◌, ap}
use native.Mathlib.Omega.{arith}
use lib.ListN.{length}
use Rattle.numbers.specs.Lists.{at}
use Rattle.numbers.proofs.CheckLaws.{first_on, first-here, first-none}
use Rattle.qlt_spec.specs.Tree.{node_ok}
use Rattle.qlt_spec.specs.Checks.{check_tree}
use Rattle.field_checks.proofs.CodeLaws.{good-is}
use Rattle.field_checks.proofs.tree.first_bad.Goals as goal

pub returns-then-not-node_good : goal.returns-then-not-node_good
unfolding check_tree
returns-then-not-node_good c =
    let a = c.args in
    let good : c.node_good.result ≡ node_ok (at a.parents.now) a.n (length a.parents.now) c.loop-v.v =
    good-is (at a.parents.now) a.n (length a.parents.now) c.loop-v.v (at a.parents.now c.loop-v.v) (at a.seen.now c.loop-v.v) _ c.node_good.ensures refl (c.requires.marks.each c.loop-v.v (omega arith)) in
    ap Err c.at.ensures ∙ sym (c.loop-v.invariant ∙ first-here (node_ok (at a.parents.now) a.n (length a.parents.now)) 4 c.loop-v.v (length a.parents.now) c.loop-v-test.true (sym good ∙ c.if-not-node_good.true))

pub loop-v-preserved : goal.loop-v-preserved
loop-v-preserved c =
    let a = c.args in
    let good : c.node_good.result ≡ node_ok (at a.parents.now) a.n (length a.parents.now) c.loop-v.v =
    good-is (at a.parents.now) a.n (length a.parents.now) c.loop-v.v (at a.parents.now c.loop-v.v) (at a.seen.now c.loop-v.v) _ c.node_good.ensures refl (c.requires.marks.each c.loop-v.v (omega arith)) in
    c.loop-v.invariant ∙ first_on (node_ok (at a.parents.now) a.n (length a.parents.now)) 4 c.loop-v.v (length a.parents.now) c.loop-v-test.true (sym good ∙ c.if-not-node_good.false)

pub returns : goal.returns
unfolding check_tree
returns c =
    let a = c.args in
    sym (c.loop-v.invariant ∙ first-none (node_ok (at a.parents.now) a.n (length a.parents.now)) 4 c.loop-v.v (length a.parents.now) c.loop-v-test.false)
