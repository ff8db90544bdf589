-- `solve::load::change` meets its contract: the sum over the cells passed; 512 of them, each below 2 ^ 33, do not overflow.
use mathlib.Core.Path.{◌≡◌, refl, ◌∙◌, ap}
use native.Mathlib.Omega.{arith}
use lib.IntN.{pos, nat_abs, ◌-ℤ◌}
use lib.ListN.{length}
use mir.Syntax.{w32}
use mir.ValLaws.{to_z-of_z}
use Rattle.numbers.specs.Sums.{ℕ_adds, sum_to}
use Rattle.numbers.specs.Lists.{at, at_ℤ}
use Rattle.solve_spec.proofs.GatherLaws.{sum-on}
use Rattle.solve.proofs.load.change.Goals as goal

pub loop-c-init : goal.loop-c-init
unfolding sum_to
loop-c-init c = record { small = omega arith; so_far = refl }

pub overflow_add-sum : goal.overflow_add-sum
overflow_add-sum c = record { fits = omega (arith, c.off-sum.ensures.1) }

pub loop-c-preserved : goal.loop-c-preserved
loop-c-preserved c =
    let a = c.args in
    let w = c.loop-c in
    let read = to_z-of_z w32 (at_ℤ a.targets.now w.c) (record { sfits = omega arith }) in
    record {
      small = omega (arith, c.off-sum.ensures.1, w.invariant.small);
      so_far = sum-on w.c _ w.invariant.so_far (c.off-sum.ensures.0 ∙ ap (λ z. nat_abs (pos (at a.masses.now w.c) -ℤ z)) read);
    }

pub returns : goal.returns
returns c =
    let s = c.args in
    let e : c.loop-c.c ≡ length s.masses.now = omega arith in
    c.loop-c.invariant.so_far ∙ ap (λ k. sum_to ℕ_adds k (λ i. nat_abs (pos (at s.masses.now i) -ℤ at_ℤ s.targets.now i))) e
