-- `family::members::others_of` meets its contract: a sum to the next member is one more summand, or none at i.
use Rattle.std.proofs.Common.{arith, add-one, ap, ◌∙◌, ◌≡◌, ◌≢◌, ℕ, ◌+◌}
use Rattle.std.specs.Prelude.{not, eqb}
use borrow.Author.Tests.{eq-eqb, ne_eqb}
use Rattle.numbers.specs.Sums.{ℕ_adds, sum_to, pick}
use Rattle.numbers.proofs.SumLaws.{sum_to-next}
use Rattle.family_spec.specs.declared.Family.{Family}
use Rattle.family_spec.specs.Family.{total_of, others}
use Rattle.family.proofs.members.others_of.Goals as goal
use Rattle.family.proofs.members.others_of.Goals.{then-j-i, else-j-i}

-- the summands of the first j members
abbrev part : Family → ℕ → ℕ → ℕ
part f i j = sum_to ℕ_adds j (λ k. pick ℕ_adds (not (eqb k i)) (total_of f k))

counted : (f : Family) (i j s t : ℕ) → s ≡ part f i j → j ≢ i → t ≡ s + total_of f j → t ≡ part f i (j + 1)
counted f i j s t p n e = rw (add-one, sum_to-next ℕ_adds j (λ k. pick ℕ_adds (not (eqb k i)) (total_of f k)), ne_eqb j i n) (omega (arith, p, e))

skipped : (f : Family) (i j s t : ℕ) → s ≡ part f i j → j ≡ i → t ≡ s → t ≡ part f i (j + 1)
skipped f i j s t p n e = rw (add-one, sum_to-next ℕ_adds j (λ k. pick ℕ_adds (not (eqb k i)) (total_of f k)), eq-eqb j i n) (omega (arith, p, e))

pub loop-j-init : goal.loop-j-init
unfolding sum_to
loop-j-init c = omega arith

pub loop-j-preserved : goal.loop-j-preserved
loop-j-preserved c =
    elim c.if-j-i.branch [
      | then-j-i w ↦ (counted c.args.family c.args.i c.loop-j.j c.loop-j.sum c.if-j-i.sum c.loop-j.invariant.0 w.if-j-i.true (w.sum-is ∙ ap (λ n. c.loop-j.sum + n) w.from-sum.ensures), omega (arith, c.loop-j.invariant.1))
      | else-j-i w ↦ (skipped c.args.family c.args.i c.loop-j.j c.loop-j.sum c.if-j-i.sum c.loop-j.invariant.0 w.if-j-i.false w.sum-is, omega (arith, c.loop-j.invariant.1))
    ]

pub returns : goal.returns
unfolding others
returns c = let e : c.loop-j.j ≡ 8 = omega arith in (c.loop-j.invariant.0 ∙ ap (part c.args.family c.args.i) e, omega (arith, c.loop-j.invariant.1))
