-- `turns::waiting::first_waiting` meets its contract: past k members the search is that of the 8 - k left.
use Rattle.std.proofs.Common.{arith, ℕ, ap, sym, ◌∙◌, ◌≡◌, ◌+◌, ◌%◌}
use Rattle.std.specs.Prelude.{Some}
use Rattle.family_spec.specs.Waiting.{waits}
use Rattle.family_spec.proofs.WaitingLaws.{next_here, next-on, next-none}
use Rattle.turns.proofs.waiting.first_waiting.Goals as goal

place : (from k : ℕ) → (from % 8 + k) % 8 ≡ (from + k) % 8
place from k = omega arith

pub returns-then-is_waiting : goal.returns-then-is_waiting
returns-then-is_waiting c =
    let a = c.args in
    let k = c.loop-k.k in
    ap (λ i. Some i) (place a.from k) ∙ sym (c.loop-k.invariant ∙ next_here a.byte a.from k (omega arith) (ap (waits a.byte) (sym (place a.from k)) ∙ sym c.is_waiting.ensures ∙ c.if-is_waiting.true))

pub loop-k-preserved : goal.loop-k-preserved
loop-k-preserved c =
    let a = c.args in
    let k = c.loop-k.k in
    c.loop-k.invariant ∙ next-on a.byte a.from k (omega arith) (ap (waits a.byte) (sym (place a.from k)) ∙ sym c.is_waiting.ensures ∙ c.if-is_waiting.false)

pub returns : goal.returns
returns c = let a = c.args in sym (c.loop-k.invariant ∙ next-none a.byte a.from c.loop-k.k (omega arith))
