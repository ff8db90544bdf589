-- `query_lines::lines::put_beyond` meets its contract: the refusal, and the distance after the word of its side.
use native.Mathlib.Omega.{arith}
use Rattle.text.proofs.TextLaws.{then}
use Rattle.query_spec.specs.Query.{beyond_line}
use Rattle.query_lines.proofs.lines.put_beyond.Goals as goal

pub returns-then-side : goal.returns-then-side
unfolding beyond_line
returns-then-side c =
    let p = c.put_refusal-a.ensures in
    let q = c.put_named.ensures in
    (rw c.if-side.true (then (omega arith) p.0 q.0), omega (arith, p.1, q.1))

pub returns : goal.returns
unfolding beyond_line
returns c =
    let p = c.put_refusal-a.ensures in
    let q = c.put_named-2.ensures in
    (rw c.if-side.false (then (omega arith) p.0 q.0), omega (arith, p.1, q.1))
