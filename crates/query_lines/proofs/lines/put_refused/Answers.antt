-- `query_lines::lines::put_refused` meets its contract: 8 has the side and the distance of its total after it, and any other refusal is the line.
use native.Mathlib.Omega.{arith}
use borrow.Author.Tests.{eq-eqb, ne_eqb}
use Rattle.query_spec.specs.Query.{refused_line}
use Rattle.query_lines.proofs.lines.put_refused.Goals as goal

pub returns-then-refusal-eq8 : goal.returns-then-refusal-eq8
unfolding refused_line
returns-then-refusal-eq8 c =
    let a = c.args in
    let p = c.put_beyond.ensures in
    let d = c.side_of-side.ensures in
    (rw (eq-eqb a.refusal.number 8 c.if-refusal-eq8.true) (rw (d.below_value, d.distance_value) at p.0), p.1)

pub returns : goal.returns
unfolding refused_line
returns c =
    let p = c.put_refusal.ensures in
    (rw (ne_eqb c.args.refusal.number 8 c.if-refusal-eq8.false) p.0, omega (arith, p.1))
