-- `query_lines::lines::put_parts` meets its contract: a named number and three named signed ones in order are the line.
use native.Mathlib.Omega.{arith}
use mir.Syntax.{w64}
use mir.ValLaws.{to_z-of_z}
use Rattle.text.proofs.TextLaws.{then}
use Rattle.query_spec.specs.Query.{parts_line}
use borrow.Author.Rules.{rules}
use Rattle.query_lines.proofs.lines.put_parts.Goals as goal

pub returns : goal.returns
unfolding parts_line
returns c =
    let a = c.args.parts in
    let d = to_z-of_z w64 a.clipping (search rules) in
    let e = to_z-of_z w64 a.first (search rules) in
    let f = to_z-of_z w64 a.second (search rules) in
    let o = c.put_named-a.ensures in
    let p = c.put_named_signed-b.ensures in
    let q = c.put_named_signed-c.ensures in
    let r = c.put_named_signed.ensures in
    (then (omega arith) (then (omega arith) (then (omega arith) (rw c.from.ensures at o.0) (rw d at p.0)) (rw e at q.0)) (rw f at r.0), omega (arith, o.1, p.1, q.1, r.1))
