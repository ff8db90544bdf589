-- `listing::lines::put_head` meets its contract: its four named numbers in order are the first line.
use native.Mathlib.Omega.{arith}
use Rattle.text.proofs.TextLaws.{then}
use Rattle.listing.specs.Listing.{head_line}
use Rattle.listing.proofs.lines.put_head.Goals as goal

pub returns : goal.returns
unfolding head_line
returns c =
    let p = c.put_named-a in
    let q = c.put_named-b in
    let r = c.put_named-c in
    let s = c.put_named in (
      then (omega arith) (then (omega arith) (then (omega arith) (rw c.from.ensures at p.ensures.0) q.ensures.0) (rw c.from-2.ensures at r.ensures.0)) s.ensures.0,
      omega (arith, p.ensures.1, q.ensures.1, r.ensures.1, s.ensures.1),
    )
