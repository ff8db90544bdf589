-- `listing::lines::put_listing` meets its contract: the first line and the cells' lines after it are the text.
use native.Mathlib.Omega.{arith}
use Rattle.text.proofs.TextLaws.{then}
use Rattle.listing.specs.Listing.{listing}
use Rattle.listing.proofs.lines.put_listing.Goals as goal

pub returns : goal.returns
unfolding listing
returns c =
    let p = c.put_head-end in
    let q = c.put_cells in
    (then (omega arith) p.ensures.0 q.ensures.0, omega (arith, p.ensures.1, q.ensures.1))
