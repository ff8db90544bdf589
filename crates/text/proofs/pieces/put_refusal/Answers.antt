-- `text::pieces::put_refusal` meets its contract: the named number and the place after it are the text.
use native.Mathlib.Omega.{arith}
use Rattle.text.proofs.TextLaws.{then}
use Rattle.text.specs.Text.{refusal_text}
use Rattle.text.proofs.pieces.put_refusal.Goals as goal

pub returns : goal.returns
unfolding refusal_text
returns c =
    let p = c.put_named-a in
    let q = c.put_number in
    (then (omega arith) (rw c.from.ensures at p.ensures.0) (rw c.from-2.ensures at q.ensures.0), omega (arith, p.ensures.1, q.ensures.1))
