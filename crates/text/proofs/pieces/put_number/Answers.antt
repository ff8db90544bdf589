-- `text::pieces::put_number` meets its contract: the digits, and one byte after them.
use native.Mathlib.Omega.{arith}
use Rattle.text.proofs.TextLaws.{then, byte}
use Rattle.text.proofs.pieces.put_number.Goals as goal

pub returns : goal.returns
returns c =
    let a = c.args in
    let p = c.put_digits-end in
    (then (omega arith) p.ensures.0 (byte p.new.out p.result a.after (omega arith)), omega arith)
