-- `text::pieces::put_digits` meets its contract: one digit below ten, else the digits of the tenth and the last digit; k falls.
use native.Mathlib.Omega.{arith}
use Prim.Native.Nat.{◌+◌, ◌%◌}
use Rattle.text.proofs.TextLaws.{then, byte, one-digit, more-digits}
use Rattle.text.proofs.pieces.+put_digits.Goals as goal

pub returns-then-x-lt10 : goal.returns-then-x-lt10
returns-then-x-lt10 t c =
    let a = c.args in
    let e = one-digit a.k a.x c.requires.1 c.if-x-lt10.true in
    (rw e (byte a.out.now a.at (48 + a.x) (omega (arith, c.requires))), omega (arith, c.requires))

pub returns : goal.returns
returns t c =
    let a = c.args in
    let p = c.put_digits-last in
    let e = more-digits a.k a.x c.requires.1 c.if-x-lt10.false in
    (rw e (then (omega (arith, c.requires)) p.ensures.0 (byte p.new.out p.result (48 + a.x % 10) (omega (arith, p.auto.out, p.ensures.1, c.requires, c.if-x-lt10.false)))), omega (arith, p.ensures.1, c.requires))
