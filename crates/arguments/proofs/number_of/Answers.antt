-- `arguments::number_of` meets its contract: `ReadTo` holds from turn to turn (`read-start`, `read-turn`), and a byte that is no digit
-- makes the argument too large (`argument-strange`).
use mathlib.Core.Path.{◌≡◌, sym, refl}
use Prim.Native.Nat.{◌<◌}
use lib.ListN.{length}
use Rattle.std.proofs.lemmas.Bool.Decides.{nat_tests}
use mathlib.Core.Logic.{inl, inr}
use native.Mathlib.Omega.{arith}
use Rattle.arguments.proofs.ArgumentLaws.{read-start, read-turn, read-end, argument-other, argument-strange}
use Rattle.arguments.proofs.number_of.Goals as goal
use Rattle.arguments.proofs.number_of.Goals.{then-byte-lt-ZERO-via-then-byte-lt-ZERO, then-byte-lt-ZERO-via-else-byte-lt-ZERO+then-byte-gt-NINE}

pub loop-byte-init : goal.loop-byte-init
loop-byte-init c = read-start c.args.text.now

pub returns-then-is_empty : goal.returns-then-is_empty
returns-then-is_empty c =
    let z : length c.args.text.now ≡ 0 = grind (arith, nat_tests) in
    sym (argument-other c.args.text.now (λ h. omega (arith, h.some)))

pub returns-then-byte-lt-ZERO : goal.returns-then-byte-lt-ZERO
returns-then-byte-lt-ZERO c =
    let strange = argument-strange c.args.text.now c.loop-byte.byte-index c.loop-byte-test.true in
    elim c.then-byte-lt-ZERO.branch [ then-byte-lt-ZERO-via-then-byte-lt-ZERO w ↦ sym (strange (inl w.if-byte-lt-ZERO.true)) | then-byte-lt-ZERO-via-else-byte-lt-ZERO+then-byte-gt-NINE w ↦ sym (strange (inr w.if-byte-gt-NINE.true)) ]

pub loop-byte-preserved : goal.loop-byte-preserved
loop-byte-preserved c =
    let l = c.loop-byte in
    read-turn c.args.text.now l.byte-index l.value _ _ l.invariant c.loop-byte-test.true refl
    c.if-byte-lt-ZERO.false c.if-byte-gt-NINE.false (omega (arith, c.saturating_mul.ensures, c.from.ensures, c.saturating_add-value.ensures))

pub returns : goal.returns
returns c =
    let z : 0 < length c.args.text.now = grind (arith, nat_tests) in
    read-end c.args.text.now c.loop-byte.byte-index c.loop-byte.value c.loop-byte.invariant c.loop-byte-test.false z
