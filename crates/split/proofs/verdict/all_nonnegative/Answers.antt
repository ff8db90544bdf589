-- `split::verdict::all_nonnegative` meets its contract: the answer is that of the places from the index on.
use mathlib.Core.Path.{◌≡◌, refl, sym, ◌∙◌, ap}
use mathlib.Core.Bool.{true, false}
use native.Mathlib.Nat.{sub-zero}
use native.Mathlib.Omega.{arith}
use lib.IntN.{ℤ, pos, negsuc}
use lib.Signed.{lt_z, le_z}
use lib.ListN.{length}
use Rattle.numbers.specs.Lists.{at_ℤ}
use borrow.Author.Tests.{le-leb}
use Rattle.numbers.proofs.SignedLaws.{read_back, lt_z-true, lt_z-false}
use Rattle.numbers.proofs.CheckLaws.{every-on, every_here, every-none}
use Rattle.split.proofs.verdict.all_nonnegative.Goals as goal

-- a number is below 0, or 0 is at most the number
below : (x : ℤ) → lt_z x (pos 0) ≡ true → le_z (pos 0) x ≡ false
below (pos n) e = absurd (omega (arith, lt_z-true (pos n) (pos 0) e))
below (negsuc n) e = refl

not_below : (x : ℤ) → lt_z x (pos 0) ≡ false → le_z (pos 0) x ≡ true
not_below (pos n) e = le-leb 0 n (omega arith)
not_below (negsuc n) e = absurd (omega (arith, lt_z-false (negsuc n) (pos 0) e))

pub loop-x-init : goal.loop-x-init
loop-x-init c = rw sub-zero

pub returns-then-x-lt0 : goal.returns-then-x-lt0
returns-then-x-lt0 c =
    let xs = c.args.xs.now in
    let u = c.loop-x.x-index in
    let x = read_back (at_ℤ xs u) (omega arith) in
    sym (c.loop-x.invariant ∙ every_here _ u (length xs) (omega arith) (below (at_ℤ xs u) (ap (λ z. lt_z z (pos 0)) (sym x) ∙ c.if-x-lt0.true)))

pub loop-x-preserved : goal.loop-x-preserved
loop-x-preserved c =
    let xs = c.args.xs.now in
    let u = c.loop-x.x-index in
    let x = read_back (at_ℤ xs u) (omega arith) in
    c.loop-x.invariant ∙ every-on _ u (length xs) (omega arith) (not_below (at_ℤ xs u) (ap (λ z. lt_z z (pos 0)) (sym x) ∙ c.if-x-lt0.false))

pub returns : goal.returns
returns c = let xs = c.args.xs.now in sym (c.loop-x.invariant ∙ every-none _ c.loop-x.x-index (length xs) (omega arith))
