-- `doubles::singles::single` meets its contract: its bit pattern is that of the value, by `single-bits`.
use mathlib.Core.Path.{sym, ap, subst, ◌∙◌}
use Prim.Native.Nat.{ℕ, ◌+◌, ◌-◌, ◌*◌, ◌^◌, ◌≤◌}
use native.Mathlib.Omega.{arith}
use lib.Ieee.{binary32, of_bits}
use Rattle.doubles_spec.specs.ExportSingle.{export_single}
use Rattle.doubles_spec.proofs.Patterns.{pattern-no-nan}
use Rattle.doubles_spec.proofs.SingleLaws.{single-zero, highest-small, significand-top, single-bits}
use Rattle.doubles.proofs.singles.single.Goals as goal

pub returns-then-mass-eq0 : goal.returns-then-mass-eq0
unfolding of_bits
returns-then-mass-eq0 c = let a = c.args in sym (ap (λ (m : ℕ). export_single m a.k) c.if-mass-eq0.true ∙ single-zero a.k)

small : (c : goal.After-highest_bit-highest) → c.highest_bit-highest.result ≤ 30
small c = highest-small c.requires.mass_bound c.highest_bit-highest.ensures

pub overflow_add-result : goal.overflow_add-result
overflow_add-result c = omega (arith, small c)

pub overflow_mul-result : goal.overflow_mul-result
overflow_mul-result c = omega (arith, small c)

-- the significand is at most 2 ^ 24
top : (c : goal.After-significand) → c.significand.result ≤ 2 ^ 24
top c =
    let m = c.args.mass in
    let j = c.highest_bit-highest.result in
    subst (λ (n : ℕ). n ≤ 2 ^ 24) (sym c.significand.ensures) (significand-top m j c.highest_bit-highest.ensures)

pub overflow_add-result-2 : goal.overflow_add-result-2
overflow_add-result-2 c = omega (arith, small c.before, top c)

pub float_from_bits-result : goal.float_from_bits-result
float_from_bits-result c = pattern-no-nan binary32 _ (omega (arith, small c.before, top c))

pub returns : goal.returns
returns c =
    let a = c.args in
    let j = c.highest_bit-highest.result in
    ap (λ (n : ℕ). of_bits binary32 ((126 + j - a.k) * 2 ^ 23 + n)) c.significand.ensures
    ∙ sym (single-bits a.mass a.k j (omega arith) (omega arith) c.highest_bit-highest.ensures)
