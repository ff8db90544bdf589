-- `doubles::singles::significand` meets its contract: neither shift loses a bit.
use mathlib.Core.Path.{◌≡◌, sym, ap, subst, ◌∙◌}
use Prim.Native.Nat.{ℕ, ◌*◌, ◌%◌, ◌^◌, ◌≤◌, ◌<◌}
use native.Mathlib.Omega.{arith}
use lib.Pow.{pow_pos}
use lib.Ieee.Nearest.{closest}
use Rattle.doubles_spec.specs.Forms.{significand}
use Rattle.doubles_spec.proofs.Fractions.{unit-is}
use Rattle.doubles_spec.proofs.SingleLaws.{highest-small, significand-top}
use Rattle.doubles.proofs.singles.significand.Goals as goal
use Rattle.doubles.proofs.singles.significand.Goals.{Start}

small : (c : Start) → c.args.highest ≤ 30
small c = highest-small c.requires.mass_bound c.requires.is_highest

unit : (c : Start) → 1 * 2 ^ c.args.highest % 2 ^ 64 ≡ 2 ^ c.args.highest
unit c = unit-is c.args.highest (omega (arith, small c))

pub overflow_shl-highest : goal.overflow_shl-highest
overflow_shl-highest c = omega (arith, small c.before)

pub closest-requires : goal.closest-requires
closest-requires c = record { size_bound = omega arith; unit_nonzero = subst (λ (u : ℕ). 0 < u) (sym (unit c.before)) (pow_pos c.args.highest) }

-- what the division gives
is : (c : goal.After-closest) → c.closest.result ≡ significand c.args.mass c.args.highest
is c =
    let a = c.args in
    let size : c.before.from.result * 2 ^ 23 % 2 ^ 64 ≡ a.mass * 2 ^ 23 = omega (arith, c.before.from.ensures) in
    c.closest.ensures
    ∙ ap (λ (n : ℕ). closest n (1 * 2 ^ a.highest % 2 ^ 64)) size
    ∙ ap (λ (n : ℕ). closest (a.mass * 2 ^ 23) n) (unit c.before.before)

pub overflow_cast-result : goal.overflow_cast-result
overflow_cast-result c = let a = c.args in omega (arith, is c, significand-top a.mass a.highest c.requires.is_highest)

pub returns : goal.returns
returns c = is c
