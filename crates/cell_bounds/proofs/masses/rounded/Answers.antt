-- `cell_bounds::masses::rounded` meets its contract: a ratio of at most 1048576 keeps the product below 2 ^ 52, and the mass within the air mass.
use Prim.Native.Nat.{ℕ, ◌*◌, ◌≤◌}
use native.Mathlib.Nat.{mul-le-mul_left}
use native.Mathlib.Omega.{arith}
use Rattle.bounds_spec.specs.Ratios.{parts}
use Rattle.cell_bounds.proofs.masses.rounded.Goals as goal

most : (air ratio : ℕ) → ratio ≤ parts → air * ratio ≤ air * parts
most air ratio r = mul-le-mul_left air r

pub overflow_mul-product : goal.overflow_mul-product
overflow_mul-product c = omega (arith, most c.from.result c.from-2.result (omega arith))

pub overflow_add-result : goal.overflow_add-result
overflow_add-result c = omega (arith, most c.from.result c.from-2.result (omega arith))

pub overflow_cast-result : goal.overflow_cast-result
overflow_cast-result c = omega (arith, most c.from.result c.from-2.result (omega arith))
