-- Tracer consistency (document 003, by ticket 8 of 02): a uniform mixing ratio stays uniform. The condition on ratios and air masses, and what
-- the masses are then. Assumes nothing.
use Rattle.std.specs.Prelude.{◌≡◌, List, ℕ, ◌*◌, ◌%◌, ◌<◌, length}
use Rattle.numbers.specs.Lists.{at}
use Rattle.bounds_spec.specs.declared.Ratio.{Ratio}
use Rattle.bounds_spec.specs.Ratios.{parts}
use Rattle.bounds_spec.specs.Bounds.{Mixing, cells}

-- 'all ratios are equal and each product divides evenly'
pub record Uniform (x : Mixing) (r : Ratio) : Type 0 where
  pub low : (c : ℕ) → c < cells x → at x.low_ratios c ≡ r.0
  pub high : (c : ℕ) → c < cells x → at x.high_ratios c ≡ r.0
  pub even : (c : ℕ) → c < cells x → at x.air c * r.0 % parts ≡ 0

-- 'every cell's mass is its air times the ratio', in parts on both sides
pub record Consistent (x : Mixing) (r : Ratio) (masses : List ℕ) : Type 0 where
  pub count : length masses ≡ cells x
  pub mass : (c : ℕ) → c < cells x → at masses c * parts ≡ at x.air c * r.0
