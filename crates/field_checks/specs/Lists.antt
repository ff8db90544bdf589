-- What the checks of values ask of the lists, and the marks of the nodes that have a child. Assumes nothing.
use Rattle.std.specs.Prelude.{◌≡◌, Bool, List, ℕ, ◌≤◌, ◌<◌, eqb, length}
use Rattle.numbers.specs.Lists.{at}
use Rattle.qlt_spec.specs.Tree.{any_child}
use Rattle.qlt_spec.specs.Field.{Lists, cells, nodes}
use Rattle.qlt_spec.specs.Checks.{bounds_ordered}

-- the lengths that 1 to 3 have shown
pub record Sized (f : Lists) : Type 0 where
  pub few : cells f ≤ 512
  pub nodes_few : nodes f ≤ 1024
  pub lows : length f.lows ≡ cells f
  pub highs : length f.highs ≡ cells f
  pub safe_lows : length f.safe_lows ≡ cells f
  pub safe_highs : length f.safe_highs ≡ cells f
  pub weights : length f.weights ≡ cells f

-- a cell's bounds do not cross
abbrev pub ordered : Lists → ℕ → Bool
ordered f c = bounds_ordered (at f.safe_lows c) (at f.lows c) (at f.highs c) (at f.safe_highs c)

-- the marks, 1 or not, are those of the nodes that have a child among the first k
pub record Marks (up : ℕ → ℕ) (k : ℕ) (seen : List ℕ) : Type 0 where
  pub each : (v : ℕ) → v < length seen → eqb (at seen v) 1 ≡ any_child up k v
