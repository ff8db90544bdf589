-- The outcome by cases, and the bounds in force: in order, with room for M, within the safety bounds. Assumes nothing.
use mathlib.Core.Path.{◌≡◌}
use Prim.Native.Nat.{ℕ, ◌≤◌, ◌<◌}
use native.Mathlib.Omega.{arith}
use lib.Dec.{ltb}
use borrow.Author.Tests.{ltb-true, ltb-false}
use Rattle.numbers.proofs.TestLaws.{Tested, holds, fails, tested}
use Rattle.qlt_spec.specs.Field.{Field, Ordered, outcome, low_in, high_in, sum_cells}
use Rattle.qlt_spec.specs.declared.Outcome.{Outcome}
use Rattle.qlt_spec.specs.declared.Outcome.TheVariants.{Attainable, Below, Above}

module _ (F : Field) (M : ℕ) where
  -- each outcome with what it says of the sums
  pub data Case : Type 0 where
    is-attainable : sum_cells F F.low ≤ M → M ≤ sum_cells F F.high → outcome F M ≡ Attainable → Case
    is_below : M < sum_cells F F.low → outcome F M ≡ Below → Case
    is-above : sum_cells F F.low ≤ M → sum_cells F F.high < M → outcome F M ≡ Above → Case

  -- one of the three holds
  pub case : Case
  unfolding outcome
  case = go (tested (ltb M (sum_cells F F.low))) (tested (ltb (sum_cells F F.high) M))
    where
      go : Tested (ltb M (sum_cells F F.low)) → Tested (ltb (sum_cells F F.high) M) → Case
      go (holds p) q = is_below (ltb-true _ _ p) (rw p)
      go (fails p) (holds q) = is-above (ltb-false _ _ p) (ltb-true _ _ q) (rw (p, q))
      go (fails p) (fails q) = is-attainable (ltb-false _ _ p) (ltb-false _ _ q) (rw (p, q))

  -- the bounds in force have room for M
  pub force-room :
      sum_cells F F.safe_low ≤ M → M ≤ sum_cells F F.safe_high
      → (sum_cells F (low_in (outcome F M) F) ≤ M) × (M ≤ sum_cells F (high_in (outcome F M) F))
  unfolding low_in high_in
  force-room h k = go case
    where
      go : Case → (sum_cells F (low_in (outcome F M) F) ≤ M) × (M ≤ sum_cells F (high_in (outcome F M) F))
      go (is-attainable p q e) = rw e (p, q)
      go (is_below p e) = rw e (h, omega arith)
      go (is-above p q e) = rw e (omega arith, k)

module _ (F : Field) (ordered : (c : ℕ) → c < F.n → Ordered F c) where
  -- the bounds in force are in order
  pub force-order : (o : Outcome) (c : ℕ) → c < F.n → low_in o F c ≤ high_in o F c
  unfolding low_in high_in
  force-order Attainable c l = (ordered c l).high
  force-order Below c l = (ordered c l).low
  force-order Above c l = (ordered c l).safe

  -- they lie within the safety bounds: the lows
  pub force-safe-low : (o : Outcome) (c : ℕ) → c < F.n → F.safe_low c ≤ low_in o F c
  unfolding low_in
  force-safe-low Attainable c l = (ordered c l).low
  force-safe-low Below c l = omega arith
  force-safe-low Above c l = omega (arith, ordered c l)

  -- and the highs
  pub force-safe-high : (o : Outcome) (c : ℕ) → c < F.n → high_in o F c ≤ F.safe_high c
  unfolding high_in
  force-safe-high Attainable c l = (ordered c l).safe
  force-safe-high Below c l = omega (arith, ordered c l)
  force-safe-high Above c l = omega arith
