-- Laws for Split's checks in code: one item's order, and sums that stop at 2 ^ 31. Assumes nothing.
use Rattle.std.specs.Prelude.{Ok}
use mathlib.Core.Path.{◌≡◌, sym, ◌∙◌, ap}
use mathlib.Core.Bool.{Bool, true, false, ◌&&◌}
use mathlib.Core.List.{List}
use Prim.Native.Nat.{ℕ, ◌^◌, ◌≤◌, ◌<◌, min}
use native.Mathlib.Omega.{arith}
use native.Mathlib.Decide.{dec_le}
use lib.Dec.{leb}
use borrow.Author.Tests.{le-leb, lt-leb}
use lib.IntN.{ℤ, pos}
use lib.Signed.{le_z, ◌≤ℤ◌}
use lib.ListN.{length}
use mir.Syntax.{w64}
use mir.Val.{to_z, of_z}
use mir.ValLaws.{to_z_pos}
use Rattle.numbers.specs.Lists.{at_ℤ}
use Rattle.numbers.specs.Signed.{over}
use Rattle.numbers.specs.Checks.{every_from, max_total}
use Rattle.numbers.proofs.TestLaws.{Tested, holds, fails, tested}
use Rattle.numbers.proofs.CheckLaws.{every-means}
use Rattle.numbers.proofs.SumLaws.{sum_to-over, sum_to-le}
use Rattle.numbers.proofs.SignedLaws.{signed, from_zero, le_parts, le_z-means}
use Rattle.caas_spec.specs.Operation.{sum_ℤ, ordered_at, check_split_order, check_highs}
use Rattle.caas_spec.proofs.OperationLaws.{split-order-decides, highs-decides}
use Rattle.split.specs.Sums.{sum_over, NonNegative, Summable}

-- what `&&` computes, by its first test
pub and_then : {a b v : Bool} → a ≡ true → v ≡ b → v ≡ a && b
and_then t e = rw t e

pub and_else : {a : Bool} (b : Bool) {v : Bool} → a ≡ false → v ≡ a → v ≡ a && b
and_else b f e = rw f (e ∙ f)

-- the test of one item's order as the code computes it, by whether its low is below 0
module _ (lows highs : List ℤ) (u : ℕ) {x : ℤ} {v : Bool} (low : x ≡ at_ℤ lows u) where
  pub ordered_then : {y : ℤ} → y ≡ at_ℤ highs u → le_z (pos 0) x ≡ true → v ≡ le_z x y → v ≡ ordered_at lows highs u
  ordered_then high t e = e ∙ sym (ap (λ z. le_z (pos 0) z && le_z z (at_ℤ highs u)) (sym low) ∙ rw (t, high))

  pub ordered_else : le_z (pos 0) x ≡ false → v ≡ le_z (pos 0) x → v ≡ ordered_at lows highs u
  ordered_else f e = e ∙ f ∙ sym (ap (λ z. le_z (pos 0) z && le_z z (at_ℤ highs u)) (sym low) ∙ rw f)

-- the sum of numbers none of which is below 0
pub sum_is : (xs : List ℤ) → NonNegative xs → sum_ℤ (length xs) xs ≡ pos (sum_over xs)
sum_is xs h = sum_to-over (length xs) (at_ℤ xs) (λ u l. from_zero (h.at u l))

-- a sum that stops at 2 ^ 31 fits exactly if the sum does
pub stopped : (s : ℕ) → leb (min s (2 ^ 31)) max_total ≡ leb s max_total
stopped s = go (dec_le s max_total)
  where
    go : Dec (s ≤ max_total) → leb (min s (2 ^ 31)) max_total ≡ leb s max_total
    go (yes h) = le-leb (min s (2 ^ 31)) max_total (omega arith) ∙ sym (le-leb s max_total h)
    go (no h) = lt-leb (min s (2 ^ 31)) max_total (omega arith) ∙ sym (lt-leb s max_total (omega arith))

-- for numbers none of which is below 0 this is the test of their sum
pub fits-is : (xs : List ℤ) → NonNegative xs → leb (sum_over xs) max_total ≡ le_z (sum_ℤ (length xs) xs) (pos max_total)
fits-is xs h = sym (ap (λ z. le_z z (pos max_total)) (sum_is xs h))

-- so it is after the test that none is below 0
abbrev every_non_negative : List ℤ → Bool
every_non_negative xs = every_from (λ u. le_z (pos 0) (at_ℤ xs u)) 0 (length xs)

pub weights-fit : (xs : List ℤ) → every_non_negative xs && leb (sum_over xs) max_total ≡ (every_non_negative xs && le_z (sum_ℤ (length xs) xs) (pos max_total))
weights-fit xs = go (tested (every_non_negative xs))
  where
    go : Tested (every_non_negative xs) → every_non_negative xs && leb (sum_over xs) max_total ≡ (every_non_negative xs && le_z (sum_ℤ (length xs) xs) (pos max_total))
    go (holds e) = rw e (fits-is xs (record { at = (every-means _ (λ u. pos 0 ≤ℤ at_ℤ xs u) (λ u. le_z-means (pos 0) (at_ℤ xs u)) (length xs)).0 e }))
    go (fails e) = rw e

-- a sum that stopped nowhere is the sum, also as it is read back
pub read-sum : (xs : List ℤ) (r : ℕ) (z : ℤ) → Summable xs → r ≡ min (sum_over xs) (2 ^ 31) → z ≡ pos r → to_z w64 (of_z w64 z) ≡ sum_ℤ (length xs) xs
read-sum xs r z h e f =
    let s = sum_is xs h.each in
    let b : sum_over xs ≤ max_total = omega (arith, le_parts h.sum, ap over s) in
    let w : r ≡ sum_over xs = omega arith in
    ap (λ (x : ℤ). to_z w64 (of_z w64 x)) f ∙ to_z_pos w64 r (omega arith) ∙ ap pos w ∙ sym s

-- ---- what checks that passed leave to those after them

module _ (lows highs : List ℤ) (same : length highs ≡ length lows) (passed : check_split_order (length lows) lows highs ≡ Ok tt) where
  ordered : (u : ℕ) → u < length lows → (pos 0 ≤ℤ at_ℤ lows u) × (at_ℤ lows u ≤ℤ at_ℤ highs u)
  ordered = (split-order-decides (length lows) lows highs).passes.0 passed

  pub lows-nonnegative : NonNegative lows
  lows-nonnegative = record { at = λ u l. (ordered u l).0 }

  pub highs-nonnegative : NonNegative highs
  highs-nonnegative = record { at = λ u l. let o = ordered u (omega arith) in omega (signed, le_parts o.0, le_parts o.1) }

  pub highs-summable : check_highs (length highs) highs ≡ Ok tt → Summable highs
  highs-summable e = record { each = highs-nonnegative; sum = (highs-decides (length highs) highs).passes.0 e }

  pub lows-summable : Summable highs → Summable lows
  lows-summable h =
      let m : sum_over lows ≤ sum_over highs = rw same (sum_to-le (length lows) (λ u. over (at_ℤ lows u)) (λ u. over (at_ℤ highs u)) (λ u l. omega (arith, le_parts (ordered u l).1))) in
      let b : sum_over highs ≤ max_total = omega (arith, le_parts h.sum, ap over (sum_is highs highs-nonnegative)) in
      record { each = lows-nonnegative; sum = rw (sum_is lows lows-nonnegative) (omega signed) }
