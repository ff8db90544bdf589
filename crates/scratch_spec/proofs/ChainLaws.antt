-- Laws of chains: where a walk stands, and which numbers are on the chain. Assumes nothing.
use mathlib.Core.Path.{◌≡◌, refl, ◌∙◌, ap}
use mathlib.Core.Logic.{◌≢◌}
use mathlib.Core.Bool.{true, false}
use Prim.Native.Nat.{ℕ, zero, suc, ◌+◌, ◌-◌, ◌≤◌, ◌<◌}
use native.Mathlib.Nat.{add-zero}
use native.Mathlib.Omega.{arith}
use borrow.Author.Tests.{eq-eqb, ne_eqb}
use Rattle.scratch_spec.specs.Chain.{cursor, on_chain}

module _ (next : ℕ → ℕ) (head : ℕ) where
  -- a walk starts at the head; at a number of the chain it goes on to the next, and it passes all others
  pub cursor-start : cursor next head 0 ≡ head
  unfolding cursor
  cursor-start = refl

  pub cursor-next : (u : ℕ) → cursor next head u ≡ u → cursor next head (suc u) ≡ next u
  unfolding cursor
  cursor-next u e = rw (eq-eqb (cursor next head u) u e, cursor)

  cursor-pass : (u : ℕ) → cursor next head u ≢ u → cursor next head (suc u) ≡ cursor next head u
  unfolding cursor
  cursor-pass u h = rw (ne_eqb (cursor next head u) u h, cursor)

  stay : (k j w : ℕ) → cursor next head k ≡ w → k + j ≤ w → cursor next head (k + j) ≡ w
  stay k zero w e l = ap (cursor next head) (add-zero k) ∙ e
  stay k (suc j) w e l =
      let r = stay k j w e (omega arith) in
      let s : k + suc j ≡ suc (k + j) = omega arith in
      ap (cursor next head) s ∙ cursor-pass (k + j) (λ f. absurd (omega arith)) ∙ r

  -- it stays where it stands until that number is passed
  pub cursor-stay : (k i w : ℕ) → cursor next head k ≡ w → k ≤ i → i ≤ w → cursor next head i ≡ w
  cursor-stay k i w e a b = let s : i ≡ k + (i - k) = omega arith in ap (cursor next head) s ∙ stay k (i - k) w e (omega arith)

  -- between two numbers of a chain there are none
  pub chain-none : (k i w : ℕ) → cursor next head k ≡ w → k ≤ i → i < w → on_chain next head i ≡ false
  unfolding on_chain
  chain-none k i w e a b = ne_eqb (cursor next head i) i (λ f. absurd (omega (arith, cursor-stay k i w e a (omega arith))))

  -- where a walk stands, a number of the chain is
  pub chain-some : (u : ℕ) → cursor next head u ≡ u → on_chain next head u ≡ true
  unfolding on_chain
  chain-some u e = eq-eqb (cursor next head u) u e
