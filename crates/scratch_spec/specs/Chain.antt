-- Chains of rising numbers: from `head`, each number u leads to `next u`. Assumes nothing.
use Rattle.std.specs.Prelude.{Bool, true, false, ℕ, zero, suc, eqb}

module _ (next : ℕ → ℕ) (head : ℕ) where
  -- where a walk along the chain stands when all numbers below k are passed
  unfoldable pub cursor : ℕ → ℕ
  cursor zero = head
  cursor (suc k) = elim (eqb (cursor k) k) [ true ↦ next k | false ↦ cursor k ]

  -- u is on the chain
  unfoldable pub on_chain : ℕ → Bool
  on_chain u = eqb (cursor u) u
