-- Sums over the numbers below a count, for every kind of number that adds up: ℕ and ℤ are two. Assumes nothing.
use Rattle.std.specs.Prelude.{◌≡◌, Bool, true, false, ℕ, zero, suc, ◌+◌, ◌-◌, ℤ, pos, ◌+ℤ◌}
use Rattle.std.proofs.Common.{add_assoc, add_comm, zero-add}
use Rattle.std.proofs.Math.IntN.{+ℤ_assoc, +ℤ_comm, +ℤ_idl}

-- what adds up: the numbers, their sum, nothing, and the three laws
pub record Adds : Type 1 where
  pub Num : Type 0
  pub plus : Num → Num → Num
  pub none : Num
  pub assoc : (a b c : Num) → plus (plus a b) c ≡ plus a (plus b c)
  pub comm : (a b : Num) → plus a b ≡ plus b a
  pub idl : (a : Num) → plus none a ≡ a

abbrev pub ℕ_adds : Adds
ℕ_adds = record { Num = ℕ; plus = ◌+◌; none = 0; assoc = add_assoc; comm = add_comm; idl = zero-add }

abbrev pub ℤ_adds : Adds
ℤ_adds = record { Num = ℤ; plus = ◌+ℤ◌; none = pos 0; assoc = +ℤ_assoc; comm = +ℤ_comm; idl = +ℤ_idl }

module _ (A : Adds) where
  -- f 0 + f 1 + .. + f (k − 1)
  unfoldable pub sum_to : ℕ → (ℕ → A.Num) → A.Num
  sum_to zero f = A.none
  sum_to (suc k) f = A.plus (sum_to k f) (f k)

  -- f a + f (a + 1) + .. + f (k − 1)
  abbrev pub sum_from : (a k : ℕ) → (ℕ → A.Num) → A.Num
  sum_from a k f = sum_to (k - a) (λ i. f (a + i))

  -- x if the test holds, else nothing
  abbrev pub pick : Bool → A.Num → A.Num
  pick true x = x
  pick false x = A.none
