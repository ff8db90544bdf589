-- How much is shared out, from one inner node on: a node more, none, equal differences, and how much it is at most. Assumes nothing.
use mathlib.Core.Path.{◌≡◌}
use Prim.Native.Nat.{ℕ, suc, ◌+◌, ◌-◌, ◌*◌, ◌≤◌, ◌<◌}
use lib.IntN.{nat_abs}
use Rattle.numbers.specs.Sums.{ℕ_adds}
use Rattle.numbers.proofs.SumLaws.{sum_from-first, sum_from-none, sum_from-ext, sum_from-most}
use Rattle.caas_spec.specs.Group.{Group}
use Rattle.caas_spec.specs.Split.{deficit}
use Rattle.qlt_spec.specs.Masses.{shared_of}

module _ (m : ℕ) (children : ℕ → Group) (mass : ℕ → ℕ) where
  pub shared-first : (v : ℕ) → v < m → shared_of v m children mass ≡ nat_abs (deficit (children v) (mass v)) + shared_of (suc v) m children mass
  unfolding shared_of
  shared-first v l = sum_from-first ℕ_adds v m (λ w. nat_abs (deficit (children w) (mass w))) l

  pub shared-none : (v : ℕ) → m ≤ v → shared_of v m children mass ≡ 0
  unfolding shared_of
  shared-none v l = sum_from-none ℕ_adds v m (λ w. nat_abs (deficit (children w) (mass w))) l

  pub shared-most : (v b : ℕ) → ((w : ℕ) → v ≤ w → w < m → nat_abs (deficit (children w) (mass w)) ≤ b) → shared_of v m children mass ≤ (m - v) * b
  unfolding shared_of
  shared-most v b h = sum_from-most v m b (λ w. nat_abs (deficit (children w) (mass w))) h

pub shared-ext :
    (v m : ℕ) (g h : ℕ → Group) (x y : ℕ → ℕ) → ((w : ℕ) → v ≤ w → w < m → nat_abs (deficit (g w) (x w)) ≡ nat_abs (deficit (h w) (y w)))
    → shared_of v m g x ≡ shared_of v m h y
unfolding shared_of
shared-ext v m g h x y e = sum_from-ext ℕ_adds v m _ _ e
