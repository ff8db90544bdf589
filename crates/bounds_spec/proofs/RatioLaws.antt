-- The roundings, the smallest and the largest are what they are called; a product that divides evenly is both bounds; a larger ratio has
-- larger bounds. Assumes nothing.
use mathlib.Core.Path.{◌≡◌, sym, ◌∙◌}
use mathlib.Core.Logic.{◌⊎◌, inl, inr, ⊎_elim}
use mathlib.Core.Bool.{false}
use Prim.Native.Nat.{ℕ, zero, suc, ◌+◌, ◌*◌, ◌/◌, ◌%◌, ◌≤◌, ◌<◌, min, max}
use native.Mathlib.Nat.{div-add-mod', mul-le-mul_left}
use native.Mathlib.Omega.{arith}
use native.Mathlib.Decide.{ℕ_discrete, dec_le}
use borrow.Author.Tests.{eq-eqb, ne_eqb}
use lib.IntN.{pos}
use Rattle.numbers.proofs.SignedLaws.{le_parts, parts-le}
use Rattle.numbers.specs.Roundings.{ceiling, Down, Up}
use Rattle.numbers.proofs.RoundingLaws.{round-down, round-up}
use Rattle.bounds_spec.specs.declared.AirMass.{AirMass}
use Rattle.bounds_spec.specs.declared.Ratio.{Ratio}
use Rattle.bounds_spec.specs.Ratios.{parts, low_mass, high_mass, chosen, least_of, most_of, Extreme, Least, Most}

-- ---- what the roundings are, over all whole numbers

pub low-rounds : (air : AirMass) (ratio : Ratio) → Up (pos (air.0 * ratio.0)) parts (pos (low_mass air ratio).0)
unfolding low_mass
low-rounds air ratio = round-up false (air.0 * ratio.0) parts (omega arith)

pub high-rounds : (air : AirMass) (ratio : Ratio) → Down (pos (air.0 * ratio.0)) parts (pos (high_mass air ratio).0)
unfolding high_mass
high-rounds air ratio = round-down false (air.0 * ratio.0) parts (omega arith)

-- rounding up is rounding down what is 1048575 parts more
pub ceiling-plus : (p : ℕ) → (p + 1048575) / 1048576 ≡ ceiling p 1048576
ceiling-plus p = go (ℕ_discrete (p % 1048576) 0)
  where
    go : Dec (p % 1048576 ≡ 0) → (p + 1048575) / 1048576 ≡ ceiling p 1048576
    go (yes e) = rw (eq-eqb (p % 1048576) 0 e) (omega arith)
    go (no e) = rw (ne_eqb (p % 1048576) 0 e) (omega arith)

-- a product that divides evenly is both
pub low-even : (air : AirMass) (ratio : Ratio) → air.0 * ratio.0 % parts ≡ 0 → (low_mass air ratio).0 * parts ≡ air.0 * ratio.0
unfolding low_mass
low-even air ratio e = rw (eq-eqb (air.0 * ratio.0 % parts) 0 e) (omega (arith, div-add-mod' (air.0 * ratio.0) parts))

pub high-even : (air : AirMass) (ratio : Ratio) → air.0 * ratio.0 % parts ≡ 0 → (high_mass air ratio).0 * parts ≡ air.0 * ratio.0
unfolding high_mass
high-even air ratio e = omega (arith, div-add-mod' (air.0 * ratio.0) parts)

-- a larger ratio has larger bounds
pub low-mono : (air : AirMass) (r s : Ratio) → r.0 ≤ s.0 → (low_mass air r).0 ≤ (low_mass air s).0
low-mono air r s h =
    let u = (low-rounds air s).above in
    let l = (low-rounds air r).least (pos (low_mass air s).0) (parts-le (omega (arith, le_parts u, mul-le-mul_left air.0 h))) in
    omega (arith, le_parts l)

pub high-mono : (air : AirMass) (r s : Ratio) → r.0 ≤ s.0 → (high_mass air r).0 ≤ (high_mass air s).0
high-mono air r s h =
    let u = (high-rounds air r).below in
    let l = (high-rounds air s).greatest (pos (high_mass air r).0) (parts-le (omega (arith, le_parts u, mul-le-mul_left air.0 h))) in
    omega (arith, le_parts l)

-- ---- the smallest and the largest are what they are called

-- an order, and what gives of two numbers one that comes before both
record Chooses (Before : ℕ → ℕ → Type 0) (choose : ℕ → ℕ → ℕ) : Type 0 where
  pub trans : {a b c : ℕ} → Before a b → Before b c → Before a c
  pub one : (a b : ℕ) → (choose a b ≡ a) ⊎ (choose a b ≡ b)
  pub first : (a b : ℕ) → Before (choose a b) a
  pub second : (a b : ℕ) → Before (choose a b) b

module _ {Before : ℕ → ℕ → Type 0} {choose : ℕ → ℕ → ℕ} (w : Chooses Before choose) (f : ℕ → ℕ) where
  chosen_is : (k : ℕ) → Extreme Before f (suc k) (chosen choose f (suc k))
  unfolding chosen
  chosen_is zero =
      record {
        place = 0;
        inside = omega arith;
        one = sym (⊎_elim (λ e. e) (λ e. e) (w.one (f 0) (f 0)));
        before = λ i l. let z : i ≡ 0 = omega arith in rw z (w.first (f 0) (f 0));
      }
  chosen_is (suc k) = go (chosen_is k) (w.one (chosen choose f (suc k)) (f (suc k)))
    where
      so_far : ℕ
      so_far = chosen choose f (suc k)

      each : Extreme Before f (suc k) so_far → (i : ℕ) → i < suc (suc k) → Dec (i ≡ suc k) → Before (choose so_far (f (suc k))) (f i)
      each p i l (yes e) = rw e (w.second so_far (f (suc k)))
      each p i l (no e) = w.trans (w.first so_far (f (suc k))) (p.before i (omega arith))

      go : Extreme Before f (suc k) so_far → (choose so_far (f (suc k)) ≡ so_far) ⊎ (choose so_far (f (suc k)) ≡ f (suc k)) → Extreme Before f (suc (suc k)) (choose so_far (f (suc k)))
      go p (inl e) = record { place = p.place; inside = omega (arith, p.inside); one = p.one ∙ sym e; before = λ i l. each p i l (ℕ_discrete i (suc k)) }
      go p (inr e) = record { place = suc k; inside = omega arith; one = sym e; before = λ i l. each p i l (ℕ_discrete i (suc k)) }

least-chooses : Chooses (λ x y. x ≤ y) min
least-chooses =
    record {
      trans = λ h g. omega arith;
      one = λ a b. pick a b (dec_le a b);
      first = λ a b. omega arith;
      second = λ a b. omega arith;
    }
  where
    pick : (a b : ℕ) → Dec (a ≤ b) → (min a b ≡ a) ⊎ (min a b ≡ b)
    pick a b (yes h) = inl (omega arith)
    pick a b (no h) = inr (omega arith)

most-chooses : Chooses (λ x y. y ≤ x) max
most-chooses =
    record {
      trans = λ h g. omega arith;
      one = λ a b. pick a b (dec_le a b);
      first = λ a b. omega arith;
      second = λ a b. omega arith;
    }
  where
    pick : (a b : ℕ) → Dec (a ≤ b) → (max a b ≡ a) ⊎ (max a b ≡ b)
    pick a b (yes h) = inr (omega arith)
    pick a b (no h) = inl (omega arith)

pub least-is : (f : ℕ → ℕ) (k : ℕ) → 0 < k → Least f k (least_of f k)
least-is f zero l = absurd (omega arith)
least-is f (suc k) l = chosen_is least-chooses f k

pub most-is : (f : ℕ → ℕ) (k : ℕ) → 0 < k → Most f k (most_of f k)
most-is f zero l = absurd (omega arith)
most-is f (suc k) l = chosen_is most-chooses f k
