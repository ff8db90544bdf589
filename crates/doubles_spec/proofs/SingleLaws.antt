-- Export in binary32: its value is the nearest one and no other is; for a mass below 16777216 it is exact and the double itself, for mass 0
-- plus zero. An answer of the right verdict and value keeps the contract. Then what the code goes by: the highest set bit and the significand.
-- Assumes nothing.
use Rattle.std.specs.Prelude.{Ok}
use mathlib.Core.Path.{◌≡◌, sym, ◌∙◌, ap, subst}
use mathlib.Core.Bool.{false}
use Prim.Native.Nat.{ℕ, suc, ◌+◌, ◌-◌, ◌*◌, ◌/◌, ◌%◌, ◌^◌, ◌≤◌, ◌<◌, compare}
use native.Mathlib.Nat.{le_trans, le_of_eq, lt_of_lt_of_le, lt_of_not-le, not-le_of_lt, div-lt_iff_lt-mul}
use native.Mathlib.Omega.{arith}
use lib.IntN.{pos}
use lib.Dec.{lit≤}
use lib.Count.{count_leading_zeros, leading_top}
use lib.Pow.{pow-add, pow_pos, pow_mono, shl_lt}
use lib.Ieee.{Float, fin, binary32, binary64, of_bits}
use lib.Ieee.Fits.{fits_widens, nearest-le}
use Rattle.numbers.specs.Checks.{Answered, answered, max_total}
use Rattle.numbers.proofs.CheckLaws.{answered-accepted}
use Rattle.doubles_spec.specs.Export.{export_verdict, ExportFits, export_double, Exact, ExportContract}
use Rattle.doubles_spec.specs.NearestValue.{NearestValue}
use Rattle.doubles_spec.specs.ExportSingle.{export_single, SingleContract}
use Rattle.doubles_spec.specs.Forms.{HighestBit, significand}
use Rattle.doubles_spec.proofs.ValueLaws.{value-fits, value-exact, exact-unique, value-zero}
use Rattle.doubles_spec.proofs.RoundedBits.{value-bits}
use Rattle.doubles_spec.proofs.NearestLaws.{value-nearest, value-only}
use Rattle.doubles_spec.proofs.ExportLaws.{export-accepts}

-- ---- the value

module _ {mass k : ℕ} (f : ExportFits mass k) where
  pub single-nearest : NearestValue binary32 mass (2 ^ k) (export_single mass k)
  single-nearest = value-nearest binary32 k f.small

  -- so NearestValue says which value it is
  pub single-unique : (x : Float) → NearestValue binary32 mass (2 ^ k) x → x ≡ export_single mass k
  single-unique = value-only binary32 k f.small

module _ {mass k : ℕ} (h : mass < 16777216) (K : k ≤ 30) where
  pub single-exact : Exact mass k (export_single mass k)
  single-exact = value-exact binary32 h K

  pub single-double : export_single mass k ≡ export_double mass k
  single-double =
      exact-unique binary64 (lt_of_lt_of_le h (lit≤ tt)) K (export_single mass k) (fits_widens (export_single mass k) (value-fits binary32 mass k)) single-exact

pub single-zero : (k : ℕ) → export_single 0 k ≡ fin false 0 (pos 0)
single-zero = value-zero binary32

-- ---- the answer

-- an answer of the right verdict and value keeps the contract
pub single-meets : (mass k : ℕ) (a : Answered Float) → a ≡ answered (export_verdict mass k) (export_single mass k) → SingleContract mass k a
single-meets mass k a e =
    record {
      answers = e;
      nearest =
          λ x t.
          let w = answered-accepted (export_verdict mass k) x (export_single mass k) (sym t ∙ e) in
          subst (NearestValue binary32 mass (2 ^ k)) (sym w.1) (single-nearest ((export-accepts mass k).0 w.0));
    }

-- ---- calls

-- an accepted call gives the value of an accepted mass and scale
single-told : {mass k : ℕ} {x : Float} → SingleContract mass k (Ok x) → (export_verdict mass k ≡ Ok tt) × (x ≡ export_single mass k)
single-told {mass} {k} {x} p = answered-accepted (export_verdict mass k) x (export_single mass k) p.answers

-- below 16777216 both exports give the same
pub single-as-double : {mass k : ℕ} {x y : Float} → mass < 16777216 → SingleContract mass k (Ok x) → ExportContract mass k (Ok y) → x ≡ y
single-as-double {mass} {k} {x} {y} h p q =
    let s = single-told p in
    let d = answered-accepted (export_verdict mass k) y (export_double mass k) q.answers in
    s.1 ∙ single-double h ((export-accepts mass k).0 s.0).scale ∙ sym d.1

-- ---- the highest set bit

-- by the leading zeros
pub highest-is : (mass : ℕ) → 0 < mass → mass < 2 ^ 32 → (count_leading_zeros 32 mass ≤ 31) × HighestBit mass (31 - count_leading_zeros 32 mass)
highest-is mass p h =
    let t = leading_top 32 mass p h in
    let z = count_leading_zeros 32 mass in
    let e : 31 - z ≡ t.0 = omega (arith, t.1) in
    (omega (arith, t.1), (subst (λ (j : ℕ). 2 ^ j ≤ mass) (sym e) t.2, subst (λ (j : ℕ). mass < 2 ^ suc j) (sym e) t.3))

pub highest-small : {mass j : ℕ} → mass < 2 ^ 31 → HighestBit mass j → j ≤ 30
highest-small {mass} {j} h b = pred (lt_of_not-le (λ (g : 31 ≤ j). not-le_of_lt h (le_trans (pow_mono g) b.0)))
  where
    pred : j < 31 → j ≤ 30
    pred l = omega arith

-- ---- the significand and the pattern

pub significand-top : (mass j : ℕ) → HighestBit mass j → significand mass j ≤ 2 ^ 24
significand-top mass j b =
    let n = mass * 2 ^ 23 in
    let u = 2 ^ j in
    le_trans (nearest-le (n / u) (compare (n % u * 2) u))
    ((div-lt_iff_lt-mul (pow_pos j)).1 (lt_of_lt_of_le (shl_lt (suc j) 23 b.1) (le_of_eq (ap (λ (x : ℕ). 2 ^ x) places ∙ pow-add 2 24 j))))
  where
    places : suc j + 23 ≡ 24 + j
    places = omega arith

pub single-bits : (mass k j : ℕ) → mass ≤ max_total → k ≤ 30 → HighestBit mass j → export_single mass k ≡ of_bits binary32 ((126 + j - k) * 2 ^ 23 + significand mass j)
single-bits mass k j small K b = value-bits binary32 mass k j small K b
