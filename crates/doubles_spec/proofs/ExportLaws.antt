-- What Export's verdict means, that the double is exact and no other double is, and that an answer of the right verdict and double keeps the
-- contract. Assumes nothing.
use Rattle.std.specs.Prelude.{Ok}
use mathlib.Core.Path.{◌≡◌, refl, sym, ◌∙◌, subst}
use mathlib.Core.Logic.{◌↔◌}
use mathlib.Core.Bool.{false}
use mathlib.Core.List.{[], ◌∷◌}
use Prim.Native.Nat.{ℕ, ◌^◌, ◌≤◌, ◌<◌}
use native.Mathlib.Omega.{arith}
use lib.IntN.{pos}
use lib.Dec.{T}
use lib.Ieee.{Float, fin, binary64, fits}
use Rattle.numbers.specs.Checks.{Answered, refused, answered, Decides, rule, Holds, Broken, max_total, DecidesAll, RefuseWith}
use Rattle.numbers.proofs.TestLaws.{le-means}
use Rattle.numbers.proofs.CheckLaws.{answered-accepted, decides-unless, decides-then, decides-none, scale-decides}
use Rattle.numbers.proofs.ChainLaws.{refuse-with}
use Rattle.doubles_spec.specs.Export.{check_mass, export_verdict, export_rules, ExportFits, export_double, Exact, ExportContract}
use Rattle.doubles_spec.proofs.ValueLaws.{value-exact, exact-unique, value-zero}

-- ---- the verdict

mass-decides : (mass : ℕ) → Decides (check_mass mass) (rule 11 (mass ≤ max_total))
unfolding check_mass
mass-decides mass = decides-unless _ 11 (le-means mass max_total)

module _ (mass k : ℕ) where
  -- accepted if both rules hold; refused with a number if those before it hold and this one is broken
  pub export-decides : DecidesAll (export_verdict mass k) (export_rules mass k)
  unfolding export_verdict export_rules
  export-decides = decides-then _ _ _ _ (scale-decides k) (decides-then _ _ _ _ (mass-decides mass) decides-none)

  rules-fit : Holds (export_rules mass k) ↔ ExportFits mass k
  unfolding export_rules Holds
  rules-fit = (λ h. record { scale = h.0; small = h.1.0 }, λ f. (f.scale, (f.small, tt)))

  pub export-accepts : (export_verdict mass k ≡ Ok tt) ↔ ExportFits mass k
  export-accepts = (λ e. rules-fit.0 (export-decides.passes.0 e), λ f. export-decides.passes.1 (rules-fit.1 f))

  pub export-refuses : (number place : ℕ) → (export_verdict mass k ≡ refused number place) ↔ Broken (export_rules mass k) number place
  export-refuses = export-decides.fails

  -- the numbers that it refuses with
  pub export-numbers : RefuseWith (export_rules mass k) (9 ∷ 11 ∷ [])
  unfolding export_rules
  export-numbers = refuse-with (export_rules mass k) (9 ∷ 11 ∷ []) refl refl

-- ---- the double

-- of an accepted mass and scale it is exact
few : {mass : ℕ} → mass ≤ max_total → mass < 2 ^ 53
few h = omega (arith, h)

pub export-exact : {mass k : ℕ} → ExportFits mass k → Exact mass k (export_double mass k)
export-exact f = value-exact binary64 (few f.small) f.scale

-- no other double is exact
pub export-unique : {mass k : ℕ} → ExportFits mass k → (x : Float) → T (fits binary64 x) → Exact mass k x → x ≡ export_double mass k
export-unique f = exact-unique binary64 (few f.small) f.scale

-- of mass 0 it is plus zero
pub export-zero : (k : ℕ) → export_double 0 k ≡ fin false 0 (pos 0)
export-zero = value-zero binary64

-- ---- the contract

-- an answer of the right verdict and double keeps it
pub export-meets : (mass k : ℕ) (a : Answered Float) → a ≡ answered (export_verdict mass k) (export_double mass k) → ExportContract mass k a
export-meets mass k a e =
    record {
      answers = e;
      exact =
          λ x t.
          let w = answered-accepted (export_verdict mass k) x (export_double mass k) (sym t ∙ e) in
          subst (Exact mass k) (sym w.1) (export-exact ((export-accepts mass k).0 w.0));
    }
