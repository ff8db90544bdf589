-- The consistency of document 003: with all ratios equal and each product dividing evenly, the masses of an accepted Reconstruct and those
-- after an accepted Step are air times ratio, whatever the targets, weights and tree. Assumes nothing.
use Rattle.std.specs.Prelude.{Ok}
use mathlib.Core.Path.{◌≡◌, sym, ◌∙◌, ap}
use Rattle.kept_spec.specs.declared.Stepped.{Stepped}
use mathlib.Core.List.{List}
use Prim.Native.Nat.{ℕ, ◌*◌, ◌<◌}
use native.Mathlib.Omega.{arith}
use lib.IntN.{ℤ}
use lib.ListN.{length}
use Rattle.numbers.specs.Lists.{at}
use Rattle.numbers.proofs.ListLaws.{length-list_to}
use Rattle.qlt_spec.specs.declared.Repair.{Repair}
use Rattle.qlt_spec.specs.Field as fields
use Rattle.qlt_spec.specs.Field.{Lists, field}
use Rattle.qlt_spec.specs.Operation.{ReconstructCall, ShapeFits, ReconstructContract}
use Rattle.qlt_spec.specs.Facts.{FieldFacts}
use Rattle.qlt_spec.proofs.OperationLaws.{reconstruct-accepts, told-passed, done-facts}
use Rattle.kept_spec.specs.Account.{Event, told, Promised}
use Rattle.kept_spec.proofs.StepLaws.{accepted-fits, accepted-facts}
use Rattle.bounds_spec.specs.declared.Ratio.{Ratio}
use Rattle.bounds_spec.specs.Ratios.{parts, air_of, ratio_of, low_mass, high_mass}
use Rattle.bounds_spec.specs.Bounds.{Mixing, cells, Bounds, bounds_of, BoundsCall, field_ratios, bounds_at, converted, BoundsContract}
use Rattle.bounds_spec.specs.Consistency.{Uniform, Consistent}
use Rattle.bounds_spec.proofs.RatioLaws.{low-even, high-even, least-is, most-is}
use Rattle.bounds_spec.proofs.BoundsLaws.{at-safe-low, at-safe-high, done-bounds}

module _ {x : Mixing} {r : Ratio} (u : Uniform x r) where
  -- both safety bounds of a cell are its air times the ratio
  low-safe : (c : ℕ) → c < cells x → at (converted x).safe_lows c * parts ≡ at x.air c * r.0
  low-safe c l =
      let p = least-is (at x.low_ratios) (cells x) (omega arith) in
      let e : (field_ratios x).smallest_low.0 ≡ r.0 = sym p.one ∙ u.low p.place p.inside in
      ap (λ z. z * parts) (at-safe-low x c l)
      ∙ ap (λ z. (low_mass (air_of (at x.air c)) (ratio_of z)).0 * parts) e
      ∙ low-even (air_of (at x.air c)) r (u.even c l)

  high-safe : (c : ℕ) → c < cells x → at (converted x).safe_highs c * parts ≡ at x.air c * r.0
  high-safe c l =
      let p = most-is (at x.high_ratios) (cells x) (omega arith) in
      let e : (field_ratios x).largest_high.0 ≡ r.0 = sym p.one ∙ u.high p.place p.inside in
      ap (λ z. z * parts) (at-safe-high x c l)
      ∙ ap (λ z. (high_mass (air_of (at x.air c)) (ratio_of z)).0 * parts) e
      ∙ high-even (air_of (at x.air c)) r (u.even c l)

  -- masses within the safety bounds of a field that has these bounds
  consistent : {f : Lists} {k s M : ℕ} {masses : List ℕ} → bounds_of f ≡ converted x → ShapeFits f k s → FieldFacts (field f) M masses → Consistent x r masses
  consistent {f} {masses = masses} same fits facts = record { count = facts.count ∙ cells_are; mass = mass }
    where
      cells_are : fields.cells f ≡ cells x
      cells_are = sym fits.lengths.safe_lows ∙ ap (λ b. length b.safe_lows) same ∙ length-list_to (cells x) (λ c. (bounds_at x c).safe_low.0)

      mass : (c : ℕ) → c < cells x → at masses c * parts ≡ at x.air c * r.0
      mass c l =
          let h = facts.safe c (omega (arith, cells_are)) in
          let low : at f.safe_lows c * parts ≡ at x.air c * r.0 = ap (λ b. at b.safe_lows c * parts) same ∙ low-safe c l in
          let high : at f.safe_highs c * parts ≡ at x.air c * r.0 = ap (λ b. at b.safe_highs c * parts) same ∙ high-safe c l in
          omega (arith, h.0, h.1)

-- of an accepted Reconstruct and an accepted Step of a field whose bounds are those that an accepted conversion left
module _ {b : BoundsCall} {left : Bounds} (p : BoundsContract b (Ok tt) left) {r : Ratio} (u : Uniform b.given r) where
  pub reconstruct-consistent : {c : ReconstructCall} (a : Repair) {masses : List ℕ} {scratch : List ℤ} → bounds_of c.lists ≡ left → ReconstructContract c (Ok a) masses scratch → Consistent b.given r masses
  reconstruct-consistent {c} a same q =
      consistent u (same ∙ (done-bounds b p).1) ((reconstruct-accepts c).0 (told-passed q)).shape (done-facts a q)

  pub step-consistent : (e : Event) (a : Stepped) → bounds_of e.call.lists ≡ left → Promised e → told e ≡ Ok a → Consistent b.given r e.kept
  step-consistent e a same q t = consistent u (same ∙ (done-bounds b p).1) (accepted-fits e q a t).masses.shape (accepted-facts e q a t).facts
