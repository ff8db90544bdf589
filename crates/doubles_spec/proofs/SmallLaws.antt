-- What a zero and a subnormal give, at every scale. A zero gives 0, whatever its sign. A subnormal gives 0 as a target, 1 if above zero and
-- 0 if below as a low, and 0 if above and −1, which is refused, if below as a high. Assumes nothing.
use Rattle.std.specs.Prelude.{Ok}
use mathlib.Core.Path.{◌≡◌, refl, sym, ap, ◌∙◌, subst}
use mathlib.Core.Bool.{Bool, true, false, not, cond}
use Prim.Native.Nat.{Ordering}
use Prim.Native.Nat.{ℕ, zero, suc, ◌*◌, ◌^◌, ◌≤◌, ◌<◌}
use native.Mathlib.Nat.{zero-mul, div-eq_of_lt, mod-eq_of_lt}
use native.Mathlib.Omega.{arith}
use lib.IntN.{ℤ, pos, negsuc}
use borrow.Author.Tests.{ne_eqb}
use lib.Ieee.{Float, nan, inf, fin, up, down}
use lib.Ieee.Nearest.{closest}
use Rattle.numbers.specs.Checks.{refused}
use Rattle.numbers.specs.Roundings.{ceiling, signed}
use Rattle.numbers.proofs.TestLaws.{compare-is}
use Rattle.doubles_spec.specs.Import.{IsFinite, target_units, low_units, high_units, BoundRange, double_at}
use Rattle.doubles_spec.specs.OneField.{field_units, Gives}
use Rattle.doubles_spec.specs.Classes.{InClass, is_below_zero, subnormal_answer, FieldAnswers}
use Rattle.doubles_spec.specs.declared.CellDoubles.{CellDoubles}
use Rattle.doubles_spec.specs.declared.Class.TheVariants.{Zero, Subnormal}
use Rattle.doubles_spec.proofs.Patterns.{other_sign}
use Rattle.doubles_spec.proofs.ClassLaws.{above, not-zero, class-finite}
use Rattle.doubles_spec.proofs.CaseLaws.{subnormal-size}
use Rattle.doubles_spec.proofs.FieldLaws.{no_sign}
use Rattle.doubles_spec.proofs.OneFieldLaws.{whole-gives, RoundsTo, same_gives, rounds-to, field-refuses}

-- ---- above 0 and below a half
module _ (a b : ℕ) (p : 0 < a) (h : a * 2 < b) where
  small : a < b
  small = omega arith

  small-ceiling : ceiling a b ≡ 1
  small-ceiling = rw (div-eq_of_lt small, mod-eq_of_lt small, ne_eqb a 0 (not-zero p))

  small-closest : closest a b ≡ 0
  small-closest = rw (div-eq_of_lt small, mod-eq_of_lt small, compare-is Ordering.lt (a * 2) b h)

-- ---- a zero
zero-rounds : (k : ℕ) (x : Float) → InClass Zero x → RoundsTo 0 k x
zero-rounds k nan h = absurd (class-finite Zero nan (omega arith) h)
zero-rounds k (inf s) h = absurd (class-finite Zero (inf s) (omega arith) h)
zero-rounds k (fin s m e) h = rounds-to k 0 s (no_sign s) (omega arith) (fin s m e) (refl, ap (λ (n : ℕ). n * 2 ^ k) h ∙ zero-mul (2 ^ k) ∙ sym (zero-mul (down e)))

-- ---- a subnormal
module _ (k : ℕ) (K : k ≤ 30) where
  -- by its sign
  by_sign : (P : Float → Bool → Type 0) (x : Float) → InClass Subnormal x
      → ((s : Bool) (m : ℕ) (e : ℤ) → 0 < m * up e * 2 ^ k → m * up e * 2 ^ k * 2 < down e → P (fin s m e) s) → P x (is_below_zero x)
  by_sign P nan h f = absurd (class-finite Subnormal nan (omega arith) h)
  by_sign P (inf s) h f = absurd (class-finite Subnormal (inf s) (omega arith) h)
  by_sign P (fin s m e) h f =
      let z = subnormal-size k (m * up e) (down e) K h in
      subst (P (fin s m e)) (sym (other_sign s m e (above (λ n. not-zero h.0 (ap (λ (i : ℕ). i * up e) n ∙ zero-mul (up e)))))) (f s m e z.0 z.1)

  pub subnormal-target : (x : Float) → InClass Subnormal x → target_units k x ≡ pos 0
  subnormal-target x h = by_sign (λ y t. target_units k y ≡ pos 0) x h (λ s m e p l. ap (signed s) (small-closest (m * up e * 2 ^ k) (down e) p l) ∙ no_sign s)

  pub subnormal-low : (x : Float) → InClass Subnormal x → low_units k x ≡ cond (is_below_zero x) (pos 0) (pos 1)
  subnormal-low x h = by_sign (λ y t. low_units k y ≡ cond t (pos 0) (pos 1)) x h go
    where
      go : (s : Bool) (m : ℕ) (e : ℤ) → 0 < m * up e * 2 ^ k → m * up e * 2 ^ k * 2 < down e → low_units k (fin s m e) ≡ cond s (pos 0) (pos 1)
      go false m e p l = ap pos (small-ceiling (m * up e * 2 ^ k) (down e) p l)
      go true m e p l = ap (signed true) (div-eq_of_lt (small (m * up e * 2 ^ k) (down e) p l))

  pub subnormal-high : (x : Float) → InClass Subnormal x → high_units k x ≡ cond (is_below_zero x) (negsuc 0) (pos 0)
  subnormal-high x h = by_sign (λ y t. high_units k y ≡ cond t (negsuc 0) (pos 0)) x h go
    where
      go : (s : Bool) (m : ℕ) (e : ℤ) → 0 < m * up e * 2 ^ k → m * up e * 2 ^ k * 2 < down e → high_units k (fin s m e) ≡ cond s (negsuc 0) (pos 0)
      go false m e p l = ap pos (div-eq_of_lt (small (m * up e * 2 ^ k) (down e) p l))
      go true m e p l = ap (signed true) (small-ceiling (m * up e * 2 ^ k) (down e) p l)

-- ---- a cell that holds a zero or a subnormal in a field
module _ (c : CellDoubles) (k : ℕ) (K : k ≤ 30) where
  -- a bound's field is no target's
  as-low : (field : ℕ) (below : Bool) → IsFinite (double_at c (suc field)) → field_units (suc field) k (double_at c (suc field)) ≡ cond below (pos 0) (pos 1)
      → FieldAnswers c k (suc field) (cond (not below) (Ok (pos 1)) (Ok (pos 0)))
  as-low field true f e = whole-gives c k (suc field) K f (omega arith) e
  as-low field false f e = whole-gives c k (suc field) K f (omega arith) e

  as_high : (field : ℕ) (below : Bool) → IsFinite (double_at c (suc field)) → field_units (suc field) k (double_at c (suc field)) ≡ cond below (negsuc 0) (pos 0)
      → FieldAnswers c k (suc field) (cond below (refused 11 (suc field)) (Ok (pos 0)))
  as_high field true f e = field-refuses c k K (suc field) f (λ r. (subst BoundRange e r).0.le)
  as_high field false f e = whole-gives c k (suc field) K f (omega arith) e

  pub zero_field : (field : ℕ) → InClass Zero (double_at c field) → Gives c k field (pos 0)
  zero_field field h = same_gives c k field K (zero-rounds k (double_at c field) h)

  finite : (x : Float) → InClass Subnormal x → IsFinite x
  finite x h = class-finite Subnormal x (omega arith) h

  pub subnormal-field : (field : ℕ) → InClass Subnormal (double_at c field) → FieldAnswers c k field (subnormal_answer (is_below_zero (double_at c field)) field)
  subnormal-field zero h = whole-gives c k 0 K (finite c.target h) (omega arith) (subnormal-target k K c.target h)
  subnormal-field (suc zero) h = as-low 0 (is_below_zero c.low) (finite c.low h) (subnormal-low k K c.low h)
  subnormal-field (suc (suc zero)) h = as_high 1 (is_below_zero c.high) (finite c.high h) (subnormal-high k K c.high h)
  subnormal-field (suc (suc (suc zero))) h = as-low 2 (is_below_zero c.safe_low) (finite c.safe_low h) (subnormal-low k K c.safe_low h)
  subnormal-field (suc (suc (suc (suc zero)))) h = as_high 3 (is_below_zero c.safe_high) (finite c.safe_high h) (subnormal-high k K c.safe_high h)
  subnormal-field (suc (suc (suc (suc (suc field))))) h = absurd (finite nan h)
