-- What one field of a cell gives by its own double alone: units, if that double is finite and in range when rounded, and else a refusal.
-- Assumes nothing.
use mathlib.Core.Path.{◌≡◌, refl, sym, ap, ◌∙◌, subst}
use mathlib.Core.Logic.{◌⊎◌, inl, inr, ⊎_elim}
use mathlib.Core.Bool.{Bool}
use mathlib.Core.List.{List, [], ◌∷◌}
use Prim.Native.Nat.{ℕ, zero, suc, ◌*◌, ◌^◌, ◌≤◌, ◌<◌}
use native.Mathlib.Nat.{le_refl}
use native.Mathlib.Omega.{arith}
use lib.IntN.{ℤ, pos, negsuc}
use lib.Ieee.{Float, nan, inf, fin, up, down}
use lib.Ieee.Fits.{down_pos}
use lib.Ieee.Exact.{HasValue}
use Rattle.numbers.specs.Signed.{over}
use Rattle.numbers.specs.Checks.{refused, Rule, rule_for, Holds, Broken, max_total}
use Rattle.numbers.specs.Roundings.{signed, round_up, round_down, round_nearest}
use Rattle.numbers.proofs.SignedLaws.{parts-le}
use Rattle.doubles_spec.specs.Import.{IsFinite, scaled, target_units, low_units, high_units, import_verdict, BoundRange, import_rules, double_at, units_at, import_units}
use Rattle.doubles_spec.specs.OneField.{field_units, FieldRange, Gives, Refuses}
use Rattle.doubles_spec.specs.declared.CellDoubles.{CellDoubles}
use Rattle.doubles_spec.proofs.FieldLaws.{KeepsWhole, nearest-whole, up-whole, down-whole}
use Rattle.doubles_spec.proofs.ImportLaws.{import-decides, import-refuses}

-- ---- rules of which none is broken at a place

abbrev Safe : List Rule → ℕ → Type 0
Safe [] place = Unit
Safe (r ∷ rs) place = (r.fault place → ⊥) × Safe rs place

unbroken : (rs : List Rule) (place : ℕ) → Safe rs place → (number : ℕ) → Broken rs number place → ⊥
unfolding Broken
unbroken [] place s number h = h
unbroken (r ∷ rs) place s number h = ⊎_elim (λ f. s.0 f.1) (λ g. unbroken rs place s.1 number g.1) h

-- one fact: it holds if this is its place
fact-safe : {place field : ℕ} {P : Type 0} → (place ≡ field → P) → (field ≡ place) × (P → ⊥) → ⊥
fact-safe h b = b.1 (h (sym b.0))

-- ---- rules of which one is broken, and those before it only at places before a field, or with this number there

abbrev Bears : ℕ → ℕ → Rule → Type 0
Bears field number r = (place : ℕ) → r.fault place → (place ≤ field) × (place ≡ field → r.number ≡ number)

abbrev Stops : ℕ → ℕ → List Rule → Type 0
Stops field number [] = ⊥
Stops field number (r ∷ rs) = Bears field number r × ((r.fact → ⊥) ⊎ Stops field number rs)

stops-there : (field number : ℕ) (rs : List Rule) → Stops field number rs → (n place : ℕ) → Broken rs n place → (place ≤ field) × (place ≡ field → n ≡ number)
unfolding Broken
stops-there field number [] s n place h = absurd s
stops-there field number (r ∷ rs) s n place h =
    ⊎_elim
    (λ f. let b = s.0 place f.1 in (b.0, λ e. f.0 ∙ b.1 e))
    (λ g. ⊎_elim (λ out. absurd (out g.0)) (λ t. stops-there field number rs t n place g.1) s.1)
    h

stops-some : (field number : ℕ) (rs : List Rule) → Stops field number rs → Holds rs → ⊥
unfolding Holds
stops-some field number [] s h = s
stops-some field number (r ∷ rs) s h = ⊎_elim (λ out. out h.0) (λ t. stops-some field number rs t h.1) s.1

-- one fact, that holds or is of an earlier place
bears-none : {field number n place : ℕ} {P : Type 0} → P → Bears field number (rule_for n place P)
bears-none p q f = absurd (f.1 p)

bears-earlier : {field number n place : ℕ} {P : Type 0} → place < field → Bears field number (rule_for n place P)
bears-earlier {field} {number} {n} {place} l q f = (le f, λ e. absurd (apart f e))
  where
    le : {P : Type 0} → (q ≡ place) × (P → ⊥) → q ≤ field
    le f = omega (arith, f.0)

    apart : {P : Type 0} → (q ≡ place) × (P → ⊥) → q ≡ field → ⊥
    apart f e = omega (arith, f.0)

bears-here : {field number : ℕ} {P : Type 0} → Bears field number (rule_for number field P)
bears-here {field} q f = (subst (λ p. p ≤ field) (sym f.0) (le_refl field), λ e. refl)

-- ---- the cell

-- units in a bound's range are a natural number
bound-is : (z : ℤ) → BoundRange z → pos (over z) ≡ z
bound-is (pos n) h = refl
bound-is (negsuc n) h = absurd h.0.le

-- the two facts of a field
abbrev pub FiniteAt : CellDoubles → ℕ → Type 0
FiniteAt c field = IsFinite (double_at c field)

abbrev pub RangeAt : CellDoubles → ℕ → ℕ → Type 0
RangeAt c k field = FieldRange field (field_units field k (double_at c field))

-- in range, a field's units are its double rounded
units-are : (c : CellDoubles) (k field : ℕ) → FiniteAt c field → RangeAt c k field → units_at (import_units c k) field ≡ field_units field k (double_at c field)
unfolding import_units
units-are c k zero f r = refl
units-are c k (suc zero) f r = bound-is (low_units k c.low) r
units-are c k (suc (suc zero)) f r = bound-is (high_units k c.high) r
units-are c k (suc (suc (suc zero))) f r = bound-is (low_units k c.safe_low) r
units-are c k (suc (suc (suc (suc zero)))) f r = bound-is (high_units k c.safe_high) r
units-are c k (suc (suc (suc (suc (suc field))))) f r = absurd f

-- ---- in range
module _ (c : CellDoubles) (k field : ℕ) (scale : k ≤ 30) (finite : FiniteAt c field) (range : RangeAt c k field) where
  -- what holds of this field, at its place
  at_place : {place : ℕ} → place ≡ field → FiniteAt c place × RangeAt c k place
  at_place q = subst (λ f. FiniteAt c f × RangeAt c k f) (sym q) (finite, range)

  -- the two rules of a place, before others
  two-safe : (place : ℕ) {S : Type 0} → S → ((field ≡ place) × (FiniteAt c place → ⊥) → ⊥) × (((field ≡ place) × (RangeAt c k place → ⊥) → ⊥) × S)
  two-safe place s = (fact-safe (λ q. (at_place q).0), (fact-safe (λ q. (at_place q).1), s))

  rules-safe : Safe (import_rules c k) field
  unfolding import_rules
  rules-safe = (fact-safe (λ q. scale), two-safe 0 (two-safe 1 (two-safe 2 (two-safe 3 (two-safe 4 tt)))))

  pub field-gives : Gives c k field (field_units field k (double_at c field))
  field-gives =
      record {
        not_refused = λ number v. unbroken (import_rules c k) field rules-safe number ((import-refuses c k number field).0 v);
        units = λ v. units-are c k field finite range;
      }

-- ---- a whole number in range
pub whole-range : (field : ℕ) {n : ℕ} → n ≤ max_total → FieldRange field (pos n)
whole-range zero h = (parts-le (omega arith), parts-le (omega arith))
whole-range (suc field) h = (parts-le (omega arith), parts-le (omega arith))

pub whole-gives : (c : CellDoubles) (k field : ℕ) → k ≤ 30 → FiniteAt c field → {n : ℕ} → n ≤ max_total → field_units field k (double_at c field) ≡ pos n → Gives c k field (pos n)
whole-gives c k field K f h e = subst (Gives c k field) e (field-gives c k field K f (subst (FieldRange field) (sym e) (whole-range field h)))

-- a double that every rounding takes to the same number
pub record RoundsTo (n k : ℕ) (x : Float) : Type 0 where
  pub finite : IsFinite x
  pub small : n ≤ max_total
  pub target : target_units k x ≡ pos n
  pub low : low_units k x ≡ pos n
  pub high : high_units k x ≡ pos n

pub same_gives : (c : CellDoubles) (k field : ℕ) → k ≤ 30 → {n : ℕ} → RoundsTo n k (double_at c field) → Gives c k field (pos n)
same_gives c k field K {n} r = whole-gives c k field K r.finite r.small (at field r)
  where
    at : (field : ℕ) → RoundsTo n k (double_at c field) → field_units field k (double_at c field) ≡ pos n
    at zero r = r.target
    at (suc zero) r = r.low
    at (suc (suc zero)) r = r.high
    at (suc (suc (suc zero))) r = r.low
    at (suc (suc (suc (suc zero)))) r = r.high
    at (suc (suc (suc (suc (suc field))))) r = absurd r.finite

-- one whose value times 2 ^ k is a whole number, above 0 or 0 with any sign
module _ (k n : ℕ) (s : Bool) (sign : signed s n ≡ pos n) where
  value-rounds : (rounding : Bool → ℕ → ℕ → ℤ) → KeepsWhole rounding → (x : Float) → HasValue x s n (2 ^ k) → scaled rounding k x ≡ pos n
  value-rounds rounding whole nan v = absurd v
  value-rounds rounding whole (inf t) v = absurd v
  value-rounds rounding whole (fin t m e) v =
      ap (λ (b : Bool). rounding b (m * up e * 2 ^ k) (down e)) v.0 ∙ ap (λ (a : ℕ). rounding s a (down e)) v.1 ∙ whole s n (down e) (down_pos e) ∙ sign

  value-finite : (x : Float) → HasValue x s n (2 ^ k) → IsFinite x
  value-finite nan v = v
  value-finite (inf t) v = v
  value-finite (fin t m e) v = tt

  pub rounds-to : n ≤ max_total → (x : Float) → HasValue x s n (2 ^ k) → RoundsTo n k x
  rounds-to h x v =
      record {
        finite = value-finite x v;
        small = h;
        target = value-rounds round_nearest nearest-whole x v;
        low = value-rounds round_up up-whole x v;
        high = value-rounds round_down down-whole x v;
      }

-- ---- out of range
module _ (c : CellDoubles) (k : ℕ) (scale : k ≤ 30) where
  -- the two rules of a place before others, if the place is an earlier one and if it is this one
  abbrev Two : ℕ → ℕ → Type 0 → Type 0
  Two field place S = Bears field 11 (rule_for 10 place (FiniteAt c place)) × ((FiniteAt c place → ⊥) ⊎ (Bears field 11 (rule_for 11 place (RangeAt c k place)) × ((RangeAt c k place → ⊥) ⊎ S)))

  two-earlier : {field : ℕ} {S : Type 0} (place : ℕ) → place < field → S → Two field place S
  two-earlier place l s = (bears-earlier l, inr (bears-earlier l, inr s))

  two_here : {S : Type 0} (field : ℕ) → FiniteAt c field → (RangeAt c k field → ⊥) → Two field field S
  two_here field f out = (bears-none f, inr (bears-here, inl out))

  rules-stop : (field : ℕ) → FiniteAt c field → (RangeAt c k field → ⊥) → Stops field 11 (import_rules c k)
  unfolding import_rules
  rules-stop zero f out = (bears-none scale, inr (two_here 0 f out))
  rules-stop (suc zero) f out = (bears-none scale, inr (two-earlier 0 (omega arith) (two_here 1 f out)))
  rules-stop (suc (suc zero)) f out = (bears-none scale, inr (two-earlier 0 (omega arith) (two-earlier 1 (omega arith) (two_here 2 f out))))
  rules-stop (suc (suc (suc zero))) f out = (bears-none scale, inr (two-earlier 0 (omega arith) (two-earlier 1 (omega arith) (two-earlier 2 (omega arith) (two_here 3 f out)))))
  rules-stop (suc (suc (suc (suc zero)))) f out = (bears-none scale, inr (two-earlier 0 (omega arith) (two-earlier 1 (omega arith) (two-earlier 2 (omega arith) (two-earlier 3 (omega arith) (two_here 4 f out))))))
  rules-stop (suc (suc (suc (suc (suc field))))) f out = absurd f

  pub field-refuses : (field : ℕ) → FiniteAt c field → (RangeAt c k field → ⊥) → Refuses c k field 11
  field-refuses field f out =
      let s = rules-stop field f out in
      let there : (n place : ℕ) → import_verdict c k ≡ refused n place → (place ≤ field) × (place ≡ field → n ≡ 11) = λ n place v. stops-there field 11 (import_rules c k) s n place ((import-refuses c k n place).0 v) in
      record {
        not_accepted = λ v. stops-some field 11 (import_rules c k) s ((import-decides c k).passes.0 v);
        not_later = λ n place v. (there n place v).0;
        here = λ n v. (there n field v).1 refl;
      }
