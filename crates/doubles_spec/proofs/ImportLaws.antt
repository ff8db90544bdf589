-- What Import's verdict means, that an answer tells its verdict, its values and its double and nothing else, and that the form the code
-- follows keeps the operation's contract. Assumes nothing.
use Rattle.std.specs.Prelude.{Ok, Err}
use mathlib.Core.Path.{◌≡◌, refl, sym, ◌∙◌, ap, subst}
use mathlib.Core.Logic.{◌↔◌}
use mathlib.Core.Bool.{Bool, true, false, ◌&&◌, cond, true≢false}
use mathlib.Core.List.{List, [], ◌∷◌}
use Prim.Native.Nat.{ℕ, ◌^◌}
use lib.Dec.{ltb, leb, eqb, leb-zero, leb-suc-suc}
use lib.IntN.{ℤ, pos, negsuc}
use lib.Signed.{le_z, ◌≤ℤ◌}
use lib.Ieee.{Float, nan, inf, fin}
use Rattle.numbers.specs.Signed.{over}
use Rattle.numbers.specs.Checks.{Checked, refused, Answered, answered, unless, both, Decides, rule_for, Holds, Broken, max_total, DecidesAll, RefuseWith, check_scale}
use Rattle.numbers.specs.Roundings.{round_up, round_down, round_nearest}
use Rattle.numbers.proofs.TestLaws.{and-means, injective}
use Rattle.numbers.proofs.SignedLaws.{le_z-means}
use Rattle.numbers.proofs.CheckLaws.{decides-for, decides-then, decides-none, scale-decides}
use Rattle.numbers.proofs.ChainLaws.{refuse-with}
use Rattle.doubles_spec.specs.Import.{Imported, is_finite, IsFinite, scaled, target_units, low_units, high_units, check_finite, check_target, check_bound, import_verdict, TargetRange, BoundRange, import_rules, ImportFits, double_at, import_units, import_tells, import_holds, import_holding, carried, ImportContract}
use Rattle.doubles_spec.specs.Forms.{in_target, in_bound, Field, fault_number, field_by, target_field, named, then_units, import_fields, import_form}
use Rattle.doubles_spec.specs.declared.CellDoubles.{CellDoubles}
use Rattle.doubles_spec.specs.declared.CellUnits.{CellUnits}
use Rattle.doubles_spec.specs.declared.ImportRefusal.TheVariants.{Scale, Double}
use Rattle.doubles_spec.specs.declared.FieldFault.{FieldFault}
use Rattle.doubles_spec.specs.declared.FieldFault.TheVariants.{NotFinite, OutOfRange}
use Rattle.doubles_spec.proofs.Patterns.{and-true}

-- ---- each check

finite-means : (x : Float) → (is_finite x ≡ true) ↔ IsFinite x
finite-means nan = (λ e. true≢false (sym e), λ h. absurd h)
finite-means (inf s) = (λ e. true≢false (sym e), λ h. absurd h)
finite-means (fin s m e) = (λ h. tt, λ h. refl)

finite-decides : (place : ℕ) (x : Float) → Decides (check_finite place x) (rule_for 10 place (IsFinite x))
unfolding check_finite
finite-decides place x = decides-for _ 10 place (finite-means x)

-- a range that ends at 2147483647: the target's and the bounds' begin apart
abbrev inside : ℤ → ℤ → Bool
inside least z = le_z least z && le_z z (pos max_total)

range-decides : (least : ℤ) (place : ℕ) (z : ℤ) → Decides (unless (inside least z) 11 place) (rule_for 11 place ((least ≤ℤ z) × (z ≤ℤ pos max_total)))
range-decides least place z = decides-for _ 11 place (and-means (le_z-means least z) (le_z-means z (pos max_total)))

target-decides : (place : ℕ) (z : ℤ) → Decides (check_target place z) (rule_for 11 place (TargetRange z))
unfolding check_target
target-decides = range-decides (negsuc max_total)

bound-decides : (place : ℕ) (z : ℤ) → Decides (check_bound place z) (rule_for 11 place (BoundRange z))
unfolding check_bound
bound-decides = range-decides (pos 0)

-- ---- the verdict

module _ (c : CellDoubles) (k : ℕ) where
  -- accepted if every rule holds; refused with a number at a place if those before it hold and this one is broken there
  pub import-decides : DecidesAll (import_verdict c k) (import_rules c k)
  unfolding import_verdict import_rules
  import-decides =
      decides-then _ _ _ _ (scale-decides k)
      (decides-then _ _ _ _ (finite-decides 0 c.target)
      (decides-then _ _ _ _ (target-decides 0 (target_units k c.target))
      (decides-then _ _ _ _ (finite-decides 1 c.low)
      (decides-then _ _ _ _ (bound-decides 1 (low_units k c.low))
      (decides-then _ _ _ _ (finite-decides 2 c.high)
      (decides-then _ _ _ _ (bound-decides 2 (high_units k c.high))
      (decides-then _ _ _ _ (finite-decides 3 c.safe_low)
      (decides-then _ _ _ _ (bound-decides 3 (low_units k c.safe_low))
      (decides-then _ _ _ _ (finite-decides 4 c.safe_high)
      (decides-then _ _ _ _ (bound-decides 4 (high_units k c.safe_high)) decides-none))))))))))

  rules-fit : Holds (import_rules c k) ↔ ImportFits c k
  unfolding import_rules Holds
  rules-fit = (
    λ h.
        record {
          scale = h.0;
          target_finite = h.1.0;
          target = h.1.1.0;
          low_finite = h.1.1.1.0;
          low = h.1.1.1.1.0;
          high_finite = h.1.1.1.1.1.0;
          high = h.1.1.1.1.1.1.0;
          safe_low_finite = h.1.1.1.1.1.1.1.0;
          safe_low = h.1.1.1.1.1.1.1.1.0;
          safe_high_finite = h.1.1.1.1.1.1.1.1.1.0;
          safe_high = h.1.1.1.1.1.1.1.1.1.1.0;
        },
    λ f. (f.scale, (f.target_finite, (f.target, (f.low_finite, (f.low, (f.high_finite, (f.high, (f.safe_low_finite, (f.safe_low, (f.safe_high_finite, (f.safe_high, tt))))))))))),
  )

  pub import-accepts : (import_verdict c k ≡ Ok tt) ↔ ImportFits c k
  import-accepts = (λ e. rules-fit.0 (import-decides.passes.0 e), λ f. import-decides.passes.1 (rules-fit.1 f))

  pub import-refuses : (number place : ℕ) → (import_verdict c k ≡ refused number place) ↔ Broken (import_rules c k) number place
  import-refuses = import-decides.fails

  -- the numbers that it refuses with
  pub import-numbers : RefuseWith (import_rules c k) (9 ∷ 10 ∷ 11 ∷ [])
  unfolding import_rules
  import-numbers = refuse-with (import_rules c k) (9 ∷ 10 ∷ 11 ∷ []) refl refl

-- ---- the answer

-- what an answer tells and the double that it holds are the answer
held_back : (a : Imported) → import_holding (import_tells a) (import_holds a) ≡ a
unfolding import_tells import_holds
held_back (Ok u) = refl
held_back (Err Scale) = refl
held_back (Err (Double number field double)) = refl

pub import-answer-injective : (a b : Imported) → import_tells a ≡ import_tells b → import_holds a ≡ import_holds b → a ≡ b
import-answer-injective a b e h = injective {B = Answered CellUnits × List Float} {f = λ x. (import_tells x, import_holds x)} (λ t. import_holding t.0 t.1) held_back a b (rw (e, h))

-- ---- what one field gives, by its two tests: it is finite, and in range

abbrev by_tests : {X : Type 0} → Bool → Bool → X → Field X
by_tests finite good units = cond finite (cond good (Ok units) (Err OutOfRange)) (Err NotFinite)

field-by : {X : Type 0} (units : ℤ → X) (in_range : ℤ → Field X) (good : ℤ → Bool) → ((z : ℤ) → in_range z ≡ cond (good z) (Ok (units z)) (Err OutOfRange))
    → (rounding : Bool → ℕ → ℕ → ℤ) (k : ℕ) (x : Float) → field_by in_range rounding k x ≡ by_tests (is_finite x) (good (scaled rounding k x)) (units (scaled rounding k x))
field-by units in_range good h rounding k nan = refl
field-by units in_range good h rounding k (inf s) = refl
field-by units in_range good h rounding k (fin s m e) = h (scaled rounding k (fin s m e))

-- below 2 ^ 31 is at most 2 ^ 31 - 1
below : (n : ℕ) → ltb n (2 ^ 31) ≡ leb n max_total
below n = leb-suc-suc n max_total

in-target : (z : ℤ) → in_target z ≡ cond (inside (negsuc max_total) z) (Ok z) (Err OutOfRange)
in-target (pos n) = ap (λ b. cond b (Ok (pos n)) (Err OutOfRange)) (below n)
in-target (negsuc n) = ap (λ b. cond b (Ok (negsuc n)) (Err OutOfRange)) (below n ∙ sym (and-true (leb n max_total)))

in-bound : (z : ℤ) → in_bound z ≡ cond (inside (pos 0) z) (Ok (over z)) (Err OutOfRange)
in-bound (pos n) = ap (λ b. cond b (Ok n) (Err OutOfRange)) (below n ∙ ap (λ b. b && leb n max_total) (sym (leb-zero n)))
in-bound (negsuc n) = refl

-- ---- the form keeps the contract: field by field, what is left of the checks decides what is left of the form

module _ (c : CellDoubles) (k : ℕ) where
  abbrev Meets : Checked → Imported → Type 0
  Meets v a = (import_tells a ≡ answered v (import_units c k)) × (import_holds a ≡ carried v c)

  module _ {X : Type 0} (place : ℕ) (x : Float) (at_place : x ≡ double_at c place) (g : X → Imported) where
    refuse : (e : FieldFault) → eqb (fault_number e) 9 ≡ false → Meets (refused (fault_number e) place) (then_units (named (Err e) place x) g)
    unfolding import_tells import_holds carried
    refuse e h = rw h (refl, ap (λ y. y ∷ []) at_place)

    field-meets : (units : X) (rest : Checked) → Meets rest (g units) → (finite good : Bool) → Meets (both (unless finite 10 place) (both (unless good 11 place) rest)) (then_units (named (by_tests finite good units) place x) g)
    field-meets units rest m true true = m
    field-meets units rest m true false = refuse OutOfRange refl
    field-meets units rest m false good = refuse NotFinite refl

  target-meets : (rest : Checked) (g : ℤ → Imported) → Meets rest (g (target_units k c.target))
      → Meets (both (check_finite 0 c.target) (both (check_target 0 (target_units k c.target)) rest)) (then_units (named (target_field k c.target) 0 c.target) g)
  unfolding check_finite check_target
  target-meets rest g m =
      let x = c.target in
      let z = target_units k x in
      rw (field-by (λ y. y) in_target (inside (negsuc max_total)) in-target round_nearest k x)
      (field-meets 0 x refl g z rest m (is_finite x) (inside (negsuc max_total) z))

  bound-meets : (rounding : Bool → ℕ → ℕ → ℤ) (place : ℕ) (x : Float) → x ≡ double_at c place → (rest : Checked) (g : ℕ → Imported) → Meets rest (g (over (scaled rounding k x)))
      → Meets (both (check_finite place x) (both (check_bound place (scaled rounding k x)) rest)) (then_units (named (field_by in_bound rounding k x) place x) g)
  unfolding check_finite check_bound
  bound-meets rounding place x at_place rest g m =
      let z = scaled rounding k x in
      rw (field-by over in_bound (inside (pos 0)) in-bound rounding k x)
      (field-meets place x at_place g (over z) rest m (is_finite x) (inside (pos 0) z))

  all-units : Meets (Ok tt) (Ok (import_units c k))
  unfolding import_tells import_holds carried
  all-units = (refl, refl)

  scale-meets : (rest : Checked) (a : Imported) → Meets rest a → Meets (both (check_scale k) rest) (cond (leb k 30) a (Err Scale))
  unfolding check_scale import_tells import_holds carried
  scale-meets rest a m = go (leb k 30)
    where
      go : (b : Bool) → Meets (both (unless b 9 0) rest) (cond b a (Err Scale))
      go true = m
      go false = (refl, refl)

  form-meets : Meets (import_verdict c k) (import_form k c)
  unfolding import_verdict import_form import_fields import_units
  form-meets =
      scale-meets _ _
      (target-meets _ _
      (bound-meets round_up 1 c.low refl _ _
      (bound-meets round_down 2 c.high refl _ _
      (bound-meets round_up 3 c.safe_low refl _ _
      (bound-meets round_down 4 c.safe_high refl _ _ all-units)))))

  pub import_meets : {a : Imported} → import_form k c ≡ a → ImportContract c k a
  import_meets e = subst (ImportContract c k) e (record { answers = form-meets.0; carries = form-meets.1 })
