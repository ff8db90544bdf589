-- Finite values of a format in units of its smallest one, and their distances to a fraction. Assumes nothing.
use mathlib.Core.Path.{◌≡◌, refl, sym, ◌∙◌, ap}
use mathlib.Core.Bool.{Bool, true, false, ◌&&◌, true≢false, false≢true}
use Prim.Native.Nat.{ℕ, zero, suc, ◌+◌, ◌-◌, ◌*◌, ◌%◌, ◌^◌, ◌≤◌, ◌<◌, compare, Ordering}
use native.Mathlib.Nat.{mul_assoc, mul_comm, mul_right_comm, mul-one, zero-mul, add-mul, mul-sub, mul-pos, eq_of_mul-eq-mul_right, not-le_of_lt}
use native.Mathlib.Omega.{arith}
use lib.IntN.{ℤ, pos, negsuc}
use lib.Dec.{T, leb, ltb, eqb, leb→le, ltb→lt}
use lib.Pow.{pow-add, pow_pos, pow-lt}
use lib.Ieee.{Float, nan, inf, fin, Format, prec, emax, low, up, down, fits}
use lib.Ieee.Fits.{and_l, and_r}
use lib.Ieee.Exact.{HasValue}
use lib.Ieee.Positive.{den}
use Rattle.numbers.specs.Signed.{gap}
use Rattle.numbers.specs.Roundings.{signed, scaled_distance}
use Rattle.numbers.proofs.TestLaws.{Cmp, cmp}
use Rattle.numbers.proofs.RoundingLaws.{distance-plus, distance-minus}
use Rattle.doubles_spec.specs.NearestValue.{distance}

-- ---- a finite value is a whole number of the format's smallest values, and has no more digits than the format
pub record InUnits (f : Format) (s : Bool) (x : Float) : Type 0 where
  pub digits : ℕ
  pub place : ℕ
  pub few : digits < 2 ^ prec f
  pub value : HasValue x s (digits * 2 ^ place) (2 ^ low f)

held-parts : (f : Format) (s : Bool) (m : ℕ) (e : ℤ) → T (fits f (fin s (suc m) e)) → (suc m < 2 ^ prec f) × (down e ≤ 2 ^ low f)
unfolding fits
held-parts f s m e t =
    let a : Bool = eqb (suc m % 2) 1 in
    let b : Bool = ltb (suc m) (2 ^ prec f) in
    let c : Bool = leb (down e) (2 ^ low f) in
    let g : Bool = ltb (suc m * up e) (2 ^ suc (emax f) * down e) in
    let h : T (a && b && c) = and_l (a && b && c) g t in
    (ltb→lt (suc m) (2 ^ prec f) (and_r a b (and_l (a && b) c h)), leb→le (down e) (2 ^ low f) (and_r (a && b) c h))

le-exponent : (i l : ℕ) → 2 ^ i ≤ 2 ^ l → i ≤ l
le-exponent i l h = go (compare i l) (cmp i l)
  where
    go : (o : Ordering) → Cmp o i l → i ≤ l
    go Ordering.lt k = omega arith
    go Ordering.eq k = omega arith
    go Ordering.gt k = absurd (not-le_of_lt (pow-lt k) h)

pub in-units : (f : Format) (s : Bool) (m : ℕ) (e : ℤ) → T (fits f (fin s m e)) → InUnits f s (fin s m e)
in-units f s zero e t = record { digits = 0; place = 0; few = pow_pos (prec f); value = (refl, nothing) }
  where
    nothing : 0 * up e * 2 ^ low f ≡ 0 * 2 ^ 0 * down e
    nothing = ap (λ (z : ℕ). z * 2 ^ low f) (zero-mul (up e)) ∙ zero-mul (2 ^ low f) ∙ sym (zero-mul (down e))
in-units f s (suc m) (pos j) t =
    record {
      digits = suc m;
      place = j + low f;
      few = (held-parts f s m (pos j) t).0;
      value = (refl, mul_assoc (suc m) (2 ^ j) (2 ^ low f) ∙ ap (λ (z : ℕ). suc m * z) (sym (pow-add 2 j (low f))) ∙ sym (mul-one (suc m * 2 ^ (j + low f))));
    }
in-units f s (suc m) (negsuc j) t =
    let l = low f in
    let h = held-parts f s m (negsuc j) t in
    let back : l - suc j + suc j ≡ l = omega (arith, le-exponent (suc j) l h.1) in
    record {
      digits = suc m;
      place = l - suc j;
      few = h.0;
      value = (
        refl,
        ap (λ (z : ℕ). z * 2 ^ l) (mul-one (suc m))
            ∙ ap (λ (z : ℕ). suc m * 2 ^ z) (sym back)
            ∙ ap (λ (z : ℕ). suc m * z) (pow-add 2 (l - suc j) (suc j))
            ∙ sym (mul_assoc (suc m) (2 ^ (l - suc j)) (2 ^ suc j)),
      );
    }

-- ---- its distance to a / c, by these units
scale-gap : (x y k : ℕ) → gap x y * k ≡ gap (x * k) (y * k)
scale-gap x y k = add-mul (x - y) (y - x) k ∙ ap (λ (z : ℕ). z + (y - x) * k) (times x y) ∙ ap (λ (z : ℕ). x * k - y * k + z) (times y x)
  where
    times : (u v : ℕ) → (u - v) * k ≡ u * k - v * k
    times u v = mul_comm (u - v) k ∙ mul-sub k u v ∙ ap (λ (z : ℕ). z - k * v) (mul_comm k u) ∙ ap (λ (z : ℕ). u * k - z) (mul_comm k v)

module _ (a c l : ℕ) where
  pub by_units : (x : Float) (s : Bool) (w : ℕ) → HasValue x s w l → distance a c x * l ≡ scaled_distance (pos (a * l)) c (signed s w) * den x
  by_units nan s w v = absurd v
  by_units (inf t) s w v = absurd v
  by_units (fin true m e) false w v = absurd (true≢false v.0)
  by_units (fin false m e) true w v = absurd (false≢true v.0)
  by_units (fin false m e) false w v =
      let n = m * up e in
      let d = down e in
      ap (λ (z : ℕ). z * l) (distance-plus (a * d) c n)
      ∙ scale-gap (n * c) (a * d) l
      ∙ ap (λ (z : ℕ). gap z (a * d * l)) (mul_right_comm n c l ∙ ap (λ (z : ℕ). z * c) v.1 ∙ mul_right_comm w d c)
      ∙ ap (λ (z : ℕ). gap (w * c * d) z) (mul_right_comm a d l)
      ∙ sym (scale-gap (w * c) (a * l) d)
      ∙ ap (λ (z : ℕ). z * d) (sym (distance-plus (a * l) c w))
  by_units (fin true m e) true w v =
      let n = m * up e in
      let d = down e in
      ap (λ (z : ℕ). z * l) (distance-minus (a * d) c n)
      ∙ add-mul (n * c) (a * d) l
      ∙ ap (λ (z : ℕ). z + a * d * l) (mul_right_comm n c l ∙ ap (λ (z : ℕ). z * c) v.1 ∙ mul_right_comm w d c)
      ∙ ap (λ (z : ℕ). w * c * d + z) (mul_right_comm a d l)
      ∙ sym (add-mul (w * c) (a * l) d)
      ∙ ap (λ (z : ℕ). z * d) (sym (distance-minus (a * l) c w))

-- equal distances are equal in units
pub same_units : (x y dx dy ox oy l : ℕ) → 0 < dx → 0 < dy → x * l ≡ ox * dx → y * l ≡ oy * dy → y * dx ≡ x * dy → oy ≡ ox
same_units x y dx dy ox oy l X Y e g h =
    eq_of_mul-eq-mul_right (dx * dy) (mul-pos X Y) oy ox
    (ap (λ (z : ℕ). oy * z) (mul_comm dx dy)
    ∙ sym (mul_assoc oy dy dx)
    ∙ ap (λ (z : ℕ). z * dx) (sym g)
    ∙ mul_right_comm y l dx
    ∙ ap (λ (z : ℕ). z * l) h
    ∙ mul_right_comm x dy l
    ∙ ap (λ (z : ℕ). z * dy) e
    ∙ mul_assoc ox dx dy)
