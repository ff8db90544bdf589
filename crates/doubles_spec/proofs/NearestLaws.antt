-- The kit's `round` gives the nearest value of its format, the even one of two, among all of the format's finite values; and no other value is
-- that. So does the export of a mass in any format. Assumes nothing.
use mathlib.Core.Path.{◌≡◌, sym, ◌∙◌, ap, subst}
use mathlib.Core.Bool.{Bool, true, false, not, true≢false}
use Prim.Native.Nat.{ℕ, ◌-◌, ◌*◌, ◌%◌, ◌^◌, ◌≤◌, ◌<◌}
use native.Mathlib.Nat.{zero-mul, mul-le-mul_right, le_trans, le_of_eq, le_antisymm, le_of_lt, eq_of_mul-eq-mul_right}
use native.Mathlib.Omega.{arith}
use native.Mathlib.Decide.{ℕ_discrete}
use lib.IntN.{ℤ, pos}
use lib.Dec.{T}
use lib.Pow.{pow_pos}
use lib.Ieee.{Float, nan, inf, fin, Format, prec, emax, low, down, fits, to_bits, of_bits, round}
use lib.Ieee.Fits.{two, two-le_pos, down_pos, round-fits}
use lib.Ieee.Exact.{HasValue}
use lib.Ieee.Order.{drop, kept, transfer}
use lib.Ieee.Positive.{den, den_pos}
use lib.Ieee.Scale.{finite}
use lib.Ieee.Bits.{of_bits-fits}
use Rattle.numbers.specs.Signed.{gap}
use Rattle.numbers.specs.Roundings.{signed, scaled_distance}
use Rattle.numbers.proofs.RoundingLaws.{distance-plus, distance-minus}
use Rattle.numbers.specs.Checks.{max_total}
use Rattle.doubles_spec.specs.Export.{export_value}
use Rattle.doubles_spec.specs.NearestValue.{distance, PlusSign, NearestValue}
use Rattle.doubles_spec.proofs.ValueLaws.{value-unique}
use Rattle.doubles_spec.proofs.MultipleLaws.{near, Other, other}
use Rattle.doubles_spec.proofs.DistanceLaws.{InUnits, in-units, by_units, same_units}
use Rattle.doubles_spec.proofs.RoundedBits.{pattern-parity, twice_hid, all_digits, few-dropped, round-value, round-parity, far}

-- ---- a value and its sign
plus-sign : (x : Float) (a l : ℕ) → HasValue x false a l → PlusSign x
plus-sign nan a l v = v
plus-sign (inf s) a l v = v
plus-sign (fin s m e) a l v = v.0

is_finite : (x : Float) → PlusSign x → T (finite x)
is_finite nan v = v
is_finite (inf s) v = v
is_finite (fin s m e) v = tt

-- a value is one fraction over 2 ^ low
one_value : (x : Float) (w v l : ℕ) → HasValue x false w l → HasValue x false v l → w ≡ v
one_value nan w v l g h = absurd g
one_value (inf s) w v l g h = absurd g
one_value (fin s m e) w v l g h = eq_of_mul-eq-mul_right (down e) (down_pos e) w v (sym g.1 ∙ h.1)

-- a fraction a / c whose numerator is far from the format's largest values
module _ (f : Format) (a c : ℕ) (C : 0 < c) (A : a < 2 ^ emax f) where
  abbrev n : ℕ
  n = a * 2 ^ low f

  abbrev dropped : ℕ
  dropped = drop (prec f) n c

  abbrev digits : ℕ
  digits = kept (prec f) n c

  P : 0 < prec f
  P = two-le_pos (prec f) (two f)

  more : 0 < dropped → 2 ^ (prec f - 1) * (c * 2 ^ dropped) ≤ n
  more = all_digits f a c C A

  value : HasValue (round f false a c) false (digits * 2 ^ dropped) (2 ^ low f)
  value = round-value f a c C A

  -- how far it is, and how far another value is, in units
  abbrev own-distance : ℕ
  own-distance = scaled_distance (pos n) c (pos (digits * 2 ^ dropped))

  abbrev other-distance : Bool → ℕ → ℕ → ℕ
  other-distance s m i = scaled_distance (pos n) c (signed s (m * 2 ^ i))

  own-units : own-distance ≡ gap (digits * 2 ^ dropped * c) n
  own-units = distance-plus n c (digits * 2 ^ dropped)

  -- 0 is a value of every format
  zero-near : own-distance ≤ n
  zero-near = omega (arith, own-units, near (prec f) n c dropped P C more 0 0 (pow_pos (prec f)), zero-mul c)

  nearer : (s : Bool) (m i : ℕ) → m < 2 ^ prec f → own-distance ≤ other-distance s m i
  nearer false m i M = omega (arith, own-units, distance-plus n c (m * 2 ^ i), near (prec f) n c dropped P C more m i M)
  nearer true m i M = omega (arith, distance-minus n c (m * 2 ^ i), zero-near)

  tie-even : (s : Bool) (m i : ℕ) → m < 2 ^ prec f → (T (not s) → m * 2 ^ i ≡ digits * 2 ^ dropped → ⊥) → other-distance s m i ≡ own-distance → digits % 2 ≡ 0
  tie-even false m i M ne e = (other (prec f) n c dropped P C more m i M (ne tt) (sym (distance-plus n c (m * 2 ^ i)) ∙ e ∙ own-units)).even
  tie-even true m i M ne e = go (ℕ_discrete (0 * 2 ^ 0) (digits * 2 ^ dropped))
    where
      -- then the value itself is as far as 0
      as-zero : gap (0 * 2 ^ 0 * c) n ≡ gap (digits * 2 ^ dropped * c) n
      as-zero = omega (arith, e, own-units, zero-near, distance-minus n c (m * 2 ^ i), zero-mul c)

      go : Dec (0 * 2 ^ 0 ≡ digits * 2 ^ dropped) → digits % 2 ≡ 0
      go (yes z) = ap (λ (x : ℕ). x % 2) (eq_of_mul-eq-mul_right (2 ^ dropped) (pow_pos dropped) digits 0 (sym z ∙ sym (zero-mul (2 ^ dropped))))
      go (no ne) = (other (prec f) n c dropped P C more 0 0 (pow_pos (prec f)) ne as-zero).even

  abbrev x : Float
  x = round f false a c

  x_fits : T (fits f x)
  x_fits = round-fits f false a c

  -- the same number with the sign plus is the value itself
  same_number : (m : ℕ) (e : ℤ) → T (fits f (fin false m e)) → (u : InUnits f false (fin false m e)) → u.digits * 2 ^ u.place ≡ digits * 2 ^ dropped → fin false m e ≡ x
  same_number m e h u z =
      value-unique f false (digits * 2 ^ dropped) (fin false m e) x h x_fits (subst (λ (w : ℕ). HasValue (fin false m e) false w (2 ^ low f)) z u.value) value

  own-by : distance a c x * 2 ^ low f ≡ own-distance * den x
  own-by = by_units a c (2 ^ low f) x false (digits * 2 ^ dropped) value

  pub round-nearest-value : NearestValue f a c (round f false a c)
  round-nearest-value = record { held = x_fits; plus = plus-sign x (digits * 2 ^ dropped) (2 ^ low f) value; nearest = no-nearer; even = at-tie }
    where
      no-nearer : (y : Float) → T (fits f y) → T (finite y) → distance a c x * den y ≤ distance a c y * den x
      no-nearer nan h t = absurd t
      no-nearer (inf s) h t = absurd t
      no-nearer (fin s m e) h t =
          let u = in-units f s m e h in
          let l = 2 ^ low f in
          transfer (distance a c x) (distance a c (fin s m e)) (den x) (down e) own-distance (other-distance s u.digits u.place) l l (pow_pos (low f)) (pow_pos (low f)) own-by
          (by_units a c l (fin s m e) s (u.digits * 2 ^ u.place) u.value) (mul-le-mul_right l (nearer s u.digits u.place u.few))

      at-tie : (y : Float) → T (fits f y) → T (finite y) → (y ≡ x → ⊥) → distance a c y * den x ≡ distance a c x * den y → to_bits f x % 2 ≡ 0
      at-tie nan h t ne e = absurd t
      at-tie (inf s) h t ne e = absurd t
      at-tie (fin s m g) h t ne e =
          let u = in-units f s m g h in
          let l = 2 ^ low f in
          let y = fin s m g in
          round-parity f a c C A
          ∙ tie-even s u.digits u.place u.few (differs s h u ne)
          (same_units (distance a c x) (distance a c y) (den x) (down g) own-distance (other-distance s u.digits u.place) l (den_pos x) (down_pos g) own-by
          (by_units a c l y s (u.digits * 2 ^ u.place) u.value) e)
        where
          differs : (s : Bool) → T (fits f (fin s m g)) → (u : InUnits f s (fin s m g)) → (fin s m g ≡ x → ⊥) → T (not s) → u.digits * 2 ^ u.place ≡ digits * 2 ^ dropped → ⊥
          differs true h u ne t z = absurd t
          differs false h u ne t z = ne (same_number m g h u z)

  -- no other value is the nearest, the even one of two
  pub nearest-unique : (y : Float) → NearestValue f a c y → y ≡ round f false a c
  nearest-unique nan N = absurd N.plus
  nearest-unique (inf s) N = absurd N.plus
  nearest-unique (fin true m e) N = absurd (true≢false N.plus)
  nearest-unique (fin false m e) N = go (ℕ_discrete (u.digits * 2 ^ u.place) (digits * 2 ^ dropped))
    where
      u : InUnits f false (fin false m e)
      u = in-units f false m e N.held

      go : Dec (u.digits * 2 ^ u.place ≡ digits * 2 ^ dropped) → fin false m e ≡ x
      go (yes z) = same_number m e N.held u z
      go (no ne) = absurd (clash (N.even x x_fits (is_finite x round-nearest-value.plus) (λ z. ne (same-value z)) (sym level)) odd-pattern)
        where
          level : distance a c (fin false m e) * den x ≡ distance a c x * down e
          level = le_antisymm (N.nearest x x_fits (is_finite x round-nearest-value.plus)) (round-nearest-value.nearest (fin false m e) N.held tt)

          o : Other (prec f) n c dropped P C more u.digits u.place
          o = other (prec f) n c dropped P C more u.digits u.place u.few ne
              (sym (distance-plus n c (u.digits * 2 ^ u.place))
              ∙ same_units (distance a c x) (distance a c (fin false m e)) (den x) (down e) own-distance (other-distance false u.digits u.place) (2 ^ low f) (den_pos x) (down_pos e) own-by
              (by_units a c (2 ^ low f) (fin false m e) false (u.digits * 2 ^ u.place) u.value) level
              ∙ own-units)

          odd-pattern : to_bits f (fin false m e) % 2 ≡ 1
          odd-pattern =
              pattern-parity f (fin false m e) u.digits dropped N.held (subst (λ (w : ℕ). HasValue (fin false m e) false w (2 ^ low f)) o.same u.value) o.digits
              (le_trans (le_of_lt u.few) (le_of_eq (twice_hid f))) (few-dropped f a c C A)
              ∙ o.odd

          same-value : x ≡ fin false m e → u.digits * 2 ^ u.place ≡ digits * 2 ^ dropped
          same-value z = one_value (fin false m e) (u.digits * 2 ^ u.place) (digits * 2 ^ dropped) (2 ^ low f) u.value (subst (λ (w : Float). HasValue w false (digits * 2 ^ dropped) (2 ^ low f)) z value)

          clash : {r : ℕ} → r ≡ 0 → r ≡ 1 → ⊥
          clash g h = omega arith

-- ---- a mass in any format
module _ (f : Format) {mass : ℕ} (k : ℕ) (small : mass ≤ max_total) where
  pub value-nearest : NearestValue f mass (2 ^ k) (export_value f mass k)
  unfolding export_value
  value-nearest = round-nearest-value f mass (2 ^ k) (pow_pos k) (far f small)

  pub value-only : (x : Float) → NearestValue f mass (2 ^ k) x → x ≡ export_value f mass k
  unfolding export_value
  value-only = nearest-unique f mass (2 ^ k) (pow_pos k) (far f small)

-- ---- the values of a format are those of its bit patterns, so that none of these is nearer
pub every-pattern : (f : Format) (a c : ℕ) (x : Float) → NearestValue f a c x → (b : ℕ) → T (finite (of_bits f b)) → distance a c x * den (of_bits f b) ≤ distance a c (of_bits f b) * den x
every-pattern f a c x N b t = N.nearest (of_bits f b) (of_bits-fits f b) t
