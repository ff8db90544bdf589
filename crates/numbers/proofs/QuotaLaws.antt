-- The rounded quotient: all that anything else may use of it. Assumes nothing.
-- The first law says which rounding it is. All else goes by the four after it, so it holds of every rounding that has those.
use mathlib.Core.Path.{◌≡◌, sym, ◌∙◌, ap}
use Prim.Native.Nat.{ℕ, zero, suc, ◌+◌, ◌-◌, ◌*◌, ◌/◌, ◌%◌, ◌≤◌, ◌<◌}
use native.Mathlib.Omega.{arith}
use native.Mathlib.Nat.{le_trans, le_of_eq, zero-add, div-zero, div-eq_of_lt, div-mul-le_self, le-div_iff_mul-le, add-mul-div_right, mul-le-mul_left, mul-le-mul_right, mul-add, add-mul, mul_comm, mul_left_comm, div-add-mod', mod-lt, lt-div-mul-add}
use native.Mathlib.Decide.{dec_lt}
use Rattle.numbers.specs.Quota.{quota}

-- it rounds to nearest, and halves up: with q = quota a b, q − 1/2 ≤ a ÷ b < q + 1/2
pub quota-nearest : (a b : ℕ) → 0 < b → (2 * (quota a b * b) ≤ 2 * a + b) × (2 * a < 2 * (quota a b * b) + b)
unfolding quota
quota-nearest a b h =
    let whole = mul_left_comm (quota a b) 2 b in
    let most : 2 * a < 2 * (quota a b * b) + b = omega (arith, whole, lt-div-mul-add {a = 2 * a + b} {b = 2 * b} (omega (arith, h))) in
    (omega (arith, whole, div-mul-le_self (2 * a + b) (2 * b)), most)

-- ---- what all else goes by; these too read the definition

pub quota-mono : (c a b : ℕ) → a ≤ b → quota a c ≤ quota b c
unfolding quota
quota-mono zero a b h = le_of_eq (div-zero _ ∙ sym (div-zero _))
quota-mono (suc c) a b h = (le-div_iff_mul-le {k = 2 * suc c} (omega arith)).1 (le_trans (div-mul-le_self _ (2 * suc c)) (omega (arith, h)))

pub quota-zero : (b : ℕ) → quota 0 b ≡ 0
unfolding quota
quota-zero zero = div-zero 0
quota-zero (suc b) = div-eq_of_lt (omega arith)

pub quota-none : (a : ℕ) → quota a 0 ≡ 0
unfolding quota
quota-none a = div-zero _

-- a whole summand comes out
pub quota-plus : (a c b : ℕ) → 0 < b → quota (a + c * b) b ≡ quota a b + c
unfolding quota
quota-plus a c b h = ap (λ x. x / (2 * b)) (omega (arith, mul_left_comm c 2 b)) ∙ add-mul-div_right _ c (omega (arith, h))

-- ---- what follows

pub quota-whole : (a b : ℕ) → 0 < b → quota (a * b) b ≡ a
quota-whole a b h = ap (λ x. quota x b) (sym (zero-add (a * b))) ∙ quota-plus 0 a b h ∙ rw (quota-zero b) (zero-add a)

-- of D shared out by sizes that add up to c, a size l gets at most l if D is at most c
pub quota-part : (D c P l : ℕ) → D ≤ c → quota (D * (P + l)) c ≤ quota (D * P) c + l
quota-part D zero P l h = rw (quota-none, quota-none) (omega arith)
quota-part D (suc c) P l h =
    le_trans (quota-mono (suc c) (D * (P + l)) (D * P + l * suc c) (rw (mul-add D P l) (omega (arith, mul-le-mul_left l h, mul_comm D l))))
    (le_of_eq (quota-plus (D * P) l (suc c) (omega arith)))

-- a difference of quotas is less than one unit from the difference of the true quotients: with δ = quota (a + r) b − quota a b, |δ·b − r| < b
module _ (a r b : ℕ) (some : 0 < b) where
  at_least : quota a b + r / b ≤ quota (a + r) b
  at_least =
      le_trans (le_of_eq (sym (quota-plus a (r / b) b some)))
      (quota-mono b (a + r / b * b) (a + r) (omega (arith, div-mul-le_self r b)))

  at_most : quota (a + r) b ≤ quota a b + (r / b + 1)
  at_most =
      le_trans (quota-mono b (a + r) (a + (r / b + 1) * b) (omega (arith, div-add-mod' r b, mod-lt r some, add-mul (r / b) 1 b)))
      (le_of_eq (quota-plus a (r / b + 1) b some))

  even : r % b ≡ 0 → quota (a + r) b ≡ quota a b + r / b
  even e = let f : r ≡ r / b * b = omega (arith, div-add-mod' r b) in ap (λ x. quota (a + x) b) f ∙ quota-plus a (r / b) b some

  pub quota-near : ((quota (a + r) b - quota a b) * b < r + b) × (r < (quota (a + r) b - quota a b) * b + b)
  quota-near = (go (dec_lt 0 (r % b)), omega (arith, lt-div-mul-add {a = r} some, mul-le-mul_right {m = r / b} {n = quota (a + r) b - quota a b} b (omega (arith, at_least))))
    where
      go : Dec (0 < r % b) → (quota (a + r) b - quota a b) * b < r + b
      go (yes h) = omega (arith, div-add-mod' r b, add-mul (r / b) 1 b, mul-le-mul_right {m = quota (a + r) b - quota a b} {n = r / b + 1} b (omega (arith, at_most)))
      go (no h) = omega (arith, div-add-mod' r b, mul-le-mul_right {m = quota (a + r) b - quota a b} {n = r / b} b (omega (arith, even (omega arith))))
