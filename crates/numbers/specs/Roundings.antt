-- A fraction rounded to a whole number: down, up, and to nearest with ties to even; and what these mean. Assumes nothing.
use Rattle.std.specs.Prelude.{◌≡◌, Bool, true, false, cond, ℕ, ◌+◌, ◌/◌, ◌%◌, ◌≤◌, eqb, ℤ, pos, neg_ℤ, nat_abs, ◌-ℤ◌, ◌*ℤ◌, ◌≤ℤ◌}
use Rattle.std.specs.Float.Ieee.Nearest.{closest}

-- ---- the size: a / b for a b above 0. `closest a b` is to nearest, a tie to the even number
abbrev pub floor : ℕ → ℕ → ℕ
floor a b = a / b

abbrev pub ceiling : ℕ → ℕ → ℕ
ceiling a b = a / b + cond (eqb (a % b) 0) 0 1

-- ---- with a sign, true for minus: minus 0 is 0
abbrev pub signed : Bool → ℕ → ℤ
signed false q = pos q
signed true q = neg_ℤ (pos q)

abbrev pub round_down : Bool → ℕ → ℕ → ℤ
round_down false a b = signed false (floor a b)
round_down true a b = signed true (ceiling a b)

abbrev pub round_up : Bool → ℕ → ℕ → ℤ
round_up false a b = signed false (ceiling a b)
round_up true a b = signed true (floor a b)

abbrev pub round_nearest : Bool → ℕ → ℕ → ℤ
round_nearest s a b = signed s (closest a b)

-- ---- what they mean, of n / b for a whole n and a b above 0

-- z is the largest whole number that is not above n / b
pub record Down (n : ℤ) (b : ℕ) (z : ℤ) : Type 0 where
  pub below : (z *ℤ pos b) ≤ℤ n
  pub greatest : (y : ℤ) → (y *ℤ pos b) ≤ℤ n → y ≤ℤ z

-- z is the smallest whole number that is not below n / b
pub record Up (n : ℤ) (b : ℕ) (z : ℤ) : Type 0 where
  pub above : n ≤ℤ (z *ℤ pos b)
  pub least : (y : ℤ) → n ≤ℤ (y *ℤ pos b) → z ≤ℤ y

-- b times the distance between y and n / b
abbrev pub scaled_distance : ℤ → ℕ → ℤ → ℕ
scaled_distance n b y = nat_abs (y *ℤ pos b -ℤ n)

-- no whole number is nearer to n / b than z; if another one is as near, z is even
pub record NearestEven (n : ℤ) (b : ℕ) (z : ℤ) : Type 0 where
  pub nearest : (y : ℤ) → scaled_distance n b z ≤ scaled_distance n b y
  pub even : (y : ℤ) → (y ≡ z → ⊥) → scaled_distance n b y ≡ scaled_distance n b z → nat_abs z % 2 ≡ 0
