-- Who waits, as a byte with a bit for each member, and who is next. Assumes nothing.
use Rattle.std.specs.Prelude.{Some, None, Option, Bool, cond, ℕ, zero, suc, ◌+◌, ◌-◌, ◌/◌, ◌%◌, ◌^◌, eqb}
use Rattle.numbers.specs.Sums.{ℕ_adds, sum_to, pick}

-- member i waits: its bit is set
unfoldable pub waits : ℕ → ℕ → Bool
waits byte i = eqb (byte / 2 ^ i % 2) 1

-- the byte with bit i set, and with bit i clear
unfoldable pub with_bit : ℕ → ℕ → ℕ
with_bit byte i = cond (waits byte i) byte (byte + 2 ^ i)

unfoldable pub without_bit : ℕ → ℕ → ℕ
without_bit byte i = cond (waits byte i) (byte - 2 ^ i) byte

-- of the k members from i on, going round, the first that waits
unfoldable pub first_waiting : ℕ → ℕ → ℕ → Option ℕ
first_waiting byte i zero = None
first_waiting byte i (suc k) = cond (waits byte (i % 8)) (Some (i % 8)) (first_waiting byte (suc i) k)

-- how many members wait
unfoldable pub members_waiting : ℕ → ℕ
members_waiting byte = sum_to ℕ_adds 8 (λ i. pick ℕ_adds (waits byte i) 1)
