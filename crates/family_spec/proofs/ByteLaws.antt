-- The byte of who waits: a bit read, set and cleared, and the count of the set bits, each by a computed test of every byte and bit. Assumes
-- nothing.
use mathlib.Core.Path.{◌≡◌, refl}
use mathlib.Core.Bool.{Bool, true, false, not, ◌&&◌, ◌||◌, beq}
use Prim.Native.Nat.{ℕ, ◌-◌, ◌<◌, ◌^◌}
use lib.Bits.{bit_and, bit_or}
use lib.Count.{ones, ones_in}
use lib.Dec.{eqb, ltb}
use borrow.Author.Tests.{eqb-true, ltb-true}
use Rattle.numbers.specs.Sums.{sum_to}
use Rattle.numbers.specs.Checks.{every_from}
use Rattle.numbers.proofs.TestLaws.{clash}
use Rattle.numbers.proofs.CheckLaws.{every-means}
use Rattle.family_spec.specs.Waiting.{waits, with_bit, without_bit, members_waiting}

every-at : (good : ℕ → Bool) (k : ℕ) → every_from good 0 k ≡ true → (i : ℕ) → i < k → good i ≡ true
every-at good k e i l = (every-means good (λ j. good j ≡ true) (λ j. (λ x. x, λ x. x)) k).0 e i l

beq-means : (a b : Bool) → beq a b ≡ true → a ≡ b
beq-means true true e = refl
beq-means true false e = absurd (clash e refl)
beq-means false true e = absurd (clash e refl)
beq-means false false e = refl

-- a test of every byte, every bit of it and every other
abbrev EveryBit : (ℕ → ℕ → ℕ → Bool) → Type 0
EveryBit good = every_from (λ w. every_from (λ i. every_from (good w i) 0 8) 0 8) 0 256 ≡ true

every-bit : (good : ℕ → ℕ → ℕ → Bool) → EveryBit good → (w i j : ℕ) → w < 256 → i < 8 → j < 8 → good w i j ≡ true
every-bit good e w i j a b c =
    every-at (good w i) 8 (every-at (λ i. every_from (good w i) 0 8) 8 (every-at (λ w. every_from (λ i. every_from (good w i) 0 8) 0 8) 256 e w a) i b) j c

abbrev sets_one : ℕ → ℕ → ℕ → Bool
sets_one w i j = beq (waits (with_bit w i) j) (eqb j i || waits w j)

abbrev clears_one : ℕ → ℕ → ℕ → Bool
clears_one w i j = beq (waits (without_bit w i) j) (not (eqb j i) && waits w j)

every-sets : EveryBit sets_one
unfolding every_from waits with_bit
every-sets = refl

every-clears : EveryBit clears_one
unfolding every_from waits without_bit
every-clears = refl

every-set-byte : EveryBit (λ w i j. ltb (with_bit w i) 256)
unfolding every_from waits with_bit
every-set-byte = refl

every-clear-byte : EveryBit (λ w i j. ltb (without_bit w i) 256)
unfolding every_from waits without_bit
every-clear-byte = refl

every-read : EveryBit (λ w i j. beq (waits w i) (not (eqb (bit_and w (2 ^ i)) 0)))
unfolding every_from waits
every-read = refl

every-set : EveryBit (λ w i j. eqb (with_bit w i) (bit_or w (2 ^ i)))
unfolding every_from waits with_bit
every-set = refl

every-cleared : EveryBit (λ w i j. eqb (without_bit w i) (bit_and w (255 - 2 ^ i)))
unfolding every_from waits without_bit
every-cleared = refl

module _ (w i : ℕ) (a : w < 256) (b : i < 8) where
  -- bit j of the byte with bit i set, and with bit i clear; both are bytes
  pub set-bit : (j : ℕ) → j < 8 → waits (with_bit w i) j ≡ (eqb j i || waits w j)
  set-bit j c = beq-means (waits (with_bit w i) j) (eqb j i || waits w j) (every-bit sets_one every-sets w i j a b c)

  pub clear-bit : (j : ℕ) → j < 8 → waits (without_bit w i) j ≡ (not (eqb j i) && waits w j)
  clear-bit j c = beq-means (waits (without_bit w i) j) (not (eqb j i) && waits w j) (every-bit clears_one every-clears w i j a b c)

  pub set-byte : with_bit w i < 256
  set-byte = ltb-true (with_bit w i) 256 (every-bit (λ w i j. ltb (with_bit w i) 256) every-set-byte w i i a b b)

  pub clear-byte : without_bit w i < 256
  clear-byte = ltb-true (without_bit w i) 256 (every-bit (λ w i j. ltb (without_bit w i) 256) every-clear-byte w i i a b b)

-- a bit as the code reads it, sets it and clears it
pub bit_read : (w i : ℕ) → w < 256 → i < 8 → waits w i ≡ not (eqb (bit_and w (2 ^ i)) 0)
bit_read w i a b = beq-means (waits w i) (not (eqb (bit_and w (2 ^ i)) 0)) (every-bit (λ w i j. beq (waits w i) (not (eqb (bit_and w (2 ^ i)) 0))) every-read w i i a b b)

pub bit_set : (w i : ℕ) → w < 256 → i < 8 → with_bit w i ≡ bit_or w (2 ^ i)
bit_set w i a b = eqb-true (with_bit w i) (bit_or w (2 ^ i)) (every-bit (λ w i j. eqb (with_bit w i) (bit_or w (2 ^ i))) every-set w i i a b b)

pub bit_cleared : (w i : ℕ) → w < 256 → i < 8 → without_bit w i ≡ bit_and w (255 - 2 ^ i)
bit_cleared w i a b =
    eqb-true (without_bit w i) (bit_and w (255 - 2 ^ i)) (every-bit (λ w i j. eqb (without_bit w i) (bit_and w (255 - 2 ^ i))) every-cleared w i i a b b)

-- the machine's count of the set bits is the number of members that wait
every-count : every_from (λ w. eqb (ones w) (members_waiting w)) 0 256 ≡ true
unfolding every_from ones ones_in members_waiting sum_to waits
every-count = refl

pub count_bits : (w : ℕ) → w < 256 → ones w ≡ members_waiting w
count_bits w l = eqb-true (ones w) (members_waiting w) (every-at (λ w. eqb (ones w) (members_waiting w)) 256 every-count w l)
