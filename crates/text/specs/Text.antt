-- Numbers as decimal text, what a decimal text means, the line of a refusal, and text put into a list of bytes. Assumes nothing.
use Rattle.std.specs.Prelude.{◌≡◌, cond, List, [], ◌∷◌, ◌++◌, ℕ, zero, suc, ◌+◌, ◌*◌, ◌-◌, ◌/◌, ◌%◌, ◌≤◌, ◌<◌, ltb, ℤ, pos, negsuc, length}
use Rattle.numbers.specs.Lists.{at, written}
use Rattle.text.specs.Ascii.{ascii}

-- ---- numbers

-- the digits of n, of which there are at most k: one below ten, else those of its tenth and the last
unfoldable pub digits_of : ℕ → ℕ → List ℕ
digits_of zero n = []
digits_of (suc k) n = cond (ltb n 10) ((48 + n) ∷ []) (digits_of k (n / 10) ++ ((48 + n % 10) ∷ []))

-- a number below 10 ^ 20
abbrev pub digits : ℕ → List ℕ
digits n = digits_of 20 n

-- a number, and the byte after it
abbrev pub number : ℕ → ℕ → List ℕ
number n after = digits n ++ (after ∷ [])

-- a signed number: below 0 it has a minus sign
unfoldable pub signed_number : ℤ → ℕ → List ℕ
signed_number (pos n) after = number n after
signed_number (negsuc n) after = 45 ∷ number (suc n) after

-- a number after a word
abbrev pub named : List ℕ → ℕ → ℕ → List ℕ
named word n after = word ++ number n after

-- and a signed one
abbrev pub named_signed : List ℕ → ℤ → ℕ → List ℕ
named_signed word z after = word ++ signed_number z after

-- ---- lines

-- the byte between the pieces of a line, and the byte at its end
abbrev pub space : ℕ
space = 32

abbrev pub newline : ℕ
newline = 10

-- what is printed of a refusal ('Examples' of 01): `refused`, number, place; and the byte after it
unfoldable pub refusal_text : ℕ → ℕ → ℕ → List ℕ
refusal_text refusal place after = named (ascii "refused ") refusal space ++ number place after

-- as a line of its own
abbrev pub refusal_line : ℕ → ℕ → List ℕ
refusal_line refusal place = refusal_text refusal place newline

-- ---- what digits mean

-- the value of a list of digits
unfoldable pub value_from : ℕ → List ℕ → ℕ
value_from x [] = x
value_from x (d ∷ ds) = value_from (10 * x + (d - 48)) ds

-- every byte is a digit
abbrev pub Digits : List ℕ → Type 0
Digits ds = (i : ℕ) → i < length ds → (48 ≤ at ds i) × (at ds i ≤ 57)

-- ds is n in decimal: some digits, with n as their value, and a leading zero only if it is the only digit
pub record Decimal (n : ℕ) (ds : List ℕ) : Type 0 where
  pub some : 0 < length ds
  pub digit : Digits ds
  pub value : value_from 0 ds ≡ n
  pub shortest : at ds 0 ≡ 48 → length ds ≡ 1

-- ---- text in a list of bytes

-- `text` was put into d at `from`, which made it d', and end is the place after it
pub record Put (d d' : List ℕ) (from end : ℕ) (text : List ℕ) : Type 0 where
  pub next : end ≡ from + length text
  pub bytes : d' ≡ written d from text
