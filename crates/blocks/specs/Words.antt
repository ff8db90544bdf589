-- Words of 32 bits in bytes, low byte first; signed numbers in words, and numbers of 64 bits in two. Assumes nothing.
use Rattle.std.specs.Prelude.{ℕ, zero, suc, ◌+◌, ◌-◌, ◌*◌, ◌/◌, ◌%◌, ◌^◌, ◌<◌, cond, List, [], ◌∷◌, ◌++◌, ℤ, pos, negsuc, nat_lt}
use Rattle.numbers.specs.Lists.{at}

-- the word whose first byte is at an index
unfoldable pub word_at : List ℕ → ℕ → ℕ
word_at bytes i = at bytes i + 256 * at bytes (i + 1) + 65536 * at bytes (i + 2) + 16777216 * at bytes (i + 3)

-- the four bytes of a word
unfoldable pub word_bytes : ℕ → List ℕ
word_bytes x = x % 256 ∷ x / 256 % 256 ∷ x / 65536 % 256 ∷ x / 16777216 % 256 ∷ []

-- the bytes of the words w 0, w 1, .., w (k − 1)
unfoldable pub words_bytes : ℕ → (ℕ → ℕ) → List ℕ
words_bytes zero w = []
words_bytes (suc k) w = words_bytes k w ++ word_bytes (w k)

-- each number of a list is a byte; each is a word
abbrev pub Bytes : List ℕ → Type 0
Bytes l = (i : ℕ) → at l i < 256

abbrev pub Words : List ℕ → Type 0
Words l = (i : ℕ) → at l i < 2 ^ 32

-- ---- two's complement: the word of a signed number, and the number that a word stands for
unfoldable pub signed_word : ℤ → ℕ
signed_word (pos n) = n
signed_word (negsuc n) = 4294967295 - n

unfoldable pub word_signed : ℕ → ℤ
word_signed x = cond (nat_lt x 2147483648) (pos x) (negsuc (4294967295 - x))

-- ---- the two words of a number of 64 bits, and the number that two words make
abbrev pub low_word : ℕ → ℕ
low_word x = x % 2 ^ 32

abbrev pub high_word : ℕ → ℕ
high_word x = x / 2 ^ 32

abbrev pub two_words : (low high : ℕ) → ℕ
two_words low high = low + high * 2 ^ 32
