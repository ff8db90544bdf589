-- Laws of words: a word is read back from its bytes, bytes are those of their words, a signed number is read back from its word, and a
-- number of 64 bits from its two. Assumes nothing.
use Rattle.std.proofs.Common.{◌≡◌, ℕ, zero, suc, ◌+◌, ◌-◌, ◌*◌, ◌/◌, ◌%◌, ◌^◌, ◌<◌, ◌≤◌, List, [], ◌∷◌, ◌++◌, length, take, drop, ℤ, pos, negsuc, ◌≤ℤ◌, sym, refl, ap, ◌∙◌, ap₂, append_assoc, add-zero, add-one, arith, length-append, length-take, get_or-drop, take_all, drop-cons, drop-drop, take-add, le-ltb, lt-ltb}
use native.Mathlib.Decide.{dec_lt}
use lib.ListN.{get_or-eq_default}
use Rattle.numbers.specs.Sums.{ℕ_adds, sum_to}
use Rattle.numbers.specs.Lists.{at, list_to, written}
use Rattle.numbers.proofs.SignedLaws.{le-rule, parts-le}
use Rattle.numbers.proofs.SumLaws.{sum_to-next}
use Rattle.numbers.proofs.ListLaws.{length-list_to, get_d-list_to}
use Rattle.numbers.proofs.PartLaws.{get_d_part, get_d-skip, written-seam}
use Rattle.blocks.specs.Words.{word_at, word_bytes, words_bytes, Bytes, Words, signed_word, word_signed, low_word, high_word, two_words}

-- a sum of words that wraps, with one summand more: the summand may have wrapped already
pub wrap-next : (f : ℕ → ℕ) (n a x : ℕ) → a ≡ sum_to ℕ_adds n f % 2 ^ 32 → x % 2 ^ 32 ≡ f n % 2 ^ 32 → (a + x) % 2 ^ 32 ≡ sum_to ℕ_adds (n + 1) f % 2 ^ 32
wrap-next f n a x h e = rw (add-one, sum_to-next ℕ_adds n f) (omega arith)

-- one word more
pub words_bytes-next : (k : ℕ) (w : ℕ → ℕ) → words_bytes (suc k) w ≡ words_bytes k w ++ word_bytes (w k)
unfolding words_bytes
words_bytes-next k w = refl

pub length-words_bytes : (k : ℕ) (w : ℕ → ℕ) → length (words_bytes k w) ≡ 4 * k
unfolding words_bytes word_bytes
length-words_bytes zero w = refl
length-words_bytes (suc k) w = length-append (words_bytes k w) (word_bytes (w k)) ∙ omega (arith, length-words_bytes k w)

pub words_bytes-ext : (k : ℕ) (f g : ℕ → ℕ) → ((i : ℕ) → i < k → f i ≡ g i) → words_bytes k f ≡ words_bytes k g
unfolding words_bytes
words_bytes-ext zero f g h = refl
words_bytes-ext (suc k) f g h = ap₂ (λ p x. p ++ word_bytes x) (words_bytes-ext k f g (λ i l. h i (omega arith))) (h k (omega arith))

-- ---- from words to bytes and back

glue : (x a b c r s t : ℕ) → x ≡ 256 * a + r → a ≡ 256 * b + s → b ≡ 256 * c + t → r + 256 * s + 65536 * t + 16777216 * c ≡ x
glue x a b c r s t e f g = omega arith

-- a word from its bytes
pub digits : (x : ℕ) → x < 2 ^ 32 → x % 256 + 256 * (x / 256 % 256) + 65536 * (x / 65536 % 256) + 16777216 * (x / 16777216 % 256) ≡ x
digits x h =
    let d : x / 65536 ≡ x / 256 / 256 = omega arith in
    let f : x / 16777216 ≡ x / 65536 / 256 = omega arith in
    let t : x / 16777216 % 256 ≡ x / 16777216 = omega arith in
    rw t (glue x (x / 256) (x / 65536) (x / 16777216) (x % 256) (x / 256 % 256) (x / 65536 % 256) (omega arith) (omega arith) (omega arith))

-- a word that was written past the first part of a list is read there
pub word_at-seam : (p rest : List ℕ) (from x : ℕ) → length p ≡ from → x < 2 ^ 32 → word_at (p ++ (word_bytes x ++ rest)) from ≡ x
unfolding word_at word_bytes
word_at-seam p rest from x e h =
    let q : List ℕ = word_bytes x ++ rest in
    let g : at (p ++ q) from ≡ at q 0 = ap (λ n. at (p ++ q) n) (sym (add-zero from)) ∙ get_d-skip p q from 0 0 e in
    omega (arith, g, get_d-skip p q from 1 0 e, get_d-skip p q from 2 0 e, get_d-skip p q from 3 0 e, digits x h)

back_step : (w : ℕ → ℕ) (n : ℕ) (rest : List ℕ) (k : ℕ) → k < suc n → w k < 2 ^ 32
    → (k < n → w k < 2 ^ 32 → word_at (words_bytes n w ++ (word_bytes (w n) ++ rest)) (4 * k) ≡ w k)
    → Dec (k < n) → word_at ((words_bytes n w ++ word_bytes (w n)) ++ rest) (4 * k) ≡ w k
back_step w n rest k l h ih (yes m) = rw append_assoc (ih m h)
back_step w n rest k l h ih (no m) =
    let e : k ≡ n = omega arith in
    rw (append_assoc, e) (word_at-seam (words_bytes n w) rest (4 * n) (w n) (length-words_bytes n w) (rw (← e) h))

-- a word of a run of words is read back
pub word_at-back : (w : ℕ → ℕ) (n : ℕ) (rest : List ℕ) (k : ℕ) → k < n → w k < 2 ^ 32 → word_at (words_bytes n w ++ rest) (4 * k) ≡ w k
unfolding words_bytes
word_at-back w zero rest k l h = absurd (omega arith)
word_at-back w (suc n) rest k l h = back_step w n rest k l h (word_at-back w n (word_bytes (w n) ++ rest) k) (dec_lt k n)

-- one word more of a run that is written from the start of a list
pub put_next : (w : ℕ → ℕ) (n x : ℕ) (d : List ℕ) → x ≡ w n → written (words_bytes n w ++ drop (4 * n) d) (4 * n) (word_bytes x) ≡ words_bytes (n + 1) w ++ drop (4 * (n + 1)) d
unfolding words_bytes word_bytes
put_next w n x d e =
    let m : 4 * (n + 1) ≡ 4 * n + 4 = omega arith in
    rw (written-seam (words_bytes n w) (drop (4 * n) d) (word_bytes x) (4 * n) (length-words_bytes n w), m, add-one n, drop-drop, e, append_assoc)

-- ---- from bytes to words and back

pub word_at-small : (l : List ℕ) (i : ℕ) → Bytes l → word_at l i < 2 ^ 32
unfolding word_at
word_at-small l i h = omega (arith, h i, h (i + 1), h (i + 2), h (i + 3))

-- the bytes of a word, each from the quotient before it
bytes_back : (a b c d : ℕ) → a < 256 → b < 256 → c < 256 → d < 256 → word_bytes (a + 256 * b + 65536 * c + 16777216 * d) ≡ a ∷ b ∷ c ∷ d ∷ []
unfolding word_bytes
bytes_back a b c d ha hb hc hd = parts (a + 256 * b + 65536 * c + 16777216 * d) (b + 256 * c + 65536 * d) (c + 256 * d) (omega arith) (omega arith) (omega arith)
  where
    parts : (x y z : ℕ) → x ≡ 256 * y + a → y ≡ 256 * z + b → z ≡ 256 * d + c → word_bytes x ≡ a ∷ b ∷ c ∷ d ∷ []
    parts x y z e f g =
        let h : x / 256 ≡ y = omega arith in
        let i : x / 65536 ≡ x / 256 / 256 = omega arith in
        let j : y / 256 ≡ z = omega arith in
        let k : x / 16777216 ≡ x / 65536 / 256 = omega arith in
        let l : z / 256 ≡ d = omega arith in
        let p : x % 256 ≡ a = omega arith in
        let q : y % 256 ≡ b = omega arith in
        let r : z % 256 ≡ c = omega arith in
        let s : d % 256 ≡ d = omega arith in
        rw (p, k, i, h, q, j, r, l, s)

four : (l : List ℕ) (i : ℕ) → i + 4 ≤ length l → take 4 (drop i l) ≡ at l i ∷ at l (i + 1) ∷ at l (i + 2) ∷ at l (i + 3) ∷ []
four l i h =
    let p : i + 1 ≡ suc i = omega arith in
    let q : i + 2 ≡ suc (suc i) = omega arith in
    let r : i + 3 ≡ suc (suc (suc i)) = omega arith in
    rw (p, q, r, drop-cons l i 0 (omega arith), drop-cons l (suc i) 0 (omega arith), drop-cons l (suc (suc i)) 0 (omega arith), drop-cons l (suc (suc (suc i))) 0 (omega arith))

-- the four bytes of the word at an index are those that stand there
pub word_back : (l : List ℕ) (i : ℕ) → Bytes l → i + 4 ≤ length l → word_bytes (word_at l i) ≡ take 4 (drop i l)
unfolding word_at
word_back l i b h = bytes_back (at l i) (at l (i + 1)) (at l (i + 2)) (at l (i + 3)) (b i) (b (i + 1)) (b (i + 2)) (b (i + 3)) ∙ sym (four l i h)

words-front : (k : ℕ) (l : List ℕ) → Bytes l → 4 * k ≤ length l → words_bytes k (λ i. word_at l (4 * i)) ≡ take (4 * k) l
unfolding words_bytes
words-front zero l b h = refl
words-front (suc k) l b h =
    let m : 4 * suc k ≡ 4 * k + 4 = omega arith in
    ap₂ (λ p q. p ++ q) (words-front k l b (omega arith)) (word_back l (4 * k) b (omega arith)) ∙ sym (rw m (take-add (4 * k) 4 l))

-- a list of 4 k bytes is that of its k words
pub words_back : (k : ℕ) (l : List ℕ) → Bytes l → length l ≡ 4 * k → l ≡ words_bytes k (λ i. word_at l (4 * i))
words_back k l b e = sym (words-front k l b (omega arith) ∙ take_all (4 * k) l (omega arith))

-- a word of a part of a list
pub word_at-part : (n from : ℕ) (l : List ℕ) (i : ℕ) → i + 4 ≤ n → word_at (take n (drop from l)) i ≡ word_at l (from + i)
unfolding word_at
word_at-part n from l i h =
    let p : from + (i + 1) ≡ from + i + 1 = omega arith in
    let q : from + (i + 2) ≡ from + i + 2 = omega arith in
    let r : from + (i + 3) ≡ from + i + 3 = omega arith in
    let a : at (take n (drop from l)) i ≡ at l (from + i) = get_d_part n from l i 0 (omega arith) in
    let b : at (take n (drop from l)) (i + 1) ≡ at l (from + i + 1) = get_d_part n from l (i + 1) 0 (omega arith) ∙ ap (at l) p in
    let c : at (take n (drop from l)) (i + 2) ≡ at l (from + i + 2) = get_d_part n from l (i + 2) 0 (omega arith) ∙ ap (at l) q in
    let d : at (take n (drop from l)) (i + 3) ≡ at l (from + i + 3) = get_d_part n from l (i + 3) 0 (omega arith) ∙ ap (at l) r in
    rw (a, b, c, d)

-- ---- lists of bytes

pub bytes-part : (n from : ℕ) (l : List ℕ) → Bytes l → Bytes (take n (drop from l))
bytes-part n from l b i = go (dec_lt i n)
  where
    go : Dec (i < n) → at (take n (drop from l)) i < 256
    go (yes m) = rw (get_d_part n from l i 0 m) (b (from + i))
    go (no m) = rw (get_or-eq_default (take n (drop from l)) 0 {n = i} (omega (arith, length-take n (drop from l)))) (omega arith)

pub bytes_drop : (n : ℕ) (l : List ℕ) → Bytes l → Bytes (drop n l)
bytes_drop n l b i = rw (get_or-drop n l i 0) (b (n + i))

pub bytes-append : (p q : List ℕ) → Bytes p → Bytes q → Bytes (p ++ q)
bytes-append [] q a b i = b i
bytes-append (x ∷ p) q a b zero = a zero
bytes-append (x ∷ p) q a b (suc i) = bytes-append p q (λ j. a (suc j)) b i

pub word_bytes-bytes : (x : ℕ) → Bytes (word_bytes x)
unfolding word_bytes
word_bytes-bytes x zero = omega arith
word_bytes-bytes x (suc zero) = omega arith
word_bytes-bytes x (suc (suc zero)) = omega arith
word_bytes-bytes x (suc (suc (suc zero))) = omega arith
word_bytes-bytes x (suc (suc (suc (suc i)))) = omega arith

pub words_bytes-bytes : (k : ℕ) (w : ℕ → ℕ) → Bytes (words_bytes k w)
unfolding words_bytes
words_bytes-bytes zero w = λ i. omega arith
words_bytes-bytes (suc k) w = bytes-append (words_bytes k w) (word_bytes (w k)) (words_bytes-bytes k w) (word_bytes-bytes (w k))

-- ---- lists of words

pub words-list_to : (k : ℕ) (g : ℕ → ℕ) → ((i : ℕ) → i < k → g i < 2 ^ 32) → Words (list_to k g)
words-list_to k g h i = go (dec_lt i k)
  where
    go : Dec (i < k) → at (list_to k g) i < 2 ^ 32
    go (yes l) = rw (get_d-list_to k g i 0 l) (h i l)
    go (no l) = rw (get_or-eq_default (list_to k g) 0 {n = i} (omega (arith, length-list_to k g))) (omega arith)

-- ---- two's complement

-- a number of 32 bits is the one that its word stands for
pub signed_back : (z : ℤ) → negsuc 2147483647 ≤ℤ z → z ≤ℤ pos 2147483647 → (word_signed (signed_word z) ≡ z) × (signed_word z < 2 ^ 32)
unfolding word_signed signed_word
signed_back (pos n) l h = (rw (lt-ltb n 2147483648 (omega (arith, le-rule h))), omega (arith, le-rule h))
signed_back (negsuc n) l h =
    let k : n ≤ 2147483647 = omega (arith, le-rule l) in
    (rw (le-ltb (4294967295 - n) 2147483648 (omega arith)) (ap negsuc (omega arith)), omega arith)

-- a word is that of the number it stands for, which has 32 bits
pub word-signed-back : (x : ℕ) → x < 2 ^ 32 → signed_word (word_signed x) ≡ x
unfolding signed_word word_signed
word-signed-back x h = go (dec_lt x 2147483648)
  where
    go : Dec (x < 2147483648) → signed_word (word_signed x) ≡ x
    go (yes l) = unfold signed_word word_signed in (rw (lt-ltb x 2147483648 l))
    go (no l) = unfold signed_word word_signed in (rw (le-ltb x 2147483648 (omega arith)) (omega arith))

pub word-signed-fits : (x : ℕ) → x < 2 ^ 32 → (negsuc 2147483647 ≤ℤ word_signed x) × (word_signed x ≤ℤ pos 2147483647)
word-signed-fits x h = go (dec_lt x 2147483648)
  where
    go : Dec (x < 2147483648) → (negsuc 2147483647 ≤ℤ word_signed x) × (word_signed x ≤ℤ pos 2147483647)
    go (yes l) = unfold word_signed in (rw (lt-ltb x 2147483648 l) (parts-le (omega arith), parts-le (omega arith)))
    go (no l) = unfold word_signed in (rw (le-ltb x 2147483648 (omega arith)) (parts-le (omega arith), parts-le (omega arith)))

-- ---- two words

-- a number is the one that its two words make; of 64 bits, both fit
pub two-words-back : (x : ℕ) → two_words (low_word x) (high_word x) ≡ x
two-words-back x = omega arith

pub low-word-fits : (x : ℕ) → low_word x < 2 ^ 32
low-word-fits x = omega arith

pub high-word-fits : (x : ℕ) → x < 2 ^ 64 → high_word x < 2 ^ 32
high-word-fits x h = omega arith

-- two words are those of the number that they make, which has 64 bits
pub low-word-back : (low high : ℕ) → low < 2 ^ 32 → low_word (two_words low high) ≡ low
low-word-back low high h = omega arith

pub high-word-back : (low high : ℕ) → low < 2 ^ 32 → high_word (two_words low high) ≡ high
high-word-back low high h = omega arith

pub two-words-fit : (low high : ℕ) → low < 2 ^ 32 → high < 2 ^ 32 → two_words low high < 2 ^ 64
two-words-fit low high l h = omega arith
