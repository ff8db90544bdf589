-- Laws of blocks: what the checks mean, and that a block passes exactly if it is the bytes of some words at its number. Assumes nothing.
use Rattle.std.specs.Prelude.{Ok}
use Rattle.std.proofs.Common.{◌≡◌, ℕ, zero, suc, ◌+◌, ◌-◌, ◌*◌, ◌%◌, ◌^◌, ◌<◌, ◌≤◌, Bool, true, false, cond, eqb, ◌↔◌, List, [], ◌∷◌, ◌++◌, length, take, drop, sym, refl, ap, ◌∙◌, subst, append_assoc, arith, length-append, drop_of_length-le, drop-drop}
use native.Mathlib.Decide.{dec_lt}
use lib.ListN.{get_or-eq_default}
use Rattle.numbers.specs.Sums.{ℕ_adds, sum_to}
use Rattle.numbers.specs.Lists.{at, list_to, written}
use Rattle.numbers.specs.Checks.{Decides, rule_for, Holds, DecidesAll}
use Rattle.numbers.proofs.TestLaws.{and-means, lt-means, le-means, eq-means}
use Rattle.numbers.proofs.SumLaws.{sum_to-ext}
use Rattle.numbers.proofs.ListLaws.{length-list_to, get_d-list_to}
use Rattle.numbers.proofs.PartLaws.{length_part, written-seam}
use Rattle.numbers.proofs.CheckLaws.{every-from, decides-for, decides-then, alone}
use Rattle.blocks.specs.Words.{word_at, word_bytes, words_bytes, Bytes, Words}
use Rattle.blocks.specs.Blocks.{first_check, second_check, head_word, block_bytes, has_block, block_of, payload_of, word_of, payload_word, is_sound, check_sound, check_spare, check_block, SoundBlock, SpareZero, block_rules, IsBlock, payload_place, PayloadContract}
use Rattle.blocks.proofs.WordLaws.{length-words_bytes, words_bytes-next, words_bytes-ext, word_at-seam, word_at-back, word_at-small, words_back, word_at-part, bytes-part, bytes-append, word_bytes-bytes, words_bytes-bytes, words-list_to}

-- ---- whether a file has a block

pub has_block-means : (file : List ℕ) (b : ℕ) → (has_block file b ≡ true) ↔ ((0 < b) × (512 * b ≤ length file))
unfolding has_block
has_block-means file b = and-means (lt-means 0 b) (le-means (512 * b) (length file))

pub has_block-out : (file : List ℕ) (b : ℕ) → (0 < b → 512 * b ≤ length file → ⊥) → has_block file b ≡ false
has_block-out file b n = go (has_block file b) (has_block-means file b).0
  where
    go : (t : Bool) → (t ≡ true → (0 < b) × (512 * b ≤ length file)) → t ≡ false
    go true h = absurd (n (h refl).0 (h refl).1)
    go false h = refl

pub has_block-in : (file : List ℕ) (b : ℕ) → 0 < b → 512 * b ≤ length file → has_block file b ≡ true
has_block-in file b z h = (has_block-means file b).1 (z, h)

-- ---- the block and its payload

-- as the code cuts them
module _ (file : List ℕ) (b : ℕ) (place : ℕ × ℕ) where
  pub payload-none : (from : ℕ) → has_block file b ≡ false → from ≡ 0 → PayloadContract file b place (take (from - from) (drop from file)) (place.0, from + place.1)
  unfolding payload_of payload_place
  payload-none from h e =
      let z : from - from ≡ 0 = omega arith in
      record { gives = rw (h, z); lies = rw (h, e) }

  pub payload-part : (from end : ℕ) → has_block file b ≡ true → from ≡ 512 * (b - 1) + 4 → end ≡ from + 500 → PayloadContract file b place (take (end - from) (drop from file)) (place.0, from + place.1)
  unfolding payload_of payload_place
  payload-part from end h p q =
      let e : end - from ≡ 500 = omega arith in
      record { gives = rw (h, e, p); lies = rw (h, p) }

pub block-part : (file : List ℕ) (b from end : ℕ) → 0 < b → 512 * b ≤ length file → from ≡ 512 * (b - 1) → end ≡ from + 512 → take (end - from) (drop from file) ≡ block_of file b
unfolding block_of
block-part file b from end z h p q =
    let e : end - from ≡ 512 = omega arith in
    rw (has_block-in file b z h, e, p)

pub length-block_of : (file : List ℕ) (b : ℕ) → 0 < b → 512 * b ≤ length file → length (block_of file b) ≡ 512
unfolding block_of
length-block_of file b z h = rw (has_block-in file b z h) (length_part 512 (512 * (b - 1)) file (omega arith))

pub length-payload_of : (file : List ℕ) (b : ℕ) → 0 < b → 512 * b ≤ length file → length (payload_of file b) ≡ 500
unfolding payload_of
length-payload_of file b z h = rw (has_block-in file b z h) (length_part 500 (512 * (b - 1) + 4) file (omega arith))

pub block_of-bytes : (file : List ℕ) (b : ℕ) → Bytes file → 0 < b → 512 * b ≤ length file → Bytes (block_of file b)
unfolding block_of
block_of-bytes file b y z h = rw (has_block-in file b z h) (bytes-part 512 (512 * (b - 1)) file y)

pub payload_of-bytes : (file : List ℕ) (b : ℕ) → Bytes file → 0 < b → 512 * b ≤ length file → Bytes (payload_of file b)
unfolding payload_of
payload_of-bytes file b y z h = rw (has_block-in file b z h) (bytes-part 500 (512 * (b - 1) + 4) file y)

-- a payload word fits 32 bits, whether the file has the block or not
pub payload_word-small : (file : List ℕ) (b k : ℕ) → Bytes file → payload_word file b k < 2 ^ 32
unfolding payload_word payload_of
payload_word-small file b k y = go (has_block file b)
  where
    go : (h : Bool) → word_at (cond h (take 500 (drop (512 * (b - 1) + 4) file)) []) (4 * k) < 2 ^ 32
    go true = word_at-small (take 500 (drop (512 * (b - 1) + 4) file)) (4 * k) (bytes-part 500 (512 * (b - 1) + 4) file y)
    go false = word_at-small [] (4 * k) (λ i. omega arith)

-- a payload word is the block's next word
pub block-word : (file : List ℕ) (b k : ℕ) → 0 < b → 512 * b ≤ length file → k < 125 → payload_word file b k ≡ word_of (block_of file b) (suc k)
unfolding payload_word word_of payload_of block_of
block-word file b k z h l =
    let p : 512 * (b - 1) + 4 + 4 * k ≡ 512 * (b - 1) + 4 * suc k = omega arith in
    rw (has_block-in file b z h)
    (word_at-part 500 (512 * (b - 1) + 4) file (4 * k) (omega arith)
    ∙ ap (word_at file) p
    ∙ sym (word_at-part 512 (512 * (b - 1)) file (4 * suc k) (omega arith)))

-- ---- the words of a block to be written

pub head_word-zero : (b : ℕ) (ws : List ℕ) (i : ℕ) → i ≡ 0 → b ≡ head_word b ws i
unfolding head_word
head_word-zero b ws i e = rw e

pub head_word-suc : (b : ℕ) (ws : List ℕ) (k : ℕ) → head_word b ws (suc k) ≡ at ws k
unfolding head_word
head_word-suc b ws k = refl

-- they fit 32 bits, as the number and the payload do
pub head_word-small : (b : ℕ) (ws : List ℕ) → b < 2 ^ 32 → Words ws → (k : ℕ) → head_word b ws k < 2 ^ 32
unfolding head_word
head_word-small b ws hb hw zero = hb
head_word-small b ws hb hw (suc k) = hw k

-- ---- check words

pub first_check-ext : (f g : ℕ → ℕ) → ((k : ℕ) → k < 126 → f k ≡ g k) → first_check f ≡ first_check g
unfolding first_check
first_check-ext f g h = ap (λ n. n % 2 ^ 32) (sum_to-ext ℕ_adds 126 f g h)

pub second_check-ext : (f g : ℕ → ℕ) → ((k : ℕ) → k < 126 → f k ≡ g k) → second_check f ≡ second_check g
unfolding second_check
second_check-ext f g h =
    ap (λ n. n % 2 ^ 32)
    (sum_to-ext ℕ_adds 126 (λ k. sum_to ℕ_adds (suc k) f) (λ k. sum_to ℕ_adds (suc k) g) (λ k l. sum_to-ext ℕ_adds (suc k) f g (λ j m. h j (omega arith))))

first_check-small : (f : ℕ → ℕ) → first_check f < 2 ^ 32
unfolding first_check
first_check-small f = omega arith

second_check-small : (f : ℕ → ℕ) → second_check f < 2 ^ 32
unfolding second_check
second_check-small f = omega arith

-- the two check words at the end make the block
pub block-filled : (b : ℕ) (ws d p q r : List ℕ) (s t : ℕ) → length d ≡ 512 → b < 2 ^ 32 → Words ws
    → p ≡ words_bytes 126 (head_word b ws) ++ drop 504 d → s ≡ first_check (word_of p) → t ≡ second_check (word_of p)
    → q ≡ written p 504 (word_bytes s) → r ≡ written q 508 (word_bytes t) → r ≡ block_bytes b ws
unfolding block_bytes word_of word_bytes
block-filled b ws d p q r s t len hb hw hp hs ht hq hr =
    let w : ℕ → ℕ = head_word b ws in
    let agree : ((k : ℕ) → k < 126 → word_of p k ≡ w k) = λ k l. ap (λ x. word_at x (4 * k)) hp ∙ word_at-back w 126 (drop 504 d) k l (head_word-small b ws hb hw k) in
    let es : s ≡ first_check w = hs ∙ first_check-ext (word_of p) w agree in
    let et : t ≡ second_check w = ht ∙ second_check-ext (word_of p) w agree in
    let eq : q ≡ (words_bytes 126 w ++ word_bytes s) ++ drop 4 (drop 504 d) =
    hq
    ∙ ap (λ x. written x 504 (word_bytes s)) hp
    ∙ written-seam (words_bytes 126 w) (drop 504 d) (word_bytes s) 504 (length-words_bytes 126 w)
    ∙ sym (append_assoc (words_bytes 126 w) (word_bytes s) (drop 4 (drop 504 d))) in
    let n : length (words_bytes 126 w ++ word_bytes s) ≡ 508 = length-append (words_bytes 126 w) (word_bytes s) ∙ omega (arith, length-words_bytes 126 w) in
    let er : r ≡ (words_bytes 126 w ++ word_bytes s) ++ (word_bytes t ++ drop 4 (drop 4 (drop 504 d))) =
    hr
    ∙ ap (λ x. written x 508 (word_bytes t)) eq
    ∙ written-seam (words_bytes 126 w ++ word_bytes s) (drop 4 (drop 504 d)) (word_bytes t) 508 n in
    let z : drop 4 (drop 4 (drop 504 d)) ≡ [] = simp drop-drop (drop_of_length-le d {i = 512} (omega arith)) in
    er ∙ rw (z, append_assoc, es, et)

-- ---- the bytes of a block

pub length-block_bytes : (b : ℕ) (ws : List ℕ) → length (block_bytes b ws) ≡ 512
unfolding block_bytes word_bytes
length-block_bytes b ws =
    length-append (words_bytes 126 (head_word b ws)) (word_bytes (first_check (head_word b ws)) ++ word_bytes (second_check (head_word b ws)))
    ∙ omega (arith, length-words_bytes 126 (head_word b ws))

pub block_bytes-bytes : (b : ℕ) (ws : List ℕ) → Bytes (block_bytes b ws)
unfolding block_bytes
block_bytes-bytes b ws =
    let w : ℕ → ℕ = head_word b ws in
    bytes-append (words_bytes 126 w) (word_bytes (first_check w) ++ word_bytes (second_check w)) (words_bytes-bytes 126 w)
    (bytes-append (word_bytes (first_check w)) (word_bytes (second_check w)) (word_bytes-bytes (first_check w)) (word_bytes-bytes (second_check w)))

-- the words of a block that was written
pub written-word : (b : ℕ) (ws : List ℕ) (k : ℕ) → b < 2 ^ 32 → Words ws → k < 126 → word_of (block_bytes b ws) k ≡ head_word b ws k
unfolding word_of block_bytes
written-word b ws k hb hw l = word_at-back (head_word b ws) 126 _ k l (head_word-small b ws hb hw k)

written-first : (b : ℕ) (ws : List ℕ) → word_of (block_bytes b ws) 126 ≡ first_check (head_word b ws)
unfolding word_of block_bytes
written-first b ws =
    let w : ℕ → ℕ = head_word b ws in
    word_at-seam (words_bytes 126 w) (word_bytes (second_check w)) 504 (first_check w) (length-words_bytes 126 w) (first_check-small w)

written-second : (b : ℕ) (ws : List ℕ) → word_of (block_bytes b ws) 127 ≡ second_check (head_word b ws)
unfolding word_of block_bytes word_bytes
written-second b ws =
    let w : ℕ → ℕ = head_word b ws in
    let p : List ℕ = words_bytes 126 w ++ word_bytes (first_check w) in
    let n : length p ≡ 508 = length-append (words_bytes 126 w) (word_bytes (first_check w)) ∙ omega (arith, length-words_bytes 126 w) in
    let e : words_bytes 126 w ++ (word_bytes (first_check w) ++ word_bytes (second_check w)) ≡ p ++ (word_bytes (second_check w) ++ []) =
    sym (append_assoc (words_bytes 126 w) (word_bytes (first_check w)) (word_bytes (second_check w))) in
    ap (λ x. word_at x 508) e ∙ word_at-seam p [] 508 (second_check w) n (second_check-small w)

pub written-sound : (b : ℕ) (ws : List ℕ) → b < 2 ^ 32 → Words ws → SoundBlock (block_bytes b ws) b
written-sound b ws hb hw =
    let agree : ((k : ℕ) → k < 126 → head_word b ws k ≡ word_of (block_bytes b ws) k) = λ k l. sym (written-word b ws k hb hw l) in
    record {
      number = written-word b ws 0 hb hw (omega arith) ∙ sym (head_word-zero b ws 0 refl);
      first = written-first b ws ∙ first_check-ext (head_word b ws) (word_of (block_bytes b ws)) agree;
      second = written-second b ws ∙ second_check-ext (head_word b ws) (word_of (block_bytes b ws)) agree;
    }

-- ---- what the checks mean

pub sound-decides : (file : List ℕ) (b : ℕ) → Decides (check_sound file b) (rule_for 15 b (SoundBlock (block_of file b) b))
unfolding check_sound is_sound
sound-decides file b =
    let l : List ℕ = block_of file b in
    let m = and-means (eq-means (word_of l 0) b) (and-means (eq-means (word_of l 126) (first_check (word_of l))) (eq-means (word_of l 127) (second_check (word_of l)))) in
    decides-for _ 15 b (
      λ q. record { number = (m.0 q).0; first = (m.0 q).1.0; second = (m.0 q).1.1 },
      λ h. m.1 (h.number, (h.first, h.second)),
    )

pub spare-decides : (file : List ℕ) (used b : ℕ) → used ≤ 125 → Decides (check_spare file used b) (rule_for 16 b (SpareZero file used b))
unfolding check_spare
spare-decides file used b h =
    let m = every-from (λ k. eqb (payload_word file b k) 0) (λ k. payload_word file b k ≡ 0) (λ k. eq-means (payload_word file b k) 0) used (125 - used) in
    decides-for _ 16 b (
      λ q k i l. m.0 q k i (omega arith),
      λ z. m.1 (λ k i l. z k i (omega arith)),
    )

pub block-decides : (file : List ℕ) (used : ℕ → ℕ) (b : ℕ) → used b ≤ 125 → DecidesAll (check_block file used b) (block_rules file used b)
unfolding check_block
block-decides file used b h =
    decides-then (check_sound file b) (check_spare file (used b) b) (rule_for 15 b (SoundBlock (block_of file b) b)) (rule_for 16 b (SpareZero file (used b) b) ∷ []) (sound-decides file b) (alone (check_spare file (used b) b) (rule_for 16 b (SpareZero file (used b) b)) (spare-decides file (used b) b h))

pub block-fits : (file : List ℕ) (used : ℕ → ℕ) (b : ℕ) → used b ≤ 125 → (check_block file used b ≡ Ok tt) ↔ (SoundBlock (block_of file b) b × SpareZero file (used b) b)
unfolding Holds
block-fits file used b u =
    let d = block-decides file used b u in
    (λ e. let h = d.passes.0 e in (h.0, h.1.0), λ h. d.passes.1 (h.0, (h.1, tt)))

-- ---- a block passes exactly if it is the bytes of some words at its number

-- the bytes of words pass
pub block-passes : (file : List ℕ) (used : ℕ → ℕ) (b : ℕ) → 0 < b → b < 2 ^ 32 → 512 * b ≤ length file → used b ≤ 125 → IsBlock (block_of file b) (used b) b → check_block file used b ≡ Ok tt
block-passes file used b z s h u i =
    let ws : List ℕ = i.words in
    (block-fits file used b u).1 (
      subst (λ l. SoundBlock l b) (sym i.same) (written-sound b ws s i.fit),
      λ k j l.
          block-word file b k z h l
          ∙ ap (λ x. word_of x (suc k)) i.same
          ∙ written-word b ws (suc k) s i.fit (omega arith)
          ∙ head_word-suc b ws k
          ∙ get_or-eq_default ws 0 {n = k} (omega (arith, i.count)),
    )

-- a sound block is the bytes of any words that it holds
pub sound-block : (file : List ℕ) (b : ℕ) (ws : List ℕ) → Bytes file → 0 < b → 512 * b ≤ length file → SoundBlock (block_of file b) b → ((j : ℕ) → j < 125 → payload_word file b j ≡ at ws j) → block_of file b ≡ block_bytes b ws
unfolding block_bytes word_of
sound-block file b ws y z h s r =
    let l : List ℕ = block_of file b in
    let w : ℕ → ℕ = word_of l in
    let v : ℕ → ℕ = head_word b ws in
    words_back 128 l (block_of-bytes file b y z h) (length-block_of file b z h)
    ∙ words_bytes-next 127 w
    ∙ ap (λ x. x ++ word_bytes (w 127)) (words_bytes-next 126 w)
    ∙ append_assoc (words_bytes 126 w) (word_bytes (w 126)) (word_bytes (w 127))
    ∙ joined (words_bytes-ext 126 w v agree) (s.first ∙ first_check-ext w v agree) (s.second ∙ second_check-ext w v agree)
  where
    agree : (k : ℕ) → k < 126 → word_of (block_of file b) k ≡ head_word b ws k
    agree zero l = s.number ∙ head_word-zero b ws 0 refl
    agree (suc k) l = sym (block-word file b k z h (omega arith)) ∙ r k (omega arith) ∙ sym (head_word-suc b ws k)

    joined : {p q : List ℕ} {a c d e : ℕ} → p ≡ q → a ≡ c → d ≡ e → p ++ (word_bytes a ++ word_bytes d) ≡ q ++ (word_bytes c ++ word_bytes e)
    joined f g i = rw (f, g, i)

-- what passes is the bytes of its own words
module _ (file : List ℕ) (used b : ℕ) (y : Bytes file) (z : 0 < b) (h : 512 * b ≤ length file) where
  abbrev own : List ℕ
  own = list_to used (payload_word file b)

  pub own-small : Words own
  unfolding payload_word
  own-small = words-list_to used (payload_word file b) (λ i l. word_at-small (payload_of file b) (4 * i) (payload_of-bytes file b y z h))

  own-word : SpareZero file used b → (j : ℕ) → j < 125 → payload_word file b j ≡ at own j
  own-word t j l = go (dec_lt j used)
    where
      go : Dec (j < used) → payload_word file b j ≡ at own j
      go (yes m) = sym (get_d-list_to used (payload_word file b) j 0 m)
      go (no m) = t j (omega arith) l ∙ sym (get_or-eq_default own 0 {n = j} (omega (arith, length-list_to used (payload_word file b))))

  pub own_same : SoundBlock (block_of file b) b → SpareZero file used b → block_of file b ≡ block_bytes b own
  own_same s t = sound-block file b own y z h s (own-word t)

pub block-means : (file : List ℕ) (used : ℕ → ℕ) (b : ℕ) → Bytes file → 0 < b → b < 2 ^ 32 → 512 * b ≤ length file → used b ≤ 125 → (check_block file used b ≡ Ok tt) ↔ IsBlock (block_of file b) (used b) b
block-means file used b y z s h u = (
  λ q.
      let r = (block-fits file used b u).0 q in
      record { words = _; count = length-list_to (used b) (payload_word file b); fit = own-small file (used b) b y z h; same = own_same file (used b) b y z h r.0 r.1 },
  λ i. block-passes file used b z s h u i,
)
