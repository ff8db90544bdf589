-- Adding a record as code does it: the words of the block that is written, from the last block's or from none, and the block put in its
-- place. Assumes nothing.
use mathlib.Core.Path.{◌≡◌, refl, sym, ◌∙◌, ap, ap₂}
use mathlib.Core.List.{List, []}
use Prim.Native.Nat.{ℕ, suc, ◌+◌, ◌*◌, ◌-◌, ◌/◌, ◌%◌, ◌^◌, ◌≤◌, ◌<◌, min}
use native.Mathlib.Omega.{arith}
use native.Mathlib.Decide.{ℕ_discrete, dec_lt}
use lib.ListN.{length, take, drop, set, replicate, length-set, get_or-replicate}
use lib.Seq.{ext_get_or, get_or-set_other, length-take-le}
use Rattle.numbers.specs.Lists.{at, list_to, written}
use Rattle.numbers.proofs.ListLaws.{list_to-ext}
use Rattle.numbers.proofs.PartLaws.{take_min, drop-take}
use Rattle.blocks.specs.Words.{word_at, word_signed}
use Rattle.blocks.specs.Blocks.{block_bytes, payload_of, payload_word, file_bytes}
use Rattle.blocks.proofs.BlockLaws.{has_block-in}
use Rattle.blocks.proofs.WordLaws.{word-signed-back}
use Rattle.book_spec.specs.Book.{Entry, entry, Book, count, closing, add, book_blocks, used_in, book_word, book_words, book_bytes, used_of, total_after, book}
use Rattle.book_spec.specs.LentBook.{HasBook}
use Rattle.book_spec.proofs.WordLaws.{words-at, word-used, length-book_words, word_after}
use Rattle.book_spec.proofs.BackLaws.{few-blocks, word}
use Rattle.book_spec.proofs.AddLaws.{new_block, add-written, entered, new-words, fresh-word, fresh-opens}

-- a word at the front of a buffer
pub front-word : (buffer : List ℕ) (l b j : ℕ) → 0 < b → 512 * b ≤ l → l ≤ length buffer → payload_word (take l buffer) b j ≡ payload_word buffer b j
unfolding payload_word payload_of
front-word buffer l b j z h m =
    let from : ℕ = 512 * (b - 1) + 4 in
    let n : length (take l buffer) ≡ l = length-take-le l buffer m in
    let e : min 500 (l - from) ≡ 500 = omega arith in
    ap (λ p. word_at p (4 * j))
    (rw (has_block-in (take l buffer) b z (omega arith), has_block-in buffer b z (omega arith))
    (ap (take 500) (drop-take from l buffer) ∙ take_min 500 (l - from) (drop from buffer) ∙ ap (λ x. take x (drop from buffer)) e))

-- a block that no record stands in yet opens with the closing total, and its other words are 0
pub fresh-words : (B : Book) → 41 * (count B / 41) ≡ count B → book_words B (suc (count B / 41)) ≡ set (replicate 125 0) 0 (closing B)
fresh-words B full =
    ext_get_or 0 (book_words B (suc n)) (set (replicate 125 0) 0 (closing B))
    (length-book_words B (suc n) ∙ sym (length-set (replicate 125 0) 0 (closing B)))
    (λ j l.
    let m : j < 125 = omega (arith, length-book_words B (suc n)) in
    let e : suc n - 1 ≡ n = omega arith in
    words-at B (suc n) j m ∙ ap (λ x. book_word B x j) e ∙ each j m (ℕ_discrete j 0))
  where
    n : ℕ
    n = count B / 41

    each : (j : ℕ) → j < 125 → Dec (j ≡ 0) → book_word B n j ≡ at (set (replicate 125 0) 0 (closing B)) j
    each j m (yes e) = rw e (fresh-opens B full)
    each j m (no e) =
        fresh-word B j full (omega arith) m
        ∙ sym (get_or-set_other (replicate 125 0) 0 j (closing B) 0 e ∙ get_or-replicate 125 j 0 0 m)

-- a book without records
pub empty-bytes : (total : ℕ) → book_bytes (book total []) ≡ block_bytes 1 (set (replicate 125 0) 0 total)
unfolding book_bytes file_bytes closing total_after
empty-bytes total = ap (block_bytes 1) (fresh-words (book total []) refl)

module _ (buffer : List ℕ) (k : ℕ) (B : Book) (h : HasBook buffer (512 * k) B) where
  abbrev n : ℕ
  n = count B

  blocks-are : k ≡ book_blocks n
  blocks-are = omega (arith, h.size)

  room : 512 * k ≤ length buffer
  room = omega (arith, h.room, blocks-are, few-blocks B h.formed)

  -- the last block, and the next one if the book is not full, lie in the buffer
  pub held-room : (0 < k) × ((k ≤ 64) × (512 * k ≤ length buffer))
  held-room = (omega (arith, blocks-are), (omega (arith, blocks-are, few-blocks B h.formed), room))

  held_word : (j : ℕ) → j < 125 → payload_word buffer k j ≡ book_word B (k - 1) j
  held_word j l =
      sym (front-word buffer (512 * k) k j (omega (arith, blocks-are)) (omega arith) room)
      ∙ ap (λ x. payload_word x k j) h.front
      ∙ word B h.formed k j (omega (arith, blocks-are)) (omega (arith, blocks-are)) l

  -- how many records the last block has
  pub held-used : used_of buffer k ≡ used_in n (k - 1)
  held-used = held_word 124 (omega arith) ∙ word-used B (k - 1)

  -- there is room in it: its words stand there
  pub last-place : used_of buffer k < 41 → (n / 41 ≡ k - 1) × (n % 41 ≡ used_of buffer k)
  last-place u = (omega (arith, held-used, blocks-are), omega (arith, held-used, blocks-are))

  pub last-words : used_of buffer k < 41 → book_words B (suc (n / 41)) ≡ list_to 125 (payload_word buffer k)
  unfolding book_words
  last-words u =
      let e : suc (n / 41) - 1 ≡ k - 1 = omega (arith, last-place u) in
      list_to-ext 125 (book_word B (suc (n / 41) - 1)) (payload_word buffer k) (λ j l. ap (λ x. book_word B x j) e ∙ sym (held_word j l))

  -- it is full: the next one opens with the closing total, and its other words are 0
  pub next_place : (used_of buffer k < 41 → ⊥) → (n / 41 ≡ k) × (n % 41 ≡ 0)
  next_place u = go (dec_lt (used_of buffer k) 41)
    where
      go : Dec (used_of buffer k < 41) → (n / 41 ≡ k) × (n % 41 ≡ 0)
      go (yes l) = absurd (u l)
      go (no l) = (omega (arith, held-used, blocks-are), omega (arith, held-used, blocks-are))

  pub next-room : (used_of buffer k < 41 → ⊥) → n < 2624 → 512 * suc k ≤ length buffer
  next-room u f = omega (arith, next_place u, h.room)

  pub next-words : (used_of buffer k < 41 → ⊥) → book_words B (suc (n / 41)) ≡ set (replicate 125 0) 0 (closing B)
  next-words u = fresh-words B (omega (arith, next_place u))

  -- that total is the last word of the full block's records
  pub next-opens : (used_of buffer k < 41 → ⊥) → payload_word buffer k 123 ≡ closing B
  unfolding closing
  next-opens u =
      let e : 41 * (k - 1) + 41 ≡ n = omega (arith, next_place u, held-room) in
      held_word 123 (omega arith) ∙ word_after B (k - 1) 41 (omega arith) ∙ ap (total_after B) e

  -- how many blocks the book then has
  pub last-blocks : used_of buffer k < 41 → k ≡ book_blocks (suc n)
  last-blocks u = omega (arith, last-place u, held-room)

  pub next-blocks : (used_of buffer k < 41 → ⊥) → k + 1 ≡ book_blocks (suc n)
  next-blocks u = omega (arith, next_place u)

  -- the block that is written is the book with one record more
  pub entry-written : (e : Entry) (W : List ℕ) (b : ℕ) → W ≡ book_words B (suc (n / 41)) → b ≡ suc (n / 41) → written buffer (512 * (b - 1)) (block_bytes b (entered B e W)) ≡ written buffer 0 (book_bytes (add B e))
  unfolding new_block
  entry-written e W b w q =
      let d : suc (n / 41) - 1 ≡ n / 41 = omega arith in
      ap₂ (λ x y. written buffer (512 * (x - 1)) (block_bytes x (entered B e y))) q w
      ∙ ap (λ x. written buffer (512 * x) (block_bytes (suc (n / 41)) (entered B e (book_words B (suc (n / 41)))))) d
      ∙ ap (λ x. written buffer (512 * (n / 41)) (block_bytes (suc (n / 41)) x)) (sym (new-words B e))
      ∙ sym (add-written B e buffer (512 * k) h.front h.size)

  -- as the code makes it, in the last block and in the next
  module _ (w o t u : ℕ) (s : w < 2 ^ 32) (g : u ≡ used_of buffer k) where
    stored : (X Y : List ℕ) (v : ℕ) → v ≡ n % 41 → Y ≡ set (set (set (set X (3 * v + 1) w) (3 * v + 2) o) (3 * v + 3) t) 124 (v + 1) → Y ≡ entered B (entry (word_signed w) o t) X
    unfolding entered
    stored X Y v e y =
        let f : v + 1 ≡ suc (n % 41) = omega arith in
        y ∙ ap₂ (λ a b. set (set (set (set X (3 * a + 1) w) (3 * a + 2) o) (3 * a + 3) t) 124 b) e f
        ∙ ap (λ a. set (set (set (set X (3 * (n % 41) + 1) a) (3 * (n % 41) + 2) o) (3 * (n % 41) + 3) t) 124 (suc (n % 41))) (sym (word-signed-back w s))

    pub entry-last : {X Y Z : List ℕ} → u < 41 → X ≡ list_to 125 (payload_word buffer k) → Y ≡ set (set (set (set X (3 * u + 1) w) (3 * u + 2) o) (3 * u + 3) t) 124 (u + 1) → Z ≡ written buffer (512 * (k - 1)) (block_bytes k Y) → Z ≡ written buffer 0 (book_bytes (add B (entry (word_signed w) o t)))
    entry-last {X} {Y} {Z} l x y z =
        let m : used_of buffer k < 41 = omega arith in
        z ∙ ap (λ v. written buffer (512 * (k - 1)) (block_bytes k v)) (stored X Y u (g ∙ sym (last-place m).1) y)
        ∙ entry-written (entry (word_signed w) o t) X k (x ∙ sym (last-words m)) (omega (arith, last-place m, held-room))

    pub entry_next : {X Y Z : List ℕ} → (u < 41 → ⊥) → X ≡ set (replicate 125 0) 0 (closing B) → Y ≡ set (set (set (set X (3 * 0 + 1) w) (3 * 0 + 2) o) (3 * 0 + 3) t) 124 (0 + 1) → Z ≡ written buffer (512 * (k + 1 - 1)) (block_bytes (k + 1) Y) → Z ≡ written buffer 0 (book_bytes (add B (entry (word_signed w) o t)))
    entry_next {X} {Y} {Z} l x y z =
        let m : (used_of buffer k < 41 → ⊥) = λ q. l (omega arith) in
        z ∙ ap (λ v. written buffer (512 * (k + 1 - 1)) (block_bytes (k + 1) v)) (stored X Y 0 (sym (next_place m).1) y)
        ∙ entry-written (entry (word_signed w) o t) X (k + 1) (x ∙ sym (next-words m)) (omega (arith, next_place m))
