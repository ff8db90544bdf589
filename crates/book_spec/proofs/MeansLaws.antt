-- Bytes that pass the checks are those of the book read off them, whose totals follow; so a book passes exactly if it is the bytes of a book that
-- whose totals follow. Assumes nothing.
use Rattle.std.specs.Prelude.{Ok}
use mathlib.Core.Path.{◌≡◌, refl, sym, ◌∙◌, ap, ap₂, subst}
use mathlib.Core.Logic.{◌↔◌}
use mathlib.Core.List.{List}
use Prim.Native.Nat.{ℕ, zero, suc, ◌+◌, ◌*◌, ◌-◌, ◌/◌, ◌%◌, ◌^◌, ◌≤◌, ◌<◌}
use native.Mathlib.Omega.{arith}
use native.Mathlib.Decide.{dec_lt}
use lib.IntN.{pos, negsuc, ◌+ℤ◌}
use lib.Signed.{◌≤ℤ◌}
use lib.ListN.{length}
use Rattle.numbers.proofs.ListLaws.{length-list_to, get_d-list_to}
use Rattle.blocks.specs.Words.{Bytes, signed_word, word_signed}
use Rattle.blocks.specs.Blocks.{payload_of, payload_word}
use Rattle.blocks.proofs.WordLaws.{word_at-small, word-signed-back, word-signed-fits}
use Rattle.blocks.proofs.BlockLaws.{payload_of-bytes, sound-block}
use Rattle.blocks.proofs.FileLaws.{file-whole}
use Rattle.book_spec.specs.Book.{Entry, unused, Book, count, entry_at, total_after, closing, WellFormed, book_blocks, used_in, book_word, book_words, book_bytes, used_of, count_of, entry_of, book_of}
use Rattle.book_spec.specs.ReadBook.{book_verdict, BookFits, IsBook}
use Rattle.book_spec.proofs.WordLaws.{word_source, word-outcome, word_total, word-opens, word-used, words_same, words-at, entry_past}
use Rattle.book_spec.proofs.ReadLaws.{book-accepts}
use Rattle.book_spec.proofs.BackLaws.{book-passes, book-back}

module _ (file : List ℕ) (y : Bytes file) (f : BookFits (length file) file) where
  abbrev k : ℕ
  k = length file / 512

  abbrev B : Book
  B = book_of file

  pub payload-small : (b j : ℕ) → 0 < b → b ≤ k → payload_word file b j < 2 ^ 32
  unfolding payload_word
  payload-small b j z l = word_at-small (payload_of file b) (4 * j) (payload_of-bytes file b y z (omega (arith, f.whole)))

  last-used : used_of file k ≤ 41
  last-used = (f.blocks k f.some (omega arith)).counted.most

  pub read_count : count B ≡ 41 * (k - 1) + used_of file k
  unfolding book_of count_of
  read_count = length-list_to (count_of file) (entry_of file)

  pub read-entry : (i : ℕ) → i < count B → entry_at B i ≡ entry_of file i
  unfolding book_of
  read-entry i l = get_d-list_to (count_of file) (entry_of file) i unused (omega (arith, length-list_to (count_of file) (entry_of file)))

  -- the records of each block
  pub read-used : (b : ℕ) → 0 < b → b ≤ k → used_of file b ≡ used_in (count B) (b - 1)
  read-used b z l = go (dec_lt b k)
    where
      go : Dec (b < k) → used_of file b ≡ used_in (count B) (b - 1)
      go (yes h) = omega (arith, (f.blocks b z l).counted.full h, read_count)
      go (no h) = let e : b ≡ k = omega arith in rw e (omega (arith, read_count, last-used))

  pub read-blocks : book_blocks (count B) ≡ k
  read-blocks = go (dec_lt 1 k)
    where
      go : Dec (1 < k) → book_blocks (count B) ≡ k
      go (yes h) = omega (arith, read_count, last-used, (f.blocks k f.some (omega arith)).counted.some h)
      go (no h) = omega (arith, read_count, last-used, f.some)

  -- a record of block b
  entry_in : (b i : ℕ) → 0 < b → b ≤ k → i < used_of file b → entry_at B (41 * (b - 1) + i) ≡ entry_of file (41 * (b - 1) + i)
  entry_in b i z l h = read-entry (41 * (b - 1) + i) (omega (arith, read-used b z l))

  module _ (b i : ℕ) (z : 0 < b) (l : b ≤ k) where
    abbrev m : ℕ
    m = 41 * (b - 1) + i

    module _ (h : i < used_of file b) where
      small : i < 41
      small = omega (arith, (f.blocks b z l).counted.most)

      block_at : 1 + m / 41 ≡ b
      block_at = omega (arith, small)

      place_at : m % 41 ≡ i
      place_at = omega (arith, small)

      pub read-source : (entry_at B m).source ≡ word_signed (payload_word file b (3 * i + 1))
      unfolding entry_of
      read-source = ap (λ e. e.source) (entry_in b i z l h) ∙ ap₂ (λ x p. word_signed (payload_word file x (3 * p + 1))) block_at place_at

      pub read-outcome : (entry_at B m).outcome ≡ payload_word file b (3 * i + 2)
      unfolding entry_of
      read-outcome = ap (λ e. e.outcome) (entry_in b i z l h) ∙ ap₂ (λ x p. payload_word file x (3 * p + 2)) block_at place_at

      pub read-total : (entry_at B m).total ≡ payload_word file b (3 * i + 3)
      unfolding entry_of
      read-total = ap (λ e. e.total) (entry_in b i z l h) ∙ ap₂ (λ x p. payload_word file x (3 * p + 3)) block_at place_at

    -- past the records
    past : used_of file b ≤ i → i < 41 → entry_at B m ≡ unused
    past h s = entry_past B m (omega (arith, read-used b z l))

  -- the total that block b opens with
  pub read-opens : (b : ℕ) → 0 < b → b ≤ k → payload_word file b 0 ≡ total_after B (41 * (b - 1))
  unfolding total_after book_of
  read-opens b z l = go (dec_lt 1 b)
    where
      go : Dec (1 < b) → payload_word file b 0 ≡ total_after B (41 * (b - 1))
      go (yes h) = unfold total_after in
          (let e : 41 * (b - 1) ≡ suc (41 * (b - 1 - 1) + 40) = omega arith in
          let u : used_of file (b - 1) ≡ 41 = (f.blocks (b - 1) (omega arith) (omega arith)).counted.full (omega arith) in
          (f.blocks b z l).opens h ∙ sym (rw e (read-total (b - 1) 40 (omega arith) (omega arith) (omega arith))))
      go (no h) = unfold total_after book_of in (let e : b ≡ 1 = omega arith in rw e)

  -- the total after i records of block b
  pub read-after : (b i : ℕ) → 0 < b → b ≤ k → i ≤ used_of file b → payload_word file b (3 * i) ≡ total_after B (41 * (b - 1) + i)
  read-after b zero z l h = let e : 41 * (b - 1) + 0 ≡ 41 * (b - 1) = omega arith in rw e (read-opens b z l)
  read-after b (suc i) z l h = unfold total_after in
      (let e : 3 * suc i ≡ 3 * i + 3 = omega arith in
      let g : 41 * (b - 1) + suc i ≡ suc (41 * (b - 1) + i) = omega arith in
      rw (e, g) (sym (read-total b i z l (omega arith))))

  -- every word
  pub read_word : (b j : ℕ) → 0 < b → b ≤ k → j < 125 → payload_word file b j ≡ book_word B (b - 1) j
  read_word b j z l h =
      words_same (payload_word file b) (book_word B (b - 1))
      (read-opens b z l ∙ sym (word-opens B (b - 1)))
      (read-used b z l ∙ sym (word-used B (b - 1)))
      (λ i s. source i s (dec_lt i (used_of file b)))
      (λ i s. outcome i s (dec_lt i (used_of file b)))
      (λ i s. total i s (dec_lt i (used_of file b)))
      j h
    where
      zero-at : (i r : ℕ) → i < 41 → used_of file b ≤ i → 0 < r → r ≤ 3 → payload_word file b (3 * i + r) ≡ 0
      zero-at i r s u p q = (f.blocks b z l).unused_zero (3 * i + r) (omega arith) (omega arith)

      source : (i : ℕ) → i < 41 → Dec (i < used_of file b) → payload_word file b (3 * i + 1) ≡ book_word B (b - 1) (3 * i + 1)
      source i s (yes u) = sym (word_source B (b - 1) i s ∙ ap signed_word (read-source b i z l u) ∙ word-signed-back (payload_word file b (3 * i + 1)) (payload-small b (3 * i + 1) z l))
      source i s (no u) = unfold signed_word in (zero-at i 1 s (omega arith) (omega arith) (omega arith) ∙ sym (word_source B (b - 1) i s ∙ ap (λ e. signed_word e.source) (past b i z l (omega arith) s)))

      outcome : (i : ℕ) → i < 41 → Dec (i < used_of file b) → payload_word file b (3 * i + 2) ≡ book_word B (b - 1) (3 * i + 2)
      outcome i s (yes u) = sym (word-outcome B (b - 1) i s ∙ read-outcome b i z l u)
      outcome i s (no u) = zero-at i 2 s (omega arith) (omega arith) (omega arith) ∙ sym (word-outcome B (b - 1) i s ∙ ap (λ e. e.outcome) (past b i z l (omega arith) s))

      total : (i : ℕ) → i < 41 → Dec (i < used_of file b) → payload_word file b (3 * i + 3) ≡ book_word B (b - 1) (3 * i + 3)
      total i s (yes u) = sym (word_total B (b - 1) i s ∙ read-total b i z l u)
      total i s (no u) = zero-at i 3 s (omega arith) (omega arith) (omega arith) ∙ sym (word_total B (b - 1) i s ∙ ap (λ e. e.total) (past b i z l (omega arith) s))

  -- they are the bytes of the book read off them
  pub read_same : file ≡ book_bytes B
  unfolding book_bytes
  read_same =
      file-whole file (book_words B) (book_blocks (count B)) (omega (arith, f.whole, read-blocks))
      (λ b z l.
      let h : b ≤ k = omega (arith, read-blocks) in
      sound-block file b (book_words B b) y z (omega (arith, f.whole)) (f.blocks b z h).sound
      (λ j m. read_word b j z h m ∙ sym (words-at B b j m)))

  -- whose totals follow
  pub read-formed : WellFormed B
  read-formed =
      record {
        few = omega (arith, read_count, last-used, f.few, f.some);
        opening_word = opening;
        total_word = λ i l. subst (λ x. x < 2 ^ 32) (sym (at_entry i l (λ e. e.total) ∙ total_of i)) (payload-small (1 + i / 41) (3 * (i % 41) + 3) (omega arith) (block_in i l));
        outcomes = λ i l. subst (λ x. x ≤ 2) (sym (at_entry i l (λ e. e.outcome) ∙ outcome-of i)) ((f.blocks (1 + i / 41) (omega arith) (block_in i l)).outcomes (i % 41) (used-in i l));
        least = λ i l. subst (λ x. negsuc 2147483647 ≤ℤ x) (sym (ap (λ e. e.source) (read-entry i l) ∙ source_of i)) (word-signed-fits _ (payload-small (1 + i / 41) (3 * (i % 41) + 1) (omega arith) (block_in i l))).0;
        most = λ i l. subst (λ x. x ≤ℤ pos 2147483647) (sym (ap (λ e. e.source) (read-entry i l) ∙ source_of i)) (word-signed-fits _ (payload-small (1 + i / 41) (3 * (i % 41) + 1) (omega arith) (block_in i l))).1;
        follows = step;
      }
    where
      opening : B.opening < 2 ^ 32
      opening = unfold book_of in (payload-small 1 0 (omega arith) (omega (arith, f.some)))

      at_entry : (i : ℕ) → i < count B → (g : Entry → ℕ) → g (entry_at B i) ≡ g (entry_of file i)
      at_entry i l g = ap g (read-entry i l)

      total_of : (i : ℕ) → (entry_of file i).total ≡ payload_word file (1 + i / 41) (3 * (i % 41) + 3)
      total_of i = unfold entry_of in refl

      outcome-of : (i : ℕ) → (entry_of file i).outcome ≡ payload_word file (1 + i / 41) (3 * (i % 41) + 2)
      outcome-of i = unfold entry_of in refl

      source_of : (i : ℕ) → (entry_of file i).source ≡ word_signed (payload_word file (1 + i / 41) (3 * (i % 41) + 1))
      source_of i = unfold entry_of in refl

      block_in : (i : ℕ) → i < count B → 1 + i / 41 ≤ k
      block_in i l = omega (arith, read_count, last-used, f.some)

      used-in : (i : ℕ) → i < count B → i % 41 < used_of file (1 + i / 41)
      used-in i l = omega (arith, read-used (1 + i / 41) (omega arith) (block_in i l))

      step : (i : ℕ) → i < count B → pos (total_after B (suc i)) ≡ pos (total_after B i) +ℤ (entry_at B i).source
      step i l =
          let b : ℕ = 1 + i / 41 in
          let p : ℕ = i % 41 in
          let u : p < used_of file b = used-in i l in
          let h : b ≤ k = block_in i l in
          let e : 41 * (b - 1) + p ≡ i = omega arith in
          let s : 41 * (b - 1) + suc p ≡ suc i = omega arith in
          let t : 3 * suc p ≡ 3 * p + 3 = omega arith in
          ap (λ x. pos (total_after B x)) (sym s)
          ∙ ap pos (sym (read-after b (suc p) (omega arith) h (omega arith)))
          ∙ ap (λ x. pos (payload_word file b x)) t
          ∙ (f.blocks b (omega arith) h).follows p u
          ∙ ap₂ (λ x y. pos x +ℤ y) (read-after b p (omega arith) h (omega arith) ∙ ap (total_after B) e) (sym (ap (λ e. e.source) (read-entry i l) ∙ source_of i))

  -- a later block opens with the closing total of the block before: the total after its last record
  pub opens-closing : (b : ℕ) → 1 < b → b ≤ k → payload_word file b 0 ≡ payload_word file (b - 1) (3 * used_of file (b - 1))
  opens-closing b z l =
      let u : used_of file (b - 1) ≡ 41 = (f.blocks (b - 1) (omega arith) (omega arith)).counted.full (omega arith) in
      (f.blocks b (omega arith) l).opens z ∙ ap (λ x. payload_word file (b - 1) (3 * x)) (sym u)

  -- the closing total, as the code finds it
  pub read-closing : closing B ≡ payload_word file k (3 * used_of file k)
  unfolding closing
  read-closing = ap (total_after B) read_count ∙ sym (read-after k (used_of file k) f.some (omega arith) (omega arith))

-- THE theorem on reading: bytes pass exactly if they are those of a book whose totals follow
pub book-means : (file : List ℕ) → Bytes file → (book_verdict (length file) file ≡ Ok tt) ↔ IsBook file
book-means file y = (
  λ e. let f = (book-accepts (length file) file).0 e in record { held = book_of file; formed = read-formed file y f; same = read_same file y f },
  λ i. subst (λ x. book_verdict (length x) x ≡ Ok tt) (sym i.same) (book-passes i.held i.formed),
)

-- and the book is the one that is read off them
pub book-held : (file : List ℕ) (i : IsBook file) → book_of file ≡ i.held
book-held file i = ap book_of i.same ∙ book-back i.held i.formed
