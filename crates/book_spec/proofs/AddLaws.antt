-- A book with one record more: its totals, its bytes, of which one block alone is new, and the words of that block. Assumes nothing.
use mathlib.Core.Path.{◌≡◌, refl, sym, ◌∙◌, ap, ap₂, subst}
use mathlib.Core.Logic.{◌≢◌}
use mathlib.Core.List.{List, [], ◌∷◌, ◌++◌, append_assoc}
use Prim.Native.Nat.{ℕ, zero, suc, ◌+◌, ◌*◌, ◌-◌, ◌/◌, ◌%◌, ◌^◌, ◌≤◌, ◌<◌}
use native.Mathlib.Omega.{arith}
use native.Mathlib.Decide.{ℕ_discrete, dec_lt}
use lib.IntN.{pos, negsuc, ◌+ℤ◌}
use lib.Signed.{◌≤ℤ◌}
use lib.ListN.{length, take, drop, set, length-append, length-set, get_or-append}
use lib.Seq.{ext_get_or, get_or_at, get_or-set_same, get_or-set_other, take-take}
use Rattle.numbers.specs.Lists.{at, written}
use Rattle.numbers.proofs.ListLaws.{list_to-ext}
use Rattle.blocks.specs.Blocks.{block_bytes, file_bytes}
use Rattle.blocks.specs.Words.{signed_word}
use Rattle.blocks.proofs.FileLaws.{length-file_bytes, file_bytes-ext, file_bytes-front}
use Rattle.blocks.proofs.BlockLaws.{length-block_bytes}
use Rattle.book_spec.specs.Book.{Entry, unused, Book, count, entry_at, total_after, closing, add, max_entries, WellFormed, book_blocks, book_word, book_words, book_bytes}
use Rattle.book_spec.proofs.WordLaws.{word_source, word-outcome, word_total, word-opens, word-used, words_same, words-at, length-book_words, entry_past}
use Rattle.book_spec.proofs.BackLaws.{word-past}

-- ---- totals and records

module _ (B : Book) (e : Entry) where
  abbrev n : ℕ
  n = count B

  pub add-count : count (add B e) ≡ suc n
  add-count = length-append B.entries (e ∷ []) ∙ omega arith

  pub add-new : entry_at (add B e) n ≡ e
  add-new = get_or_at B.entries e [] unused n refl

  pub add-other : (i : ℕ) → i ≢ n → entry_at (add B e) i ≡ entry_at B i
  add-other i h = go (dec_lt i n)
    where
      go : Dec (i < n) → entry_at (add B e) i ≡ entry_at B i
      go (yes l) = get_or-append B.entries (e ∷ []) unused i l
      go (no l) = let m : n < i = omega (arith, h) in entry_past (add B e) i (omega (arith, add-count)) ∙ sym (entry_past B i (omega arith))

  pub add-after : (i : ℕ) → i ≤ n → total_after (add B e) i ≡ total_after B i
  unfolding total_after
  add-after zero l = refl
  add-after (suc i) l = ap (λ x. x.total) (add-other i (λ s. omega arith))

  pub add-closing : closing (add B e) ≡ e.total
  unfolding closing total_after
  add-closing = ap (total_after (add B e)) add-count ∙ ap (λ x. x.total) add-new

  -- a record that follows keeps the book well formed
  pub add-formed :
      WellFormed B → n < max_entries → e.total < 2 ^ 32 → e.outcome ≤ 2 → negsuc 2147483647 ≤ℤ e.source → e.source ≤ℤ pos 2147483647
      → pos e.total ≡ pos (closing B) +ℤ e.source → WellFormed (add B e)
  add-formed g f t o l m s =
      record {
        few = omega (arith, add-count);
        opening_word = g.opening_word;
        total_word = λ i h. each (λ x. x.total < 2 ^ 32) (λ j k. g.total_word j k) t i h;
        outcomes = λ i h. each (λ x. x.outcome ≤ 2) (λ j k. g.outcomes j k) o i h;
        least = λ i h. each (λ x. negsuc 2147483647 ≤ℤ x.source) (λ j k. g.least j k) l i h;
        most = λ i h. each (λ x. x.source ≤ℤ pos 2147483647) (λ j k. g.most j k) m i h;
        follows = λ i h. next i h (ℕ_discrete i n);
      }
    where
      each : (P : Entry → Type 0) → ((i : ℕ) → i < n → P (entry_at B i)) → P e → (i : ℕ) → i < count (add B e) → P (entry_at (add B e) i)
      each P old new i h = go (ℕ_discrete i n)
        where
          go : Dec (i ≡ n) → P (entry_at (add B e) i)
          go (yes q) = subst P (sym (ap (entry_at (add B e)) q ∙ add-new)) new
          go (no q) = subst P (sym (add-other i q)) (old i (omega (arith, add-count)))

      next : (i : ℕ) → i < count (add B e) → Dec (i ≡ n) → pos (total_after (add B e) (suc i)) ≡ pos (total_after (add B e) i) +ℤ (entry_at (add B e) i).source
      next i h (yes q) = unfold total_after closing in
          (ap (λ x. pos (entry_at (add B e) x).total) q ∙ ap (λ x. pos x.total) add-new ∙ s
          ∙ sym (ap₂ (λ x y. pos x +ℤ y) (ap (total_after (add B e)) q ∙ add-after n (omega arith)) (ap (λ x. (entry_at (add B e) x).source) q ∙ ap (λ x. x.source) add-new)))
      next i h (no q) =
          let k : i < n = omega (arith, add-count) in
          ap pos (add-after (suc i) (omega arith)) ∙ g.follows i k
          ∙ sym (ap₂ (λ x y. pos x +ℤ y) (add-after i (omega arith)) (ap (λ x. x.source) (add-other i q)))

  -- ---- bytes: block 1 + n / 41 alone is new, be it the last one or one more

  add-word : (k j : ℕ) → k < n / 41 → j < 125 → book_word (add B e) k j ≡ book_word B k j
  add-word k j l h =
      words_same (book_word (add B e) k) (book_word B k)
      (word-opens (add B e) k ∙ add-after (41 * k) (omega arith) ∙ sym (word-opens B k))
      (word-used (add B e) k ∙ omega (arith, add-count) ∙ sym (word-used B k))
      (λ i s. word_source (add B e) k i s ∙ ap (λ x. signed_word x.source) (add-other (41 * k + i) (λ m. omega arith)) ∙ sym (word_source B k i s))
      (λ i s. word-outcome (add B e) k i s ∙ ap (λ x. x.outcome) (add-other (41 * k + i) (λ m. omega arith)) ∙ sym (word-outcome B k i s))
      (λ i s. word_total (add B e) k i s ∙ ap (λ x. x.total) (add-other (41 * k + i) (λ m. omega arith)) ∙ sym (word_total B k i s))
      j h

  add_words : (b : ℕ) → 0 < b → b ≤ n / 41 → book_words (add B e) b ≡ book_words B b
  unfolding book_words
  add_words b z l = list_to-ext 125 (book_word (add B e) (b - 1)) (book_word B (b - 1)) (λ j h. add-word (b - 1) j (omega arith) h)

  pub add-blocks : book_blocks (count (add B e)) ≡ suc (n / 41)
  add-blocks = omega (arith, add-count)

  -- the block that is written
  unfoldable pub new_block : List ℕ
  new_block = block_bytes (suc (n / 41)) (book_words (add B e) (suc (n / 41)))

  pub add-bytes : book_bytes (add B e) ≡ file_bytes (book_words B) (n / 41) ++ new_block
  unfolding book_bytes file_bytes new_block
  add-bytes = ap (file_bytes (book_words (add B e))) add-blocks ∙ ap (λ x. x ++ new_block) (file_bytes-ext (book_words (add B e)) (book_words B) (n / 41) add_words)

  length-new_block : length new_block ≡ 512
  unfolding new_block
  length-new_block = length-block_bytes (suc (n / 41)) (book_words (add B e) (suc (n / 41)))

  -- in a buffer that has the book at its front, writing that block makes the book with one record more; the rest is untouched
  pub add-written : (buffer : List ℕ) (l : ℕ) → take l buffer ≡ book_bytes B → l ≡ 512 * book_blocks n → written buffer 0 (book_bytes (add B e)) ≡ written buffer (512 * (n / 41)) new_block
  unfolding written
  add-written buffer l t h =
      let q : ℕ = n / 41 in
      let f : List ℕ = file_bytes (book_words B) q in
      let front : take (512 * q) buffer ≡ f = sym (take-take (512 * q) l buffer (omega arith)) ∙ ap (take (512 * q)) t ∙ start in
      let len : 0 + length (f ++ new_block) ≡ 512 * q + length new_block = omega (arith, length-append f new_block, length-file_bytes (book_words B) q) in
      ap (λ x. x ++ drop (0 + length x) buffer) add-bytes
      ∙ ap (λ x. (f ++ new_block) ++ drop x buffer) len
      ∙ append_assoc f new_block (drop (512 * q + length new_block) buffer)
      ∙ ap (λ x. x ++ (new_block ++ drop (512 * q + length new_block) buffer)) (sym front)
    where
      start : take (512 * (n / 41)) (book_bytes B) ≡ file_bytes (book_words B) (n / 41)
      start = unfold book_bytes in (file_bytes-front (book_words B) (n / 41) (book_blocks n) (omega arith))

  -- ---- the words of that block: three stores and the number of records, in what stands there

  module _ (W : List ℕ) where
    abbrev with-source : List ℕ
    with-source = set W (3 * (n % 41) + 1) (signed_word e.source)

    abbrev with-outcome : List ℕ
    with-outcome = set with-source (3 * (n % 41) + 2) e.outcome

    abbrev with-total : List ℕ
    with-total = set with-outcome (3 * (n % 41) + 3) e.total

    unfoldable pub entered : List ℕ
    entered = set with-total 124 (suc (n % 41))

    length-entered : length entered ≡ length W
    unfolding entered
    length-entered = simp length-set

    entered-other : (j : ℕ) → j ≢ 3 * (n % 41) + 1 → j ≢ 3 * (n % 41) + 2 → j ≢ 3 * (n % 41) + 3 → j ≢ 124 → at entered j ≡ at W j
    unfolding entered
    entered-other j a b c d =
        get_or-set_other with-total 124 j (suc (n % 41)) 0 d
        ∙ get_or-set_other with-outcome (3 * (n % 41) + 3) j e.total 0 c
        ∙ get_or-set_other with-source (3 * (n % 41) + 2) j e.outcome 0 b
        ∙ get_or-set_other W (3 * (n % 41) + 1) j (signed_word e.source) 0 a

    module _ (h : length W ≡ 125) where
      entered-used : at entered 124 ≡ suc (n % 41)
      unfolding entered
      entered-used = get_or-set_same with-total 124 (suc (n % 41)) 0 (simp length-set (omega arith))

      entered-total : at entered (3 * (n % 41) + 3) ≡ e.total
      unfolding entered
      entered-total =
          get_or-set_other with-total 124 (3 * (n % 41) + 3) (suc (n % 41)) 0 (λ p. omega arith)
          ∙ get_or-set_same with-outcome (3 * (n % 41) + 3) e.total 0 (simp length-set (omega arith))

      entered-outcome : at entered (3 * (n % 41) + 2) ≡ e.outcome
      unfolding entered
      entered-outcome =
          get_or-set_other with-total 124 (3 * (n % 41) + 2) (suc (n % 41)) 0 (λ p. omega arith)
          ∙ get_or-set_other with-outcome (3 * (n % 41) + 3) (3 * (n % 41) + 2) e.total 0 (λ p. omega arith)
          ∙ get_or-set_same with-source (3 * (n % 41) + 2) e.outcome 0 (simp length-set (omega arith))

      entered-source : at entered (3 * (n % 41) + 1) ≡ signed_word e.source
      unfolding entered
      entered-source =
          get_or-set_other with-total 124 (3 * (n % 41) + 1) (suc (n % 41)) 0 (λ p. omega arith)
          ∙ get_or-set_other with-outcome (3 * (n % 41) + 3) (3 * (n % 41) + 1) e.total 0 (λ p. omega arith)
          ∙ get_or-set_other with-source (3 * (n % 41) + 2) (3 * (n % 41) + 1) e.outcome 0 (λ p. omega arith)
          ∙ get_or-set_same W (3 * (n % 41) + 1) (signed_word e.source) 0 (omega arith)

  pub new-words : book_words (add B e) (suc (n / 41)) ≡ entered (book_words B (suc (n / 41)))
  new-words =
      let q : ℕ = n / 41 in
      let W : List ℕ = book_words B (suc q) in
      ext_get_or 0 (book_words (add B e) (suc q)) (entered W) (length-book_words (add B e) (suc q) ∙ sym (length-entered W ∙ length-book_words B (suc q)))
      (λ j l.
      let m : j < 125 = omega (arith, length-book_words (add B e) (suc q)) in
      words-at (add B e) (suc q) j m ∙ ap (λ x. book_word (add B e) x j) (less q) ∙ words_same (book_word (add B e) q) (at (entered W)) opens used source outcome total j m)
    where
      less : (q : ℕ) → suc q - 1 ≡ q
      less q = omega arith

      full : length (book_words B (suc (n / 41))) ≡ 125
      full = length-book_words B (suc (n / 41))

      was : (j : ℕ) → j < 125 → at (book_words B (suc (n / 41))) j ≡ book_word B (n / 41) j
      was j l = words-at B (suc (n / 41)) j l ∙ ap (λ x. book_word B x j) (less (n / 41))

      here : 41 * (n / 41) + n % 41 ≡ n
      here = omega arith

      opens : book_word (add B e) (n / 41) 0 ≡ at (entered (book_words B (suc (n / 41)))) 0
      opens =
          word-opens (add B e) (n / 41) ∙ add-after (41 * (n / 41)) (omega arith)
          ∙ sym (entered-other (book_words B (suc (n / 41))) 0 (λ p. omega arith) (λ p. omega arith) (λ p. omega arith) (λ p. omega arith) ∙ was 0 (omega arith) ∙ word-opens B (n / 41))

      used : book_word (add B e) (n / 41) 124 ≡ at (entered (book_words B (suc (n / 41)))) 124
      used = word-used (add B e) (n / 41) ∙ omega (arith, add-count) ∙ sym (entered-used (book_words B (suc (n / 41))) full)

      source : (i : ℕ) → i < 41 → book_word (add B e) (n / 41) (3 * i + 1) ≡ at (entered (book_words B (suc (n / 41)))) (3 * i + 1)
      source i s = go (ℕ_discrete i (n % 41))
        where
          go : Dec (i ≡ n % 41) → book_word (add B e) (n / 41) (3 * i + 1) ≡ at (entered (book_words B (suc (n / 41)))) (3 * i + 1)
          go (yes p) =
              word_source (add B e) (n / 41) i s ∙ ap (λ x. signed_word (entry_at (add B e) x).source) (ap (λ x. 41 * (n / 41) + x) p ∙ here) ∙ ap (λ x. signed_word x.source) add-new
              ∙ sym (ap (λ x. at (entered (book_words B (suc (n / 41)))) (3 * x + 1)) p ∙ entered-source (book_words B (suc (n / 41))) full)
          go (no p) =
              word_source (add B e) (n / 41) i s ∙ ap (λ x. signed_word x.source) (add-other (41 * (n / 41) + i) (λ m. p (omega arith)))
              ∙ sym (entered-other (book_words B (suc (n / 41))) (3 * i + 1) (λ m. p (omega arith)) (λ m. omega arith) (λ m. omega arith) (λ m. omega arith) ∙ was (3 * i + 1) (omega arith) ∙ word_source B (n / 41) i s)

      outcome : (i : ℕ) → i < 41 → book_word (add B e) (n / 41) (3 * i + 2) ≡ at (entered (book_words B (suc (n / 41)))) (3 * i + 2)
      outcome i s = go (ℕ_discrete i (n % 41))
        where
          go : Dec (i ≡ n % 41) → book_word (add B e) (n / 41) (3 * i + 2) ≡ at (entered (book_words B (suc (n / 41)))) (3 * i + 2)
          go (yes p) =
              word-outcome (add B e) (n / 41) i s ∙ ap (λ x. (entry_at (add B e) x).outcome) (ap (λ x. 41 * (n / 41) + x) p ∙ here) ∙ ap (λ x. x.outcome) add-new
              ∙ sym (ap (λ x. at (entered (book_words B (suc (n / 41)))) (3 * x + 2)) p ∙ entered-outcome (book_words B (suc (n / 41))) full)
          go (no p) =
              word-outcome (add B e) (n / 41) i s ∙ ap (λ x. x.outcome) (add-other (41 * (n / 41) + i) (λ m. p (omega arith)))
              ∙ sym (entered-other (book_words B (suc (n / 41))) (3 * i + 2) (λ m. omega arith) (λ m. p (omega arith)) (λ m. omega arith) (λ m. omega arith) ∙ was (3 * i + 2) (omega arith) ∙ word-outcome B (n / 41) i s)

      total : (i : ℕ) → i < 41 → book_word (add B e) (n / 41) (3 * i + 3) ≡ at (entered (book_words B (suc (n / 41)))) (3 * i + 3)
      total i s = go (ℕ_discrete i (n % 41))
        where
          go : Dec (i ≡ n % 41) → book_word (add B e) (n / 41) (3 * i + 3) ≡ at (entered (book_words B (suc (n / 41)))) (3 * i + 3)
          go (yes p) =
              word_total (add B e) (n / 41) i s ∙ ap (λ x. (entry_at (add B e) x).total) (ap (λ x. 41 * (n / 41) + x) p ∙ here) ∙ ap (λ x. x.total) add-new
              ∙ sym (ap (λ x. at (entered (book_words B (suc (n / 41)))) (3 * x + 3)) p ∙ entered-total (book_words B (suc (n / 41))) full)
          go (no p) =
              word_total (add B e) (n / 41) i s ∙ ap (λ x. x.total) (add-other (41 * (n / 41) + i) (λ m. p (omega arith)))
              ∙ sym (entered-other (book_words B (suc (n / 41))) (3 * i + 3) (λ m. omega arith) (λ m. omega arith) (λ m. p (omega arith)) (λ m. omega arith) ∙ was (3 * i + 3) (omega arith) ∙ word_total B (n / 41) i s)

-- ---- a block that is not there yet: it opens with the closing total, and its other words are 0
pub fresh-word : (B : Book) (j : ℕ) → 41 * (count B / 41) ≡ count B → 0 < j → j < 125 → book_word B (count B / 41) j ≡ 0
fresh-word B j h z l = go (dec_lt j 124)
  where
    go : Dec (j < 124) → book_word B (count B / 41) j ≡ 0
    go (yes m) = word-past B (count B / 41) j z m (omega arith)
    go (no m) = let e : j ≡ 124 = omega arith in rw e (word-used B (count B / 41) ∙ omega arith)

pub fresh-opens : (B : Book) → 41 * (count B / 41) ≡ count B → book_word B (count B / 41) 0 ≡ closing B
unfolding closing
fresh-opens B h = word-opens B (count B / 41) ∙ ap (total_after B) h
