-- Bytes pass the checks exactly if they are those of a book whose totals follow, and what is read off them is that book. Assumes nothing.
use Rattle.std.specs.Prelude.{Ok}
use mathlib.Core.Path.{◌≡◌, refl, sym, ◌∙◌, ap, ap₂, subst}
use mathlib.Core.Bool.{Bool, true, false, cond}
use mathlib.Core.List.{List, [], ◌∷◌}
use Prim.Native.Nat.{ℕ, zero, suc, ◌+◌, ◌*◌, ◌-◌, ◌/◌, ◌%◌, ◌^◌, ◌≤◌, ◌<◌}
use native.Mathlib.Omega.{arith}
use native.Mathlib.Decide.{dec_lt}
use borrow.Author.Tests.{ne_eqb}
use lib.Dec.{eqb}
use lib.IntN.{ℤ, pos, ◌+ℤ◌}
use lib.ListN.{length}
use lib.Seq.{ext_get_or}
use Rattle.numbers.specs.Lists.{at, list_to}
use Rattle.numbers.specs.Checks.{Holds}
use Rattle.numbers.proofs.ListLaws.{length-list_to, get_d-list_to}
use Rattle.blocks.specs.Words.{Words, signed_word, word_signed}
use Rattle.blocks.specs.Blocks.{block_of, payload_word, SoundBlock}
use Rattle.blocks.proofs.FileLaws.{length-file_bytes, file-word, file-passes}
use Rattle.blocks.proofs.BlockLaws.{block-decides}
use Rattle.blocks.proofs.WordLaws.{signed_back, words-list_to}
use Rattle.book_spec.specs.Book.{entry, unused, Book, book, count, entry_at, total_after, WellFormed, book_blocks, used_in, entry_words, book_word, book_words, book_bytes, used_of, count_of, entry_of, book_of}
use Rattle.book_spec.specs.ReadBook.{book_verdict, BlockFits}
use Rattle.book_spec.proofs.WordLaws.{word_source, word-outcome, word_total, word-opens, word-used, word_after, words-at, length-book_words, entry_past}
use Rattle.book_spec.proofs.ReadLaws.{book-accepts}

-- ---- general

cond_small : (p : Bool) (x y : ℕ) → x < 2 ^ 32 → y < 2 ^ 32 → cond p x y < 2 ^ 32
cond_small true x y h k = h
cond_small false x y h k = k

zeros : (r : ℕ) → at (0 ∷ 0 ∷ 0 ∷ []) r ≡ 0
zeros zero = refl
zeros (suc zero) = refl
zeros (suc (suc zero)) = refl
zeros (suc (suc (suc r))) = refl

-- the words of an unused record
unused-words : (r : ℕ) → at (entry_words unused) r ≡ 0
unfolding signed_word
unused-words r = zeros r

same-entry : {a c : ℤ} {b d : ℕ} {x y : ℕ} → a ≡ c → b ≡ d → x ≡ y → entry a b x ≡ entry c d y
same-entry p q r = rw (p, q, r)

-- ---- the bytes of a book pass, and give the book back

module _ (B : Book) where
  -- past the records, the words are 0
  pub word-past : (k j : ℕ) → 0 < j → j < 124 → count B ≤ 41 * k + (j - 1) / 3 → book_word B k j ≡ 0
  unfolding book_word
  word-past k j z l h =
      rw (ne_eqb j 0 (λ e. omega arith), ne_eqb j 124 (λ e. omega arith), entry_past B (41 * k + (j - 1) / 3) h) (unused-words ((j - 1) % 3))

  module _ (g : WellFormed B) where
    abbrev n : ℕ
    n = count B

    abbrev file : List ℕ
    file = book_bytes B

    abbrev blocks : ℕ
    blocks = book_blocks n

    pub few-blocks : blocks ≤ 64
    few-blocks = omega (arith, g.few)

    pub after_small : (i : ℕ) → total_after B i < 2 ^ 32
    unfolding total_after
    after_small zero = g.opening_word
    after_small (suc i) = go (dec_lt i n)
      where
        go : Dec (i < n) → (entry_at B i).total < 2 ^ 32
        go (yes l) = g.total_word i l
        go (no l) = rw (entry_past B i (omega arith)) (omega arith)

    entry-small : (i : ℕ) → Words (entry_words (entry_at B i))
    entry-small i = go (dec_lt i n)
      where
        in_use : i < n → Words (entry_words (entry_at B i))
        in_use l zero = (signed_back (entry_at B i).source (g.least i l) (g.most i l)).1
        in_use l (suc zero) = omega (arith, g.outcomes i l)
        in_use l (suc (suc zero)) = g.total_word i l
        in_use l (suc (suc (suc r))) = omega arith

        go : Dec (i < n) → Words (entry_words (entry_at B i))
        go (yes l) = in_use l
        go (no l) = subst (λ e. Words (entry_words e)) (sym (entry_past B i (omega arith))) (λ r. omega (arith, unused-words r))

    pub words_small : (b : ℕ) → Words (book_words B b)
    unfolding book_words book_word
    words_small b =
        words-list_to 125 (book_word B (b - 1))
        (λ j l.
        cond_small (eqb j 0) _ _ (after_small (41 * (b - 1)))
        (cond_small (eqb j 124) _ _ (omega arith) (entry-small (41 * (b - 1) + (j - 1) / 3) ((j - 1) % 3))))

    pub length-book_bytes : length file ≡ 512 * blocks
    unfolding book_bytes
    length-book_bytes = length-file_bytes (book_words B) blocks

    blocks-back : length file / 512 ≡ blocks
    blocks-back = omega (arith, length-book_bytes)

    pub word : (b j : ℕ) → 0 < b → b ≤ blocks → j < 125 → payload_word file b j ≡ book_word B (b - 1) j
    unfolding book_bytes
    word b j z l h =
        file-word (book_words B) blocks b j z l (omega (arith, few-blocks)) h (words_small b)
        ∙ words-at B b j h

    used-back : (b : ℕ) → 0 < b → b ≤ blocks → used_of file b ≡ used_in n (b - 1)
    used-back b z l = word b 124 z l (omega arith) ∙ word-used B (b - 1)

    sound_back : (b : ℕ) → 0 < b → b ≤ blocks → SoundBlock (block_of file b) b
    unfolding book_bytes Holds
    sound_back b z l =
        ((block-decides file (λ _. 125) b (omega arith)).passes.0
        (file-passes (book_words B) (λ _. 125) blocks b z l (omega (arith, few-blocks)) (omega arith) (length-book_words B b) (words_small b))).0

    -- where a record of block b stands
    entry_in : (b i : ℕ) → 0 < b → b ≤ blocks → i < used_of file b → (i < 41) × (41 * (b - 1) + i < n)
    entry_in b i z l h = (omega (arith, used-back b z l), omega (arith, used-back b z l))

    pub block_back : (b : ℕ) → 0 < b → b ≤ blocks → BlockFits file blocks b
    block_back b z l =
        record {
          sound = sound_back b z l;
          counted =
              record {
                most = omega (arith, used-back b z l);
                full = λ h. omega (arith, used-back b z l);
                some = λ h. omega (arith, used-back b z l);
              };
          outcomes =
              λ i h.
              let p = entry_in b i z l h in
              subst (λ x. x ≤ 2) (sym (word b (3 * i + 2) z l (omega (arith, p.0)) ∙ word-outcome B (b - 1) i p.0)) (g.outcomes (41 * (b - 1) + i) p.1);
          unused_zero = λ j h m. word b j z l (omega arith) ∙ word-past (b - 1) j (omega arith) m (omega (arith, used-back b z l));
          opens =
              λ h.
              let e : 41 * (b - 1 - 1) + 41 ≡ 41 * (b - 1) = omega arith in
              word b 0 z l (omega arith) ∙ word-opens B (b - 1)
              ∙ sym (word (b - 1) 123 (omega arith) (omega arith) (omega arith) ∙ word_after B (b - 1 - 1) 41 (omega arith) ∙ ap (total_after B) e);
          follows =
              λ i h.
              let p = entry_in b i z l h in
              let m : ℕ = 41 * (b - 1) + i in
              ap pos (word b (3 * i + 3) z l (omega (arith, p.0)) ∙ word_total B (b - 1) i p.0)
              ∙ total-next m
              ∙ g.follows m p.1
              ∙ sym
              (ap₂ (λ x y. pos x +ℤ y)
              (word b (3 * i) z l (omega (arith, p.0)) ∙ word_after B (b - 1) i (omega (arith, p.0)))
              (ap word_signed (word b (3 * i + 1) z l (omega (arith, p.0)) ∙ word_source B (b - 1) i p.0) ∙ (signed_back (entry_at B m).source (g.least m p.1) (g.most m p.1)).0));
        }
      where
        total-next : (m : ℕ) → pos (entry_at B m).total ≡ pos (total_after B (suc m))
        total-next m = unfold total_after in refl

    -- the bytes of a book pass
    pub book-passes : book_verdict (length file) file ≡ Ok tt
    book-passes =
        (book-accepts (length file) file).1
        (record {
          some = omega (arith, blocks-back);
          few = omega (arith, blocks-back, few-blocks);
          whole = omega (arith, length-book_bytes, blocks-back);
          blocks = λ b z l. subst (λ k. BlockFits file k b) (sym blocks-back) (block_back b z (omega (arith, blocks-back)));
        })

    -- what is read off them is the book
    count-back : count_of file ≡ n
    unfolding count_of
    count-back = rw blocks-back (omega (arith, used-back blocks (omega arith) (omega arith)))

    entry-back : (i : ℕ) → i < n → entry_of file i ≡ entry_at B i
    unfolding entry_of
    entry-back i l =
        let e : 41 * (1 + i / 41 - 1) + i % 41 ≡ i = omega arith in
        let m : i % 41 < 41 = omega arith in
        let at_block : ((j : ℕ) → j < 125 → payload_word file (1 + i / 41) j ≡ book_word B (1 + i / 41 - 1) j) = λ j h. word (1 + i / 41) j (omega arith) (omega arith) h in
        same-entry
        (ap word_signed (at_block (3 * (i % 41) + 1) (omega arith) ∙ word_source B (1 + i / 41 - 1) (i % 41) m ∙ ap (λ x. signed_word (entry_at B x).source) e) ∙ (signed_back (entry_at B i).source (g.least i l) (g.most i l)).0)
        (at_block (3 * (i % 41) + 2) (omega arith) ∙ word-outcome B (1 + i / 41 - 1) (i % 41) m ∙ ap (λ x. (entry_at B x).outcome) e)
        (at_block (3 * (i % 41) + 3) (omega arith) ∙ word_total B (1 + i / 41 - 1) (i % 41) m ∙ ap (λ x. (entry_at B x).total) e)

    opening-back : payload_word file 1 0 ≡ B.opening
    unfolding total_after
    opening-back = word 1 0 (omega arith) (omega arith) (omega arith) ∙ word-opens B 0

    pub book-back : book_of file ≡ B
    unfolding book_of
    book-back =
        ap₂ book opening-back
        (ext_get_or unused (list_to (count_of file) (entry_of file)) B.entries (length-list_to (count_of file) (entry_of file) ∙ count-back)
        (λ i m.
        let l : i < n = omega (arith, length-list_to (count_of file) (entry_of file), count-back) in
        get_d-list_to (count_of file) (entry_of file) i unused (omega (arith, count-back)) ∙ entry-back i l))
