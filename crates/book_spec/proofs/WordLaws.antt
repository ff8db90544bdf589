-- The words of a book's blocks, by what each holds. Assumes nothing.
use mathlib.Core.Path.{◌≡◌, refl}
use Prim.Native.Nat.{ℕ, zero, suc, ◌+◌, ◌*◌, ◌-◌, ◌/◌, ◌%◌, ◌≤◌, ◌<◌}
use native.Mathlib.Omega.{arith}
use native.Mathlib.Decide.{ℕ_discrete, dec_lt}
use borrow.Author.Tests.{ne_eqb}
use lib.ListN.{length, get_or-eq_default}
use Rattle.numbers.specs.Lists.{at}
use Rattle.numbers.proofs.ListLaws.{length-list_to, get_d-list_to}
use Rattle.blocks.specs.Words.{signed_word}
use Rattle.book_spec.specs.Book.{unused, Book, count, entry_at, total_after, used_in, book_word, book_words}

-- ---- a block's words

module _ (B : Book) (k : ℕ) where
  -- words of a record
  pub word_source : (i : ℕ) → i < 41 → book_word B k (3 * i + 1) ≡ signed_word (entry_at B (41 * k + i)).source
  unfolding book_word
  word_source i l =
      let p : (3 * i + 1 - 1) / 3 ≡ i = omega arith in
      let q : (3 * i + 1 - 1) % 3 ≡ 0 = omega arith in
      rw (ne_eqb (3 * i + 1) 0 (λ e. omega arith), ne_eqb (3 * i + 1) 124 (λ e. omega arith), p, q)

  pub word-outcome : (i : ℕ) → i < 41 → book_word B k (3 * i + 2) ≡ (entry_at B (41 * k + i)).outcome
  unfolding book_word
  word-outcome i l =
      let p : (3 * i + 2 - 1) / 3 ≡ i = omega arith in
      let q : (3 * i + 2 - 1) % 3 ≡ 1 = omega arith in
      rw (ne_eqb (3 * i + 2) 0 (λ e. omega arith), ne_eqb (3 * i + 2) 124 (λ e. omega arith), p, q)

  pub word_total : (i : ℕ) → i < 41 → book_word B k (3 * i + 3) ≡ (entry_at B (41 * k + i)).total
  unfolding book_word
  word_total i l =
      let p : (3 * i + 3 - 1) / 3 ≡ i = omega arith in
      let q : (3 * i + 3 - 1) % 3 ≡ 2 = omega arith in
      rw (ne_eqb (3 * i + 3) 0 (λ e. omega arith), ne_eqb (3 * i + 3) 124 (λ e. omega arith), p, q)

  pub word-opens : book_word B k 0 ≡ total_after B (41 * k)
  unfolding book_word
  word-opens = refl

  pub word-used : book_word B k 124 ≡ used_in (count B) k
  unfolding book_word
  word-used = refl

  -- the total after i records is word 3 i
  pub word_after : (i : ℕ) → i ≤ 41 → book_word B k (3 * i) ≡ total_after B (41 * k + i)
  unfolding total_after
  word_after zero l = let e : 41 * k + 0 ≡ 41 * k = omega arith in rw e word-opens
  word_after (suc i) l =
      let e : 3 * suc i ≡ 3 * i + 3 = omega arith in
      let f : 41 * k + suc i ≡ suc (41 * k + i) = omega arith in
      rw (e, f) (word_total i (omega arith))

-- two blocks agree where their totals, records and numbers do
pub words_same :
    (v w : ℕ → ℕ) → v 0 ≡ w 0 → v 124 ≡ w 124
    → ((i : ℕ) → i < 41 → v (3 * i + 1) ≡ w (3 * i + 1))
    → ((i : ℕ) → i < 41 → v (3 * i + 2) ≡ w (3 * i + 2))
    → ((i : ℕ) → i < 41 → v (3 * i + 3) ≡ w (3 * i + 3))
    → (j : ℕ) → j < 125 → v j ≡ w j
words_same v w o u s t n zero l = o
words_same v w o u s t n (suc j) l = go (ℕ_discrete (suc j) 124) (dec_lt (j % 3) 1) (dec_lt (j % 3) 2)
  where
    go : Dec (suc j ≡ 124) → Dec (j % 3 < 1) → Dec (j % 3 < 2) → v (suc j) ≡ w (suc j)
    go (yes e) p q = rw e u
    go (no e) (yes p) q = let f : suc j ≡ 3 * (j / 3) + 1 = omega arith in rw f (s (j / 3) (omega arith))
    go (no e) (no p) (yes q) = let f : suc j ≡ 3 * (j / 3) + 2 = omega arith in rw f (t (j / 3) (omega arith))
    go (no e) (no p) (no q) = let f : suc j ≡ 3 * (j / 3) + 3 = omega arith in rw f (n (j / 3) (omega arith))

pub words-at : (B : Book) (b j : ℕ) → j < 125 → at (book_words B b) j ≡ book_word B (b - 1) j
unfolding book_words
words-at B b j l = get_d-list_to 125 (book_word B (b - 1)) j 0 l

pub length-book_words : (B : Book) (b : ℕ) → length (book_words B b) ≡ 125
unfolding book_words
length-book_words B b = length-list_to 125 (book_word B (b - 1))

-- past the records, nothing
pub entry_past : (B : Book) (i : ℕ) → count B ≤ i → entry_at B i ≡ unused
entry_past B i h = get_or-eq_default B.entries unused {n = i} h
