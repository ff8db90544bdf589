-- Laws of tables: no block uses more words than its payload has, a block holds the words of its records, and they are read back. Assumes
-- nothing.
use mathlib.Core.Path.{◌≡◌, refl, sym, ap, ap₂, ◌∙◌, subst}
use mathlib.Core.List.{List, [], ◌++◌, append_assoc, append-nil}
use Prim.Native.Nat.{ℕ, zero, suc, ◌+◌, ◌*◌, ◌-◌, ◌/◌, ◌%◌, ◌^◌, ◌≤◌, ◌<◌, min}
use native.Mathlib.Nat.{min-le_left, suc-mul, mul-suc, mul_comm, mul-le-mul_left, mul-le-mul_right, mod-lt, mod-eq_of_lt, div-add-mod, div-eq_of_lt, div-lt_iff_lt-mul, div-mul-le_self, lt-div-mul-add, mul-add-div, mul-add-mod_self_left, div-one, add-zero}
use native.Mathlib.Omega.{arith}
use lib.ListN.{length, take, drop, length-append, length-take, length-drop}
use lib.Seq.{ext_get_or}
use Rattle.numbers.specs.Lists.{at, list_to, written}
use Rattle.numbers.specs.Checks.{both}
use Rattle.numbers.proofs.ListLaws.{length-list_to, get_d-list_to, list_to-ext}
use Rattle.numbers.proofs.PartLaws.{get_d_part, written-empty, written_on}
use Rattle.block_tables.specs.declared.tables.Table.{Table}
use Rattle.blocks.specs.Words.{Words}
use Rattle.blocks.specs.Blocks.{block_bytes, file_bytes, payload_word, check_sound, check_spare, check_block}
use Rattle.block_tables.specs.Tables.{table_blocks, table_used, TableFits, table_words, table_bytes, table_word, list_table, list_block}
use Rattle.blocks.proofs.WordLaws.{words-list_to}
use Rattle.blocks.proofs.BlockLaws.{length-block_bytes}
use Rattle.blocks.proofs.FileLaws.{file_bytes-next, file-word}

module _ (T : Table) (g : TableFits T) where
  abbrev w : ℕ
  w = T.words

  abbrev r : ℕ
  r = T.records

  -- ---- sizes

  pub table_used-small : (n k : ℕ) → table_used T n k ≤ 125
  table_used-small n k = omega (arith, mul-le-mul_left w (min-le_left r (n - r * k)), g.payload)

  -- the block of a record is one of the table's
  pub block_in : (n i : ℕ) → i < n → i / r < table_blocks T n
  block_in n i l = (div-lt_iff_lt-mul g.some_records).1 (omega (arith, lt-div-mul-add {a = n + (r - 1)} {b = r} g.some_records, g.some_records))

  -- the k-th block of the table holds a record
  pub block-some : (n k : ℕ) → k < table_blocks T n → r * k < n
  block-some n k l =
      let q : ℕ = table_blocks T n in
      omega (arith, mul-le-mul_right r l, suc-mul k r, mul_comm r k, div-mul-le_self (n + (r - 1)) r, g.some_records)

  -- a word of a record lies among the words that its block uses
  pub word-used : (n i j : ℕ) → i < n → j < w → w * (i % r) + j < table_used T n (i / r)
  word-used n i j l h =
      let m : ℕ = min r (n - r * (i / r)) in
      let a : suc (i % r) ≤ m = omega (arith, mod-lt i g.some_records, div-add-mod i r) in
      omega (arith, mul-suc w (i % r), mul-le-mul_left w a)

  pub word_in : (i j : ℕ) → j < w → w * (i % r) + j < 125
  word_in i j h = omega (arith, mul-suc w (i % r), mul-le-mul_left w (mod-lt i g.some_records), g.payload)

  -- a word that a block uses is one of a record
  pub record_of : (n k x : ℕ) → x < table_used T n k → (x / w < r) × (r * k + x / w < n)
  record_of n k x l =
      let h : x / w < min r (n - r * k) = (div-lt_iff_lt-mul g.some_words).1 (subst (λ y. x < y) (mul_comm w (min r (n - r * k))) l) in
      omega arith

  -- ---- the words of a block

  module _ (n : ℕ) (v : ℕ → ℕ → ℕ) where
    pub length-table_words : (k : ℕ) → length (table_words T n v k) ≡ table_used T n k
    unfolding table_words
    length-table_words k = length-list_to _ _

    pub table_words-small : ((i j : ℕ) → i < n → j < w → v i j < 2 ^ 32) → (k : ℕ) → Words (table_words T n v k)
    unfolding table_words
    table_words-small s k = words-list_to _ _ (λ x l. s (r * k + x / w) (x % w) (record_of n k x l).1 (mod-lt x g.some_words))

    -- word j of record i
    pub table_words-at : (i j : ℕ) → i < n → j < w → at (table_words T n v (i / r)) (w * (i % r) + j) ≡ v i j
    unfolding table_words
    table_words-at i j l h =
        get_d-list_to _ _ (w * (i % r) + j) 0 (word-used n i j l h)
        ∙ ap₂ v (omega (arith, mul-add-div g.some_words (i % r) j, div-eq_of_lt h, div-add-mod i r)) (mul-add-mod_self_left w (i % r) j ∙ mod-eq_of_lt h)

    -- the table's bytes, block by block
    pub length-table_bytes : (from q : ℕ) → length (table_bytes T n v from q) ≡ 512 * q
    unfolding table_bytes
    length-table_bytes from zero = refl
    length-table_bytes from (suc q) =
        length-append (table_bytes T n v from q) (block_bytes (from + q) (table_words T n v q))
        ∙ omega (arith, length-table_bytes from q, length-block_bytes (from + q) (table_words T n v q))

    table_bytes-next : (from q : ℕ) → table_bytes T n v from (suc q) ≡ table_bytes T n v from q ++ block_bytes (from + q) (table_words T n v q)
    unfolding table_bytes
    table_bytes-next from q = refl

    -- none, and one block more, written into a list
    pub table_none : (d : List ℕ) (from : ℕ) → d ≡ written d (512 * (from - 1)) (table_bytes T n v from 0)
    unfolding table_bytes
    table_none d from = written-empty d (512 * (from - 1)) [] refl

    pub table-next :
        (d : List ℕ) (from q at : ℕ) → at ≡ 512 * (from + q - 1) → 0 < from → 512 * (from - 1) ≤ length d
        → written (written d (512 * (from - 1)) (table_bytes T n v from q)) at (block_bytes (from + q) (table_words T n v q)) ≡ written d (512 * (from - 1)) (table_bytes T n v from (q + 1))
    table-next d from q at e z h =
        let s : q + 1 ≡ suc q = omega arith in
        written_on d (table_bytes T n v from q) (block_bytes (from + q) (table_words T n v q)) (512 * (from - 1)) at h (omega (arith, length-table_bytes from q))
        ∙ rw s (ap (written d (512 * (from - 1))) (sym (table_bytes-next from q)))

    -- they go on with a file whose next words are those of the table
    pub table-file : (ws : ℕ → List ℕ) (k from q : ℕ) → from ≡ suc k → ((p : ℕ) → p < q → ws (from + p) ≡ table_words T n v p) → file_bytes ws (k + q) ≡ file_bytes ws k ++ table_bytes T n v from q
    unfolding table_bytes
    table-file ws k from zero z h = rw (add-zero k) (sym (append-nil (file_bytes ws k)))
    table-file ws k from (suc q) z h =
        let s : k + suc q ≡ suc (k + q) = omega arith in
        let b : suc (k + q) ≡ from + q = omega arith in
        ap (file_bytes ws) s
        ∙ file_bytes-next ws (k + q)
        ∙ ap₂ (λ x y. x ++ y) (table-file ws k from q z (λ p l. h p (omega arith))) (rw b (ap (block_bytes (from + q)) (h q (omega arith))))
        ∙ append_assoc (file_bytes ws k) (table_bytes T n v from q) (block_bytes (from + q) (table_words T n v q))

    -- it is read back from a file whose blocks from `from` on are those of the table
    pub table-back : (ws : ℕ → List ℕ) (k from i j : ℕ) → ((q : ℕ) → q < table_blocks T n → ws (from + q) ≡ table_words T n v q) → ((i j : ℕ) → i < n → j < w → v i j < 2 ^ 32) → 0 < from → from - 1 + table_blocks T n ≤ k → k < 2 ^ 32 → i < n → j < w → table_word T (file_bytes ws k) from j i ≡ v i j
    unfolding table_word
    table-back ws k from i j e s z l b m h =
        let q : i / r < table_blocks T n = block_in n i m in
        let here : ws (from + i / r) ≡ table_words T n v (i / r) = e (i / r) q in
        file-word ws k (from + i / r) (w * (i % r) + j) (omega arith) (omega arith) (omega arith) (word_in i j h) (subst Words (sym here) (table_words-small s (i / r)))
        ∙ ap (λ x. at x (w * (i % r) + j)) here
        ∙ table_words-at i j m h

  -- tables agree where their words do
  pub table_words-ext : (n : ℕ) (u v : ℕ → ℕ → ℕ) (k : ℕ) → ((i j : ℕ) → i < n → j < w → u i j ≡ v i j) → table_words T n u k ≡ table_words T n v k
  unfolding table_words
  table_words-ext n u v k h = list_to-ext (table_used T n k) _ _ (λ x l. h (r * k + x / w) (x % w) (record_of n k x l).1 (mod-lt x g.some_words))

  pub table_bytes-ext : (n : ℕ) (u v : ℕ → ℕ → ℕ) → ((i j : ℕ) → i < n → j < w → u i j ≡ v i j) → (from q : ℕ) → table_bytes T n u from q ≡ table_bytes T n v from q
  unfolding table_bytes
  table_bytes-ext n u v h from zero = refl
  table_bytes-ext n u v h from (suc q) = ap₂ (λ x y. x ++ block_bytes (from + q) y) (table_bytes-ext n u v h from q) (table_words-ext n u v q h)

  -- the table that is read from a file has the words of its blocks
  pub table-own : (file : List ℕ) (from n k : ℕ) → table_words T n (λ i j. table_word T file from j i) k ≡ list_to (table_used T n k) (payload_word file (from + k))
  unfolding table_words table_word
  table-own file from n k =
      list_to-ext (table_used T n k) _ _
      (λ x l.
      let y : x / w < r = (record_of n k x l).0 in
      ap₂ (payload_word file) (omega (arith, mul-add-div g.some_records k (x / w), div-eq_of_lt y))
      (ap (λ a. w * a + x % w) (mul-add-mod_self_left r k (x / w) ∙ mod-eq_of_lt y) ∙ div-add-mod x w))

-- a block's check goes by the number of words that the block uses
pub used-same : (file : List ℕ) (v w : ℕ → ℕ) (b : ℕ) → v b ≡ w b → check_block file v b ≡ check_block file w b
unfolding check_block
used-same file v w b e = ap (λ i. both (check_sound file b) (check_spare file i b)) e

-- ---- lists of numbers

pub list_fits : TableFits list_table
list_fits = record { some_words = omega arith; some_records = omega arith; payload = omega arith }

-- a part of a list is the words of its block
pub list-part : (n k last : ℕ) (xs : List ℕ) → n ≤ length xs → last ≡ min (125 * k + 125) n → take (last - 125 * k) (drop (125 * k) xs) ≡ list_block n xs k
unfolding table_words
list-part n k last xs h e =
    let u : ℕ = table_used list_table n k in
    let v : ℕ → ℕ = λ x. at xs (125 * k + x / 1) in
    let same : last - 125 * k ≡ u = omega arith in
    let a : length (take (last - 125 * k) (drop (125 * k) xs)) ≡ u = length-take (last - 125 * k) (drop (125 * k) xs) ∙ omega (arith, length-drop (125 * k) xs) in
    ext_get_or 0 _ _ (a ∙ sym (length-list_to u v))
    (λ i l.
    get_d_part (last - 125 * k) (125 * k) xs i 0 (omega (arith, same, a))
    ∙ sym (get_d-list_to u v i 0 (omega (arith, a)) ∙ ap (λ y. at xs (125 * k + y)) (div-one i)))
