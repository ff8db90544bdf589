-- A field that is written to a file is read back from it: every value, the sizes and the total. Assumes nothing.
use Rattle.std.specs.Prelude.{Ok}
use mathlib.Core.Path.{◌≡◌, refl, sym, ◌∙◌, ap, ap₂, subst}
use mathlib.Core.Bool.{Bool, true, false, cond}
use mathlib.Core.List.{List, [], ◌∷◌}
use Prim.Native.Nat.{ℕ, zero, suc, ◌+◌, ◌*◌, ◌-◌, ◌≤◌, ◌<◌}
use native.Mathlib.Omega.{arith}
use borrow.Author.Tests.{le-leb, lt-leb}
use lib.Dec.{leb}
use lib.IntN.{pos}
use lib.ListN.{length, get_or}
use lib.Seq.{ext_get_or}
use Rattle.numbers.specs.Lists.{at, at_ℤ, list_to}
use Rattle.numbers.proofs.ListLaws.{length-list_to, get_d-list_to}
use Rattle.blocks.specs.Words.{Words, word_signed}
use Rattle.blocks.specs.Blocks.{block_of, payload_word, check_block, SoundBlock, SpareZero}
use Rattle.block_tables.specs.Tables.{table_used, list_table}
use Rattle.blocks.proofs.WordLaws.{signed_back}
use Rattle.blocks.proofs.BlockLaws.{block-fits}
use Rattle.blocks.proofs.FileLaws.{length-file_bytes, file-word, file-passes}
use Rattle.block_tables.proofs.TableLaws.{length-table_words, table_words-small, table-back, list_fits}
use Rattle.qlt_spec.specs.Field.{Lists, cells, nodes}
use Rattle.files_spec.specs.FieldFile.{cell_table, cell_blocks, field_blocks, cell_words, cell_block, parent_block, field_words, field_bytes, field_used, cell_word, parent_word}
use Rattle.files_spec.specs.ReadField.{file_cells, file_nodes, file_total, Room, HeadFits, sizes_of, file_lists}
use Rattle.files_spec.specs.Stored.{Storable, FieldBack}
use Rattle.files_spec.proofs.ReadLaws.{cell_fits, used-small, read-accepts}

-- ---- lists by index

-- a list is that of its elements
pub list_back {ℓ} : {X : Type ℓ} (l : List X) (d : X) (k : ℕ) (g : ℕ → X) → length l ≡ k → ((i : ℕ) → i < k → g i ≡ get_or l i d) → list_to k g ≡ l
list_back l d k g e h = ext_get_or d (list_to k g) l (length-list_to k g ∙ sym e) (λ i m. let n : i < k = omega (arith, length-list_to k g) in get_d-list_to k g i d n ∙ h i n)

-- ---- the words of each block

module _ (f : Lists) (M : ℕ) where
  abbrev n : ℕ
  n = cells f

  abbrev m : ℕ
  m = nodes f

  -- the words of the k-th block of cells and of the k-th block of parents
  pub cells_at : (k : ℕ) → k < cell_blocks n → field_words f M (2 + k) ≡ cell_block f k
  unfolding field_words
  cells_at k l =
      let e : 2 + k - 2 ≡ k = omega arith in
      rw (lt-leb (2 + k) 1 (omega arith), le-leb (2 + k) (1 + cell_blocks n) (omega arith), e)

  pub parents-at : (k : ℕ) → field_words f M (2 + cell_blocks n + k) ≡ parent_block f k
  unfolding field_words
  parents-at k =
      let e : 2 + cell_blocks n + k - (2 + cell_blocks n) ≡ k = omega arith in
      rw (lt-leb (2 + cell_blocks n + k) 1 (omega arith), lt-leb (2 + cell_blocks n + k) (1 + cell_blocks n) (omega arith), e)

  -- as many as the block uses
  count : (b : ℕ) → length (field_words f M b) ≡ field_used n m b
  unfolding field_words field_used
  count b = go (leb b 1) (leb b (1 + cell_blocks n))
    where
      go : (p q : Bool) → length (cond p (512 ∷ n ∷ m ∷ M ∷ []) (cond q (cell_block f (b - 2)) (parent_block f (b - (2 + cell_blocks n))))) ≡ cond p 4 (cond q (table_used cell_table n (b - 2)) (table_used list_table m (b - (2 + cell_blocks n))))
      go true q = refl
      go false true = length-table_words cell_table cell_fits n (λ i j. at (cell_words f i) j) (b - 2)
      go false false = length-table_words list_table list_fits m (λ i j. at f.parents i) (b - (2 + cell_blocks n))

  module _ (g : Storable f M) where
    cell-small : (i : ℕ) → i < n → Words (cell_words f i)
    cell-small i l zero = (signed_back (at_ℤ f.targets i) (g.typed.least i) (g.typed.most i)).1
    cell-small i l (suc zero) = g.typed.low_words i
    cell-small i l (suc (suc zero)) = g.typed.high_words i
    cell-small i l (suc (suc (suc zero))) = g.typed.safe_low_words i
    cell-small i l (suc (suc (suc (suc zero)))) = g.typed.safe_high_words i
    cell-small i l (suc (suc (suc (suc (suc zero))))) = g.typed.weight_words i
    cell-small i l (suc (suc (suc (suc (suc (suc k)))))) = omega arith

    head_small : Words (512 ∷ n ∷ m ∷ M ∷ [])
    head_small zero = omega arith
    head_small (suc zero) = omega (arith, g.few)
    head_small (suc (suc zero)) = omega (arith, g.nodes_few)
    head_small (suc (suc (suc zero))) = g.typed.total_word
    head_small (suc (suc (suc (suc k)))) = omega arith

    small : (b : ℕ) → Words (field_words f M b)
    unfolding field_words
    small b = go (leb b 1) (leb b (1 + cell_blocks n))
      where
        go : (p q : Bool) → Words (cond p (512 ∷ n ∷ m ∷ M ∷ []) (cond q (cell_block f (b - 2)) (parent_block f (b - (2 + cell_blocks n)))))
        go true q = head_small
        go false true = table_words-small cell_table cell_fits n (λ i j. at (cell_words f i) j) (λ i j l h. cell-small i l j) (b - 2)
        go false false = table_words-small list_table list_fits m (λ i j. at f.parents i) (λ i j l h. g.typed.parent_words i) (b - (2 + cell_blocks n))

    -- ---- what is read

    abbrev file : List ℕ
    file = field_bytes f M

    abbrev blocks : ℕ
    blocks = field_blocks n m

    few-blocks : blocks ≤ 36
    few-blocks = omega (arith, g.few, g.nodes_few)

    word : (b j : ℕ) → 0 < b → b ≤ blocks → j < 125 → payload_word file b j ≡ at (field_words f M b) j
    unfolding field_bytes
    word b j z l h = file-word (field_words f M) blocks b j z l (omega (arith, few-blocks)) h (small b)

    mark : payload_word file 1 0 ≡ 512
    unfolding field_words
    mark = word 1 0 (omega arith) (omega arith) (omega arith)

    pub cells-back : file_cells file ≡ n
    unfolding field_words
    cells-back = word 1 1 (omega arith) (omega arith) (omega arith)

    pub nodes-back : file_nodes file ≡ m
    unfolding field_words
    nodes-back = word 1 2 (omega arith) (omega arith) (omega arith)

    pub total-back : file_total file ≡ M
    unfolding field_words
    total-back = word 1 3 (omega arith) (omega arith) (omega arith)

    -- word k of cell i
    cell-back : (k i : ℕ) → k < 6 → i < n → cell_word file k i ≡ at (cell_words f i) k
    unfolding field_bytes
    cell-back k i h l =
        table-back cell_table cell_fits n (λ i j. at (cell_words f i) j) (field_words f M) blocks 2 i k cells_at (λ i j l h. cell-small i l j) (omega arith) (omega arith) (omega (arith, few-blocks)) l h

    parent-back : (i : ℕ) → i < m → parent_word file n i ≡ at f.parents i
    unfolding field_bytes
    parent-back i l =
        table-back list_table list_fits m (λ i j. at f.parents i) (field_words f M) blocks (2 + cell_blocks n) i 0 (λ k h. parents-at k) (λ i j l h. g.typed.parent_words i) (omega arith) (omega arith) (omega (arith, few-blocks)) l (omega arith)

    -- each list
    column : (k : ℕ) (l : List ℕ) → k < 6 → length l ≡ n → ((i : ℕ) → at (cell_words f i) k ≡ at l i) → list_to (file_cells file) (cell_word file k) ≡ l
    column k l h e r = rw cells-back (list_back l 0 n (cell_word file k) e (λ i j. cell-back k i h j ∙ r i))

    targets-back : list_to (file_cells file) (λ i. word_signed (cell_word file 0 i)) ≡ f.targets
    targets-back = rw cells-back (list_back f.targets (pos 0) n (λ i. word_signed (cell_word file 0 i)) refl (λ i l. ap word_signed (cell-back 0 i (omega arith) l) ∙ (signed_back (at_ℤ f.targets i) (g.typed.least i) (g.typed.most i)).0))

    parents-back : list_to (file_nodes file) (parent_word file (file_cells file)) ≡ f.parents
    parents-back = rw (cells-back, nodes-back) (list_back f.parents 0 m (parent_word file n) refl parent-back)

    -- ---- the verdict

    module _ (s : Lists) (r : Room n m s) where
      used-back : (b : ℕ) → length (field_words f M b) ≡ field_used (file_cells file) (file_nodes file) b
      used-back b = count b ∙ sym (ap₂ (λ x y. field_used x y b) cells-back nodes-back)

      passes : (b : ℕ) → 0 < b → b ≤ blocks → check_block file (field_used (file_cells file) (file_nodes file)) b ≡ Ok tt
      unfolding field_bytes
      passes b z l = file-passes (field_words f M) (field_used (file_cells file) (file_nodes file)) blocks b z l (omega (arith, few-blocks)) (used-small (file_cells file) (file_nodes file) b) (used-back b) (small b)

      fits : (b : ℕ) → 0 < b → b ≤ blocks → SoundBlock (block_of file b) b × SpareZero file (field_used (file_cells file) (file_nodes file) b) b
      fits b z l = (block-fits file (field_used (file_cells file) (file_nodes file)) b (used-small _ _ b)).0 (passes b z l)

      inside : (b : ℕ) → b ≤ field_blocks (file_cells file) (file_nodes file) → b ≤ blocks
      inside b l = subst (λ x. b ≤ x) (ap₂ field_blocks cells-back nodes-back) l

      whole : length file ≡ 512 * field_blocks (file_cells file) (file_nodes file)
      unfolding field_bytes
      whole = length-file_bytes (field_words f M) blocks ∙ sym (ap₂ (λ x y. 512 * field_blocks x y) cells-back nodes-back)

      head-fits : HeadFits file s
      unfolding field_used
      head-fits =
          let b = fits 1 (omega arith) (omega arith) in
          record {
            whole = whole;
            sound = b.0;
            mark = mark;
            spare = b.1;
            some = omega (arith, cells-back, g.some);
            few = omega (arith, cells-back, g.few);
            nodes_room = omega (arith, cells-back, nodes-back, g.nodes_room);
            nodes_few = omega (arith, nodes-back, g.nodes_few);
            room = rw (cells-back, nodes-back) r;
          }

      sizes : sizes_of file ≡ record { cells = n; nodes = m; total = M }
      sizes = rw (cells-back, nodes-back, total-back)

      held : file_lists file ≡ f
      unfolding file_lists
      held =
          rw (
            targets-back,
            column 1 f.lows (omega arith) g.lows (λ i. refl),
            column 2 f.highs (omega arith) g.highs (λ i. refl),
            column 3 f.safe_lows (omega arith) g.safe_lows (λ i. refl),
            column 4 f.safe_highs (omega arith) g.safe_highs (λ i. refl),
            column 5 f.weights (omega arith) g.weights (λ i. refl),
            parents-back,
          )

pub field_back : (f : Lists) (M : ℕ) → Storable f M → (s : Lists) → Room (cells f) (nodes f) s → FieldBack f M s
field_back f M g s r =
    record {
      passes =
          (read-accepts (field_bytes f M) s).1
          (record {
            head = head-fits f M g s r;
            sound = λ b l h. (fits f M g s r b (omega arith) (inside f M g s r b h)).0;
            spare = λ b l h. (fits f M g s r b (omega arith) (inside f M g s r b h)).1;
          });
      sizes = sizes f M g s r;
      held = held f M g s r;
    }
