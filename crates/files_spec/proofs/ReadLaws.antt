-- What reading's verdict means, and what the contract alone says of a call. Assumes
-- nothing.
use Rattle.std.specs.Prelude.{Ok}
use mathlib.Core.Path.{◌≡◌, refl, sym, ◌∙◌, ap, ap₂, subst}
use Rattle.files_spec.specs.declared.Sizes.{Sizes}
use mathlib.Core.Logic.{◌↔◌}
use mathlib.Core.Bool.{Bool, true, false, cond, ◌&&◌}
use mathlib.Core.List.{List, [], ◌∷◌}
use Prim.Native.Nat.{ℕ, ◌+◌, ◌-◌, ◌≤◌, ◌<◌}
use native.Mathlib.Omega.{arith}
use borrow.Author.Tests.{le-leb, lt-leb}
use lib.Dec.{leb}
use lib.ListN.{length}
use Rattle.numbers.specs.Checks.{Checked, refused, check_long, after, unless, both, each_from, Decides, rule, Holds, Broken, DecidesAll, RefuseWith}
use Rattle.numbers.proofs.TestLaws.{and-means, le-means}
use Rattle.numbers.proofs.CheckLaws.{on, both_first, both-second, both-pass, unless-and, each_append, each-ext, answered-accepted, answered-refused, decides-unless, decides-then, decides-none, decides-append, decides-each, count-decides}
use Rattle.numbers.proofs.ChainLaws.{refuse-with, refuse-each}
use Rattle.blocks.specs.Blocks.{block_of, check_block, SoundBlock, SpareZero, block_rules}
use Rattle.block_tables.specs.Tables.{table_blocks, table_used, TableFits, check_table, list_table}
use Rattle.blocks.proofs.BlockLaws.{sound-decides, spare-decides, block-decides}
use Rattle.blocks.proofs.FileLaws.{length-decides, blocks-decides, mark-decides, later-fits}
use Rattle.block_tables.proofs.TableLaws.{table_used-small, used-same, list_fits}
use Rattle.qlt_spec.specs.Field.{Lists}
use Rattle.qlt_spec.proofs.CheckLaws.{nodes-decides}
use Rattle.files_spec.specs.FieldFile.{cell_table, cell_blocks, field_blocks, field_used}
use Rattle.files_spec.specs.ReadField.{file_cells, file_nodes, file_total, max_field_file, check_room, room_of, head_verdict, later_verdict, read_verdict, Room, head_rules, later_rules, read_rules, HeadFits, Measured, ReadFits, sizes_of, lists_read, ReadContract}

-- ---- each check

pub cell_fits : TableFits cell_table
cell_fits = record { some_words = omega arith; some_records = omega arith; payload = omega arith }

-- no block uses more words than its payload has
pub used-small : (n m b : ℕ) → field_used n m b ≤ 125
unfolding field_used
used-small n m b = go (leb b 1) (leb b (1 + cell_blocks n))
  where
    go : (p q : Bool) → cond p 4 (cond q (table_used cell_table n (b - 2)) (table_used list_table m (b - (2 + cell_blocks n)))) ≤ 125
    go true q = omega arith
    go false true = table_used-small cell_table cell_fits n (b - 2)
    go false false = table_used-small list_table list_fits m (b - (2 + cell_blocks n))

-- a block of cells uses what the table of cells says, and so for the parents
pub used-cells : (n m b : ℕ) → 2 ≤ b → b < 2 + cell_blocks n → field_used n m b ≡ table_used cell_table n (b - 2)
unfolding field_used
used-cells n m b l h = rw (lt-leb b 1 (omega arith), le-leb b (1 + cell_blocks n) (omega arith))

pub used-parents : (n m b : ℕ) → 2 + cell_blocks n ≤ b → field_used n m b ≡ table_used list_table m (b - (2 + cell_blocks n))
unfolding field_used
used-parents n m b l = rw (lt-leb b 1 (omega arith), lt-leb b (1 + cell_blocks n) (omega arith))

-- one test before others with the same number
one_more : (a b : Bool) (v : Checked) → v ≡ unless b 3 0 → both (unless a 3 0) v ≡ unless (a && b) 3 0
one_more a b v e = ap (both (unless a 3 0)) e ∙ unless-and a b 3 0

pub room-decides : (n m : ℕ) (s : Lists) → Decides (room_of n m s) (rule 3 (Room n m s))
unfolding check_room check_long
room-decides n m s =
    let chain =
    one_more (leb n (length s.targets)) _ _
    (one_more (leb n (length s.lows)) _ _
    (one_more (leb n (length s.highs)) _ _
    (one_more (leb n (length s.safe_lows)) _ _
    (one_more (leb n (length s.safe_highs)) _ _
    (one_more (leb n (length s.weights)) _ _ (both-pass (unless (leb m (length s.parents)) 3 0))))))) in
    let t =
    and-means (le-means n (length s.targets))
    (and-means (le-means n (length s.lows))
    (and-means (le-means n (length s.highs))
    (and-means (le-means n (length s.safe_lows))
    (and-means (le-means n (length s.safe_highs))
    (and-means (le-means n (length s.weights)) (le-means m (length s.parents))))))) in
    subst (λ v. Decides v (rule 3 (Room n m s))) (sym chain)
    (decides-unless _ 3 (
      λ e.
          let h = t.0 e in
          record { targets = h.0; lows = h.1.0; highs = h.1.1.0; safe_lows = h.1.1.1.0; safe_highs = h.1.1.1.1.0; weights = h.1.1.1.1.1.0; parents = h.1.1.1.1.1.1 },
      λ r. t.1 (r.targets, (r.lows, (r.highs, (r.safe_lows, (r.safe_highs, (r.weights, r.parents)))))),
    ))

-- ---- the verdict

module _ (file : List ℕ) where
  abbrev n : ℕ
  n = file_cells file

  abbrev m : ℕ
  m = file_nodes file

  abbrev k : ℕ
  k = field_blocks n m

  later-decides : DecidesAll (later_verdict file) (later_rules file)
  unfolding later_verdict later_rules
  later-decides = decides-each (check_block file (field_used n m)) (block_rules file (field_used n m)) (λ b. block-decides file (field_used n m) b (used-small n m b)) 2 (k - 1)

  -- the later blocks are those of the cells, then those of the parents
  pub later-tables : later_verdict file ≡ both (check_table cell_table file 2 n) (check_table list_table file (2 + cell_blocks n) m)
  unfolding later_verdict check_table
  later-tables =
      let e : k - 1 ≡ cell_blocks n + table_blocks list_table m = omega arith in
      ap (each_from (check_block file (field_used n m)) 2) e
      ∙ each_append (check_block file (field_used n m)) 2 (cell_blocks n) (table_blocks list_table m)
      ∙ ap₂ both
      (each-ext _ _ 2 (cell_blocks n) (λ b l h. used-same file (field_used n m) (λ b. table_used cell_table n (b - 2)) b (used-cells n m b l h)))
      (each-ext _ _ (2 + cell_blocks n) (table_blocks list_table m) (λ b l h. used-same file (field_used n m) (λ b. table_used list_table m (b - (2 + cell_blocks n))) b (used-parents n m b l)))

  later-accepts : (later_verdict file ≡ Ok tt) ↔ ((b : ℕ) → 2 ≤ b → b ≤ k → SoundBlock (block_of file b) b × SpareZero file (field_used n m b) b)
  unfolding later_verdict
  later-accepts = later-fits file (field_used n m) (used-small n m) k

  module _ (s : Lists) where
    pub head-decides : DecidesAll (head_verdict file s) (head_rules file s)
    unfolding head_verdict head_rules
    head-decides =
        decides-then _ _ _ _ (length-decides max_field_file (length file))
        (decides-then _ _ _ _ (sound-decides file 1)
        (decides-then _ _ _ _ (mark-decides file)
        (decides-then _ _ _ _ (spare-decides file 4 1 (omega arith))
        (decides-then _ _ _ _ (count-decides n)
        (decides-then _ _ _ _ (nodes-decides n m)
        (decides-then _ _ _ _ (blocks-decides (length file) k)
        (decides-then _ _ _ _ (room-decides n m s) decides-none)))))))

    chain : read_verdict file s ≡ both (head_verdict file s) (later_verdict file)
    unfolding read_verdict
    chain = ap (both (head_verdict file s)) (both-pass (later_verdict file))

    -- accepted if every rule holds; refused with a number at a place if those before it hold and this one is broken there
    pub read-decides : DecidesAll (read_verdict file s) (read_rules file s)
    read-decides = subst (λ v. DecidesAll v (read_rules file s)) (sym chain) (decides-append _ _ (head_rules file s) (later_rules file) head-decides later-decides)

    head-rules : Holds (head_rules file s) ↔ HeadFits file s
    unfolding head_rules Holds
    head-rules = (
      λ h.
          record {
            whole = h.1.1.1.1.1.1.0;
            sound = h.1.0;
            mark = h.1.1.0;
            spare = h.1.1.1.0;
            some = h.1.1.1.1.0.0;
            few = h.1.1.1.1.0.1;
            nodes_room = h.1.1.1.1.1.0.0;
            nodes_few = h.1.1.1.1.1.0.1;
            room = h.1.1.1.1.1.1.1.0;
          },
      λ f. (
        (omega (arith, f.whole), (omega (arith, f.whole, f.few, f.nodes_few), omega (arith, f.whole))),
        (f.sound, (f.mark, (f.spare, ((f.some, f.few), ((f.nodes_room, f.nodes_few), (f.whole, (f.room, tt))))))),
      ),
    )

    pub head-accepts : (head_verdict file s ≡ Ok tt) ↔ HeadFits file s
    head-accepts = (λ e. head-rules.0 (head-decides.passes.0 e), λ f. head-decides.passes.1 (head-rules.1 f))

    pub head-measured : HeadFits file s → Measured file
    head-measured f = record { whole = f.whole; some = f.some; few = f.few; nodes_few = f.nodes_few }

    pub read-accepts : (read_verdict file s ≡ Ok tt) ↔ ReadFits file s
    read-accepts = (
      λ e.
          let p = sym chain ∙ e in
          let l = later-accepts.0 (both-second (head_verdict file s) _ p) in
          record { head = head-accepts.0 (both_first _ _ p); sound = λ b i j. (l b i j).0; spare = λ b i j. (l b i j).1 },
      λ f. chain ∙ sym (on (head-accepts.1 f.head) (sym (later-accepts.1 (λ b i j. (f.sound b i j, f.spare b i j))))),
    )

    pub read-refuses : (number place : ℕ) → (read_verdict file s ≡ refused number place) ↔ Broken (read_rules file s) number place
    read-refuses = read-decides.fails

-- ---- the numbers

pub read-numbers : (file : List ℕ) (s : Lists) → RefuseWith (read_rules file s) (14 ∷ 15 ∷ 16 ∷ 1 ∷ 2 ∷ 3 ∷ [])
unfolding head_rules later_rules
read-numbers file s =
    let used = field_used (file_cells file) (file_nodes file) in
    refuse-each (head_rules file s) (block_rules file used) 2 _ _ (refuse-with (head_rules file s) (14 ∷ 15 ∷ 16 ∷ 1 ∷ 2 ∷ 3 ∷ []) refl refl) (λ b. refl)

-- ---- from the contract alone

-- a file that was read fits; the answer is what block 1 says, and the lists are what the file says
pub read_done : {file : List ℕ} {s t : Lists} {n m M : ℕ} → ReadContract file s (Ok (record { cells = n; nodes = m; total = M })) t → ReadFits file s × ((n ≡ file_cells file) × ((m ≡ file_nodes file) × ((M ≡ file_total file) × (t ≡ lists_read file s))))
read_done {file} {s} {t} {n} {m} {M} p =
    let e = answered-accepted (read_verdict file s) (record { cells = n; nodes = m; total = M }) (sizes_of file) p.answers in (
      (read-accepts file s).0 e.0,
      (ap (λ (z : Sizes). z.cells) e.1, (ap (λ (z : Sizes). z.nodes) e.1, (ap (λ (z : Sizes). z.total) e.1, p.writes ∙ ap (λ v. after v (lists_read file s) s) e.0))),
    )

-- a refused call left the lists as they were
pub read-refused : {file : List ℕ} {s t : Lists} {number place : ℕ} → ReadContract file s (refused number place) t → (read_verdict file s ≡ refused number place) × (t ≡ s)
read-refused {file} {s} {t} {number} {place} p =
    let e = answered-refused (read_verdict file s) (sizes_of file) number place p.answers in
    (e, p.writes ∙ ap (λ v. after v (lists_read file s) s) e)
