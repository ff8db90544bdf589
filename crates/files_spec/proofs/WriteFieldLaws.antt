-- What the verdict of writing a field file means, and the file part by
-- part. Assumes nothing.
use Rattle.std.specs.Prelude.{Ok}
use mathlib.Core.Path.{◌≡◌, refl, sym, ◌∙◌, ap, ap₂}
use mathlib.Core.Logic.{◌↔◌}
use mathlib.Core.List.{List, [], ◌∷◌, ◌++◌, append_assoc}
use Prim.Native.Nat.{ℕ, ◌+◌, ◌*◌, ◌-◌, ◌<◌}
use native.Mathlib.Omega.{arith}
use lib.IntN.{pos}
use lib.ListN.{length, length-append}
use lib.Seq.{length-take-le, get_or-take}
use Rattle.numbers.specs.Lists.{at, written}
use Rattle.numbers.specs.Checks.{refused, Holds, Broken, DecidesAll, RefuseWith}
use Rattle.numbers.proofs.PartLaws.{written_on}
use Rattle.numbers.proofs.CheckLaws.{decides-then, decides-none, count-decides, long-decides}
use Rattle.numbers.proofs.ChainLaws.{refuse-with}
use Rattle.blocks.specs.Blocks.{block_bytes, file_bytes}
use Rattle.block_tables.specs.Tables.{table_bytes, list_table}
use Rattle.blocks.proofs.BlockLaws.{length-block_bytes}
use Rattle.block_tables.proofs.TableLaws.{list_fits, length-table_bytes, table-file, table_bytes-ext}
use Rattle.qlt_spec.specs.Field.{Lists, cells, nodes}
use Rattle.qlt_spec.proofs.CheckLaws.{nodes-decides}
use Rattle.files_spec.specs.FieldFile.{cell_table, cell_blocks, parent_blocks, field_blocks, cell_words, field_words, field_bytes, fronts}
use Rattle.files_spec.specs.ReadField.{Room}
use Rattle.files_spec.specs.WriteField.{FieldWriteCall, field_write_verdict, field_write_rules, FieldWriteFits}
use Rattle.files_spec.proofs.ReadLaws.{cell_fits, room-decides}
use Rattle.files_spec.proofs.BackLaws.{cells_at, parents-at}

-- ---- the verdict

module _ (c : FieldWriteCall) where
  -- accepted if every rule holds; refused with a number at a place if those before it hold and this one is broken there
  pub field-write-decides : DecidesAll (field_write_verdict c) (field_write_rules c)
  unfolding field_write_verdict field_write_rules
  field-write-decides =
      decides-then _ _ _ _ (count-decides c.cells)
      (decides-then _ _ _ _ (nodes-decides c.cells c.nodes)
      (decides-then _ _ _ _ (room-decides c.cells c.nodes c.lists)
      (decides-then _ _ _ _ (long-decides (length c.buffer) (512 * field_blocks c.cells c.nodes)) decides-none)))

  rules-fit : Holds (field_write_rules c) ↔ FieldWriteFits c
  unfolding field_write_rules Holds
  rules-fit = (
    λ h. record { some = h.0.0; few = h.0.1; nodes_room = h.1.0.0; nodes_few = h.1.0.1; room = h.1.1.0; space = h.1.1.1.0 },
    λ f. ((f.some, f.few), ((f.nodes_room, f.nodes_few), (f.room, (f.space, tt)))),
  )

  pub field-write-accepts : (field_write_verdict c ≡ Ok tt) ↔ FieldWriteFits c
  field-write-accepts = (λ e. rules-fit.0 (field-write-decides.passes.0 e), λ f. field-write-decides.passes.1 (rules-fit.1 f))

  pub field-write-refuses : (number place : ℕ) → (field_write_verdict c ≡ refused number place) ↔ Broken (field_write_rules c) number place
  field-write-refuses = field-write-decides.fails

  pub field-write-numbers : RefuseWith (field_write_rules c) (1 ∷ 2 ∷ 3 ∷ [])
  unfolding field_write_rules
  field-write-numbers = refuse-with (field_write_rules c) (1 ∷ 2 ∷ 3 ∷ []) refl refl

-- ---- the file

-- block 1, the blocks of n cells and those of m parents
abbrev pub head_bytes : (n m M : ℕ) → List ℕ
head_bytes n m M = block_bytes 1 (512 ∷ n ∷ m ∷ M ∷ [])

abbrev pub cell_bytes : ℕ → Lists → List ℕ
cell_bytes n f = table_bytes cell_table n (λ i j. at (cell_words f i) j) 2 (cell_blocks n)

abbrev pub parent_bytes : ℕ → ℕ → Lists → List ℕ
parent_bytes n m f = table_bytes list_table m (λ i j. at f.parents i) (2 + cell_blocks n) (parent_blocks m)

module _ (f : Lists) (M : ℕ) where
  abbrev ws : ℕ → List ℕ
  ws = field_words f M

  abbrev k : ℕ
  k = cell_blocks (cells f)

  -- the file of a field, by these
  parts : field_bytes f M ≡ head_bytes (cells f) (nodes f) M ++ (cell_bytes (cells f) f ++ parent_bytes (cells f) (nodes f) f)
  unfolding field_bytes file_bytes field_words
  parts =
      table-file list_table list_fits (nodes f) (λ i j. at f.parents i) ws (1 + k) (2 + k) (parent_blocks (nodes f)) (omega arith) (λ q l. parents-at f M q)
      ∙ ap (λ x. x ++ parent_bytes (cells f) (nodes f) f) (table-file cell_table cell_fits (cells f) (λ i j. at (cell_words f i) j) ws 1 2 k refl (cells_at f M))
      ∙ append_assoc (head_bytes (cells f) (nodes f) M) (cell_bytes (cells f) f) (parent_bytes (cells f) (nodes f) f)

module _ (n m : ℕ) (s : Lists) (r : Room n m s) where
  abbrev f : Lists
  f = fronts n m s

  cell_same : (i : ℕ) → i < n → cell_words f i ≡ cell_words s i
  cell_same i l =
      rw (
        get_or-take n s.targets i (pos 0) l,
        get_or-take n s.lows i 0 l,
        get_or-take n s.highs i 0 l,
        get_or-take n s.safe_lows i 0 l,
        get_or-take n s.safe_highs i 0 l,
        get_or-take n s.weights i 0 l,
      )

  -- the words of the field are those of the lists that it is taken from
  pub field-parts : (M : ℕ) → field_bytes f M ≡ head_bytes n m M ++ (cell_bytes n s ++ parent_bytes n m s)
  field-parts M =
      parts f M
      ∙ ap₂ (λ x y. head_bytes x y M ++ (cell_bytes x f ++ parent_bytes x y f)) (length-take-le n s.targets r.targets) (length-take-le m s.parents r.parents)
      ∙ ap₂ (λ x y. head_bytes n m M ++ (x ++ y))
      (table_bytes-ext cell_table cell_fits n (λ i j. at (cell_words f i) j) (λ i j. at (cell_words s i) j) (λ i j l h. ap (λ x. at x j) (cell_same i l)) 2 (cell_blocks n))
      (table_bytes-ext list_table list_fits m (λ i j. at f.parents i) (λ i j. at s.parents i) (λ i j l h. get_or-take m s.parents i 0 l) (2 + cell_blocks n) (parent_blocks m))

  -- as the code writes them
  pub field-written : (M : ℕ) (d : List ℕ) → written (written (written d 0 (head_bytes n m M)) (512 * (2 - 1)) (cell_bytes n s)) (512 * (2 + cell_blocks n - 1)) (parent_bytes n m s) ≡ written d 0 (field_bytes f M)
  field-written M d =
      let h : List ℕ = head_bytes n m M in
      let c : List ℕ = cell_bytes n s in
      let p : List ℕ = parent_bytes n m s in
      let end : ℕ = 512 * (2 + cell_blocks n - 1) in
      let a : length h ≡ 512 = length-block_bytes 1 (512 ∷ n ∷ m ∷ M ∷ []) in
      let b : length c ≡ 512 * cell_blocks n = length-table_bytes cell_table cell_fits n (λ i j. at (cell_words s i) j) 2 (cell_blocks n) in
      ap (λ x. written x end p) (written_on d h c 0 512 (omega arith) (omega (arith, a)))
      ∙ written_on d (h ++ c) p 0 end (omega arith) (omega (arith, length-append h c, a, b))
      ∙ ap (written d 0) (append_assoc h c p ∙ sym (field-parts M))
