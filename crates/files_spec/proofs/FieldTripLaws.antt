-- Field files both ways: a file that is read is the bytes of the field that it holds, and a file that is written is read back. Assumes
-- nothing.
use Rattle.std.specs.Prelude.{Ok}
use mathlib.Core.Path.{◌≡◌, refl, sym, ◌∙◌, ap, ap₂, subst}
use Rattle.files_spec.specs.declared.Sizes.{Sizes}
use mathlib.Core.List.{List}
use Prim.Native.Nat.{ℕ, zero, suc, ◌+◌, ◌*◌, ◌-◌, ◌^◌, ◌≤◌, ◌<◌}
use native.Mathlib.Omega.{arith}
use native.Mathlib.Decide.{dec_lt}
use lib.IntN.{ℤ, pos, negsuc}
use lib.Signed.{◌≤ℤ◌}
use lib.ListN.{length, take, get_or-eq_default}
use lib.Seq.{take_all}
use Rattle.numbers.specs.Lists.{at, at_ℤ, list_to, written}
use Rattle.numbers.specs.Checks.{Answered, answered, after}
use Rattle.numbers.proofs.CheckLaws.{answered-accepted}
use Rattle.numbers.proofs.ListLaws.{length-list_to, get_d-list_to}
use Rattle.numbers.proofs.PartLaws.{front-written, written-own}
use Rattle.blocks.specs.Words.{Bytes, signed_word, word_signed}
use Rattle.blocks.specs.Blocks.{file_bytes, block_of, payload_word, SoundBlock, SpareZero}
use Rattle.block_tables.specs.Tables.{table_used, table_words, table_word, list_table}
use Rattle.blocks.proofs.WordLaws.{word-signed-back, word-signed-fits, words-list_to}
use Rattle.blocks.proofs.BlockLaws.{payload_word-small}
use Rattle.blocks.proofs.FileLaws.{length-file_bytes, file_bytes-bytes, each-block, file_fits, file-own}
use Rattle.block_tables.proofs.TableLaws.{table_words-ext, table-own, list_fits}
use Rattle.qlt_spec.specs.Field.{Lists, cells, nodes}
use Rattle.files_spec.specs.FieldFile.{cell_table, cell_blocks, field_blocks, cell_words, field_words, field_bytes, field_used, cell_word, parent_word, fronts, over_fronts, FieldTyped}
use Rattle.files_spec.specs.ReadField.{file_cells, file_nodes, file_total, read_verdict, Room, ReadFits, sizes_of, file_lists, ReadContract}
use Rattle.files_spec.specs.WriteField.{FieldWriteCall, field_write_call, field_write_verdict, FieldWriteFits, field_of, FieldWriteContract}
use Rattle.files_spec.specs.Stored.{Storable, FieldBack}
use Rattle.files_spec.specs.Trip.{FieldReading, FieldWriting, FieldTrip}
use Rattle.files_spec.proofs.ReadLaws.{cell_fits, used-small, used-cells, used-parents, read_done}
use Rattle.files_spec.proofs.BackLaws.{cells_at, parents-at, cells-back, nodes-back, total-back, field_back}
use Rattle.files_spec.proofs.FrontLaws.{Sized, held-sized, fronts-sized, over-room, own_room, fronts-over, fronts-own}
use Rattle.files_spec.proofs.WriteFieldLaws.{field-write-accepts}

-- ---- the field that a file holds

module _ (file : List ℕ) where
  abbrev n : ℕ
  n = file_cells file

  abbrev m : ℕ
  m = file_nodes file

  abbrev f : Lists
  f = file_lists file

  held-cells : cells f ≡ n
  held-cells = (held-sized file).targets

  held-nodes : nodes f ≡ m
  held-nodes = (held-sized file).parents

  -- its words are those of the file
  module _ (y : Bytes file) where
    small : (b k : ℕ) → payload_word file b k < 2 ^ 32
    small b k = payload_word-small file b k y

    word_small : (j i : ℕ) → cell_word file j i < 2 ^ 32
    unfolding table_word
    word_small j i = small _ _

    parent-small : (i : ℕ) → parent_word file n i < 2 ^ 32
    unfolding table_word
    parent-small i = small _ _

    held-cell : (i j : ℕ) → i < n → j < 6 → at (cell_words f i) j ≡ cell_word file j i
    unfolding file_lists
    held-cell i zero l h = ap signed_word (get_d-list_to n (λ i. word_signed (cell_word file 0 i)) i (pos 0) l) ∙ word-signed-back (cell_word file 0 i) (word_small 0 i)
    held-cell i (suc zero) l h = get_d-list_to n (cell_word file 1) i 0 l
    held-cell i (suc (suc zero)) l h = get_d-list_to n (cell_word file 2) i 0 l
    held-cell i (suc (suc (suc zero))) l h = get_d-list_to n (cell_word file 3) i 0 l
    held-cell i (suc (suc (suc (suc zero)))) l h = get_d-list_to n (cell_word file 4) i 0 l
    held-cell i (suc (suc (suc (suc (suc zero))))) l h = get_d-list_to n (cell_word file 5) i 0 l
    held-cell i (suc (suc (suc (suc (suc (suc j)))))) l h = absurd (omega arith)

    held-parent : (i : ℕ) → i < m → at f.parents i ≡ parent_word file n i
    unfolding file_lists
    held-parent i l = get_d-list_to m (parent_word file n) i 0 l

    held-target : (i : ℕ) → (negsuc 2147483647 ≤ℤ at_ℤ f.targets i) × (at_ℤ f.targets i ≤ℤ pos 2147483647)
    unfolding file_lists
    held-target i = go (dec_lt i n)
      where
        g : ℕ → ℤ
        g i = word_signed (cell_word file 0 i)

        go : Dec (i < n) → (negsuc 2147483647 ≤ℤ at_ℤ (list_to n g) i) × (at_ℤ (list_to n g) i ≤ℤ pos 2147483647)
        go (yes l) = rw (get_d-list_to n g i (pos 0) l) (word-signed-fits (cell_word file 0 i) (word_small 0 i))
        go (no l) = rw (get_or-eq_default (list_to n g) (pos 0) {n = i} (omega (arith, length-list_to n g))) (record { le = tt }, record { le = tt })

    pub held-typed : FieldTyped f (file_total file)
    unfolding file_lists
    held-typed =
        record {
          least = λ i. (held-target i).0;
          most = λ i. (held-target i).1;
          low_words = words-list_to n (cell_word file 1) (λ i l. word_small 1 i);
          high_words = words-list_to n (cell_word file 2) (λ i l. word_small 2 i);
          safe_low_words = words-list_to n (cell_word file 3) (λ i l. word_small 3 i);
          safe_high_words = words-list_to n (cell_word file 4) (λ i l. word_small 4 i);
          weight_words = words-list_to n (cell_word file 5) (λ i l. word_small 5 i);
          parent_words = words-list_to m (parent_word file n) (λ i l. parent-small i);
          total_word = small 1 3;
        }

    -- so the words of each block are the block's own
    module _ (mark : payload_word file 1 0 ≡ 512) where
      abbrev ws : ℕ → List ℕ
      ws = field_words f (file_total file)

      head-own : ws 1 ≡ list_to 4 (payload_word file 1)
      unfolding field_words list_to
      head-own = rw (held-cells, held-nodes, mark)

      cells-own : (k : ℕ) → k < cell_blocks n → ws (2 + k) ≡ list_to (table_used cell_table n k) (payload_word file (2 + k))
      cells-own k l =
          let v : ℕ → ℕ → ℕ = λ i j. at (cell_words f i) j in
          cells_at f (file_total file) k (rw held-cells l)
          ∙ ap (λ x. table_words cell_table x v k) held-cells
          ∙ table_words-ext cell_table cell_fits n v (λ i j. cell_word file j i) k held-cell
          ∙ table-own cell_table cell_fits file 2 n k

      parents-own : (k : ℕ) → ws (2 + cell_blocks n + k) ≡ list_to (table_used list_table m k) (payload_word file (2 + cell_blocks n + k))
      parents-own k =
          let v : ℕ → ℕ → ℕ = λ i j. at f.parents i in
          ap (λ x. ws (2 + cell_blocks x + k)) (sym held-cells)
          ∙ parents-at f (file_total file) k
          ∙ ap (λ x. table_words list_table x v k) held-nodes
          ∙ table_words-ext list_table list_fits m v (λ i j. table_word list_table file (2 + cell_blocks n) j i) k parent-word
          ∙ table-own list_table list_fits file (2 + cell_blocks n) m k
        where
          parent-word : (i j : ℕ) → i < m → j < 1 → at f.parents i ≡ table_word list_table file (2 + cell_blocks n) j i
          parent-word i zero l h = held-parent i l
          parent-word i (suc j) l h = absurd (omega arith)

      words-own : (b : ℕ) → 0 < b → b ≤ field_blocks n m → ws b ≡ list_to (field_used n m b) (payload_word file b)
      words-own b z l = go (dec_lt b 2) (dec_lt b (2 + cell_blocks n))
        where
          Own : ℕ → ℕ → Type 0
          Own b u = ws b ≡ list_to u (payload_word file b)

          go : Dec (b < 2) → Dec (b < 2 + cell_blocks n) → Own b (field_used n m b)
          go (yes h) q =
              let e : 1 ≡ b = omega arith in
              subst (λ x. Own x (field_used n m x)) e (unfold field_used in head-own)
          go (no h) (yes q) =
              let e : 2 + (b - 2) ≡ b = omega arith in
              subst (Own b) (sym (used-cells n m b (omega arith) q)) (subst (λ x. Own x (table_used cell_table n (b - 2))) e (cells-own (b - 2) (omega arith)))
          go (no h) (no q) =
              let e : 2 + cell_blocks n + (b - (2 + cell_blocks n)) ≡ b = omega arith in
              subst (Own b) (sym (used-parents n m b (omega arith))) (subst (λ x. Own x (table_used list_table m (b - (2 + cell_blocks n)))) e (parents-own (b - (2 + cell_blocks n))))

-- lists of a field's sizes, whose values fit their types, are those of a field that a file can hold
sized-storable : (n m : ℕ) (f : Lists) (M : ℕ) → Sized n m f → FieldTyped f M → 0 < n → n ≤ 512 → n ≤ m → m ≤ 1024 → Storable f M
sized-storable n m f M z t some few room most =
    record {
      some = omega (arith, z.targets);
      few = omega (arith, z.targets);
      nodes_room = omega (arith, z.targets, z.parents);
      nodes_few = omega (arith, z.parents);
      lows = z.lows ∙ sym z.targets;
      highs = z.highs ∙ sym z.targets;
      safe_lows = z.safe_lows ∙ sym z.targets;
      safe_highs = z.safe_highs ∙ sym z.targets;
      weights = z.weights ∙ sym z.targets;
      typed = t;
    }

-- ---- a file that is accepted is the bytes of the field that it holds

module _ (file : List ℕ) (s : Lists) (y : Bytes file) (r : ReadFits file s) where
  blocks-fit : (b : ℕ) → 0 < b → b ≤ field_blocks (file_cells file) (file_nodes file) → SoundBlock (block_of file b) b × SpareZero file (field_used (file_cells file) (file_nodes file) b) b
  unfolding field_used
  blocks-fit =
      each-block (λ b. SoundBlock (block_of file b) b × SpareZero file (field_used (file_cells file) (file_nodes file) b) b) (field_blocks (file_cells file) (file_nodes file))
      (r.head.sound, r.head.spare) (λ b l j. (r.sound b l j, r.spare b l j))

  few-blocks : field_blocks (file_cells file) (file_nodes file) < 2 ^ 32
  few-blocks = omega (arith, r.head.few, r.head.nodes_few)

  pub read_same : file ≡ field_bytes (file_lists file) (file_total file)
  unfolding field_bytes
  read_same =
      let u = used-small (file_cells file) (file_nodes file) in
      let i = (file_fits file (field_used (file_cells file) (file_nodes file)) (field_blocks (file_cells file) (file_nodes file)) few-blocks u y r.head.whole).0 blocks-fit in
      file-own file (field_used (file_cells file) (file_nodes file)) _ few-blocks u i (field_words (file_lists file) (file_total file)) (words-own file y r.head.mark)
      ∙ ap₂ (λ a b. file_bytes (field_words (file_lists file) (file_total file)) (field_blocks a b)) (sym (held-cells file)) (sym (held-nodes file))

-- ---- the writer, from its contract alone

length-field_bytes : (f : Lists) (M : ℕ) → length (field_bytes f M) ≡ 512 * field_blocks (cells f) (nodes f)
unfolding field_bytes
length-field_bytes f M = length-file_bytes (field_words f M) (field_blocks (cells f) (nodes f))

module _ {c : FieldWriteCall} {answer : Answered ℕ} {buffer : List ℕ} (p : FieldWriteContract c answer buffer) where
  -- a call that fits tells the length and writes the file
  pub write_done : FieldWriteFits c → (answer ≡ Ok (512 * field_blocks c.cells c.nodes)) × (buffer ≡ written c.buffer 0 (field_bytes (field_of c) c.total))
  write_done w =
      let v = (field-write-accepts c).1 w in (
        p.answers ∙ ap (λ x. answered x (512 * field_blocks c.cells c.nodes)) v,
        p.writes ∙ ap (λ x. after x (written c.buffer 0 (field_bytes (field_of c) c.total)) c.buffer) v,
      )

  -- a call that told a length fits
  pub write-fitted : {l : ℕ} → answer ≡ Ok l → FieldWriteFits c × (l ≡ 512 * field_blocks c.cells c.nodes)
  write-fitted {l} e =
      let d = answered-accepted (field_write_verdict c) l (512 * field_blocks c.cells c.nodes) (sym e ∙ p.answers) in
      ((field-write-accepts c).0 d.0, d.1)

-- the field of a call that fits is one that a file can hold
write-storable : (c : FieldWriteCall) → FieldTyped (field_of c) c.total → FieldWriteFits c → Storable (field_of c) c.total
write-storable c t w =
    sized-storable c.cells c.nodes (field_of c) c.total (fronts-sized c.cells c.nodes c.lists w.room) t w.some w.few w.nodes_room w.nodes_few

-- ---- bytes that the writer left

module _ (file : List ℕ) (w : FieldWriting file) where
  abbrev c : FieldWriteCall
  c = w.call

  abbrev g : Lists
  g = field_of c

  fitted : FieldWriteFits c
  fitted = (write-fitted w.promised refl).0

  sized : Sized c.cells c.nodes g
  sized = fronts-sized c.cells c.nodes c.lists fitted.room

  storable : Storable g c.total
  storable = write-storable c (w.promised.typed ((field-write-accepts c).1 fitted)) fitted

  left : file ≡ field_bytes g c.total
  left =
      let l : length (field_bytes g c.total) ≡ length file =
      length-field_bytes g c.total ∙ ap₂ (λ x y. 512 * field_blocks x y) sized.targets sized.parents ∙ sym (write-fitted w.promised refl).1 in
      sym w.front ∙ ap (take (length file)) (write_done w.promised fitted).1 ∙ front-written c.buffer (field_bytes g c.total) (length file) l

  left-cells : file_cells file ≡ c.cells
  left-cells = ap file_cells left ∙ cells-back g c.total storable ∙ sized.targets

  left-nodes : file_nodes file ≡ c.nodes
  left-nodes = ap file_nodes left ∙ nodes-back g c.total storable ∙ sized.parents

  left-total : file_total file ≡ c.total
  left-total = ap file_total left ∙ total-back g c.total storable

  module _ (s : Lists) (r : Room c.cells c.nodes s) where
    back : FieldBack g c.total s
    back = field_back g c.total storable s (rw (sized.targets, sized.parents) r)

    left-passes : read_verdict file s ≡ Ok tt
    left-passes = ap (λ x. read_verdict x s) left ∙ back.passes

    left-held : file_lists file ≡ g
    left-held = ap file_lists left ∙ back.held

    left-sizes : sizes_of file ≡ record { cells = c.cells; nodes = c.nodes; total = c.total }
    left-sizes = rw (left-cells, left-nodes, left-total)

    left-read : (answer : Answered Sizes) (t : Lists) → ReadContract file s answer t → (answer ≡ Ok (record { cells = c.cells; nodes = c.nodes; total = c.total })) × (t ≡ over_fronts s g)
    left-read answer t p = (
      p.answers ∙ ap₂ answered left-passes left-sizes,
      p.writes ∙ ap (λ x. after x (over_fronts s (file_lists file)) s) left-passes ∙ ap (over_fronts s) left-held,
    )

  left-bytes : Bytes file
  left-bytes = subst Bytes (sym left) (unfold field_bytes in file_bytes-bytes (field_words g c.total) (field_blocks (cells g) (nodes g)))

-- ---- both ways

module _ (file : List ℕ) (s : Lists) where
  -- what was read fits the writer, whatever the buffer, and is the field that the file holds
  module _ (r : FieldReading file s) where
    abbrev held : Lists
    held = file_lists file

    read_fits : ReadFits file s
    read_fits = (read_done r.promised).0

    told : (r.cells ≡ file_cells file) × ((r.nodes ≡ file_nodes file) × ((r.total ≡ file_total file) × (r.lists ≡ over_fronts s held)))
    told = (read_done r.promised).1

    file-same : file ≡ field_bytes held (file_total file)
    file-same = read_same file s r.promised.bytes read_fits

    -- a call of the writer with lists whose front is that field
    fits-again : (t : Lists) (buffer : List ℕ) → Room (file_cells file) (file_nodes file) t → length file ≤ length buffer → FieldWriteFits (field_write_call (file_cells file) (file_nodes file) (file_total file) t buffer)
    fits-again t buffer room h =
        let f = read_fits.head in
        record { some = f.some; few = f.few; nodes_room = f.nodes_room; nodes_few = f.nodes_few; room = room; space = omega (arith, f.whole) }

    again : (buffer : List ℕ) (answer : Answered ℕ) (buffer' : List ℕ) → length file ≤ length buffer
        → FieldWriteContract (field_write_call r.cells r.nodes r.total r.lists buffer) answer buffer'
        → (answer ≡ Ok (length file)) × (buffer' ≡ written buffer 0 file)
    again buffer answer buffer' h p =
        let f = read_fits.head in
        let t : Lists = over_fronts s held in
        let call : FieldWriteCall = field_write_call (file_cells file) (file_nodes file) (file_total file) t buffer in
        let q : FieldWriteContract call answer buffer' = subst (λ x. FieldWriteContract x answer buffer') (rw (told.0, told.1.0, told.1.1.0, told.1.1.1)) p in
        let d = write_done q (fits-again t buffer (over-room (file_cells file) (file_nodes file) s f.room held (held-sized file)) h) in (
          d.0 ∙ ap Ok (sym f.whole),
          d.1 ∙ ap (λ x. written buffer 0 (field_bytes x (file_total file))) (fronts-over (file_cells file) (file_nodes file) s held (held-sized file)) ∙ ap (written buffer 0) (sym file-same),
        )

    -- the call with that very field, into the file itself
    writing : FieldWriting file
    writing =
        let f = read_fits.head in
        let v = (field-write-accepts _).1 (fits-again held file (own_room (file_cells file) (file_nodes file) held (held-sized file)) (omega arith)) in
        let o : field_bytes (fronts (file_cells file) (file_nodes file) held) (file_total file) ≡ file =
        ap (λ x. field_bytes x (file_total file)) (fronts-own (file_cells file) (file_nodes file) held (held-sized file)) ∙ sym file-same in
        record {
          call = field_write_call (file_cells file) (file_nodes file) (file_total file) held file;
          buffer = file;
          promised =
              record {
                typed = λ e. subst (λ x. FieldTyped x (file_total file)) (sym (fronts-own (file_cells file) (file_nodes file) held (held-sized file))) (held-typed file r.promised.bytes);
                answers = ap Ok f.whole ∙ sym (ap (λ x. answered x (512 * field_blocks (file_cells file) (file_nodes file))) v);
                writes = sym (ap (λ x. after x (written file 0 (field_bytes (fronts (file_cells file) (file_nodes file) held) (file_total file))) file) v ∙ ap (written file 0) o ∙ written-own file);
              };
          front = take_all (length file) file (omega arith);
        }

  reading : (w : FieldWriting file) → Room (file_cells file) (file_nodes file) s → FieldReading file s
  reading w room =
      let here : Room w.call.cells w.call.nodes s = subst (λ k. Room w.call.cells k s) (left-nodes file w) (subst (λ k. Room k (file_nodes file) s) (left-cells file w) room) in
      let v = left-passes file w s here in
      record {
        cells = file_cells file;
        nodes = file_nodes file;
        total = file_total file;
        lists = over_fronts s (file_lists file);
        promised =
            record {
              bytes = left-bytes file w;
              answers = sym (ap (λ x. answered x (sizes_of file)) v);
              writes = sym (ap (λ x. after x (over_fronts s (file_lists file)) s) v);
            };
      }

pub field-trip : (file : List ℕ) (s : Lists) → FieldTrip file s
field-trip file s =
    record {
      same = (λ r. (writing file s r, (read_fits file s r).head.room), λ p. reading file s p.0 p.1);
      returns = λ w answer t room p. left-read file w s room answer t p;
      again = again file s;
    }
