-- Answer files both ways: a file that is read is the bytes of what it holds, and a file that is written is read back. Assumes nothing.
use Rattle.std.specs.Prelude.{Ok}
use mathlib.Core.Path.{◌≡◌, refl, sym, ◌∙◌, ap, ap₂, subst}
use Rattle.files_spec.specs.declared.Repaired.{Repaired}
use mathlib.Core.Bool.{Bool, true, false, cond}
use mathlib.Core.List.{List}
use Prim.Native.Nat.{ℕ, zero, suc, ◌+◌, ◌*◌, ◌-◌, ◌^◌, ◌≤◌, ◌<◌}
use native.Mathlib.Omega.{arith}
use lib.Dec.{leb}
use lib.ListN.{length, take}
use lib.Seq.{length-take-le, get_or-take, take_all}
use Rattle.numbers.specs.Sums.{ℕ_adds, sum_to}
use Rattle.numbers.specs.Lists.{at, list_to, written, sum}
use Rattle.numbers.specs.Checks.{Answered, answered, after}
use Rattle.numbers.proofs.CheckLaws.{answered-accepted}
use Rattle.numbers.proofs.ListLaws.{get_d-list_to}
use Rattle.numbers.proofs.PartLaws.{front-written, written-own, length-kept}
use Rattle.blocks.specs.Words.{Bytes, Words, low_word, high_word, two_words}
use Rattle.blocks.specs.Blocks.{block_of, payload_word, SoundBlock, SpareZero, IsFile}
use Rattle.block_tables.specs.Tables.{table_used, table_word, list_table}
use Rattle.blocks.proofs.WordLaws.{words-list_to, two-words-back, low-word-fits, high-word-fits, low-word-back, high-word-back, two-words-fit}
use Rattle.blocks.proofs.BlockLaws.{payload_word-small}
use Rattle.blocks.proofs.FileLaws.{length-file_bytes, file_bytes-bytes, file_bytes-ext, each-block, file-word, file_fits, file-own}
use Rattle.block_tables.proofs.TableLaws.{length-table_words, table_words-small, table_words-ext, table-back, table-own, list_fits}
use Rattle.qlt_spec.specs.declared.Repair.{Repair}
use Rattle.files_spec.specs.AnswerFile.{answer_blocks, head_used, answer_head, mass_block, answer_words, answer_bytes, answer_used, mass_word, AnswerTyped}
use Rattle.files_spec.specs.WriteAnswer.{WriteCall, write_call, write_verdict, WriteFits, WriteContract}
use Rattle.files_spec.specs.ReadAnswer.{answer_cells, answer_repair, answer_masses, answer_read_verdict, AnswerReadFits, answer_of, AnswerReadContract}
use Rattle.files_spec.specs.Trip.{AnswerReading, AnswerWriting, AnswerTrip}
use Rattle.files_spec.proofs.WriteLaws.{write-accepts, sum-part, mass_words}
use Rattle.files_spec.proofs.BackLaws.{list_back}
use Rattle.files_spec.proofs.ReadAnswerLaws.{answer-used-small, used-masses, length-masses, answer-read-accepts, answer-read-done}

-- ---- what is written is read back

length-answer_bytes : (n : ℕ) (r : Repair) (masses : List ℕ) → length (answer_bytes n r masses) ≡ 512 * answer_blocks n
unfolding answer_bytes
length-answer_bytes n r masses = length-file_bytes (answer_words n r masses) (answer_blocks n)

module _ (n : ℕ) (r : Repair) (masses : List ℕ) (t : AnswerTyped r masses) (few : n ≤ 512) where
  abbrev ws : ℕ → List ℕ
  ws = answer_words n r masses

  abbrev file : List ℕ
  file = answer_bytes n r masses

  abbrev k : ℕ
  k = answer_blocks n

  few-blocks : k < 2 ^ 32
  few-blocks = omega arith

  -- each block has as many words as it uses, and they fit
  count : (b : ℕ) → length (ws b) ≡ answer_used n b
  unfolding answer_words answer_used
  count b = go (leb b 1)
    where
      go : (p : Bool) → length (cond p (answer_head n r) (mass_block n masses (b - 2))) ≡ cond p head_used (table_used list_table n (b - 2))
      go true = refl
      go false = length-table_words list_table list_fits n (λ i j. at masses i) (b - 2)

  head_small : Words (answer_head n r)
  head_small zero = omega arith
  head_small (suc zero) = omega arith
  head_small (suc (suc zero)) = t.outcome_word
  head_small (suc (suc (suc zero))) = t.total_word
  head_small (suc (suc (suc (suc zero)))) = low-word-fits r.change
  head_small (suc (suc (suc (suc (suc zero))))) = high-word-fits r.change t.change_words
  head_small (suc (suc (suc (suc (suc (suc zero)))))) = low-word-fits r.shared
  head_small (suc (suc (suc (suc (suc (suc (suc zero))))))) = high-word-fits r.shared t.shared_words
  head_small (suc (suc (suc (suc (suc (suc (suc (suc i)))))))) = omega arith

  small : (b : ℕ) → Words (ws b)
  unfolding answer_words
  small b = go (leb b 1)
    where
      go : (p : Bool) → Words (cond p (answer_head n r) (mass_block n masses (b - 2)))
      go true = head_small
      go false = table_words-small list_table list_fits n (λ i j. at masses i) (λ i j l h. t.mass_words i) (b - 2)

  is-file : IsFile file (answer_used n) k
  unfolding answer_bytes
  is-file = record { words = ws; count = λ b z l. count b; fit = λ b z l. small b; same = refl }

  word : (b j : ℕ) → 0 < b → b ≤ k → j < 125 → payload_word file b j ≡ at (ws b) j
  unfolding answer_bytes
  word b j z l m = file-word ws k b j z l (omega arith) m (small b)

  -- block 1
  mark-back : payload_word file 1 0 ≡ 512
  unfolding answer_words
  mark-back = word 1 0 (omega arith) (omega arith) (omega arith)

  pub cells-back : answer_cells file ≡ n
  unfolding answer_words
  cells-back = word 1 1 (omega arith) (omega arith) (omega arith)

  -- words j and j + 1 give back the number of 64 bits whose words they are
  number-back : (j x : ℕ) → j < 124 → at (answer_head n r) j ≡ low_word x → at (answer_head n r) (suc j) ≡ high_word x → two_words (payload_word file 1 j) (payload_word file 1 (suc j)) ≡ x
  unfolding answer_words
  number-back j x m low high =
      let l : payload_word file 1 j ≡ low_word x = word 1 j (omega arith) (omega arith) (omega arith) ∙ low in
      let h : payload_word file 1 (suc j) ≡ high_word x = word 1 (suc j) (omega arith) (omega arith) (omega arith) ∙ high in
      ap₂ two_words l h ∙ two-words-back x

  pub repair-back : answer_repair file ≡ r
  unfolding answer_words
  repair-back =
      let o : payload_word file 1 2 ≡ r.outcome = word 1 2 (omega arith) (omega arith) (omega arith) in
      let m : payload_word file 1 3 ≡ r.total = word 1 3 (omega arith) (omega arith) (omega arith) in
      let c : two_words (payload_word file 1 4) (payload_word file 1 5) ≡ r.change = number-back 4 r.change (omega arith) refl refl in
      let s : two_words (payload_word file 1 6) (payload_word file 1 7) ≡ r.shared = number-back 6 r.shared (omega arith) refl refl in
      rw (o, m, c, s)

  -- the masses
  module _ (long : n ≤ length masses) where
    mass-back : (i : ℕ) → i < n → mass_word file i ≡ at masses i
    unfolding answer_bytes
    mass-back i l = table-back list_table list_fits n (λ i j. at masses i) ws k 2 i 0 (λ q h. mass_words n r masses q) (λ i j l h. t.mass_words i) (omega arith) (omega arith) few-blocks l (omega arith)

    pub masses-back : answer_masses file ≡ take n masses
    unfolding answer_masses
    masses-back = rw cells-back (list_back (take n masses) 0 n (mass_word file) (length-take-le n masses long) (λ i l. mass-back i l ∙ sym (get_or-take n masses i 0 l)))

    -- the file fits
    pub answer-fits : (room : ℕ) → n ≤ room → 0 < n → r.outcome ≤ 2 → sum_to ℕ_adds n (at masses) ≡ r.total → AnswerReadFits file room
    answer-fits room h some good adds =
        let f = (file_fits file (answer_used n) k few-blocks (answer-used-small n) bytes whole).1 is-file in
        let one = f 1 (omega arith) (omega arith) in
        record {
          head =
              record {
                whole = whole ∙ ap (λ x. 512 * answer_blocks x) (sym cells-back);
                sound = one.0;
                mark = mark-back;
                outcome = omega (arith, ap (λ (x : Repair). x.outcome) repair-back);
                spare = unfold answer_used in one.1;
                some = omega (arith, cells-back);
                few = omega (arith, cells-back);
                room_for = omega (arith, cells-back);
              };
          sound = λ b l j. (f b (omega arith) (inside b j)).0;
          spare = λ b l j. subst (λ x. SpareZero file (answer_used x b) b) (sym cells-back) (f b (omega arith) (inside b j)).1;
          adds_up = ap sum masses-back ∙ sum-part n masses long ∙ adds ∙ sym (ap (λ (x : Repair). x.total) repair-back);
        }
      where
        bytes : Bytes file
        bytes = unfold answer_bytes in file_bytes-bytes ws k

        whole : length file ≡ 512 * k
        whole = length-answer_bytes n r masses

        inside : (b : ℕ) → b ≤ answer_blocks (answer_cells file) → b ≤ k
        inside b l = subst (λ x. b ≤ answer_blocks x) cells-back l

-- ---- what is accepted is the bytes of what it holds

module _ (file : List ℕ) (room : ℕ) (y : Bytes file) (f : AnswerReadFits file room) where
  abbrev N : ℕ
  N = answer_cells file

  word_small : (b j : ℕ) → payload_word file b j < 2 ^ 32
  word_small b j = payload_word-small file b j y

  -- words j and j + 1 of block 1 make a number of 64 bits, whose words they are
  abbrev number : ℕ → ℕ
  number j = two_words (payload_word file 1 j) (payload_word file 1 (suc j))

  number_fits : (j : ℕ) → number j < 2 ^ 64
  number_fits j = two-words-fit _ _ (word_small 1 j) (word_small 1 (suc j))

  low-own : (j : ℕ) → low_word (number j) ≡ payload_word file 1 j
  low-own j = low-word-back _ _ (word_small 1 j)

  high-own : (j : ℕ) → high_word (number j) ≡ payload_word file 1 (suc j)
  high-own j = high-word-back _ _ (word_small 1 j)

  head-own : answer_words N (answer_repair file) (answer_masses file) 1 ≡ list_to head_used (payload_word file 1)
  unfolding answer_words list_to
  head-own = rw (low-own 4, high-own 4, low-own 6, high-own 6, f.head.mark)

  mass-word : (i j : ℕ) → i < N → j < 1 → at (answer_masses file) i ≡ table_word list_table file 2 j i
  unfolding answer_masses
  mass-word i zero l h = get_d-list_to N (mass_word file) i 0 l
  mass-word i (suc j) l h = absurd (omega arith)

  masses-own : (q : ℕ) → answer_words N (answer_repair file) (answer_masses file) (2 + q) ≡ list_to (table_used list_table N q) (payload_word file (2 + q))
  masses-own q =
      mass_words N (answer_repair file) (answer_masses file) q
      ∙ table_words-ext list_table list_fits N (λ i j. at (answer_masses file) i) (λ i j. table_word list_table file 2 j i) q mass-word
      ∙ table-own list_table list_fits file 2 N q

  words-own : (b : ℕ) → 0 < b → b ≤ answer_blocks N → answer_words N (answer_repair file) (answer_masses file) b ≡ list_to (answer_used N b) (payload_word file b)
  words-own = each-block (λ b. Own b (answer_used N b)) (answer_blocks N) (unfold answer_used in head-own) later
    where
      Own : ℕ → ℕ → Type 0
      Own b u = answer_words N (answer_repair file) (answer_masses file) b ≡ list_to u (payload_word file b)

      later : (b : ℕ) → 2 ≤ b → b ≤ answer_blocks N → Own b (answer_used N b)
      later b h l =
          let e : 2 + (b - 2) ≡ b = omega arith in
          subst (Own b) (sym (used-masses N b h)) (subst (λ x. Own x (table_used list_table N (b - 2))) e (masses-own (b - 2)))

  blocks-fit : (b : ℕ) → 0 < b → b ≤ answer_blocks N → SoundBlock (block_of file b) b × SpareZero file (answer_used N b) b
  unfolding answer_used
  blocks-fit =
      each-block (λ b. SoundBlock (block_of file b) b × SpareZero file (answer_used N b) b) (answer_blocks N) (f.head.sound, f.head.spare) (λ b l j. (f.sound b l j, f.spare b l j))

  pub read_same : file ≡ answer_bytes N (answer_repair file) (answer_masses file)
  unfolding answer_bytes
  read_same =
      let few : answer_blocks N < 2 ^ 32 = omega (arith, f.head.few) in
      let u = answer-used-small N in
      let i = (file_fits file (answer_used N) (answer_blocks N) few u y f.head.whole).0 blocks-fit in
      file-own file (answer_used N) (answer_blocks N) few u i (answer_words N (answer_repair file) (answer_masses file)) words-own

  pub read-typed : AnswerTyped (answer_repair file) (answer_masses file)
  unfolding answer_masses table_word
  read-typed =
      record {
        outcome_word = word_small 1 2;
        total_word = word_small 1 3;
        change_words = number_fits 4;
        shared_words = number_fits 6;
        mass_words = words-list_to N (mass_word file) (λ i l. word_small _ _);
      }

-- the bytes are those of the first n masses
answer_bytes-front : (n : ℕ) (r : Repair) (ms vs : List ℕ) → take n ms ≡ vs → answer_bytes n r ms ≡ answer_bytes n r vs
unfolding answer_bytes
answer_bytes-front n r ms vs e =
    file_bytes-ext (answer_words n r ms) (answer_words n r vs) (answer_blocks n) (λ b z l. words b)
  where
    same : (i j : ℕ) → i < n → j < 1 → at ms i ≡ at vs i
    same i j l h = sym (get_or-take n ms i 0 l) ∙ ap (λ x. at x i) e

    words : (b : ℕ) → answer_words n r ms b ≡ answer_words n r vs b
    words b = unfold answer_words in ap (cond (leb b 1) (answer_head n r)) (table_words-ext list_table list_fits n (λ i j. at ms i) (λ i j. at vs i) (b - 2) same)

-- ---- the writer, from its contract alone

module _ {c : WriteCall} {answer : Answered ℕ} {buffer : List ℕ} (p : WriteContract c answer buffer) where
  -- a call that fits tells the length and writes the file
  pub write_done : WriteFits c → (answer ≡ Ok (512 * answer_blocks c.cells)) × (buffer ≡ written c.buffer 0 (answer_bytes c.cells c.repair c.masses))
  write_done w =
      let v = (write-accepts c).1 w in (
        p.answers ∙ ap (λ x. answered x (512 * answer_blocks c.cells)) v,
        p.writes ∙ ap (λ x. after x (written c.buffer 0 (answer_bytes c.cells c.repair c.masses)) c.buffer) v,
      )

  -- a call that told a length fits
  pub write-fitted : {l : ℕ} → answer ≡ Ok l → WriteFits c × (l ≡ 512 * answer_blocks c.cells)
  write-fitted {l} e =
      let d = answered-accepted (write_verdict c) l (512 * answer_blocks c.cells) (sym e ∙ p.answers) in
      ((write-accepts c).0 d.0, d.1)

-- ---- bytes that the writer left

module _ (file : List ℕ) (w : AnswerWriting file) where
  abbrev c : WriteCall
  c = w.call

  fitted : WriteFits c
  fitted = (write-fitted w.promised refl).0

  left : file ≡ answer_bytes c.cells c.repair c.masses
  left =
      let l : length (answer_bytes c.cells c.repair c.masses) ≡ length file =
      length-answer_bytes c.cells c.repair c.masses ∙ sym (write-fitted w.promised refl).1 in
      sym w.front ∙ ap (take (length file)) (write_done w.promised fitted).1 ∙ front-written c.buffer (answer_bytes c.cells c.repair c.masses) (length file) l

  left-cells : answer_cells file ≡ c.cells
  left-cells = ap answer_cells left ∙ cells-back c.cells c.repair c.masses w.promised.typed fitted.few

  left-repair : answer_repair file ≡ c.repair
  left-repair = ap answer_repair left ∙ repair-back c.cells c.repair c.masses w.promised.typed fitted.few

  left-masses : answer_masses file ≡ take c.cells c.masses
  left-masses = ap answer_masses left ∙ masses-back c.cells c.repair c.masses w.promised.typed fitted.few fitted.masses

  left-bytes : Bytes file
  left-bytes = subst Bytes (sym left) (unfold answer_bytes in file_bytes-bytes (answer_words c.cells c.repair c.masses) (answer_blocks c.cells))

  left-passes : (room : ℕ) → c.cells ≤ room → answer_read_verdict file room ≡ Ok tt
  left-passes room h =
      ap (λ x. answer_read_verdict x room) left
      ∙ (answer-read-accepts (answer_bytes c.cells c.repair c.masses) room).1
      (answer-fits c.cells c.repair c.masses w.promised.typed fitted.few fitted.masses room h fitted.some fitted.outcome fitted.adds_up)

  left-read : (masses : List ℕ) (answer : Answered Repaired) (masses' : List ℕ) → c.cells ≤ length masses → AnswerReadContract file masses answer masses'
      → (answer ≡ Ok (record { cells = c.cells; repair = c.repair })) × (masses' ≡ written masses 0 (take c.cells c.masses))
  left-read masses answer masses' h p =
      let v = left-passes (length masses) h in (
        p.answers ∙ ap (λ x. answered x (answer_of file)) v ∙ rw (left-cells, left-repair),
        p.writes ∙ ap (λ x. after x (written masses 0 (answer_masses file)) masses) v ∙ ap (written masses 0) left-masses,
      )

-- ---- both ways

module _ (file masses : List ℕ) where
  module _ (r : AnswerReading file masses) where
    abbrev n₀ : ℕ
    n₀ = answer_cells file

    read_fits : AnswerReadFits file (length masses)
    read_fits = (answer-read-done r.promised).0

    told : (r.cells ≡ n₀) × ((r.repair ≡ answer_repair file) × (r.masses' ≡ written masses 0 (answer_masses file)))
    told = (answer-read-done r.promised).1

    file-same : file ≡ answer_bytes n₀ (answer_repair file) (answer_masses file)
    file-same = read_same file (length masses) r.promised.bytes read_fits

    -- a list that starts with the masses gives the same file
    fits-again : (ms buffer : List ℕ) → n₀ ≤ length ms → take n₀ ms ≡ answer_masses file → length file ≤ length buffer → WriteFits (write_call n₀ (answer_repair file) ms buffer)
    fits-again ms buffer l e h =
        let f = read_fits.head in
        record {
          some = f.some;
          few = f.few;
          space = omega (arith, f.whole);
          masses = l;
          outcome = f.outcome;
          adds_up = sym (sum-part n₀ ms l) ∙ ap sum e ∙ read_fits.adds_up;
        }

    length-held : length (answer_masses file) ≡ n₀
    length-held = length-masses file

    again : (buffer : List ℕ) (answer : Answered ℕ) (buffer' : List ℕ) → length file ≤ length buffer
        → WriteContract (write_call r.cells r.repair r.masses' buffer) answer buffer'
        → (answer ≡ Ok (length file)) × (buffer' ≡ written buffer 0 file)
    again buffer answer buffer' h p =
        let f = read_fits.head in
        let ms : List ℕ = written masses 0 (answer_masses file) in
        let q : WriteContract (write_call n₀ (answer_repair file) ms buffer) answer buffer' = subst (λ x. WriteContract x answer buffer') (rw (told.0, told.1.0, told.1.1)) p in
        let l : n₀ ≤ length ms = omega (arith, length-kept masses 0 (answer_masses file) (omega (arith, length-held, f.room_for)), f.room_for) in
        let e : take n₀ ms ≡ answer_masses file = front-written masses (answer_masses file) n₀ length-held in
        let d = write_done q (fits-again ms buffer l e h) in (
          d.0 ∙ ap Ok (sym f.whole),
          d.1 ∙ ap (written buffer 0) (answer_bytes-front n₀ (answer_repair file) ms (answer_masses file) e ∙ sym file-same),
        )

    -- the call with what the file holds, into the file itself
    writing : AnswerWriting file
    writing =
        let f = read_fits.head in
        let ms : List ℕ = answer_masses file in
        let v = (write-accepts _).1 (fits-again ms file (omega (arith, length-held)) (take_all n₀ ms (omega (arith, length-held))) (omega arith)) in
        record {
          call = write_call n₀ (answer_repair file) ms file;
          buffer = file;
          promised =
              record {
                typed = read-typed file (length masses) r.promised.bytes read_fits;
                answers = ap Ok f.whole ∙ sym (ap (λ x. answered x (512 * answer_blocks n₀)) v);
                writes = sym (ap (λ x. after x (written file 0 (answer_bytes n₀ (answer_repair file) ms)) file) v ∙ ap (written file 0) (sym file-same) ∙ written-own file);
              };
          front = take_all (length file) file (omega arith);
        }

  reading : (w : AnswerWriting file) → answer_cells file ≤ length masses → AnswerReading file masses
  reading w room =
      let v = left-passes file w (length masses) (omega (arith, left-cells file w)) in
      record {
        cells = answer_cells file;
        repair = answer_repair file;
        masses' = written masses 0 (answer_masses file);
        promised =
            record {
              bytes = left-bytes file w;
              answers = sym (ap (λ x. answered x (answer_of file)) v);
              writes = sym (ap (λ x. after x (written masses 0 (answer_masses file)) masses) v);
            };
      }

pub answer-trip : (file masses : List ℕ) → AnswerTrip file masses
answer-trip file masses =
    record {
      same = (λ r. (writing file masses r, (read_fits file masses r).head.room_for), λ p. reading file masses p.0 p.1);
      returns = λ w answer masses' h p. left-read file w masses answer masses' h p;
      again = again file masses;
    }
