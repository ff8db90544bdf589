-- Laws of files of blocks: how a file is put together and taken apart, and that every block passes exactly if the file is the bytes of some
-- words. Assumes nothing.
use Rattle.std.specs.Prelude.{Ok}
use Rattle.std.proofs.Common.{◌≡◌, ℕ, zero, suc, ◌+◌, ◌-◌, ◌*◌, ◌%◌, ◌^◌, ◌<◌, ◌≤◌, min, ◌↔◌, List, ◌++◌, length, take, drop, sym, refl, ap, ◌∙◌, subst, ap₂, sub-one, arith, length-append, length-drop, length-take-le, take_all, ext_get_or, take-add, drop_at}
use native.Mathlib.Decide.{dec_lt, ℕ_discrete}
use lib.Seq.{take-append-le, drop-append-le}
use Rattle.numbers.specs.Lists.{at, list_to}
use Rattle.numbers.specs.Checks.{each_from, Decides, rule, rule_for}
use Rattle.numbers.proofs.TestLaws.{and-means, lt-means, le-means, eq-means}
use Rattle.numbers.proofs.ListLaws.{length-list_to, get_d-list_to}
use Rattle.numbers.proofs.PartLaws.{take_min, drop-take}
use Rattle.numbers.proofs.CheckLaws.{decides-for, decides-unless, each-passes}
use Rattle.blocks.specs.Words.{word_at, Bytes, Words}
use Rattle.blocks.specs.Blocks.{block_bytes, file_bytes, block_of, payload_of, word_of, payload_word, check_block, SoundBlock, SpareZero, IsFile}
use Rattle.blocks.specs.Files.{check_file_length, FileLength, check_block_count, check_mark}
use Rattle.blocks.proofs.WordLaws.{bytes-append}
use Rattle.blocks.proofs.BlockLaws.{has_block-in, block-word, head_word-suc, length-block_bytes, block_bytes-bytes, written-word, block-fits, block-passes, own-small, own_same}

-- ---- the checks of a file as a whole

pub length-decides : (most l : ℕ) → Decides (check_file_length most l) (rule 14 (FileLength most l))
unfolding check_file_length
length-decides most l = decides-unless _ 14 (and-means (lt-means 0 l) (and-means (le-means l most) (eq-means (l % 512) 0)))

pub blocks-decides : (l k : ℕ) → Decides (check_block_count l k) (rule 14 (l ≡ 512 * k))
unfolding check_block_count
blocks-decides l k = decides-unless _ 14 (eq-means l (512 * k))

pub mark-decides : (file : List ℕ) → Decides (check_mark file) (rule_for 16 1 (payload_word file 1 0 ≡ 512))
unfolding check_mark
mark-decides file = decides-for _ 16 1 (eq-means (payload_word file 1 0) 512)

-- the blocks after the first, in turn
pub later-fits : (file : List ℕ) (used : ℕ → ℕ) → ((b : ℕ) → used b ≤ 125) → (k : ℕ) → (each_from (check_block file used) 2 (k - 1) ≡ Ok tt) ↔ ((b : ℕ) → 2 ≤ b → b ≤ k → SoundBlock (block_of file b) b × SpareZero file (used b) b)
later-fits file used u k =
    let t = each-passes (check_block file used) 2 (k - 1) in
    (λ e b l h. (block-fits file used b (u b)).0 (t.0 e b l (omega arith)), λ f. t.1 (λ b l h. (block-fits file used b (u b)).1 (f b l (omega arith))))

-- what holds of block 1 and of each later one holds of each
pub each-block : (P : ℕ → Type 0) (k : ℕ) → P 1 → ((b : ℕ) → 2 ≤ b → b ≤ k → P b) → (b : ℕ) → 0 < b → b ≤ k → P b
each-block P k one later b z l = go (dec_lt b 2)
  where
    go : Dec (b < 2) → P b
    go (yes h) = let e : 1 ≡ b = omega arith in subst P e one
    go (no h) = later b (omega arith) l

-- ---- the bytes of a file

pub length-file_bytes : (ws : ℕ → List ℕ) (k : ℕ) → length (file_bytes ws k) ≡ 512 * k
unfolding file_bytes
length-file_bytes ws zero = refl
length-file_bytes ws (suc k) =
    length-append (file_bytes ws k) (block_bytes (suc k) (ws (suc k)))
    ∙ omega (arith, length-file_bytes ws k, length-block_bytes (suc k) (ws (suc k)))

pub file_bytes-bytes : (ws : ℕ → List ℕ) (k : ℕ) → Bytes (file_bytes ws k)
unfolding file_bytes
file_bytes-bytes ws zero = λ i. omega arith
file_bytes-bytes ws (suc k) = bytes-append (file_bytes ws k) (block_bytes (suc k) (ws (suc k))) (file_bytes-bytes ws k) (block_bytes-bytes (suc k) (ws (suc k)))

-- one block more
pub file_bytes-next : (ws : ℕ → List ℕ) (k : ℕ) → file_bytes ws (suc k) ≡ file_bytes ws k ++ block_bytes (suc k) (ws (suc k))
unfolding file_bytes
file_bytes-next ws k = refl

-- files agree where the words of their blocks do
pub file_bytes-ext : (v w : ℕ → List ℕ) (k : ℕ) → ((b : ℕ) → 0 < b → b ≤ k → v b ≡ w b) → file_bytes v k ≡ file_bytes w k
unfolding file_bytes
file_bytes-ext v w zero h = refl
file_bytes-ext v w (suc k) h = ap₂ (λ p q. p ++ block_bytes (suc k) q) (file_bytes-ext v w k (λ b z l. h b z (omega arith))) (h (suc k) (omega arith) (omega arith))

front : (w : ℕ → List ℕ) (q d : ℕ) → take (512 * q) (file_bytes w (d + q)) ≡ file_bytes w q
front w q zero = let e : 0 + q ≡ q = omega arith in rw e (take_all (512 * q) (file_bytes w q) (omega (arith, length-file_bytes w q)))
front w q (suc d) =
    let e : suc d + q ≡ suc (d + q) = omega arith in
    ap (λ x. take (512 * q) (file_bytes w x)) e
    ∙ ap (take (512 * q)) (file_bytes-next w (d + q))
    ∙ take-append-le (512 * q) (file_bytes w (d + q)) (block_bytes (suc (d + q)) (w (suc (d + q)))) (omega (arith, length-file_bytes w (d + q)))
    ∙ front w q d

-- the first q blocks
pub file_bytes-front : (w : ℕ → List ℕ) (q k : ℕ) → q ≤ k → take (512 * q) (file_bytes w k) ≡ file_bytes w q
file_bytes-front w q k h = let e : k ≡ (k - q) + q = omega arith in ap (λ x. take (512 * q) (file_bytes w x)) e ∙ front w q (k - q)

-- ---- bytes are those of words where each block is

pub file-front : (file : List ℕ) (w : ℕ → List ℕ) (k : ℕ) → 512 * k ≤ length file → ((b : ℕ) → 0 < b → b ≤ k → block_of file b ≡ block_bytes b (w b)) → take (512 * k) file ≡ file_bytes w k
unfolding file_bytes
file-front file w zero l h = refl
file-front file w (suc k) l h =
    let m : 512 * suc k ≡ 512 * k + 512 = omega arith in
    rw (m, take-add (512 * k) 512 file) (ap₂ (λ p q. p ++ q) (file-front file w k (omega arith) (λ b z j. h b z (omega arith))) (block ∙ h (suc k) (omega arith) (omega arith)))
  where
    block : take 512 (drop (512 * k) file) ≡ block_of file (suc k)
    block = unfold block_of in (let e : suc k - 1 ≡ k = omega arith in rw (has_block-in file (suc k) (omega arith) l, e))

pub file-whole : (file : List ℕ) (w : ℕ → List ℕ) (k : ℕ) → length file ≡ 512 * k → ((b : ℕ) → 0 < b → b ≤ k → block_of file b ≡ block_bytes b (w b)) → file ≡ file_bytes w k
file-whole file w k e h = sym (take_all (512 * k) file (omega arith)) ∙ file-front file w k (omega arith) h

-- a word of a file at the front of a buffer
pub front-word : (buffer : List ℕ) (l b j : ℕ) → 0 < b → 512 * b ≤ l → l ≤ length buffer → payload_word (take l buffer) b j ≡ payload_word buffer b j
unfolding payload_word payload_of
front-word buffer l b j z h m =
    let from : ℕ = 512 * (b - 1) + 4 in
    let n : length (take l buffer) ≡ l = length-take-le l buffer m in
    let e : min 500 (l - from) ≡ 500 = omega arith in
    ap (λ p. word_at p (4 * j))
    (rw (has_block-in (take l buffer) b z (omega arith), has_block-in buffer b z (omega arith))
    (ap (take 500) (drop-take from l buffer) ∙ take_min 500 (l - from) (drop from buffer) ∙ ap (λ x. take x (drop from buffer)) e))

-- ---- the blocks of a file that was written

cut : (ws : ℕ → List ℕ) (k b : ℕ) → b < k → take 512 (drop (512 * b) (file_bytes ws k)) ≡ block_bytes (suc b) (ws (suc b))
unfolding file_bytes
cut ws zero b l = absurd (omega arith)
cut ws (suc k) b l = go (ℕ_discrete b k) (λ m. cut ws k b m)
  where
    go : Dec (b ≡ k) → (b < k → take 512 (drop (512 * b) (file_bytes ws k)) ≡ block_bytes (suc b) (ws (suc b))) → take 512 (drop (512 * b) (file_bytes ws k ++ block_bytes (suc k) (ws (suc k)))) ≡ block_bytes (suc b) (ws (suc b))
    go (yes e) r =
        let x : List ℕ = block_bytes (suc k) (ws (suc k)) in
        ap (take 512) (drop_at (file_bytes ws k) x (512 * b) (omega (arith, length-file_bytes ws k)))
        ∙ take_all 512 x (omega (arith, length-block_bytes (suc k) (ws (suc k))))
        ∙ ap (λ i. block_bytes (suc i) (ws (suc i))) (sym e)
    go (no e) r =
        let f : List ℕ = file_bytes ws k in
        let x : List ℕ = block_bytes (suc k) (ws (suc k)) in
        ap (take 512) (drop-append-le (512 * b) f x (omega (arith, length-file_bytes ws k)))
        ∙ take-append-le 512 (drop (512 * b) f) x (omega (arith, length-drop (512 * b) f, length-file_bytes ws k))
        ∙ r (omega arith)

pub file-block : (ws : ℕ → List ℕ) (k b : ℕ) → 0 < b → b ≤ k → block_of (file_bytes ws k) b ≡ block_bytes b (ws b)
unfolding block_of
file-block ws k zero z l = absurd (omega arith)
file-block ws k (suc b) z l = rw (has_block-in (file_bytes ws k) (suc b) z (omega (arith, length-file_bytes ws k)), sub-one) (cut ws k b (omega arith))

pub file-word : (ws : ℕ → List ℕ) (k b j : ℕ) → 0 < b → b ≤ k → b < 2 ^ 32 → j < 125 → Words (ws b) → payload_word (file_bytes ws k) b j ≡ at (ws b) j
file-word ws k b j z l s m w =
    block-word (file_bytes ws k) b j z (omega (arith, length-file_bytes ws k)) m
    ∙ ap (λ x. word_of x (suc j)) (file-block ws k b z l)
    ∙ written-word b (ws b) (suc j) s w (omega arith)
    ∙ head_word-suc b (ws b) j

pub file-passes : (ws : ℕ → List ℕ) (used : ℕ → ℕ) (k b : ℕ) → 0 < b → b ≤ k → b < 2 ^ 32 → used b ≤ 125 → length (ws b) ≡ used b → Words (ws b) → check_block (file_bytes ws k) used b ≡ Ok tt
file-passes ws used k b z l s u n w =
    block-passes (file_bytes ws k) used b z s (omega (arith, length-file_bytes ws k)) u
    (record { words = ws b; count = n; fit = w; same = file-block ws k b z l })

-- ---- every block passes exactly if the file is the bytes of some words

module _ (file : List ℕ) (used : ℕ → ℕ) (k : ℕ) (s : k < 2 ^ 32) (u : (b : ℕ) → used b ≤ 125) where
  -- the words of a file are those that are read from it
  module _ (i : IsFile file used k) (b : ℕ) (z : 0 < b) (l : b ≤ k) where
    pub words-read : (j : ℕ) → j < 125 → payload_word file b j ≡ at (i.words b) j
    words-read j m =
        ap (λ x. payload_word x b j) i.same
        ∙ file-word i.words k b j z l (omega arith) m (i.fit b z l)

    pub words-own : i.words b ≡ list_to (used b) (payload_word file b)
    words-own =
        ext_get_or 0 (i.words b) (list_to (used b) (payload_word file b)) (i.count b z l ∙ sym (length-list_to (used b) (payload_word file b)))
        (λ j m.
        let h : j < used b = omega (arith, i.count b z l) in
        sym (get_d-list_to (used b) (payload_word file b) j 0 h ∙ words-read j (omega (arith, u b))))

    pub words-pass : check_block file used b ≡ Ok tt
    words-pass = ap (λ x. check_block x used b) i.same ∙ file-passes i.words used k b z l (omega arith) (u b) (i.count b z l) (i.fit b z l)

  -- so a file is the bytes of any words that agree with them
  pub file-own : IsFile file used k → (ws : ℕ → List ℕ) → ((b : ℕ) → 0 < b → b ≤ k → ws b ≡ list_to (used b) (payload_word file b)) → file ≡ file_bytes ws k
  file-own i ws h = i.same ∙ file_bytes-ext i.words ws k (λ b z l. words-own i b z l ∙ sym (h b z l))

  module _ (y : Bytes file) (e : length file ≡ 512 * k) where
    own-file : ((b : ℕ) → 0 < b → b ≤ k → SoundBlock (block_of file b) b × SpareZero file (used b) b) → IsFile file used k
    own-file h =
        record {
          words = λ b. list_to (used b) (payload_word file b);
          count = λ b z l. length-list_to (used b) (payload_word file b);
          fit = λ b z l. own-small file (used b) b y z (omega arith);
          same = file-whole file (λ b. list_to (used b) (payload_word file b)) k e (λ b z l. let f = h b z l in own_same file (used b) b y z (omega arith) f.0 f.1);
        }

    -- by each block's check
    pub file-means : ((b : ℕ) → 0 < b → b ≤ k → check_block file used b ≡ Ok tt) ↔ IsFile file used k
    file-means = (λ q. own-file (λ b z l. (block-fits file used b (u b)).0 (q b z l)), words-pass)

    -- by what the checks mean
    pub file_fits : ((b : ℕ) → 0 < b → b ≤ k → SoundBlock (block_of file b) b × SpareZero file (used b) b) ↔ IsFile file used k
    file_fits = (own-file, λ i b z l. (block-fits file used b (u b)).0 (words-pass i b z l))

    -- by the verdict on the blocks in turn
    pub file-each : (each_from (check_block file used) 1 k ≡ Ok tt) ↔ IsFile file used k
    file-each =
        let t = each-passes (check_block file used) 1 k in
        (λ q. file-means.0 (λ b z l. t.0 q b z (omega arith)), λ i. t.1 (λ b z l. words-pass i b z (omega arith)))
