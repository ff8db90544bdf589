-- A buffer with a book at its front: one that was written there, and one that passed its checks. Assumes nothing.
use mathlib.Core.Path.{◌≡◌, refl, sym, ◌∙◌, ap, subst}
use mathlib.Core.List.{List}
use Prim.Native.Nat.{ℕ, ◌+◌, ◌*◌, ◌/◌, ◌≤◌}
use native.Mathlib.Omega.{arith}
use lib.ListN.{length, take, drop}
use lib.Seq.{take_at, length-take-le}
use Rattle.numbers.specs.Lists.{written}
use Rattle.numbers.proofs.PartLaws.{length-kept}
use Rattle.blocks.specs.Words.{Bytes}
use Rattle.blocks.proofs.WordLaws.{bytes-append, bytes-part, bytes_drop}
use Rattle.blocks.proofs.FileLaws.{file_bytes-bytes}
use Rattle.book_spec.specs.Book.{Book, count, WellFormed, book_blocks, book_words, book_bytes, book_of, max_bytes}
use Rattle.book_spec.specs.ReadBook.{BookFits}
use Rattle.book_spec.specs.LentBook.{HasBook}
use Rattle.book_spec.proofs.BackLaws.{few-blocks, length-book_bytes, book-back}
use Rattle.book_spec.proofs.MeansLaws.{read-formed, read_same, read-blocks}

pub book_bytes-bytes : (B : Book) → Bytes (book_bytes B)
unfolding book_bytes
book_bytes-bytes B = file_bytes-bytes (book_words B) (book_blocks (count B))

-- ---- a book that was written to the front of a buffer

module _ (buffer : List ℕ) (B : Book) (r : max_bytes ≤ length buffer) (y : Bytes buffer) (g : WellFormed B) where
  size : length (book_bytes B) ≤ max_bytes
  size = omega (arith, length-book_bytes B g, few-blocks B g)

  written-bytes : Bytes (written buffer 0 (book_bytes B))
  unfolding written
  written-bytes = bytes-append (book_bytes B) (drop (0 + length (book_bytes B)) buffer) (book_bytes-bytes B) (bytes_drop (0 + length (book_bytes B)) buffer y)

  written-front : take (512 * book_blocks (count B)) (written buffer 0 (book_bytes B)) ≡ book_bytes B
  unfolding written
  written-front = take_at (book_bytes B) (drop (0 + length (book_bytes B)) buffer) (512 * book_blocks (count B)) (length-book_bytes B g)

  pub has-written : HasBook (written buffer 0 (book_bytes B)) (512 * book_blocks (count B)) B
  has-written =
      record {
        room = omega (arith, length-kept buffer 0 (book_bytes B) (omega (arith, size)));
        bytes = written-bytes;
        formed = g;
        size = refl;
        front = written-front;
      }

-- what is read off it is the book
pub has-read : {buffer : List ℕ} {l : ℕ} {B : Book} → HasBook buffer l B → book_of (take l buffer) ≡ B
has-read {B = B} h = ap book_of h.front ∙ book-back B h.formed

-- a book that passed its checks
pub has-fits : (buffer : List ℕ) (l : ℕ) → max_bytes ≤ length buffer → Bytes buffer → BookFits l (take l buffer) → HasBook buffer l (book_of (take l buffer))
has-fits buffer l r y f =
    let n : length (take l buffer) ≡ l = length-take-le l buffer (omega (arith, f.whole, f.few)) in
    let g : BookFits (length (take l buffer)) (take l buffer) = subst (λ x. BookFits x (take l buffer)) (sym n) f in
    let z : Bytes (take l buffer) = bytes-part l 0 buffer y in
    record {
      room = r;
      bytes = y;
      formed = read-formed (take l buffer) z g;
      size = omega (arith, f.whole, n, ap (λ x. x / 512) n, read-blocks (take l buffer) z g);
      front = read_same (take l buffer) z g;
    }
