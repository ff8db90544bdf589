-- A source book (ticket 12 of 02) as an opening total and records, its bytes, and the book read off bytes. Nothing here is a fold: word 3 i of a
-- block's payload is the total after i of its records. Assumes nothing.
use Rattle.std.specs.Prelude.{◌≡◌, cond, List, [], ◌∷◌, ◌++◌, ℕ, zero, suc, ◌+◌, ◌*◌, ◌-◌, ◌/◌, ◌%◌, ◌^◌, ◌≤◌, ◌<◌, min, eqb, ℤ, pos, negsuc, ◌+ℤ◌, ◌≤ℤ◌, length, get_or}
use Rattle.numbers.specs.Sums.{ℕ_adds, ℤ_adds, sum_to}
use Rattle.numbers.specs.Signed.{over, under}
use Rattle.numbers.specs.Lists.{at, list_to}
use Rattle.blocks.specs.Words.{signed_word, word_signed}
use Rattle.blocks.specs.Blocks.{file_bytes, payload_word}
use Rattle.book_spec.specs.declared.BookReport.{BookReport}

-- ---- books

-- one of 02's records: the source of an accepted step, its outcome and its new total
pub record Entry : Type 0 where
  pub source : ℤ
  pub outcome : ℕ
  pub total : ℕ

abbrev pub entry : ℤ → ℕ → ℕ → Entry
entry source outcome total = record { source = source; outcome = outcome; total = total }

-- what an unused record holds
abbrev pub unused : Entry
unused = entry (pos 0) 0 0

pub record Book : Type 0 where
  pub opening : ℕ
  pub entries : List Entry

abbrev pub book : ℕ → List Entry → Book
book opening entries = record { opening = opening; entries = entries }

abbrev pub count : Book → ℕ
count B = length B.entries

abbrev pub entry_at : Book → ℕ → Entry
entry_at B i = get_or B.entries i unused

-- the total after i records
unfoldable pub total_after : Book → ℕ → ℕ
total_after B zero = B.opening
total_after B (suc i) = (entry_at B i).total

unfoldable pub closing : Book → ℕ
closing B = total_after B (count B)

-- the sources of all records together
unfoldable pub recorded : Book → ℤ
recorded B = sum_to ℤ_adds (count B) (λ i. (entry_at B i).source)

-- one record more
abbrev pub add : Book → Entry → Book
add B e = book B.opening (B.entries ++ (e ∷ []))

-- 64 blocks of 41 records, and the bytes of 64 blocks
abbrev pub max_entries : ℕ
max_entries = 2624

abbrev pub max_bytes : ℕ
max_bytes = 32768

-- a book whose numbers fit their words and whose totals follow, each being the one before plus its source
pub record WellFormed (B : Book) : Type 0 where
  pub few : count B ≤ max_entries
  pub opening_word : B.opening < 2 ^ 32
  pub total_word : (i : ℕ) → i < count B → (entry_at B i).total < 2 ^ 32
  pub outcomes : (i : ℕ) → i < count B → (entry_at B i).outcome ≤ 2
  pub least : (i : ℕ) → i < count B → negsuc 2147483647 ≤ℤ (entry_at B i).source
  pub most : (i : ℕ) → i < count B → (entry_at B i).source ≤ℤ pos 2147483647
  pub follows : (i : ℕ) → i < count B → pos (total_after B (suc i)) ≡ pos (total_after B i) +ℤ (entry_at B i).source

-- ---- the report: `in` is the sum of the sources above 0, `out` the size of the sum of those below

unfoldable pub report_of : Book → BookReport
report_of B =
    record {
      opening = B.opening;
      inflow = sum_to ℕ_adds (count B) (λ i. over (entry_at B i).source);
      outflow = sum_to ℕ_adds (count B) (λ i. under (entry_at B i).source);
      closing = closing B;
    }

-- ---- the bytes of a book

-- how many blocks n records take: at least one
abbrev pub book_blocks : ℕ → ℕ
book_blocks n = 1 + (n - 1) / 41

-- how many of n records stand in the k-th block, from 0
abbrev pub used_in : ℕ → ℕ → ℕ
used_in n k = min 41 (n - 41 * k)

abbrev pub entry_words : Entry → List ℕ
entry_words e = signed_word e.source ∷ e.outcome ∷ e.total ∷ []

-- word j of the k-th block's payload: the total that the block opens with, 41 records, and the number of records used
unfoldable pub book_word : Book → ℕ → ℕ → ℕ
book_word B k j =
    cond (eqb j 0) (total_after B (41 * k))
    (cond (eqb j 124) (used_in (count B) k)
    (at (entry_words (entry_at B (41 * k + (j - 1) / 3))) ((j - 1) % 3)))

-- the payload of block b, from 1
unfoldable pub book_words : Book → ℕ → List ℕ
book_words B b = list_to 125 (book_word B (b - 1))

unfoldable pub book_bytes : Book → List ℕ
book_bytes B = file_bytes (book_words B) (book_blocks (count B))

-- ---- the book read off bytes

-- the number of records used in block b
abbrev pub used_of : List ℕ → ℕ → ℕ
used_of file b = payload_word file b 124

-- all records: 41 in each block but the last
unfoldable pub count_of : List ℕ → ℕ
count_of file = 41 * (length file / 512 - 1) + used_of file (length file / 512)

-- record i
unfoldable pub entry_of : List ℕ → ℕ → Entry
entry_of file i =
    entry
    (word_signed (payload_word file (1 + i / 41) (3 * (i % 41) + 1)))
    (payload_word file (1 + i / 41) (3 * (i % 41) + 2))
    (payload_word file (1 + i / 41) (3 * (i % 41) + 3))

unfoldable pub book_of : List ℕ → Book
book_of file = book (payload_word file 1 0) (list_to (count_of file) (entry_of file))
