-- Tables of records in the blocks of a file: so many words to a record, so many records to a block, and block after block. Assumes nothing.
use Rattle.std.specs.Prelude.{List, [], ◌++◌, ℕ, zero, suc, ◌+◌, ◌*◌, ◌-◌, ◌/◌, ◌%◌, ◌≤◌, ◌<◌, min, length}
use Rattle.numbers.specs.Lists.{at, list_to}
use Rattle.numbers.specs.Checks.{Checked, each_from}
use Rattle.block_tables.specs.declared.tables.Table.{Table}
use Rattle.blocks.specs.Blocks.{block_bytes, payload_word, check_block}

abbrev pub table : ℕ → ℕ → Table
table words records = record { words = words; records = records }

-- ---- sizes

-- how many blocks n records take
abbrev pub table_blocks : Table → ℕ → ℕ
table_blocks T n = (n + (T.records - 1)) / T.records

-- how many payload words the k-th of these blocks uses, from 0
abbrev pub table_used : Table → ℕ → ℕ → ℕ
table_used T n k = T.words * min T.records (n - T.records * k)

-- the records of a block fit its payload
pub record TableFits (T : Table) : Type 0 where
  pub some_words : 0 < T.words
  pub some_records : 0 < T.records
  pub payload : T.words * T.records ≤ 125

-- ---- the payload words of the k-th block, where word j of record i is w i j
unfoldable pub table_words : Table → ℕ → (ℕ → ℕ → ℕ) → ℕ → List ℕ
table_words T n w k = list_to (table_used T n k) (λ x. w (T.records * k + x / T.words) (x % T.words))

-- the bytes of the first q of these blocks, the first of them being block `from` of the file
unfoldable pub table_bytes : Table → ℕ → (ℕ → ℕ → ℕ) → ℕ → ℕ → List ℕ
table_bytes T n w from zero = []
table_bytes T n w from (suc q) = table_bytes T n w from q ++ block_bytes (from + q) (table_words T n w q)

-- ---- reading: a file's table starts at block `from`

-- word j of record i
unfoldable pub table_word : Table → List ℕ → ℕ → ℕ → ℕ → ℕ
table_word T file from j i = payload_word file (from + i / T.records) (T.words * (i % T.records) + j)

-- the file has the blocks of n records
pub record HasTable (T : Table) (file : List ℕ) (from n : ℕ) : Type 0 where
  pub fits : TableFits T
  pub first : 0 < from
  pub whole : 512 * (from - 1 + table_blocks T n) ≤ length file

-- its blocks in order, each by 15, then 16
unfoldable pub check_table : Table → List ℕ → ℕ → ℕ → Checked
check_table T file from n = each_from (check_block file (λ b. table_used T n (b - from))) from (table_blocks T n)

-- ---- a list of numbers, 125 to a block
abbrev pub list_table : Table
list_table = table 1 125

abbrev pub list_block : ℕ → List ℕ → ℕ → List ℕ
list_block n xs k = table_words list_table n (λ i j. at xs i) k
