-- Checks of a file as a whole, whatever its blocks hold ('Read a field file' of 01). Assumes nothing.
use Rattle.std.specs.Prelude.{◌≡◌, ℕ, ◌*◌, ◌%◌, ◌<◌, ◌≤◌, ◌&&◌, List, ◌==◌, nat_le, nat_lt}
use Rattle.numbers.specs.Checks.{Checked, unless}
use Rattle.blocks.specs.Blocks.{payload_word}

-- 14: the length is not 0, not over `most`, and a multiple of 512
unfoldable pub check_file_length : ℕ → ℕ → Checked
check_file_length most l = unless (nat_lt 0 l && (nat_le l most && l % 512 == 0)) 14 0

abbrev pub FileLength : ℕ → ℕ → Type 0
FileLength most l = (0 < l) × ((l ≤ most) × (l % 512 ≡ 0))

-- 14: the length is that of k blocks
unfoldable pub check_block_count : ℕ → ℕ → Checked
check_block_count l k = unless (l == 512 * k) 14 0

-- 16: the first payload word of block 1 is 512
unfoldable pub check_mark : List ℕ → Checked
check_mark file = unless (payload_word file 1 0 == 512) 16 1
