-- The scratch: a row of four numbers for each node, read by column. The first number is the column MASS alone; the 64 bits of each of the
-- others, in two's complement, hold two columns of 32 bits, one in the low half and one in the high half. Assumes nothing.
-- Only `col` and the laws of a store (proofs/ColumnLaws.antt) know where a column stands; all else goes by those laws.
use Rattle.std.specs.Prelude.{◌≡◌, ◌≢◌, Bool, true, false, List, ℕ, zero, suc, ◌+◌, ◌*◌, ◌/◌, ◌%◌, ◌^◌, ◌≤◌, ◌<◌, ℤ, pos, length}
use Rattle.std.specs.Int.{w64}
use Rattle.std.proofs.Common.{to_z, of_z}
use Rattle.numbers.specs.Lists.{at_ℤ}
use Rattle.numbers.specs.Signed.{over}
use Rattle.scratch_spec.specs.declared.Column.{Column}
use Rattle.scratch_spec.specs.declared.Column.TheVariants.{Mass, Low, High, Weight, First, Next}

-- the numbers of the scratch that a row takes
abbrev pub width : ℕ
width = 4

-- the columns: a node's target, later its mass; its low and high in force; its weight; its first child; its next sibling
abbrev pub MASS : ℕ
MASS = 0

abbrev pub LOW : ℕ
LOW = 1

abbrev pub HIGH : ℕ
HIGH = 2

abbrev pub WEIGHT : ℕ
WEIGHT = 3

abbrev pub FIRST : ℕ
FIRST = 4

abbrev pub NEXT : ℕ
NEXT = 5

-- a column of the code by its number
abbrev pub number_of : Column → ℕ
number_of Mass = MASS
number_of Low = LOW
number_of High = HIGH
number_of Weight = WEIGHT
number_of First = FIRST
number_of Next = NEXT

-- where in a row column k stands: MASS | LOW, FIRST | HIGH, NEXT | WEIGHT
abbrev pub offset : ℕ → ℕ
offset k = k % 4 + k / 4

-- of 64 bits, half 0 is the low 32, half 1 those above them; and the bits w with v for one half
abbrev pub half : ℕ → ℕ → ℕ
half zero w = w % 2 ^ 32
half (suc _) w = w / 2 ^ 32

abbrev pub with_half : ℕ → ℕ → ℕ → ℕ
with_half zero w v = w / 2 ^ 32 * 2 ^ 32 + v
with_half (suc _) w v = v * 2 ^ 32 + w % 2 ^ 32

-- what a number of a row holds of column k: all of it for MASS; else the low half of its bits for LOW, HIGH and
-- WEIGHT, the high half for FIRST and NEXT
abbrev pub part : ℕ → ℤ → ℤ
part zero z = z
part (suc j) z = pos (half (suc j / 4) (of_z w64 z))

-- the number z with v for what it holds of column k
abbrev pub with_part : ℕ → ℤ → ℕ → ℤ
with_part zero z v = pos v
with_part (suc j) z v = to_z w64 (with_half (suc j / 4) (of_z w64 z) v)

-- what column k can hold: MASS any number, the others from 0 to 2 ^ 31 − 1
abbrev pub Small : ℕ → ℕ → Type 0
Small k v = k ≢ MASS → v < 2 ^ 31

pub record Storable (k : ℕ) (z : ℤ) : Type 0 where
  pub natural : k ≢ MASS → z ≡ pos (over z)
  pub small : Small k (over z)

-- column k of node u, and what it has above 0
unfoldable pub col : ℕ → List ℤ → ℕ → ℤ
col k s u = part k (at_ℤ s (width * u + offset k))

abbrev pub num : ℕ → List ℤ → ℕ → ℕ
num k s u = over (col k s u)

-- row u is in the scratch, and k is a column
pub record InRow (k : ℕ) (s : List ℤ) (u : ℕ) : Type 0 where
  pub column : k < 6
  pub row : width * u + width ≤ length s

-- column k of node u was stored, and nothing else
pub record Stored (k u : ℕ) (z : ℤ) (old new : List ℤ) : Type 0 where
  pub long : length new ≡ length old
  pub here : col k new u ≡ z
  pub rows : (w : ℕ) → w ≢ u → col k new w ≡ col k old w
  pub cols : (j w : ℕ) → j < 6 → j ≢ k → col j new w ≡ col j old w
  pub far : (i : ℕ) → width * u + width ≤ i → at_ℤ new i ≡ at_ℤ old i

-- of the first m rows only column k may differ; past them nothing does
pub record OnlyColumn (k m : ℕ) (old new : List ℤ) : Type 0 where
  pub long : length new ≡ length old
  pub far : (i : ℕ) → width * m ≤ i → at_ℤ new i ≡ at_ℤ old i
  pub cols : (j u : ℕ) → j < 6 → j ≢ k → col j new u ≡ col j old u

-- in column k the members below b have their new values, and all else is as it was
pub record Laid (k m : ℕ) (has : ℕ → Bool) (x : ℕ → ℤ) (b : ℕ) (old new : List ℤ) : Type 0 where
  pub kept : OnlyColumn k m old new
  pub done : (u : ℕ) → u < b → has u ≡ true → col k new u ≡ x u
  pub same : (u : ℕ) → u < b → has u ≡ false → col k new u ≡ col k old u
  pub rest : (u : ℕ) → b ≤ u → col k new u ≡ col k old u
