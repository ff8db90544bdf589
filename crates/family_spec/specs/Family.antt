-- A family of up to 8 kept fields: its members, the sum of their totals, the room that the others leave to one, and who waits. Assumes nothing.
use Rattle.std.specs.Prelude.{true, false, not, ℕ, eqb, ℤ, pos, ◌-ℤ◌, get_or, set, replicate}
use Rattle.numbers.specs.Sums.{ℕ_adds, sum_to, pick}
use Rattle.family_spec.specs.declared.Member.{Member}
use Rattle.family_spec.specs.declared.Family.{Family}

-- a member that is not open, and one that is open with a total
abbrev pub closed : Member
closed = record { opened = false; total = 0 }

abbrev pub open_with : ℕ → Member
open_with total = record { opened = true; total = total }

-- what the family holds of member i; a number above 7 is that of nobody
abbrev pub member_at : Family → ℕ → Member
member_at f i = get_or f.members i closed

abbrev pub total_of : Family → ℕ → ℕ
total_of f i = (member_at f i).total

-- the family with m for member i
abbrev pub put : Family → ℕ → Member → Family
put f i m = record { cap = f.cap; scale = f.scale; cells = f.cells; members = set f.members i m; waiting = f.waiting; from = f.from }

-- the family with another byte of who waits and another member from which the search begins
abbrev pub schedule : Family → ℕ → ℕ → Family
schedule f byte from = record { cap = f.cap; scale = f.scale; cells = f.cells; members = f.members; waiting = byte; from = from }

-- a family of which nobody is open and nobody waits; the search begins from member 0
abbrev pub begun : ℕ → ℕ → ℕ → Family
begun cap scale cells = record { cap = cap; scale = scale; cells = cells; members = replicate 8 closed; waiting = 0; from = 0 }

-- the sum of the totals of all members, and of all but i
unfoldable pub totals : Family → ℕ
totals f = sum_to ℕ_adds 8 (total_of f)

unfoldable pub others : Family → ℕ → ℕ
others f i = sum_to ℕ_adds 8 (λ j. pick ℕ_adds (not (eqb j i)) (total_of f j))

-- 'the cap less the others' totals' (02), in ℤ
unfoldable pub room : Family → ℕ → ℤ
room f i = pos f.cap -ℤ pos (others f i)

-- what is fixed at the start and the same for every member
pub record Terms : Type 0 where
  pub scale : ℕ
  pub cells : ℕ

abbrev pub terms : Family → Terms
terms f = record { scale = f.scale; cells = f.cells }
