-- A family in a lent list of numbers: what is written, and what is read. Assumes nothing.
use Rattle.std.specs.Prelude.{Bool, true, false, List, [], ◌∷◌, ◌++◌, ℕ, zero, suc, ◌+◌, ◌%◌, ◌^◌, eqb}
use Rattle.numbers.specs.Lists.{at}
use Rattle.family_spec.specs.declared.Member.{Member}
use Rattle.family_spec.specs.declared.Family.{Family}
use Rattle.family_spec.specs.Family.{member_at}

abbrev pub family_entries : ℕ
family_entries = 21

-- ---- written

abbrev pub flag : Bool → ℕ
flag true = 1
flag false = 0

abbrev pub member_words : Member → List ℕ
member_words m = flag m.opened ∷ m.total ∷ []

-- of the first k members, one after another
abbrev pub members_words : Family → ℕ → List ℕ
members_words f zero = []
members_words f (suc k) = members_words f k ++ member_words (member_at f k)

-- the cap, the scale and the cells, of each member whether it is open and its total, the byte of who waits, and where the search begins
abbrev pub family_words : Family → List ℕ
family_words f = ((f.cap ∷ f.scale ∷ f.cells ∷ []) ++ members_words f 8) ++ (f.waiting ∷ f.from ∷ [])

-- ---- read: an entry that is too wide, modulo its width

abbrev pub word_in : List ℕ → ℕ → ℕ
word_in list j = at list j % 2 ^ 32

-- the member whose entries begin at j
abbrev pub member_in : List ℕ → ℕ → Member
member_in list j = record { opened = eqb (at list j % 2) 1; total = word_in list (j + 1) }

abbrev pub family_in : List ℕ → Family
family_in list =
    record {
      cap = at list 0;
      scale = word_in list 1;
      cells = word_in list 2;
      members =
          member_in list 3 ∷ member_in list 5 ∷ member_in list 7 ∷ member_in list 9 ∷ member_in list 11 ∷ member_in list 13 ∷ member_in list 15 ∷ member_in list 17 ∷ [];
      waiting = at list 19 % 2 ^ 8;
      from = word_in list 20;
    }
