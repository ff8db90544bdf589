-- The operations as one member meets them: functions of the family's scale and cells, of the member, of what its call brings and of the room
-- that the others leave it, and of nothing else. Assumes nothing.
use Rattle.std.specs.Prelude.{not, ◌&&◌, ◌||◌, List, [], ◌∷◌, ◌++◌, ℕ, leb, eqb, ℤ, pos, length}
use Rattle.std.specs.Int.Signed.{le_z}
use Rattle.numbers.specs.Lists.{sum}
use Rattle.numbers.specs.Checks.{Checked, unless, first}
use Rattle.qlt_spec.specs.Field.{Lists, cells, scratch_per_node}
use Rattle.kept_spec.specs.Open.{open_checks_with}
use Rattle.kept_spec.specs.Step.{StepCall, step_call, new_total, check_same_scale, step_checks_with}
use Rattle.family_spec.specs.declared.Member.{Member}
use Rattle.family_spec.specs.Family.{Terms}

-- ---- the checks of a family

-- 19 (02): a number above 7, an opening of a member that is open
unfoldable pub check_closed : ℕ → Member → Checked
check_closed i m = unless (leb i 7 && not m.opened) 19 0

-- 19 (02): a number above 7, a step of a member that is not open
unfoldable pub check_opened : ℕ → Member → Checked
check_opened i m = unless (leb i 7 && m.opened) 19 0

-- 1 (02): another n than the family's
unfoldable pub check_same_cells : ℕ → ℕ → Checked
check_same_cells n cells = unless (eqb n cells) 1 0

-- 20 (02): an opening with a total above the room
unfoldable pub check_room : ℕ → ℤ → Checked
check_room total space = unless (le_z (pos total) space) 20 0

-- 20 (02): a step with a source above 0 and a new total above the room
unfoldable pub check_source : ℤ → ℕ → ℤ → Checked
check_source source total space = unless (le_z source (pos 0) || le_z (pos total) space) 20 0

-- ---- an opening of member i, at the scale k

-- 19; Open's checks, where 1 counts another n too and 17 comes after 9; 20. Both that fail with 1 have the place 0, so their order is free.
abbrev pub opening_checks : Terms → ℕ → Member → ℤ → List ℕ → ℕ → List Checked
opening_checks t i m space kept k =
    check_closed i m
    ∷ check_same_cells (length kept) t.cells
    ∷ (open_checks_with (check_same_scale k t.scale ∷ []) kept k ++ (check_room (sum kept) space ∷ []))

unfoldable pub opening_verdict : Terms → ℕ → Member → ℤ → List ℕ → ℕ → Checked
opening_verdict t i m space kept k = first (opening_checks t i m space kept k)

-- ---- a step of member i

-- all that it is given beside the family and the member's number
pub record StepInputs : Type 0 where
  pub kept : List ℕ
  pub source : ℤ
  pub scale : ℕ
  pub lists : Lists
  pub scratch : List ℤ
  pub book : List ℕ
  pub length : ℕ

abbrev pub step_inputs : List ℕ → ℤ → ℕ → Lists → List ℤ → List ℕ → ℕ → StepInputs
step_inputs kept source scale lists scratch book l =
    record { kept = kept; source = source; scale = scale; lists = lists; scratch = scratch; book = book; length = l }

-- the Step that it is: of the balance that the family holds
abbrev pub call_of : Terms → Member → StepInputs → StepCall
call_of t m x = step_call (record { total = m.total; scale = t.scale }) x.kept x.source x.scale x.lists x.scratch x.book x.length

-- 19; Step's checks, where 1 counts another n too and 20 comes between 13 and 8; those of the book come last
abbrev pub stepping_checks : Terms → ℕ → Member → ℤ → StepInputs → List Checked
stepping_checks t i m space x =
    check_opened i m
    ∷ check_same_cells (cells x.lists) t.cells
    ∷ step_checks_with scratch_per_node (check_source x.source (new_total (call_of t m x)) space ∷ []) (call_of t m x)

unfoldable pub stepping_verdict : Terms → ℕ → Member → ℤ → StepInputs → Checked
stepping_verdict t i m space x = first (stepping_checks t i m space x)
