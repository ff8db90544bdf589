-- The operation Step: what it is given, its verdict, its answer, and the lists it leaves, the book's buffer (02) among them. Assumes nothing.
use Rattle.std.specs.Prelude.{◌≡◌, ◌&&◌, List, [], ◌∷◌, ◌++◌, ℕ, ◌≤◌, leb, eqb, ℤ, pos, negsuc, ◌+ℤ◌, ◌≤ℤ◌, length}
use Rattle.numbers.specs.Signed.{over}
use Rattle.numbers.specs.Checks.{Checked, Answered, after, unless, first, check_total, Rule, rule, total_rule, max_total}
use Rattle.numbers.specs.Lists.{sum}
use Rattle.qlt_spec.specs.Field.{Lists, scratch_per_node}
use Rattle.qlt_spec.specs.Checks.{shape_with, check_values, check_reach}
use Rattle.qlt_spec.specs.Operation.{ReconstructCall, reconstruct_call, shape_rules, value_rules, reach_rule, ShapeFits, ValuesFit, Reaches, repair, RepairTells}
use Rattle.blocks.specs.Words.{Bytes}
use Rattle.book_spec.specs.Book.{Entry, entry, max_bytes}
use Rattle.book_spec.specs.StartBook.{check_buffer, buffer_rule}
use Rattle.book_spec.specs.LentBook.{lent_checks, lent_rules, LentFits, LentFull, grown_buffer, grown_length}
use Rattle.kept_spec.specs.declared.Stepped.{Stepped}
use Rattle.kept_spec.specs.declared.Balance.{Balance}

-- all that a call is given; the book has `length` bytes, at the front of its buffer
pub record StepCall : Type 0 where
  pub balance : Balance
  pub kept : List ℕ
  pub source : ℤ
  pub scale : ℕ
  pub lists : Lists
  pub scratch : List ℤ
  pub book : List ℕ
  pub length : ℕ

abbrev pub step_call : Balance → List ℕ → ℤ → ℕ → Lists → List ℤ → List ℕ → ℕ → StepCall
step_call balance kept source scale lists scratch book l =
    record { balance = balance; kept = kept; source = source; scale = scale; lists = lists; scratch = scratch; book = book; length = l }

-- what the types of its parameters say: the buffer has bytes, and the source is a signed number of 32 bits
pub record Typed (c : StepCall) : Type 0 where
  pub bytes : Bytes c.book
  pub least : negsuc 2147483647 ≤ℤ c.source
  pub most : c.source ≤ℤ pos 2147483647

-- the total given plus the source; as a natural number it is the field's M
abbrev pub next : StepCall → ℤ
next c = pos c.balance.total +ℤ c.source

abbrev pub new_total : StepCall → ℕ
new_total c = over (next c)

-- the repair that it asks for: that of its field for the new total, the kept masses in the place of the masses
abbrev pub repair_call : StepCall → ReconstructCall
repair_call c = reconstruct_call c.lists (new_total c) c.kept c.scratch

-- ---- the checks

-- 17 (02): a scale k above 30, or not b, that of the balance
unfoldable pub check_same_scale : ℕ → ℕ → Checked
check_same_scale k b = unless (leb k 30 && eqb k b) 17 0

-- 12: kept masses that do not add up to the total given
unfoldable pub check_kept : List ℕ → ℕ → Checked
check_kept kept total = unless (eqb (sum kept) total) 12 0

-- 1 to 3, the kept list and then the book's buffer counted under 3; 17; 4 to 7; 12; 13; the checks `own` of an operation that steps, none of
-- Step itself; 8; those of the book, 14 to 16 and 12, and 21 last of all. 3 asks for p numbers of scratch for each node.
abbrev pub step_checks_with : ℕ → List Checked → StepCall → List Checked
step_checks_with p own c =
    shape_with p (length c.kept) c.lists (length c.scratch)
    ∷ check_buffer (length c.book)
    ∷ check_same_scale c.scale c.balance.scale
    ∷ check_values c.lists
    ∷ check_kept c.kept c.balance.total
    ∷ check_total (next c)
    ∷ (own ++ (check_reach c.lists.safe_lows c.lists.safe_highs (new_total c) ∷ lent_checks c.book c.length c.balance.total))

abbrev pub step_checks : StepCall → List Checked
step_checks c = step_checks_with scratch_per_node [] c

unfoldable pub step_verdict : StepCall → Checked
step_verdict c = first (step_checks c)

-- the verdict with checks put in before 8
unfoldable pub step_verdict_with : List Checked → StepCall → Checked
step_verdict_with own c = first (step_checks_with scratch_per_node own c)

-- ---- what the checks mean

abbrev pub scale_rule : ℕ → ℕ → Rule
scale_rule k b = rule 17 ((k ≤ 30) × (k ≡ b))

abbrev pub kept_rule : List ℕ → ℕ → Rule
kept_rule kept total = rule 12 (sum kept ≡ total)

-- with rules put in before 8, as the checks are
abbrev pub step_rules_with : List Rule → StepCall → List Rule
step_rules_with own c =
    shape_rules c.lists (length c.kept) (length c.scratch)
    ++ (buffer_rule (length c.book)
    ∷ scale_rule c.scale c.balance.scale
    ∷ (value_rules c.lists
    ++ (kept_rule c.kept c.balance.total
    ∷ total_rule (next c)
    ∷ (own ++ (reach_rule c.lists (new_total c) ∷ lent_rules c.book c.length c.balance.total)))))

abbrev pub step_rules : StepCall → List Rule
step_rules c = step_rules_with [] c

-- what the checks before those of the book say, in plain facts
pub record MassesFit (c : StepCall) : Type 0 where
  pub shape : ShapeFits c.lists (length c.kept) (length c.scratch)
  pub room : max_bytes ≤ length c.book
  pub scale_small : c.scale ≤ 30
  pub same_scale : c.scale ≡ c.balance.scale
  pub values : ValuesFit c.lists
  pub adds_up : sum c.kept ≡ c.balance.total
  pub whole : pos (new_total c) ≡ next c
  pub small : new_total c ≤ max_total
  pub reach : Reaches c.lists (new_total c)

-- and with those of the book
pub record StepFits (c : StepCall) : Type 0 where
  pub masses : MassesFit c
  pub lent : LentFits c.book c.length c.balance.total

-- every check passes but the last, 21
pub record StepFull (c : StepCall) : Type 0 where
  pub masses : MassesFit c
  pub lent : LentFull c.book c.length c.balance.total

-- ---- the answer, and the lists at exit

-- what an accepted step gives beside the lists: the repair of its field for the new total, the new balance, at the scale of the old one, and the
-- length of its book, which has a record more
abbrev pub step_result : StepCall → Stepped
step_result c =
    record {
      repair = repair c.lists (new_total c);
      balance = record { total = new_total c; scale = c.balance.scale };
      length = grown_length c.book c.length;
    }

-- that record: source, outcome and new total
abbrev pub step_entry : StepCall → Entry
step_entry c = entry c.source (repair c.lists (new_total c)).outcome (new_total c)

-- what a step leaves and answers by a verdict: of masses and scratch what the repair for the new total leaves, and the book with its record more;
-- bytes past the book are untouched
pub record StepBy (v : Checked) (c : StepCall) (answer : Answered Stepped) (kept : List ℕ) (scratch : List ℤ) (book : List ℕ) : Type 0 where
  pub typed : Typed c
  pub tells : RepairTells v (repair_call c) (step_result c) answer kept scratch
  pub files : book ≡ after v (grown_buffer c.book c.length (step_entry c)) c.book

-- the whole contract of the operation
abbrev pub StepContract : StepCall → Answered Stepped → List ℕ → List ℤ → List ℕ → Type 0
StepContract c answer kept scratch book = StepBy (step_verdict c) c answer kept scratch book
