-- What is claimed of every history of a family. Assumes nothing.
use Rattle.std.specs.Prelude.{Ok, Err, Some, None, Option, ◌≡◌, ◌≢◌, ◌↔◌, Bool, true, false, not, ◌&&◌, ◌||◌, List, [], ◌∷◌, ◌++◌, ℕ, suc, ◌+◌, ◌%◌, ◌≤◌, ◌<◌, eqb, ℤ, length}
use Rattle.numbers.specs.Checks.{Checked}
use Rattle.numbers.specs.Lists.{All}
use Rattle.book_spec.specs.Book.{book}
use Rattle.kept_spec.specs.declared.Balance.{Balance}
use Rattle.kept_spec.specs.Account.{Standing, Account}
use Rattle.kept_spec.specs.BookRun.{StartEvent, Act, Ledger, ledger, BookAccount, book_after}
use Rattle.family_spec.specs.declared.Served.{Served}
use Rattle.family_spec.specs.declared.FamilyAnswer.{FamilyAnswer}
use Rattle.family_spec.specs.declared.Family.{Family}
use Rattle.family_spec.specs.Family.{member_at, total_of, terms}
use Rattle.family_spec.specs.Waiting.{waits}
use Rattle.family_spec.specs.Member.{StepInputs}
use Rattle.family_spec.specs.Operations.{StartContract, next_member}
use Rattle.family_spec.specs.History.{FamilyEvent, FamilyStanding, openings_of, steps_of, turns_in, served_of, served_in, acts_of}

-- an accepted start, with which every history begins: no masses are kept, and no book
pub record Begins (cap scale cells : ℕ) (s : FamilyStanding) : Type 0 where
  pub contract : StartContract cap scale cells (record { family = s.family; answer = Ok tt })
  pub empty : (i : ℕ) → s.kept i ≡ []
  pub no_book : (i : ℕ) → s.book i ≡ []
  pub no_length : (i : ℕ) → s.length i ≡ 0

abbrev pub IsOpen : FamilyStanding → ℕ → Bool
IsOpen s i = (member_at s.family i).opened

-- what stands of member i, as of a kept field by itself
abbrev pub standing : FamilyStanding → ℕ → Standing
standing s i = record { kept = s.kept i; balance = record { total = total_of s.family i; scale = s.family.scale } }

-- and with its book
abbrev pub ledger_at : FamilyStanding → ℕ → Ledger
ledger_at s i = ledger (standing s i) (s.book i) (s.length i)

-- 'Each member keeps the whole account of its own run, sources and bounds' (02): one opening of it was accepted, at the family's scale, and
-- demand 3's account holds of that opening, of the member's Steps and of its masses and balance at the end; from any start of a book on, the
-- buffer that it holds has the book of its accepted steps since the last start, which closes with the sum of its masses
pub record MemberAccount (i : ℕ) (es : List FamilyEvent) (end : FamilyStanding) : Type 0 where
  pub opening : Balance
  pub once : openings_of i es ≡ opening ∷ []
  pub account : Account opening (steps_of (terms end.family) i es) (standing end i)
  pub books : (before rest : List Act) (e : StartEvent) → acts_of (terms end.family) i es ≡ before ++ (Act.starts e ∷ rest)
      → BookAccount (book_after rest (book e.total [])) (ledger_at end i)

-- ---- turns

-- member i waits, and nobody waits
abbrev pub Waits : FamilyStanding → ℕ → Type 0
Waits s i = waits s.family.waiting i ≡ true

abbrev pub NobodyWaits : Family → Type 0
NobodyWaits f = (i : ℕ) → i < 8 → waits f.waiting i ≡ false

-- whether member i waits after a turn, after a call and after these calls, by whether it did before: from an accepted registration on, until a
-- turn serves it
abbrev pub is_done : Checked → Bool
is_done (Ok tt) = true
is_done (Err r) = false

abbrev pub waits_after_turn : ℕ → Bool → Option Served → Bool
waits_after_turn i b None = b
waits_after_turn i b (Some r) = not (eqb i r.member) && b

abbrev pub waits_after_call : ℕ → Bool → FamilyEvent → Bool
waits_after_call i b (FamilyEvent.opens f j kept k r) = b
waits_after_call i b (FamilyEvent.steps f j x r kept scratch book) = b
waits_after_call i b (FamilyEvent.registers f j r) = (is_done r.answer && eqb i j) || b
waits_after_call i b (FamilyEvent.turns f x r kept scratch book) = waits_after_turn i b r.answer
waits_after_call i b (FamilyEvent.books f j e) = b

unfoldable pub waits_after : ℕ → Bool → List FamilyEvent → Bool
waits_after i b [] = b
waits_after i b (e ∷ es) = waits_after i (waits_after_call i b e) es

-- all different
unfoldable pub Distinct : List ℕ → Type 0
Distinct [] = Unit
Distinct (x ∷ xs) = All (λ y. y ≢ x) xs × Distinct xs

-- member i waited and was not served by these calls: it waits still, each turn among them served a member, these are all different and none
-- is i, and they are at most 7
pub record NotYetServed (i : ℕ) (es : List FamilyEvent) (end : FamilyStanding) : Type 0 where
  pub still : Waits end i
  pub busy : length (turns_in es) ≡ length (served_in es)
  pub different : Distinct (i ∷ served_in es)
  pub few : length (turns_in es) ≤ 7

-- member i waited and one of these calls is a turn that serves it: each turn before it served a member, these are all different and none is i,
-- and they are at most 7
pub record ServedWithin8 (i : ℕ) (es : List FamilyEvent) : Type 0 where
  pub before : List FamilyEvent
  pub event : FamilyEvent
  pub rest : List FamilyEvent
  pub splits : es ≡ before ++ (event ∷ rest)
  pub serves : served_of event ≡ i ∷ []
  pub busy : length (turns_in before) ≡ length (served_in before)
  pub different : Distinct (i ∷ served_in before)
  pub few : length (turns_in before) ≤ 7

-- where the search begins after these were served: after the last one, and from member x if there was none
unfoldable pub search_from : ℕ → List ℕ → ℕ
search_from x [] = x
search_from x (i ∷ is) = search_from (suc i % 8) is

-- of the k members from `from` on, going round, member i is the first that waits
pub record FirstAmong (byte from k i : ℕ) : Type 0 where
  pub places : ℕ
  pub near : places < k
  pub reached : i ≡ (from + places) % 8
  pub waiting : waits byte i ≡ true
  pub before : (d : ℕ) → d < places → waits byte ((from + d) % 8) ≡ false

-- who waits is open
abbrev pub WaitingOpen : FamilyStanding → Type 0
WaitingOpen s = (i : ℕ) → i < 8 → Waits s i → IsOpen s i ≡ true

-- a turn is idle exactly if nobody waits, and exactly if the reading of the next says nobody; it then changes nothing
pub record TurnIdle (f : Family) (x : StepInputs) (r : FamilyAnswer (Option Served)) (kept : List ℕ) (scratch : List ℤ) (book : List ℕ) : Type 0 where
  pub nobody_waits : (r.answer ≡ None) ↔ NobodyWaits f
  pub nobody_next : (r.answer ≡ None) ↔ (next_member f ≡ None)
  pub same_family : r.answer ≡ None → r.family ≡ f
  pub same_kept : r.answer ≡ None → kept ≡ x.kept
  pub same_scratch : r.answer ≡ None → scratch ≡ x.scratch
  pub same_book : r.answer ≡ None → book ≡ x.book
