-- The operation Open: its verdict and its answer. Assumes nothing.
use Rattle.std.specs.Prelude.{◌≡◌, List, [], ◌∷◌, ◌++◌, ℕ, ◌≤◌, ◌<◌, pos, length}
use Rattle.numbers.specs.Checks.{Checked, Answered, answered, first, check_count, check_scale, check_total, Rule, rule, total_rule, max_total}
use Rattle.numbers.specs.Lists.{sum}
use Rattle.kept_spec.specs.declared.Balance.{Balance}

-- 1; 9 (02), of the scale k; the checks `own` of an operation that opens, none of Open itself; 13
abbrev pub open_checks_with : List Checked → List ℕ → ℕ → List Checked
open_checks_with own kept k = check_count (length kept) ∷ check_scale k ∷ (own ++ (check_total (pos (sum kept)) ∷ []))

abbrev pub open_checks : List ℕ → ℕ → List Checked
open_checks kept k = open_checks_with [] kept k

unfoldable pub open_verdict : List ℕ → ℕ → Checked
open_verdict kept k = first (open_checks kept k)

-- the verdict with checks put in before 13
unfoldable pub open_verdict_with : List Checked → List ℕ → ℕ → Checked
open_verdict_with own kept k = first (open_checks_with own kept k)

-- what the checks mean, with rules put in as the checks are
abbrev pub open_rules_with : List Rule → List ℕ → ℕ → List Rule
open_rules_with own kept k = rule 1 ((0 < length kept) × (length kept ≤ 512)) ∷ rule 9 (k ≤ 30) ∷ (own ++ (total_rule (pos (sum kept)) ∷ []))

unfoldable pub open_rules : List ℕ → ℕ → List Rule
open_rules kept k = open_rules_with [] kept k

pub record OpenFits (kept : List ℕ) (k : ℕ) : Type 0 where
  pub some : 0 < length kept
  pub few : length kept ≤ 512
  pub scale : k ≤ 30
  pub small : sum kept ≤ max_total

-- the balance that an accepted opening gives
abbrev pub open_balance : List ℕ → ℕ → Balance
open_balance kept k = record { total = sum kept; scale = k }

-- what an opening answers by a verdict
pub record OpenBy (v : Checked) (kept : List ℕ) (k : ℕ) (answer : Answered Balance) : Type 0 where
  pub answers : answer ≡ answered v (open_balance kept k)

-- the whole contract of the operation
abbrev pub OpenContract : List ℕ → ℕ → Answered Balance → Type 0
OpenContract kept k answer = OpenBy (open_verdict kept k) kept k answer
