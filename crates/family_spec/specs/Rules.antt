-- What the checks of a family mean, in plain facts, in their order. Assumes nothing.
use Rattle.std.specs.Prelude.{◌≡◌, ◌⊎◌, true, false, List, [], ◌∷◌, ◌++◌, ℕ, ◌≤◌, ◌<◌, ℤ, pos, ◌≤ℤ◌, length}
use Rattle.numbers.specs.Lists.{sum}
use Rattle.numbers.specs.Checks.{Rule, rule}
use Rattle.qlt_spec.specs.Field.{cells}
use Rattle.kept_spec.specs.Open.{open_rules_with, OpenFits}
use Rattle.kept_spec.specs.Step.{new_total, scale_rule, step_rules_with, StepFits, StepFull}
use Rattle.family_spec.specs.declared.Member.{Member}
use Rattle.family_spec.specs.Family.{Terms}
use Rattle.family_spec.specs.Member.{StepInputs, call_of}

-- ---- the start

abbrev pub start_rules : ℕ → ℕ → List Rule
start_rules scale cells = rule 1 ((0 < cells) × (cells ≤ 512)) ∷ rule 9 (scale ≤ 30) ∷ []

pub record StartFits (scale cells : ℕ) : Type 0 where
  pub some : 0 < cells
  pub few : cells ≤ 512
  pub scale_small : scale ≤ 30

-- ---- an opening

abbrev pub opening_rules : Terms → ℕ → Member → ℤ → List ℕ → ℕ → List Rule
opening_rules t i m space kept k =
    rule 19 ((i ≤ 7) × (m.opened ≡ false))
    ∷ rule 1 (length kept ≡ t.cells)
    ∷ (open_rules_with (scale_rule k t.scale ∷ []) kept k ++ (rule 20 (pos (sum kept) ≤ℤ space) ∷ []))

-- one that breaks none
pub record OpeningFits (t : Terms) (i : ℕ) (m : Member) (space : ℤ) (kept : List ℕ) (k : ℕ) : Type 0 where
  pub number : i ≤ 7
  pub not_open : m.opened ≡ false
  pub same_cells : length kept ≡ t.cells
  pub opening : OpenFits kept k
  pub same_scale : k ≡ t.scale
  pub within : pos (sum kept) ≤ℤ space

-- ---- a step

-- a source above 0 leaves the new total within the room
abbrev pub SourceFits : Terms → Member → ℤ → StepInputs → Type 0
SourceFits t m space x = (x.source ≤ℤ pos 0) ⊎ (pos (new_total (call_of t m x)) ≤ℤ space)

abbrev pub stepping_rules : Terms → ℕ → Member → ℤ → StepInputs → List Rule
stepping_rules t i m space x =
    rule 19 ((i ≤ 7) × (m.opened ≡ true))
    ∷ rule 1 (cells x.lists ≡ t.cells)
    ∷ step_rules_with (rule 20 (SourceFits t m space x) ∷ []) (call_of t m x)

-- one that breaks none
pub record SteppingFits (t : Terms) (i : ℕ) (m : Member) (space : ℤ) (x : StepInputs) : Type 0 where
  pub number : i ≤ 7
  pub is_open : m.opened ≡ true
  pub same_cells : cells x.lists ≡ t.cells
  pub stepping : StepFits (call_of t m x)
  pub within : SourceFits t m space x

-- every check passes but the last, 21
pub record SteppingFull (t : Terms) (i : ℕ) (m : Member) (space : ℤ) (x : StepInputs) : Type 0 where
  pub number : i ≤ 7
  pub is_open : m.opened ≡ true
  pub same_cells : cells x.lists ≡ t.cells
  pub stepping : StepFull (call_of t m x)
  pub within : SourceFits t m space x

-- ---- a registration

abbrev pub registering_rules : ℕ → Member → List Rule
registering_rules i m = rule 19 ((i ≤ 7) × (m.opened ≡ true)) ∷ []

-- one that breaks none
pub record RegisteringFits (i : ℕ) (m : Member) : Type 0 where
  pub number : i ≤ 7
  pub is_open : m.opened ≡ true
