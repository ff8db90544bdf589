-- What one field of a cell gives, whatever the other four hold. Assumes nothing.
use Rattle.std.specs.Prelude.{Ok, ◌≡◌, [], ◌∷◌, ℕ, zero, suc, ◌≤◌, ℤ, pos, get_or, Float}
use Rattle.numbers.specs.Checks.{refused}
use Rattle.doubles_spec.specs.Import.{target_units, low_units, high_units, import_verdict, TargetRange, BoundRange, import_units, units_at}
use Rattle.doubles_spec.specs.declared.CellDoubles.{CellDoubles}

-- a double rounded as its field is, and the field's range
abbrev pub field_units : ℕ → ℕ → Float → ℤ
field_units field k x = get_or (target_units k x ∷ low_units k x ∷ high_units k x ∷ low_units k x ∷ high_units k x ∷ []) field (pos 0)

abbrev pub FieldRange : ℕ → ℤ → Type 0
FieldRange zero z = TargetRange z
FieldRange (suc field) z = BoundRange z

-- the cell is not refused for this field, and if it is accepted the field's units are z
pub record Gives (c : CellDoubles) (k field : ℕ) (z : ℤ) : Type 0 where
  pub not_refused : (number : ℕ) → import_verdict c k ≡ refused number field → ⊥
  pub units : import_verdict c k ≡ Ok tt → units_at (import_units c k) field ≡ z

-- the cell is refused, for this field or for one before it; if for this field, with this number
pub record Refuses (c : CellDoubles) (k field number : ℕ) : Type 0 where
  pub not_accepted : import_verdict c k ≡ Ok tt → ⊥
  pub not_later : (n place : ℕ) → import_verdict c k ≡ refused n place → place ≤ field
  pub here : (n : ℕ) → import_verdict c k ≡ refused n field → n ≡ number
