-- The way back: calls of Export and their masses. Assumes nothing.
use Rattle.std.specs.Prelude.{Ok, ℕ, pos}
use Rattle.doubles_spec.specs.Export.{ExportContract}
use Rattle.doubles_spec.specs.declared.CellDoubles.{CellDoubles}
use Rattle.doubles_spec.specs.declared.CellUnits.{CellUnits}

-- a mass for each field
pub record CellMasses : Type 0 where
  pub target : ℕ
  pub low : ℕ
  pub high : ℕ
  pub safe_low : ℕ
  pub safe_high : ℕ

-- five calls of Export at this scale answered the cell's doubles
pub record ExportedAt (k : ℕ) (m : CellMasses) (c : CellDoubles) : Type 0 where
  pub target : ExportContract m.target k (Ok c.target)
  pub low : ExportContract m.low k (Ok c.low)
  pub high : ExportContract m.high k (Ok c.high)
  pub safe_low : ExportContract m.safe_low k (Ok c.safe_low)
  pub safe_high : ExportContract m.safe_high k (Ok c.safe_high)

-- the masses as units
abbrev pub mass_units : CellMasses → CellUnits
mass_units m =
    record {
      target = pos m.target;
      low = m.low;
      high = m.high;
      safe_low = m.safe_low;
      safe_high = m.safe_high;
    }
