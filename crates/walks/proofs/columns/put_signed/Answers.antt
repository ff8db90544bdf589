-- `walks::columns::put_signed` meets its contract: Mass has its number alone, which fits 64 bits, so it is stored as it is.
use native.Mathlib.Omega.{arith}
use mir.Syntax.{w64}
use mir.ValLaws.{to_z-of_z}
use Rattle.scratch_spec.proofs.ColumnLaws.{stored-mass}
use Rattle.walks.proofs.columns.put_signed.Goals as goal

pub returns-in-Mass : goal.returns-in-Mass
returns-in-Mass c =
    let a = c.args in
    rw (c.in-Mass.is, to_z-of_z w64 a.z c.ranges.z) (stored-mass a.u a.z a.s.now (record { column = omega arith; row = c.requires.0.row }))
