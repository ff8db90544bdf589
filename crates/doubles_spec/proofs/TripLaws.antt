-- Importing exported masses at their scale gives the masses again: in each field, whatever the other four hold; and of calls, if each of the
-- five fields is an exported mass, exactly these units. Assumes nothing.
use Rattle.std.specs.Prelude.{Ok}
use mathlib.Core.Path.{◌≡◌, refl, sym, ◌∙◌, subst}
use mathlib.Core.Bool.{false}
use Prim.Native.Nat.{ℕ, ◌<◌}
use lib.IntN.{pos}
use lib.Ieee.{Float}
use Rattle.numbers.proofs.CheckLaws.{answered-accepted}
use Rattle.doubles_spec.specs.Import.{Imported, target_units, low_units, high_units, import_verdict, TargetRange, BoundRange, double_at, import_units, import_tells, import_holds, carried, ImportContract}
use Rattle.doubles_spec.specs.Export.{export_verdict, ExportFits, export_double, ExportContract}
use Rattle.doubles_spec.specs.OneField.{Gives}
use Rattle.doubles_spec.specs.Trip.{CellMasses, ExportedAt, mass_units}
use Rattle.doubles_spec.specs.declared.CellDoubles.{CellDoubles}
use Rattle.doubles_spec.proofs.ImportLaws.{import-accepts, import-answer-injective}
use Rattle.doubles_spec.proofs.OneFieldLaws.{whole-range, RoundsTo, same_gives, rounds-to}
use Rattle.doubles_spec.proofs.ExportLaws.{export-accepts, export-exact}

-- ---- the cell

-- a cell that holds an exported mass in a field
pub round_trip : {mass k : ℕ} → ExportFits mass k → (c : CellDoubles) (field : ℕ) → field < 5 → double_at c field ≡ export_double mass k → Gives c k field (pos mass)
round_trip {mass} {k} fits c field l e =
    same_gives c k field fits.scale (subst (RoundsTo mass k) (sym e) (rounds-to k mass false refl fits.small (export_double mass k) (export-exact fits)))

-- ---- calls

-- what an accepted call of Export says of its mass and its double
exported-fits : {mass k : ℕ} {x : Float} → ExportContract mass k (Ok x) → ExportFits mass k
exported-fits {mass} {k} {x} p = (export-accepts mass k).0 (answered-accepted (export_verdict mass k) x (export_double mass k) p.answers).0

exported-back : {mass k : ℕ} {x : Float} → ExportContract mass k (Ok x) → RoundsTo mass k x
exported-back {mass} {k} {x} p = rounds-to k mass false refl (exported-fits p).small x (p.exact x refl)

-- what rounds to a mass is in range
module _ {mass k : ℕ} {x : Float} (r : RoundsTo mass k x) where
  in-target : TargetRange (target_units k x)
  in-target = subst TargetRange (sym r.target) (whole-range 0 r.small)

  in-low : BoundRange (low_units k x)
  in-low = subst BoundRange (sym r.low) (whole-range 1 r.small)

  in-high : BoundRange (high_units k x)
  in-high = subst BoundRange (sym r.high) (whole-range 1 r.small)

module _ {k : ℕ} {m : CellMasses} {c : CellDoubles} (p : ExportedAt k m c) where
  import-passes : import_verdict c k ≡ Ok tt
  import-passes =
      let t = exported-back p.target in
      let l = exported-back p.low in
      let h = exported-back p.high in
      let sl = exported-back p.safe_low in
      let sh = exported-back p.safe_high in
      (import-accepts c k).1
      (record {
        scale = (exported-fits p.target).scale;
        target_finite = t.finite;
        target = in-target t;
        low_finite = l.finite;
        low = in-low l;
        high_finite = h.finite;
        high = in-high h;
        safe_low_finite = sl.finite;
        safe_low = in-low sl;
        safe_high_finite = sh.finite;
        safe_high = in-high sh;
      })

  import-gives : import_units c k ≡ mass_units m
  unfolding import_units
  import-gives = rw ((exported-back p.target).target, (exported-back p.low).low, (exported-back p.high).high, (exported-back p.safe_low).low, (exported-back p.safe_high).high)

  -- five masses exported at a scale and imported in the five fields are accepted, and give exactly those units
  pub round-trip-calls : {answer : Imported} → ImportContract c k answer → answer ≡ Ok (mass_units m)
  unfolding import_tells import_holds carried
  round-trip-calls {answer} i =
      import-answer-injective answer (Ok (mass_units m))
      (i.answers ∙ rw (import-passes, import-gives))
      (i.carries ∙ rw import-passes)
