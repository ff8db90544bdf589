-- 01's starred examples, E1 to E10: what is asked, and what must be given, with d and what is shared out (ticket 2 of 02) and with the rounding
-- of ticket 3 of 02, by which E2 with M 2 and E4 give other masses than in 01; and the example of ticket 6 of 02. Assumes nothing.
use Rattle.std.specs.Prelude.{Ok, List, [], ◌∷◌, ℕ, ℤ, pos, negsuc, replicate, Float}
use Rattle.std.specs.Float.{binary64}
use Rattle.std.specs.Float.Ieee.{of_bits}
use Rattle.numbers.specs.Checks.{Answered, refused, answered, after}
use Rattle.caas_spec.specs.Operation.{SplitCall, split_call, split_verdict, split_masses, split_deficit}
use Rattle.qlt_spec.specs.declared.Repair.{Repair}
use Rattle.qlt_spec.specs.Field.{Lists, lists, field}
use Rattle.qlt_spec.specs.Masses.{tree_masses}
use Rattle.qlt_spec.specs.Operation as reconstruct
use Rattle.qlt_spec.specs.Operation.{ReconstructCall, reconstruct_call}
use Rattle.doubles_spec.specs.declared.CellDoubles.{CellDoubles}
use Rattle.doubles_spec.specs.declared.CellUnits.{CellUnits}
use Rattle.doubles_spec.specs.Import.{import_verdict, import_units, carried}
use Rattle.files_spec.specs.FieldFile.{field_bytes}
use Rattle.report.specs.Report.{report_text}
use Rattle.text.specs.Ascii.{ascii}
use Rattle.query_spec.specs.Query.{query_text}

-- ---- what is asked: a call of Split, of Reconstruct, of Import at scale 0, the text for a field file's bytes, or that for one of its cells
pub data Asked : Type 0 where
  splits : SplitCall → Asked
  repairs : ReconstructCall → Asked
  imports : CellDoubles → Asked
  prints : List ℕ → Asked
  queries : List ℕ → ℕ → Asked

-- what is given: what the operation tells, with the masses that it leaves or the double that a refusal carries; or the text
pub data Given : Type 0 where
  split : Answered ℤ → List ℤ → Given
  repair : Answered Repair → List ℕ → Given
  import : Answered CellUnits → List Float → Given
  text : List ℕ → Given

-- by the definitions that the contracts cite
abbrev pub gives : Asked → Given
gives (splits c) = split (answered (split_verdict c) (split_deficit c)) (after (split_verdict c) (split_masses c) c.masses)
gives (repairs c) =
    repair (answered (reconstruct.reconstruct_verdict c) (reconstruct.repair c.lists c.total))
    (after (reconstruct.reconstruct_verdict c) (tree_masses (field c.lists) c.total) c.masses)
gives (imports d) = import (answered (import_verdict d 0) (import_units d 0)) (carried (import_verdict d 0) d)
gives (prints file) = text (report_text file)
gives (queries file cell) = text (query_text file cell)

-- ---- the calls; before each, every mass is 9 and every scratch number 1

abbrev pub e1_lists : Lists
e1_lists =
    lists (negsuc 1 ∷ pos 9 ∷ pos 4 ∷ pos 5 ∷ []) (replicate 4 0) (replicate 4 8) (replicate 4 0) (replicate 4 10) (replicate 4 0) (4 ∷ 4 ∷ 5 ∷ 5 ∷ 6 ∷ 6 ∷ 6 ∷ [])

abbrev pub e2 : ℤ → SplitCall
e2 M = split_call (replicate 3 (pos 0)) (replicate 3 (pos 0)) (replicate 3 (pos 1)) (replicate 3 (pos 0)) M (replicate 3 (pos 9))

abbrev e3 : SplitCall
e3 = split_call (replicate 2 (pos 0)) (replicate 2 (pos 0)) (pos 10 ∷ pos 3 ∷ []) (pos 1 ∷ pos 3 ∷ []) (pos 8) (replicate 2 (pos 9))

abbrev pub e4 : ℕ → List ℕ → ReconstructCall
e4 M parents =
    reconstruct_call (lists (pos 3 ∷ pos 5 ∷ []) (3 ∷ 5 ∷ []) (4 ∷ 6 ∷ []) (replicate 2 0) (replicate 2 10) (replicate 2 0) parents)
    M (replicate 2 9) (replicate 12 (pos 1))

abbrev pub e8 : ReconstructCall
e8 = reconstruct_call (lists (pos 3 ∷ []) (0 ∷ []) (5 ∷ []) (0 ∷ []) (10 ∷ []) (0 ∷ []) (0 ∷ [])) 7 (9 ∷ []) (replicate 4 (pos 1))

-- the double of a bit pattern; a target, a low and a high, with 0 in the other fields
abbrev bits : ℕ → Float
bits n = of_bits binary64 n

abbrev cell : ℕ → ℕ → ℕ → CellDoubles
cell t l h = record { target = bits t; low = bits l; high = bits h; safe_low = bits 0; safe_high = bits 0 }

-- ---- what must be given

abbrev done : ℤ → List ℤ → Given
done d masses = split (Ok d) masses

abbrev repaired : (outcome total change shared : ℕ) → List ℕ → Given
repaired outcome total change shared masses = repair (Ok (record { outcome = outcome; total = total; change = change; shared = shared })) masses

abbrev units : ℤ → Given
units t = import (Ok (record { target = t; low = 0; high = 0; safe_low = 0; safe_high = 0 })) []

pub record Row : Type 0 where
  pub asked : Asked
  pub wanted : Given

abbrev row : Asked → Given → Row
row asked wanted = record { asked = asked; wanted = wanted }

abbrev pub e1 : Row
e1 = row (prints (field_bytes e1_lists 16)) (text (ascii "outcome 0 cells 4 total 16 change 4\n0 0 2\n1 7 -2\n2 4 0\n3 5 0\n"))

-- ticket 6 of 02: E1's cell 1
abbrev pub e1_query : Row
e1_query = row (queries (field_bytes e1_lists 16) 1) (text (ascii "outcome 0 clipping -1 first 0 second -1\n"))

abbrev pub others : List Row
others =
    -- E1's field, by Reconstruct
    row (repairs (reconstruct_call e1_lists 16 (replicate 4 9) (replicate 28 (pos 1)))) (repaired 0 16 4 1 (0 ∷ 7 ∷ 4 ∷ 5 ∷ []))
    -- E2
    ∷ row (splits (e2 (pos 2))) (done (pos 2) (pos 1 ∷ pos 0 ∷ pos 1 ∷ []))
    ∷ row (splits (e2 (pos 3))) (done (pos 3) (pos 1 ∷ pos 1 ∷ pos 1 ∷ []))
    ∷ row (splits (e2 (pos 4))) (split (refused 8 0) (replicate 3 (pos 9)))
    -- E3
    ∷ row (splits e3) (done (pos 8) (pos 5 ∷ pos 3 ∷ []))
    -- E4, E5, E6
    ∷ row (repairs (e4 4 (2 ∷ 2 ∷ 2 ∷ []))) (repaired 1 4 4 4 (1 ∷ 3 ∷ []))
    ∷ row (repairs (e4 14 (2 ∷ 2 ∷ 2 ∷ []))) (repaired 2 14 6 4 (6 ∷ 8 ∷ []))
    ∷ row (repairs (e4 20 (2 ∷ 2 ∷ 2 ∷ []))) (repaired 2 20 12 10 (10 ∷ 10 ∷ []))
    ∷ row (repairs (e4 21 (2 ∷ 2 ∷ 2 ∷ []))) (repair (refused 8 0) (9 ∷ 9 ∷ []))
    -- E7
    ∷ row (repairs (e4 4 (2 ∷ 2 ∷ []))) (repair (refused 4 0) (9 ∷ 9 ∷ []))
    -- E8
    ∷ row (repairs e8) (repaired 2 7 4 0 (7 ∷ []))
    -- E9: targets 2.5, 3.5, −2.5
    ∷ row (imports (cell 0x4004_0000_0000_0000 0 0)) (units (pos 2))
    ∷ row (imports (cell 0x400c_0000_0000_0000 0 0)) (units (pos 4))
    ∷ row (imports (cell 0xc004_0000_0000_0000 0 0)) (units (negsuc 1))
    -- E10: −0.25 as low and as high
    ∷ row (imports (cell 0 0xbfd0_0000_0000_0000 0)) (units (pos 0))
    ∷ row (imports (cell 0 0 0xbfd0_0000_0000_0000)) (import (refused 11 2) (bits 0xbfd0_0000_0000_0000 ∷ []))
    ∷ []

-- the table
abbrev pub rows : List Row
rows = e1 ∷ e1_query ∷ others
