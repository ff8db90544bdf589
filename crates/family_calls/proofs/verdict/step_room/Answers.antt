-- `family_calls::verdict::step_room` meets its contract: a list that passed its check holds a family.
use mathlib.Core.Path.{sym}
use Rattle.numbers.proofs.CheckLaws.{long-decides}
use Rattle.family_calls.proofs.verdict.step_room.Goals as goal

pub read_family-requires : goal.read_family-requires
read_family-requires c = (long-decides _ _).passes.0 (sym c.in_ok-check_long.ensures)
