-- `walks::group::room_at` meets its contract: the room is taken of what was read, and a value that is moved by all of its room is at most
-- the larger of itself and the high, which were read too.
use mathlib.Core.Path.{◌∙◌, ap, ap₂}
use Rattle.caas_spec.specs.Split.{room}
use Rattle.scratch_spec.specs.Columns.{MASS, num}
use Rattle.scratch_spec.proofs.WalkLaws.{room_small, moved-room}
use Rattle.walks.proofs.group.room_at.Goals as goal

pub returns : goal.returns
returns c =
    let a = c.args in
    let x = c.get_above-x in
    let low = c.get_above-low in
    let high = c.get_above-high in (
      c.room_of.ensures
          ∙ ap (room a.down low.result high.result) x.ensures.0
          ∙ ap₂ (λ l h. room a.down l h (num MASS a.s.now a.u)) low.ensures.0 high.ensures.0,
      room_small a.down low.result high.result x.result c.room_of.ensures x.ensures.1 high.ensures.1,
      rw x.ensures.0 at (moved-room a.down low.result high.result x.result c.room_of.ensures x.ensures.1 high.ensures.1),
    )
