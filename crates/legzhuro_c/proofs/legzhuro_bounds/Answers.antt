-- `legzhuro_c::legzhuro_bounds` meets its contract: what Bounds tells is returned.
use Rattle.legzhuro_c.proofs.BoundsLaws.{bounds-returns}
use Rattle.legzhuro_c.proofs.legzhuro_bounds.Goals as goal

pub returns : goal.returns
returns c = rw c.returned.ensures (bounds-returns c.bounds.ensures)
