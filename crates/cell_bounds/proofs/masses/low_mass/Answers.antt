-- `cell_bounds::masses::low_mass` meets its contract: 1048575 parts more make rounding down rounding up.
use mathlib.Core.Path.{◌∙◌, ap}
use Prim.Native.Nat.{◌*◌}
use Rattle.bounds_spec.specs.Ratios.{mass_of, low_mass}
use Rattle.bounds_spec.proofs.RatioLaws.{ceiling-plus}
use Rattle.cell_bounds.proofs.masses.low_mass.Goals as goal

pub returns : goal.returns
unfolding low_mass
returns c = ap mass_of (c.rounded.ensures ∙ ceiling-plus (c.args.air.0 * c.args.ratio.0))
