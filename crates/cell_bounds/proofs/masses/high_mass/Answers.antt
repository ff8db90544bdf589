-- `cell_bounds::masses::high_mass` meets its contract: nothing more is rounded down.
use mathlib.Core.Path.{◌∙◌, ap}
use Prim.Native.Nat.{◌*◌, ◌/◌}
use native.Mathlib.Nat.{add-zero}
use Rattle.bounds_spec.specs.Ratios.{parts, mass_of, high_mass}
use Rattle.cell_bounds.proofs.masses.high_mass.Goals as goal

pub returns : goal.returns
unfolding high_mass
returns c = ap mass_of (c.rounded.ensures ∙ ap (λ p. p / parts) (add-zero (c.args.air.0 * c.args.ratio.0)))
