-- `split::work::link` meets its contract: the rows passed lead to the next.
use mathlib.Core.Bool.{true}
use Prim.Native.Nat.{◌+◌}
use lib.IntN.{pos}
use Rattle.scratch_spec.specs.Columns.{NEXT, Laid}
use Rattle.split.proofs.work.link.Given as goal

abbrev pub invariant-loop-u : goal.invariant-loop-u
invariant-loop-u l = Laid NEXT l.n (λ w. true) (λ w. pos (w + 1)) l.u l.initial.s l.s
