-- `family::members::others_of` meets its contract: after j members the sum is that of the totals of the first j but i.
use Rattle.std.proofs.Common.{◌≡◌, ◌*◌, ◌≤◌}
use Rattle.std.specs.Prelude.{not, eqb}
use Rattle.numbers.specs.Sums.{ℕ_adds, sum_to, pick}
use Rattle.family_spec.specs.Family.{total_of}
use Rattle.family.proofs.members.others_of.Given as goal

abbrev pub invariant-loop-j : goal.invariant-loop-j
invariant-loop-j l = (l.sum ≡ sum_to ℕ_adds l.j (λ k. pick ℕ_adds (not (eqb k l.i)) (total_of l.fn.family k))) × (l.sum ≤ l.j * 4294967295)
