-- `split::verdict::verdict` meets its contract: the checks of lengths, then those of values.
use Rattle.std.specs.Prelude.{Ok}
use mathlib.Core.Path.{◌≡◌, refl, sym, ◌∙◌, ap₂}
use Prim.Native.Nat.{ℕ, ◌≤◌}
use native.Mathlib.Omega.{arith}
use mir.Syntax.{w64}
use mir.ValLaws.{to_z-of_z}
use Rattle.numbers.specs.Checks.{first, check_count}
use Rattle.numbers.proofs.CheckLaws.{on}
use Rattle.caas_spec.specs.Operation.{check_lengths, split_value_checks, split_verdict}
use Rattle.caas_spec.proofs.OperationLaws.{shape-passed}
use Rattle.split.proofs.verdict.verdict.Goals as goal

-- what the two checks of lengths leave
passed : {n l h w m : ℕ} → Ok tt ≡ check_count n → Ok tt ≡ check_lengths n l h w m → (n ≤ 512) × ((l ≡ n) × ((h ≡ n) × ((w ≡ n) × (m ≡ n))))
passed {n} {l} {h} {w} {m} e f = shape-passed n l h w m (sym (on (sym e) (on (sym f) refl)))

pub value_checks-requires : goal.value_checks-requires
value_checks-requires c = let l = passed c.in_ok-check_count.ensures c.in_ok-check_lengths.ensures in (omega arith, omega arith, omega arith)

pub returns : goal.returns
unfolding split_verdict
returns c =
    let a = c.args in
    let l = passed c.in_ok-check_count.ensures c.in_ok-check_lengths.ensures in
    on (sym c.in_ok-check_count.ensures) (on (sym c.in_ok-check_lengths.ensures)
    (c.value_checks.ensures ∙ ap₂ (λ k z. first (split_value_checks k a.lows.now a.highs.now a.weights.now z)) l.1.0 (to_z-of_z w64 a.total c.ranges.total)))
