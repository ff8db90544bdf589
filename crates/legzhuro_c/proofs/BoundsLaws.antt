-- The call that makes bounds from mixing ratios: from the operation's contract to what the call returns and writes, and back; and consistency
-- by the calls. Assumes nothing.
use Rattle.std.specs.Prelude.{Ok, Err}
use mathlib.Core.Path.{◌≡◌, refl, ◌∙◌, ap}
use mathlib.Core.Logic.{⊎_elim}
use mathlib.Core.List.{List}
use Prim.Native.Nat.{ℕ, ◌<◌}
use native.Mathlib.Decide.{dec_lt}
use native.Mathlib.Omega.{arith}
use lib.IntN.{ℤ}
use lib.ListN.{length}
use Rattle.numbers.specs.Checks.{Checked, answered}
use Rattle.kept_spec.specs.Step.{StepCall}
use Rattle.bounds_spec.specs.declared.Ratio.{Ratio}
use Rattle.bounds_spec.specs.Bounds.{Bounds, bounds_of, BoundsCall, bounds_verdict, BoundsContract}
use Rattle.bounds_spec.specs.Consistency.{Uniform, Consistent}
use Rattle.bounds_spec.proofs.BoundsLaws.{bounds-decides, bounds-numbers}
use Rattle.bounds_spec.proofs.ConsistencyLaws.{step-consistent}
use Rattle.call_values.specs.Values.{returned, told_by, step_values, result_in}
use Rattle.call_values.proofs.ValueLaws.{Numbered, told-own, numbered}
use Rattle.legzhuro_c.specs.Calls.{StepReturns, BoundsReturns}
use Rattle.legzhuro_c.proofs.OwnLaws.{step-own, step-short-returns}

-- what the operation answers is returned
pub bounds-returns : {c : BoundsCall} {a : Checked} {left : Bounds} → BoundsContract c a left → BoundsReturns c (returned a) left
bounds-returns {c} {a} p = record { returns = ap returned (p.answers ∙ itself (bounds_verdict c)); writes = p.writes }
  where
    itself : (v : Checked) → answered v tt ≡ v
    itself (Ok _) = refl
    itself (Err r) = refl

-- the call has the operation's own contract
pub bounds-numbered : (c : BoundsCall) → Numbered (bounds_verdict c)
bounds-numbered c = numbered _ (bounds-decides c) (bounds-numbers c) refl

pub bounds-own : (c : BoundsCall) (r : ℕ) (left : Bounds) → BoundsReturns c r left → BoundsContract c (told_by r tt) left
bounds-own c r left q =
    record {
      answers = told-own (bounds_verdict c) r tt tt (bounds-numbered c) q.returns (λ e. refl);
      writes = q.writes;
    }

-- a step with the bounds that an accepted call left, both returning 0: every mass is air times ratio
pub call-consistent :
    {b : BoundsCall} {left : Bounds} {x : Ratio} {c : StepCall} {answer kept answer' : List ℕ} {scratch : List ℤ} {book : List ℕ}
    → BoundsReturns b 0 left → Uniform b.given x → bounds_of c.lists ≡ left → StepReturns c answer 0 kept scratch book answer'
    → Consistent b.given x kept
call-consistent {b} {left} {x} {c} {answer} {kept} {answer'} {scratch} {book} q u same s = go (dec_lt (length answer) step_values)
  where
    -- without room for its values the step would not return 0
    go : Dec (length answer < step_values) → Consistent b.given x kept
    go (yes h) = absurd (⊎_elim (λ e. omega arith) (λ d. ⊎_elim (λ e. omega arith) (λ e. omega arith) d) (step-short-returns c answer 0 kept scratch book answer' h s))
    go (no h) =
        step-consistent (bounds-own b 0 left q) u
        (record { call = c; answer = (told_by 0 (result_in c answer')); kept = kept; scratch = scratch; book = book }) (result_in c answer') same
        (step-own c answer 0 kept scratch book answer' (omega arith) s) refl
