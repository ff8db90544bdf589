-- Step agrees with its version of 6 numbers of scratch for each node: only the bound of check 3 differs, and with scratch enough for each the two
-- refuse alike, give one answer and leave the same kept masses and book. Assumes nothing.
use mathlib.Core.Path.{◌≡◌, sym, ◌∙◌, ap}
use mathlib.Core.List.{List, ◌∷◌}
use Prim.Native.Nat.{ℕ, ◌*◌, ◌≤◌, ◌<◌}
use native.Mathlib.Omega.{arith}
use lib.Dec.{leb}
use lib.IntN.{ℤ}
use lib.ListN.{length}
use Rattle.numbers.specs.Checks.{Checked, Answered, refused, first, after, check_total}
use Rattle.qlt_spec.specs.Field.{Lists, nodes, scratch_per_node}
use Rattle.qlt_spec.specs.Checks.{check_values, check_reach}
use Rattle.qlt_spec.specs.Operation.{ShapeFits, cleared}
use Rattle.qlt_spec.specs.Former.{former_per_node}
use Rattle.qlt_spec.proofs.CheckLaws.{shape-by}
use Rattle.qlt_spec.proofs.FormerLaws.{both-enough, tells-agree, tells_alike, former-shape}
use Rattle.book_spec.specs.LentBook.{grown_buffer, lent_checks}
use Rattle.book_spec.specs.StartBook.{check_buffer}
use Rattle.kept_spec.specs.declared.Balance.{Balance}
use Rattle.kept_spec.specs.declared.Stepped.{Stepped}
use Rattle.kept_spec.specs.Step.{StepCall, step_call, next, new_total, check_same_scale, check_kept, step_verdict, StepContract, step_entry}
use Rattle.kept_spec.specs.Account.{Event, Promised}
use Rattle.kept_spec.specs.Former.{former_step_verdict, FormerStepContract}

-- the checks of a step after 1 to 3
abbrev later : Balance → List ℕ → ℤ → ℕ → Lists → List ℤ → List ℕ → ℕ → List Checked
later b kept source scale f s book l =
    let c = step_call b kept source scale f s book l in
    check_buffer (length book)
    ∷ check_same_scale scale b.scale
    ∷ check_values f
    ∷ check_kept kept b.total
    ∷ check_total (next c)
    ∷ check_reach f.safe_lows f.safe_highs (new_total c)
    ∷ lent_checks book l b.total

module _ (b : Balance) (kept : List ℕ) (source : ℤ) (scale : ℕ) (f : Lists) (s s' : List ℤ) (book : List ℕ) (l : ℕ) where
  -- the call by a scratch
  abbrev given : List ℤ → StepCall
  given t = step_call b kept source scale f t book l

  -- only the bound differs: by scratches of which the test of 3 decides alike, the verdict is the same
  pub former-step-by :
      leb (former_per_node * nodes f) (length s) ≡ leb (scratch_per_node * nodes f) (length s') → former_step_verdict (given s) ≡ step_verdict (given s')
  unfolding former_step_verdict step_verdict
  former-step-by e =
      ap (λ v. first (v ∷ later b kept source scale f s book l))
      (shape-by former_per_node scratch_per_node (length kept) f (length s) (length s') e)

  module _ (enough : former_per_node * nodes f ≤ length s) (enough' : scratch_per_node * nodes f ≤ length s') where
    -- the same answer, so the same balance, outcome, change, sum shared out, length of the book or refusal, and the same kept masses and book
    pub former-step-agrees :
        (answer answer' : Answered Stepped) {y y' : List ℕ} {t t' : List ℤ} {k k' : List ℕ}
        → FormerStepContract (given s) answer y t k → StepContract (given s') answer' y' t' k' → (answer ≡ answer') × ((y ≡ y') × (k ≡ k'))
    former-step-agrees answer answer' p q =
        let e = former-step-by (both-enough f enough enough') in
        let r = tells-agree e p.tells q.tells in
        (r.0, (r.1, p.files ∙ ap (λ v. after v (grown_buffer book l (step_entry (given s))) book) e ∙ sym q.files))

    -- what this version answers and keeps, the former one does
    pub former-step-holds :
        (answer : Answered Stepped) {y : List ℕ} {t : List ℤ} {k : List ℕ} → StepContract (given s') answer y t k
        → FormerStepContract (given s) answer y (after (former_step_verdict (given s)) (cleared (former_per_node * nodes f) s) s) k
    former-step-holds answer q =
        let e = former-step-by (both-enough f enough enough') in
        record {
          typed = record { bytes = q.typed.bytes; least = q.typed.least; most = q.typed.most };
          tells = tells_alike e q.tells;
          files = q.files ∙ ap (λ v. after v (grown_buffer book l (step_entry (given s))) book) (sym e);
        }

-- of one call, with any scratch of 6 × m numbers or more
pub former-step-verdict : (c : StepCall) → former_per_node * nodes c.lists ≤ length c.scratch → former_step_verdict c ≡ step_verdict c
former-step-verdict c h =
    former-step-by c.balance c.kept c.source c.scale c.lists c.scratch c.scratch c.book c.length (both-enough c.lists h (omega arith))

-- where this version finds enough scratch and the former one too little, that one refuses with 3
pub former-step-refuses :
    (c : StepCall) → ShapeFits c.lists (length c.kept) (length c.scratch) → length c.scratch < former_per_node * nodes c.lists
    → former_step_verdict c ≡ refused 3 0
unfolding former_step_verdict
former-step-refuses c h l =
    ap (λ v. first (v ∷ later c.balance c.kept c.source c.scale c.lists c.scratch c.book c.length))
    (former-shape c.lists (length c.kept) (length c.scratch) h l)

-- a step of the former version with that much is one of this version but for the scratch that it left: demand 3 speaks of it
pub former-promised :
    (e : Event) → former_per_node * nodes e.call.lists ≤ length e.call.scratch → FormerStepContract e.call e.answer e.kept e.scratch e.book
    → Promised
    (record {
      call = e.call;
      answer = e.answer;
      kept = e.kept;
      scratch = after (step_verdict e.call) (cleared (scratch_per_node * nodes e.call.lists) e.call.scratch) e.call.scratch;
      book = e.book;
    })
former-promised e h q =
    let v = former-step-verdict e.call h in
    record {
      typed = q.typed;
      tells = tells_alike (sym v) q.tells;
      files = q.files ∙ ap (λ w. after w (grown_buffer e.call.book e.call.length (step_entry e.call)) e.call.book) v;
    }
