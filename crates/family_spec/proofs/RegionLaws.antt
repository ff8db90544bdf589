-- Edits stay in their region, of a member's steps and of turns, from their contracts alone: Step's law with the checks of a family put in. Assumes
-- nothing.
use Rattle.std.specs.Prelude.{Ok, Some, Option}
use mathlib.Core.Path.{◌≡◌, sym, ◌∙◌, ap, ap₂, subst}
use mathlib.Core.List.{List, [], ◌∷◌}
use Prim.Native.Nat.{ℕ}
use lib.IntN.{ℤ}
use Rattle.numbers.specs.Checks.{Answered, after, both}
use Rattle.qlt_spec.specs.Operation.{ReconstructFits}
use Rattle.kept_spec.specs.declared.Stepped.{Stepped}
use Rattle.kept_spec.specs.Step.{StepCall, repair_call}
use Rattle.kept_spec.proofs.StepLaws.{step-accepts, fits-repair}
use Rattle.kept_spec.proofs.RegionLaws.{new-same, step-verdict-same, steps-same}
use Rattle.family_spec.specs.declared.Family.{Family}
use Rattle.family_spec.specs.declared.Served.{Served}
use Rattle.family_spec.specs.declared.FamilyAnswer.{FamilyAnswer}
use Rattle.family_spec.specs.Family.{member_at, room, terms, put, open_with}
use Rattle.family_spec.specs.Member.{StepInputs, call_of, check_opened, check_same_cells, check_source}
use Rattle.family_spec.specs.Operations.{step_member_verdict, StepMemberContract, next_member, serve, ServingTurn, TurnBy, TurnContract}
use Rattle.family_spec.specs.Region.{EditedInputs, SameMemberSteps, SameTurns}
use Rattle.family_spec.proofs.RuleLaws.{stepping-steps}
use Rattle.family_spec.proofs.AnswerLaws.{verdict-is}

module _ (f : Family) (i : ℕ) (x y : StepInputs) {v : ℕ} (h : EditedInputs f i x y v) where
  abbrev c : StepCall
  c = call_of (terms f) (member_at f i) x

  abbrev d : StepCall
  d = call_of (terms f) (member_at f i) y

  member-verdict-same : step_member_verdict f i x ≡ step_member_verdict f i y
  member-verdict-same =
      verdict-is f i x
      ∙ ap₂ (λ n v. both (both (check_opened i (member_at f i)) (check_same_cells n f.cells)) v) h.fields.tree.cells
      (step-verdict-same c d h (ap₂ (λ s t. check_source s t (room f i) ∷ []) h.source (new-same c d h)))
      ∙ sym (verdict-is f i y)

  pub member-region :
      {r q : FamilyAnswer (Answered Stepped)} {xs ys book book' : List ℕ} {scratch scratch' : List ℤ}
      → StepMemberContract f i x r xs scratch book → StepMemberContract f i y q ys scratch' book' → SameMemberSteps x v r q xs ys book book'
  member-region {r} {q} k l =
      record {
        steps = steps-same c d h r.answer q.answer member-verdict-same fits k.tells l.tells;
        family =
            k.gives ∙ (λ j. after (member-verdict-same j) (put f i (open_with (new-same c d h j))) f) ∙ sym l.gives;
      }
    where
      fits : step_member_verdict f i x ≡ Ok tt → ReconstructFits (repair_call c)
      fits e = fits-repair c ((step-accepts c).0 (stepping-steps (terms f) i (member_at f i) (room f i) x e))

  -- of two turns that serve it
  pub turn-region :
      {r q : FamilyAnswer (Option Served)} {xs ys book book' : List ℕ} {scratch scratch' : List ℤ} → next_member f ≡ Some i
      → TurnContract f x r xs scratch book → TurnContract f y q ys scratch' book' → SameTurns x v i r q xs ys book book'
  turn-region {r} {q} {xs} {ys} {book} {book'} {scratch} {scratch'} e k l =
      let a : ServingTurn f i x r xs scratch book = subst (λ n. TurnBy n f x r xs scratch book) e k.serves_next in
      let b : ServingTurn f i y q ys scratch' book' = subst (λ n. TurnBy n f y q ys scratch' book') e l.serves_next in
      let s = member-region a.contract b.contract in
      record {
        answer = a.step.answer;
        answer' = b.step.answer;
        served = a.answers;
        served' = b.answers;
        steps = s.steps;
        family = a.gives ∙ ap (λ z. serve z i) s.family ∙ sym b.gives;
      }
