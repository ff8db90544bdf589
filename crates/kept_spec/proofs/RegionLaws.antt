-- Edits stay in their region, of Step: two steps with fields that differ only below v tell the same and leave the same masses outside v, and the
-- same book, from their contracts alone. Assumes nothing.
use Rattle.std.specs.Prelude.{Ok}
use mathlib.Core.Path.{◌≡◌, refl, sym, ◌∙◌, ap, ap₂, subst}
use mathlib.Core.List.{List, [], ◌∷◌, ◌++◌}
use Prim.Native.Nat.{ℕ}
use lib.Dec.{eqb}
use lib.IntN.{ℤ, pos, ◌+ℤ◌}
use lib.ListN.{length}
use Rattle.numbers.specs.Signed.{over}
use Rattle.numbers.specs.Checks.{Checked, Answered, after, unless, first, check_total}
use Rattle.qlt_spec.specs.Field.{field, outcome, outcome_number}
use Rattle.qlt_spec.specs.Facts.{FieldFacts}
use Rattle.qlt_spec.specs.Checks.{shape_of, check_values, check_reach}
use Rattle.qlt_spec.specs.Operation.{ReconstructFits, repair}
use Rattle.qlt_spec.specs.Region.{SameRepair}
use Rattle.qlt_spec.proofs.CheckLaws.{reaches}
use Rattle.qlt_spec.proofs.RegionCallLaws.{shape-passes, values-pass, region, reach-same, repair-same, told_same, left-facts}
use Rattle.book_spec.specs.StartBook.{check_buffer}
use Rattle.book_spec.specs.LentBook.{lent_checks, grown_buffer, grown_length}
use Rattle.book_spec.specs.Book.{entry}
use Rattle.kept_spec.specs.declared.Stepped.{Stepped}
use Rattle.kept_spec.specs.Step.{StepCall, next, new_total, repair_call, check_same_scale, check_kept, step_verdict, step_verdict_with, step_result, step_entry, StepBy, StepContract}
use Rattle.kept_spec.specs.Region.{EditedStep, SameStepped, SameSteps}
use Rattle.kept_spec.proofs.StepLaws.{step-accepts, fits-repair}

module _ (c d : StepCall) {v : ℕ} (h : EditedStep c d v) where
  next-same : next c ≡ next d
  next-same = ap₂ (λ b z. pos b.total +ℤ z) h.balance h.source

  pub new-same : new_total c ≡ new_total d
  new-same = ap over next-same

  kept_same : check_kept c.kept c.balance.total ≡ check_kept d.kept d.balance.total
  unfolding check_kept
  kept_same = ap₂ (λ a b. unless (eqb a b.total) 12 0) h.kept h.balance

  reached-same : check_reach c.lists.safe_lows c.lists.safe_highs (new_total c) ≡ check_reach d.lists.safe_lows d.lists.safe_highs (new_total d)
  reached-same = reach-same h.past h.past' h.fields (new_total c) ∙ ap (check_reach d.lists.safe_lows d.lists.safe_highs) new-same

  shape_same : shape_of (length c.kept) c.lists (length c.scratch) ≡ shape_of (length d.kept) d.lists (length d.scratch)
  shape_same = shape-passes h.past ∙ sym (shape-passes h.past')

  values_same : check_values c.lists ≡ check_values d.lists
  values_same = values-pass h.past ∙ sym (values-pass h.past')

  -- both are accepted, or both are refused with one number and place; with the checks of an operation that steps put in, if these agree
  pub step-verdict-same : {own own' : List Checked} → own ≡ own' → step_verdict_with own c ≡ step_verdict_with own' d
  unfolding step_verdict_with
  step-verdict-same e i =
      first
      (shape_same i
      ∷ check_buffer (length (h.book i))
      ∷ check_same_scale (h.scale i) (h.balance i).scale
      ∷ values_same i
      ∷ kept_same i
      ∷ check_total (next-same i)
      ∷ (e i ++ (reached-same i ∷ lent_checks (h.book i) (h.length i) (h.balance i).total)))

  -- the record that the book gains
  entry-same : step_entry c ≡ step_entry d
  unfolding repair
  entry-same i = entry (h.source i) (outcome_number (outcome-same i)) (new-same i)
    where
      outcome-same : outcome (field c.lists) (new_total c) ≡ outcome (field d.lists) (new_total d)
      outcome-same = (region h.past h.past' h.fields (new_total c)).outcome ∙ ap (outcome (field d.lists)) new-same

  -- the repairs that they ask for fit alike
  fits-same : ReconstructFits (repair_call c) → ReconstructFits (repair_call d)
  fits-same f =
      record {
        shape = h.past'.shape;
        values = h.past'.values;
        reach = (reaches d.lists (new_total d)).0 (sym reached-same ∙ (reaches c.lists (new_total c)).1 f.reach);
      }

  -- by one verdict of both, of Step or of an operation that steps
  pub steps-same :
      {w u : Checked} (a b : Answered Stepped) {xs ys book book' : List ℕ} {scratch scratch' : List ℤ} → w ≡ u → (w ≡ Ok tt → ReconstructFits (repair_call c))
      → StepBy w c a xs scratch book → StepBy u d b ys scratch' book' → SameSteps (field c.lists) v a b xs ys book book'
  steps-same {w} {u} a b {xs} {ys} e fits p q =
      record {
        told = told_same (step_result c) (step_result d) e p.tells.answers q.tells.answers same;
        books = p.files ∙ (λ i. after (e i) (grown_buffer (h.book i) (h.length i) (entry-same i)) (h.book i)) ∙ sym q.files;
      }
    where
      same : w ≡ Ok tt → SameStepped (field c.lists) v xs ys (step_result c) (step_result d)
      same z =
          record {
            repair =
                subst (λ M. SameRepair (field c.lists) v (repair c.lists (new_total c)) (repair d.lists M) xs ys) new-same
                (repair-same h.past h.past' h.fields (left-facts p.tells z (fits z))
                (subst (λ M. FieldFacts (field d.lists) M ys) (sym new-same) (left-facts q.tells (sym e ∙ z) (fits-same (fits z)))));
            balance = λ i. record { total = new-same i; scale = (h.balance i).scale };
            length = λ i. grown_length (h.book i) (h.length i);
          }

  -- the claim, of Step
  pub step-region :
      (a b : Answered Stepped) {xs ys book book' : List ℕ} {scratch scratch' : List ℤ}
      → StepContract c a xs scratch book → StepContract d b ys scratch' book' → SameSteps (field c.lists) v a b xs ys book book'
  unfolding step_verdict step_verdict_with
  step-region a b p q = steps-same a b (step-verdict-same {own = []} refl) (λ e. fits-repair c ((step-accepts c).0 e)) p q
