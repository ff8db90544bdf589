-- What Open's verdict means, and what an accepted opening gives. Assumes nothing.
use Rattle.std.specs.Prelude.{Ok}
use mathlib.Core.Path.{◌≡◌, refl, sym, ◌∙◌, subst}
use mathlib.Core.Logic.{◌↔◌}
use mathlib.Core.List.{List, [], ◌∷◌, ◌++◌}
use Prim.Native.Nat.{ℕ}
use native.Mathlib.Omega.{arith}
use lib.IntN.{pos}
use lib.ListN.{length}
use Rattle.numbers.specs.Checks.{Checked, Answered, refused, first, check_total, Rule, total_rule, DecidesAll, Holds, Broken, RefuseWith, Extends}
use Rattle.numbers.proofs.SignedLaws.{le_parts, parts-le}
use Rattle.numbers.proofs.CheckLaws.{first-append, answered-accepted, decides-then, decides-none, decides-append, count-decides, scale-decides, total-decides}
use Rattle.numbers.proofs.ChainLaws.{extends-own, extends-pass, refuse-with}
use Rattle.numbers.specs.Lists.{sum, All}
use Rattle.kept_spec.specs.declared.Balance.{Balance}
use Rattle.kept_spec.specs.Open.{open_checks_with, open_checks, open_verdict, open_verdict_with, open_rules_with, open_rules, OpenFits, open_balance, OpenContract}

-- ---- the verdict

module _ (kept : List ℕ) (k : ℕ) where
  -- accepted if every rule holds; refused with a number at a place if those before it hold and this one is broken there
  pub open-decides-with : (own : List Checked) (rules : List Rule) → DecidesAll (first own) rules → DecidesAll (open_verdict_with own kept k) (open_rules_with rules kept k)
  unfolding open_verdict_with
  open-decides-with own rules d =
      let total = check_total (pos (sum kept)) ∷ [] in
      let totals = total_rule (pos (sum kept)) ∷ [] in
      decides-then _ _ _ _ (count-decides (length kept))
      (decides-then _ _ _ _ (scale-decides k)
      (subst (λ v. DecidesAll v (rules ++ totals)) (first-append own total)
      (decides-append (first own) (first total) rules totals d (decides-then _ _ _ _ (total-decides (pos (sum kept))) decides-none))))

  pub open-decides : DecidesAll (open_verdict kept k) (open_rules kept k)
  unfolding open_verdict open_verdict_with open_rules
  open-decides = open-decides-with [] [] decides-none

  rules-fit : Holds (open_rules kept k) ↔ OpenFits kept k
  unfolding open_rules Holds
  rules-fit = (
    λ h. record { some = h.0.0; few = h.0.1; scale = h.1.0; small = (le_parts h.1.1.0.1).0 },
    λ f. ((f.some, f.few), (f.scale, ((parts-le (omega arith), parts-le (omega (arith, f.small))), tt))),
  )

  pub open-accepts : (open_verdict kept k ≡ Ok tt) ↔ OpenFits kept k
  open-accepts = (λ e. rules-fit.0 (open-decides.passes.0 e), λ f. open-decides.passes.1 (rules-fit.1 f))

  pub open-refuses : (number place : ℕ) → (open_verdict kept k ≡ refused number place) ↔ Broken (open_rules kept k) number place
  open-refuses = open-decides.fails

  -- with checks put in, the chain is Open's extended by them
  pub open-extends :
      {Put : ℕ → Type 0} (own : List Checked) → All (λ v. (number place : ℕ) → v ≡ refused number place → Put number) own
      → Extends Put (open_checks_with own kept k) (open_checks kept k)
  open-extends own h = Extends.shared (Extends.shared (extends-own own h (Extends.shared Extends.end)))

  -- so where it passes, Open fits
  pub open-with-fits : (own : Checked) → open_verdict_with (own ∷ []) kept k ≡ Ok tt → OpenFits kept k
  unfolding open_verdict_with open_verdict
  open-with-fits own e = open-accepts.0 (extends-pass (open-extends {Put = λ n. Unit} (own ∷ []) (All.more (λ n p q. tt) All.none)) e)

  -- it refuses with the papers' numbers and no others
  pub open-numbers : RefuseWith (open_rules kept k) (1 ∷ 9 ∷ 13 ∷ [])
  unfolding open_rules
  open-numbers = refuse-with (open_rules kept k) _ refl refl

  -- from the contract alone: an accepted opening fits, and gives the sum of the masses at the scale named
  pub opened-balance : (a : Answered Balance) (b : Balance) → OpenContract kept k a → a ≡ Ok b → OpenFits kept k × (b ≡ open_balance kept k)
  opened-balance a b p t =
      let z = answered-accepted (open_verdict kept k) b (open_balance kept k) (sym t ∙ p.answers) in
      (open-accepts.0 z.0, z.1)
