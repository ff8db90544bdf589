-- Sums over the items of a group. Assumes nothing.
use mathlib.Core.Path.{◌≡◌, refl, ◌∙◌, ap}
use mathlib.Core.Bool.{Bool, true, false}
use Prim.Native.Nat.{ℕ, suc, ◌+◌, ◌≤◌}
use native.Mathlib.Omega.{arith}
use native.Mathlib.Nat.{add-zero}
use lib.IntN.{pos}
use Rattle.numbers.specs.Sums.{Adds, ℕ_adds, ℤ_adds, pick}
use Rattle.numbers.specs.Signed.{gap}
use Rattle.numbers.proofs.SumLaws.{sum_to-next, sum_to-ext, sum_to-none, sum_to-plus, sum_to-le, sum_to-grows, sum_to-pos, pick-ext, pick-skip, pick-plus, pick-le, pick_pos, gap-sum}
use Rattle.caas_spec.specs.Group.{Group, Each, sum_before, sum_in}

module _ (G : Group) where
  -- a sum goes by the items alone
  pub in-ext : (A : Adds) (f g : ℕ → A.Num) → Each G (λ u. f u ≡ g u) → sum_in A G f ≡ sum_in A G g
  in-ext A f g h = sum_to-ext A G.size _ _ (λ u l. pick-ext A (G.has u) _ _ (h u l))

  pub in-none : (f : ℕ → ℕ) → Each G (λ u. f u ≡ 0) → sum_in ℕ_adds G f ≡ 0
  in-none f h = sum_to-none ℕ_adds G.size _ (λ u l. pick-skip ℕ_adds (G.has u) (f u) (h u l))

  pub in-le : (f g : ℕ → ℕ) → Each G (λ u. f u ≤ g u) → sum_in ℕ_adds G f ≤ sum_in ℕ_adds G g
  in-le f g h = sum_to-le G.size _ _ (λ u l. pick-le (G.has u) _ _ (h u l))

  pub in-add : (f g : ℕ → ℕ) → sum_in ℕ_adds G (λ u. f u + g u) ≡ sum_in ℕ_adds G f + sum_in ℕ_adds G g
  in-add f g = sum_to-ext ℕ_adds G.size _ _ (λ u l. pick-plus ℕ_adds (G.has u) (f u) (g u)) ∙ sum_to-plus ℕ_adds G.size _ _

  pub in_pos : (f : ℕ → ℕ) → sum_in ℤ_adds G (λ u. pos (f u)) ≡ pos (sum_in ℕ_adds G f)
  in_pos f = sum_to-ext ℤ_adds G.size _ _ (λ u l. pick_pos (G.has u) (f u)) ∙ sum_to-pos G.size _

  -- sums are no further apart than their summands together
  pub in-gap : (f g : ℕ → ℕ) → gap (sum_in ℕ_adds G f) (sum_in ℕ_adds G g) ≤ sum_in ℕ_adds G (λ u. gap (f u) (g u))
  in-gap f g = subst-le (sum_to-ext ℕ_adds G.size _ _ (λ u l. one (G.has u) (f u) (g u))) (gap-sum G.size (λ u. pick ℕ_adds (G.has u) (f u)) (λ u. pick ℕ_adds (G.has u) (g u)))
    where
      one : (b : Bool) (x y : ℕ) → gap (pick ℕ_adds b x) (pick ℕ_adds b y) ≡ pick ℕ_adds b (gap x y)
      one true x y = refl
      one false x y = refl

      subst-le : {a b c : ℕ} → b ≡ c → a ≤ b → a ≤ c
      subst-le e h = omega arith

  -- the items before the next number: one item more, or as many
  pub before-add : (f : ℕ → ℕ) (k : ℕ) → G.has k ≡ true → sum_before ℕ_adds G (suc k) f ≡ sum_before ℕ_adds G k f + f k
  before-add f k e = sum_to-next ℕ_adds k _ ∙ ap (λ b. sum_before ℕ_adds G k f + pick ℕ_adds b (f k)) e

  pub before_same : (f : ℕ → ℕ) (k : ℕ) → G.has k ≡ false → sum_before ℕ_adds G (suc k) f ≡ sum_before ℕ_adds G k f
  before_same f k e = sum_to-next ℕ_adds k _ ∙ ap (λ b. sum_before ℕ_adds G k f + pick ℕ_adds b (f k)) e ∙ add-zero _

  pub before-all : (f : ℕ → ℕ) (k : ℕ) → k ≤ G.size → sum_before ℕ_adds G k f ≤ sum_in ℕ_adds G f
  before-all f k l = sum_to-grows _ k G.size l
