-- The portions of an amount and the two passes: what they add up to, and what none exceeds. `quota` enters by its laws alone. Assumes nothing.
use mathlib.Core.Path.{◌≡◌, refl, sym, ◌∙◌, ap, ap₂}
use mathlib.Core.Bool.{true, cond}
use Prim.Native.Nat.{ℕ, zero, suc, ◌+◌, ◌*◌, ◌≤◌, ◌<◌, min}
use native.Mathlib.Omega.{arith}
use native.Mathlib.Nat.{le_trans, le_of_eq, mul-le-mul_left, mul-add, mul-zero, zero-mul, zero-add}
use lib.Dec.{eqb}
use borrow.Author.Tests.{eqb-true}
use Rattle.numbers.specs.Sums.{ℕ_adds, sum_to}
use Rattle.numbers.specs.Quota.{quota}
use Rattle.numbers.proofs.TestLaws.{Tested, holds, fails, tested}
use Rattle.numbers.proofs.QuotaLaws.{quota-mono, quota-zero, quota-none, quota-whole, quota-part, quota-near}
use Rattle.caas_spec.specs.Group.{Group, sum_before, sum_in}
use Rattle.caas_spec.specs.Split.{portion, first_share, remainder, left, second_share}
use Rattle.caas_spec.proofs.GroupLaws.{in-ext, in-none, in-le, in-add, before-add, before_same}

module _ (G : Group) where
  -- portions add up: those before k to the quotient at k
  module _ (s : ℕ → ℕ) (D : ℕ) where
    abbrev C : ℕ
    C = sum_in ℕ_adds G s

    portions-next : (k : ℕ) → sum_before ℕ_adds G k (portion G s D) ≡ quota (D * sum_before ℕ_adds G k s) C → Tested (G.has k) → sum_before ℕ_adds G (suc k) (portion G s D) ≡ quota (D * sum_before ℕ_adds G (suc k) s) C
    unfolding portion
    portions-next k e (holds h) =
        before-add G (portion G s D) k h
        ∙ ap (λ x. x + portion G s D k) e
        ∙ omega (arith, quota-mono C (D * sum_before ℕ_adds G k s) (D * sum_before ℕ_adds G (suc k) s) (mul-le-mul_left D (omega (arith, before-add G s k h))))
    portions-next k e (fails h) = before_same G (portion G s D) k h ∙ e ∙ ap (λ x. quota (D * x) C) (sym (before_same G s k h))

    pub portions : (k : ℕ) → sum_before ℕ_adds G k (portion G s D) ≡ quota (D * sum_before ℕ_adds G k s) C
    portions zero = unfold sum_to in sym (ap (λ x. quota x C) (mul-zero D) ∙ quota-zero C)
    portions (suc k) = portions-next k (portions k) (tested (G.has k))

    pub portions-most : sum_in ℕ_adds G (portion G s D) ≤ D
    portions-most = rw (portions G.size) (go C)
      where
        go : (c : ℕ) → quota (D * c) c ≤ D
        go zero = rw (quota-none (D * 0)) (omega arith)
        go (suc c) = le_of_eq (quota-whole D (suc c) (omega arith))

    -- if the sizes add up to D or more, the portions add up to D, and none is above its size
    pub portions-all : D ≤ C → sum_in ℕ_adds G (portion G s D) ≡ D
    portions-all h = go C refl
      where
        go : (c : ℕ) → C ≡ c → sum_in ℕ_adds G (portion G s D) ≡ D
        go zero e = omega (arith, portions-most)
        go (suc c) e = portions G.size ∙ quota-whole D C (omega arith)

    pub portion-most : D ≤ C → (u : ℕ) → G.has u ≡ true → portion G s D u ≤ s u
    unfolding portion
    portion-most h u e = rw (before-add G s u e) (omega (arith, quota-part D C (sum_before ℕ_adds G u s) (s u) h))

    -- less than one unit from D × size ÷ C
    pub portion-near : 0 < C → (u : ℕ) → G.has u ≡ true → (portion G s D u * C < D * s u + C) × (D * s u < portion G s D u * C + C)
    unfolding portion
    portion-near h u e = rw (before-add G s u e, mul-add D (sum_before ℕ_adds G u s) (s u)) (quota-near (D * sum_before ℕ_adds G u s) (D * s u) C h)

  pub portion-nothing : (s : ℕ → ℕ) (u : ℕ) → portion G s 0 u ≡ 0
  unfolding portion
  portion-nothing s u = rw (zero-mul (sum_before ℕ_adds G (suc u) s), zero-mul (sum_before ℕ_adds G u s), quota-zero (sum_in ℕ_adds G s))

  pub portion-none : (s : ℕ → ℕ) (D u : ℕ) → sum_in ℕ_adds G s ≡ 0 → portion G s D u ≡ 0
  unfolding portion
  portion-none s D u e = rw (e, quota-none (D * sum_before ℕ_adds G (suc u) s), quota-none (D * sum_before ℕ_adds G u s))

  module _ (cap : ℕ → ℕ) (D : ℕ) where
    -- the two passes in forms without 01's cases W = 0 and E = 0, which fall in with x ÷ 0 = 0 and 0 ÷ x = 0
    pub first-is : (u : ℕ) → first_share G cap D u ≡ min (cap u) (portion G G.weight D u)
    unfolding first_share
    first-is u = go (tested (eqb (sum_in ℕ_adds G G.weight) 0))
      where
        go : Tested (eqb (sum_in ℕ_adds G G.weight) 0) → cond (eqb (sum_in ℕ_adds G G.weight) 0) 0 (min (cap u) (portion G G.weight D u)) ≡ min (cap u) (portion G G.weight D u)
        go (holds e) = rw e (omega (arith, portion-none G.weight D u (eqb-true _ 0 e)))
        go (fails e) = rw e

    pub second_is : (u : ℕ) → second_share G cap D u ≡ portion G (left G cap D) (remainder G cap D) u
    unfolding second_share
    second_is u = go (tested (eqb (remainder G cap D) 0))
      where
        go : Tested (eqb (remainder G cap D) 0) → cond (eqb (remainder G cap D) 0) 0 (portion G (left G cap D) (remainder G cap D) u) ≡ portion G (left G cap D) (remainder G cap D) u
        go (holds e) = rw e (sym (ap (λ x. portion G (left G cap D) x u) (eqb-true _ 0 e) ∙ portion-nothing (left G cap D) u))
        go (fails e) = rw e

    -- first shares never pass the capacity, nor D in sum
    pub first-cap : (u : ℕ) → first_share G cap D u ≤ cap u
    first-cap u = omega (arith, first-is u)

    pub firsts-most : sum_in ℕ_adds G (first_share G cap D) ≤ D
    firsts-most = le_trans (in-le G (first_share G cap D) (portion G G.weight D) (λ u l e. omega (arith, first-is u))) (portions-most G.weight D)

    -- what was shared out and what is left are D, and so are the capacities
    pub remainder_is : remainder G cap D + sum_in ℕ_adds G (first_share G cap D) ≡ D
    unfolding remainder
    remainder_is = omega (arith, firsts-most)

    left_is : (u : ℕ) → first_share G cap D u + left G cap D u ≡ cap u
    unfolding left
    left_is u = omega (arith, first-cap u)

    pub lefts : sum_in ℕ_adds G (first_share G cap D) + sum_in ℕ_adds G (left G cap D) ≡ sum_in ℕ_adds G cap
    lefts = sym (in-add G (first_share G cap D) (left G cap D)) ∙ in-ext G ℕ_adds _ cap (λ u l e. left_is u)

    module _ (enough : D ≤ sum_in ℕ_adds G cap) where
      pub remainder-room : remainder G cap D ≤ sum_in ℕ_adds G (left G cap D)
      remainder-room = omega (arith, lefts, remainder_is)

      -- second shares never pass what is left
      pub second-left : (u : ℕ) → G.has u ≡ true → second_share G cap D u ≤ left G cap D u
      second-left u e = omega (arith, second_is u, portion-most (left G cap D) (remainder G cap D) remainder-room u e)

      -- both shares: D in sum, and none above its capacity
      pub both-add : sum_in ℕ_adds G (λ u. first_share G cap D u + second_share G cap D u) ≡ D
      both-add =
          in-add G (first_share G cap D) (second_share G cap D)
          ∙ omega (arith, in-ext G ℕ_adds (second_share G cap D) (portion G (left G cap D) (remainder G cap D)) (λ u l e. second_is u), portions-all (left G cap D) (remainder G cap D) remainder-room, remainder_is)

      pub both-cap : (u : ℕ) → G.has u ≡ true → first_share G cap D u + second_share G cap D u ≤ cap u
      both-cap u e = omega (arith, second-left u e, left_is u)

    -- without weights the first shares are 0, so all goes by the capacities
    module _ (light : sum_in ℕ_adds G G.weight ≡ 0) where
      first-none : (u : ℕ) → first_share G cap D u ≡ 0
      first-none u = omega (arith, first-is u, portion-none G.weight D u light)

      all_left : left G cap D ≡ cap
      all_left i u = one u i
        where
          one : (u : ℕ) → left G cap D u ≡ cap u
          one u = omega (arith, left_is u, first-none u)

      none-shared : remainder G cap D ≡ D
      none-shared = omega (arith, remainder_is, in-none G (first_share G cap D) (λ u l e. first-none u))

      pub unweighted : (u : ℕ) → first_share G cap D u + second_share G cap D u ≡ portion G cap D u
      unweighted u = ap₂ ◌+◌ (first-none u) (second_is u) ∙ zero-add _ ∙ ap₂ (λ s d. portion G s d u) all_left none-shared
