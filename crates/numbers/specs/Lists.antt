-- Lists by index. Assumes nothing.
use Rattle.std.specs.Prelude.{List, [], ◌∷◌, ◌++◌, ℕ, zero, suc, ◌+◌, ℤ, pos, length, get_or, take, drop}
use Rattle.numbers.specs.Sums.{ℕ_adds, sum_to}

-- the element at an index; 0 past the end
abbrev pub at : List ℕ → ℕ → ℕ
at xs i = get_or xs i 0

abbrev pub at_ℤ : List ℤ → ℕ → ℤ
at_ℤ xs i = get_or xs i (pos 0)

-- the sum of a list
abbrev pub sum : List ℕ → ℕ
sum xs = sum_to ℕ_adds (length xs) (at xs)

-- a fact of every element of a list
pub data All {E : Type 0} (P : E → Type 0) : List E → Type 0 where
  none : All P []
  more : {e : E} {es : List E} → P e → All P es → All P (e ∷ es)

-- f 0, f 1, .., f (k − 1)
unfoldable pub list_to {ℓ} : {X : Type ℓ} → ℕ → (ℕ → X) → List X
list_to zero f = []
list_to (suc k) f = list_to k f ++ (f k ∷ [])

-- l with vs in place of its elements from `from` on
unfoldable pub written {ℓ} : {X : Type ℓ} → List X → ℕ → List X → List X
written l from vs = take from l ++ (vs ++ drop (from + length vs) l)
