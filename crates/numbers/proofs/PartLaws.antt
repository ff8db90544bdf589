-- Laws of parts of lists and of written parts, for elements of any type. Assumes nothing.
use mathlib.Core.Path.{◌≡◌, refl, sym, ap, ◌∙◌}
use mathlib.Core.List.{List, [], ◌∷◌, ◌++◌, append_assoc, append-nil}
use Prim.Native.Nat.{ℕ, zero, suc, ◌+◌, ◌-◌, ◌≤◌, ◌<◌, min}
use native.Mathlib.Nat.{add-zero, sub-zero, zero-sub, suc-sub-suc, zero-min, min-zero, suc-min-suc}
use native.Mathlib.Omega.{arith}
use lib.ListN.{length, get_or, take, drop, length-append, length-drop, drop_of_length-le, take-append-drop}
use lib.Seq.{length-take-le, take-nil, take_at, drop-append-add, drop-drop, get_or-append-add, get_or-take, get_or-drop, sets, sets-eq}
use Rattle.numbers.specs.Lists.{written}

module _ {ℓ} {X : Type ℓ} where
  -- ---- parts of parts

  pub take_min : (m n : ℕ) (l : List X) → take m (take n l) ≡ take (min m n) l
  take_min zero n l = rw zero-min
  take_min (suc m) zero l = rw min-zero
  take_min (suc m) (suc n) [] = rw suc-min-suc
  take_min (suc m) (suc n) (x ∷ l) = rw (suc-min-suc, take_min m n l)

  pub drop-take : (f n : ℕ) (l : List X) → drop f (take n l) ≡ take (n - f) (drop f l)
  drop-take zero n l = rw sub-zero
  drop-take (suc f) zero l = rw zero-sub
  drop-take (suc f) (suc n) [] = rw take-nil
  drop-take (suc f) (suc n) (x ∷ l) = rw (suc-sub-suc, drop-take f n l)

  -- an element of a part, and one past the first part of a list
  pub get_d_part : (n from : ℕ) (l : List X) (i : ℕ) (d : X) → i < n → get_or (take n (drop from l)) i d ≡ get_or l (from + i) d
  get_d_part n from l i d h = get_or-take n (drop from l) i d h ∙ get_or-drop from l i d

  pub get_d-skip : (p q : List X) (from i : ℕ) (d : X) → length p ≡ from → get_or (p ++ q) (from + i) d ≡ get_or q i d
  get_d-skip p q from i d e = rw (← e) (get_or-append-add p q i d)

  pub length_part : (n from : ℕ) (l : List X) → from + n ≤ length l → length (take n (drop from l)) ≡ n
  length_part n from l h = length-take-le n (drop from l) (omega (arith, length-drop from l))

  -- a part that is the whole list leaves nothing before it and nothing after
  pub part-whole : (a l b : List X) → l ≡ a ++ (l ++ b) → (a ≡ []) × (b ≡ [])
  part-whole a l b e = (empty a (omega (arith, same)), empty b (omega (arith, same)))
    where
      same : length l ≡ length a + (length l + length b)
      same = ap length e ∙ length-append a (l ++ b) ∙ ap (λ k. length a + k) (length-append l b)

      empty : (x : List X) → length x ≡ 0 → x ≡ []
      empty [] h = refl
      empty (y ∷ x) h = absurd (omega arith)

  -- ---- written parts

  -- nothing is written
  pub written-empty : (l : List X) (from : ℕ) (vs : List X) → length vs ≡ 0 → l ≡ written l from vs
  unfolding written
  written-empty l from [] e = rw add-zero (sym (take-append-drop from l))
  written-empty l from (v ∷ vs) e = absurd (omega arith)

  -- what was written at the front
  pub front-written : (l xs : List X) (n : ℕ) → length xs ≡ n → take n (written l 0 xs) ≡ xs
  unfolding written
  front-written l xs n e = take_at xs (drop (0 + length xs) l) n e

  -- a list written over itself
  pub written-own : (l : List X) → written l 0 l ≡ l
  unfolding written
  written-own l = ap (λ x. l ++ x) (drop_of_length-le l {i = 0 + length l} (omega arith)) ∙ append-nil l

  -- stores in a row
  pub sets-written : (vs l : List X) (from : ℕ) → from + length vs ≤ length l → sets l from vs ≡ written l from vs
  unfolding written
  sets-written vs l from h = sets-eq vs l from h ∙ append_assoc (take from l) vs (drop (from + length vs) l)

  -- what is written has room in the list, whose length stays
  pub length-kept : (l : List X) (from : ℕ) (vs : List X) → from + length vs ≤ length l → length (written l from vs) ≡ length l
  unfolding written
  length-kept l from vs h = simp (length-append, length-drop) (omega (arith, length-take-le from l (omega arith)))

  -- a part that begins where the first part of a list ends
  pub written-seam : (p q vs : List X) (from : ℕ) → length p ≡ from → written (p ++ q) from vs ≡ p ++ (vs ++ drop (length vs) q)
  unfolding written
  written-seam p q vs from e = rw (take_at p q from e, ← e, drop-append-add)

  -- writing that goes on where it stopped
  pub written_on : (d a b : List X) (from end : ℕ) → from ≤ length d → end ≡ from + length a → written (written d from a) end b ≡ written d from (a ++ b)
  unfolding written
  written_on d a b from end h e =
      let r : List X = drop (from + length a) d in
      let n : length (take from d ++ a) ≡ end = length-append (take from d) a ∙ omega (arith, length-take-le from d h) in
      let m : end + length b ≡ from + length (a ++ b) = omega (arith, length-append a b) in
      ap (λ (l : List X). written l end b) (sym (append_assoc (take from d) a r))
      ∙ written-seam (take from d ++ a) r b end n
      ∙ rw (drop-drop, ← e, m) (simp append_assoc)

  -- what is written at the front of a part that starts the list, as the part is put back
  pub part-written : (k : ℕ) (l vs : List X) → length vs ≤ k → written (take k l) 0 vs ++ drop k l ≡ written l 0 vs
  unfolding written
  part-written k l vs h =
      let n : ℕ = 0 + length vs in
      let e : k ≡ n + (k - n) = omega arith in
      append_assoc vs (drop n (take k l)) (drop k l)
      ∙ ap (λ x. vs ++ x)
      (ap (λ x. x ++ drop k l) (drop-take n k l)
      ∙ ap (λ x. take (k - n) (drop n l) ++ x) (ap (λ i. drop i l) e ∙ sym (drop-drop (k - n) n l))
      ∙ take-append-drop (k - n) (drop n l))

  -- a part lent as `&mut l[from..end]` and filled with vs, as it is put back
  pub put_back : (from end : ℕ) (l vs : List X) → end ≡ from + length vs → take from l ++ (vs ++ drop (end - from) (drop from l)) ≡ written l from vs
  unfolding written
  put_back from end l vs e =
      let h : end - from ≡ length vs = omega arith in
      rw (h, drop-drop)
