-- The book's definitions as code meets them: a total that follows, compared in 64 bits, and the number of records of a block. Assumes nothing.
use Rattle.std.specs.Prelude.{Ok}
use mathlib.Core.Path.{◌≡◌, sym, ◌∙◌, ap}
use mir.Syntax.{w64}
use mir.Val.{to_z, of_z}
use native.Mathlib.Decide.{ℕ_discrete}
use lib.IntN.{ℤ, pos, negsuc, ◌+ℤ◌}
use lib.Signed.{mag}
use Rattle.numbers.proofs.SignedLaws.{read_back, add_parts, one-part, about}
use Prim.Native.Nat.{ℕ, ◌+◌, ◌*◌, min, ◌^◌, ◌≤◌, ◌<◌}
use native.Mathlib.Omega.{arith}
use borrow.Author.Tests.{eq-eqb, ne_eqb}
use lib.Dec.{eqb}
use Rattle.numbers.specs.Signed.{over, under}
use Rattle.book_spec.specs.Book.{used_of}
use Rattle.book_spec.specs.ReadBook.{is_next, check_used}
use Rattle.book_spec.proofs.ReadLaws.{used-decides}
use mathlib.Core.List.{List}

-- ---- a total follows: the sum of signed numbers of 64 bits is compared

bits-parts : (z : ℤ) → under z < 2 ^ 63 → of_z w64 z + under z ≡ over z + min 1 (under z) * 2 ^ 64
bits-parts (pos n) h = omega arith
bits-parts (negsuc n) h = omega arith

same-test : (a b c d : ℕ) → (a ≡ b → c ≡ d) → (c ≡ d → a ≡ b) → eqb a b ≡ eqb c d
same-test a b c d f g = go (ℕ_discrete a b)
  where
    go : Dec (a ≡ b) → eqb a b ≡ eqb c d
    go (yes e) = eq-eqb a b e ∙ sym (eq-eqb c d (f e))
    go (no n) = ne_eqb a b n ∙ sym (ne_eqb c d (λ e. n (g e)))

pub next_is : (before total : ℕ) (s x y z : ℤ) → before < 2 ^ 32 → total < 2 ^ 32 → mag s < 2 ^ 31 → x ≡ pos total → y ≡ pos before → z ≡ s → eqb (of_z w64 x) (of_z w64 (to_z w64 (of_z w64 y) +ℤ to_z w64 (of_z w64 z))) ≡ is_next before s total
unfolding is_next
next_is before total s x y z hb ht hs ex ey ez =
    let p : to_z w64 (of_z w64 y) ≡ pos before = ap (λ a. to_z w64 (of_z w64 a)) ey ∙ read_back (pos before) (omega arith) in
    let q : to_z w64 (of_z w64 z) ≡ s = ap (λ a. to_z w64 (of_z w64 a)) ez ∙ read_back s (omega arith) in
    let n = pos before +ℤ s in
    rw (ex, p, q) (same-test total (of_z w64 n) (total + under s) (before + over s) (λ e. omega (arith, e, add_parts (pos before) s, one-part n, one-part s, about s, hs, hb, ht, bits-parts n (omega (arith, add_parts (pos before) s, about s, hs)))) (λ e. omega (arith, e, add_parts (pos before) s, one-part n, one-part s, about s, hs, hb, ht, bits-parts n (omega (arith, add_parts (pos before) s, about s, hs)))))

-- ---- the records of a block are read where their number is in order

pub used_most : (file : List ℕ) (k b : ℕ) → check_used file k b ≡ Ok tt → used_of file b ≤ 41
used_most file k b e = ((used-decides file b k).passes.0 e).most
