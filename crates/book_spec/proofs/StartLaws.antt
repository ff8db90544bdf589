-- Starting a book: a book without records, what the verdict means, and what the contract alone says. Assumes nothing.
use Rattle.std.specs.Prelude.{Ok}
use mathlib.Core.Path.{◌≡◌, refl, sym, ◌∙◌, ap, subst}
use mathlib.Core.Logic.{◌↔◌}
use mathlib.Core.List.{List, [], ◌∷◌}
use Prim.Native.Nat.{ℕ, ◌^◌, ◌<◌}
use native.Mathlib.Omega.{arith}
use lib.IntN.{pos}
use lib.ListN.{length}
use Rattle.numbers.specs.Lists.{written}
use Rattle.numbers.specs.Checks.{Answered, refused, after, DecidesAll, RefuseWith, Holds, Broken}
use Rattle.numbers.proofs.SignedLaws.{le_parts, parts-le}
use Rattle.numbers.proofs.CheckLaws.{answered-accepted, decides-then, decides-none, long-decides, total-decides}
use Rattle.numbers.proofs.ChainLaws.{refuse-with}
use Rattle.book_spec.specs.Book.{book, total_after, closing, WellFormed, book_bytes, max_bytes}
use Rattle.book_spec.specs.StartBook.{book_start_verdict, book_start_rules, BookStartContract, BookStartFits}
use Rattle.book_spec.specs.LentBook.{HasBook}
use Rattle.book_spec.proofs.HeldLaws.{has-written}

-- a book without records
pub empty-formed : (total : ℕ) → total < 2 ^ 32 → WellFormed (book total [])
empty-formed total h =
    record {
      few = omega arith;
      opening_word = h;
      total_word = λ i l. absurd (omega arith);
      outcomes = λ i l. absurd (omega arith);
      least = λ i l. absurd (omega arith);
      most = λ i l. absurd (omega arith);
      follows = λ i l. absurd (omega arith);
    }

pub empty-closing : (total : ℕ) → closing (book total []) ≡ total
unfolding closing total_after
empty-closing total = refl

module _ (total : ℕ) (buffer : List ℕ) where
  -- accepted if every rule holds; refused with a number at a place if those before it hold and this one is broken there
  pub book-start-decides : DecidesAll (book_start_verdict total buffer) (book_start_rules total buffer)
  unfolding book_start_verdict
  book-start-decides = decides-then _ _ _ _ (long-decides (length buffer) max_bytes) (decides-then _ _ _ _ (total-decides (pos total)) decides-none)

  rules-fit : Holds (book_start_rules total buffer) ↔ BookStartFits total buffer
  unfolding Holds
  rules-fit = (
    λ h. record { room = h.0; small = (le_parts h.1.0.1).0 },
    λ f. (f.room, ((parts-le (omega arith), parts-le (omega (arith, f.small))), tt)),
  )

  pub book-start-accepts : (book_start_verdict total buffer ≡ Ok tt) ↔ BookStartFits total buffer
  book-start-accepts = (λ e. rules-fit.0 (book-start-decides.passes.0 e), λ f. book-start-decides.passes.1 (rules-fit.1 f))

  pub book-start-refuses : (number place : ℕ) → (book_start_verdict total buffer ≡ refused number place) ↔ Broken (book_start_rules total buffer) number place
  book-start-refuses = book-start-decides.fails

  -- it refuses with the papers' numbers and no others
  pub book-start-numbers : RefuseWith (book_start_rules total buffer) (3 ∷ 13 ∷ [])
  book-start-numbers = refuse-with (book_start_rules total buffer) _ refl refl

-- from the contract alone: a book without records, of 512 bytes
pub started : {total : ℕ} {buffer left : List ℕ} {answer : Answered ℕ} {l : ℕ} → BookStartContract total buffer answer left → answer ≡ Ok l → HasBook left l (book total [])
started {total} {buffer} {left} {answer} {l} p t =
    let e = answered-accepted (book_start_verdict total buffer) l 512 (sym t ∙ p.answers) in
    let h = (book-start-accepts total buffer).0 e.0 in
    let w : left ≡ written buffer 0 (book_bytes (book total [])) = p.writes ∙ ap (λ v. after v (written buffer 0 (book_bytes (book total []))) buffer) e.0 in
    subst (λ x. HasBook x l (book total [])) (sym w)
    (subst (λ x. HasBook (written buffer 0 (book_bytes (book total []))) x (book total [])) (sym e.1)
    (has-written buffer (book total []) h.room p.typed (empty-formed total (omega (arith, h.small)))))
