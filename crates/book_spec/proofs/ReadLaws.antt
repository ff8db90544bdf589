-- What reading's verdict means. Assumes nothing.
use Rattle.std.specs.Prelude.{Ok}
use mathlib.Core.Path.{◌≡◌, refl, sym, ap, subst}
use mathlib.Core.Logic.{inl, inr, ⊎_elim, ◌↔◌}
use mathlib.Core.Bool.{true}
use mathlib.Core.List.{List, [], ◌∷◌}
use Prim.Native.Nat.{ℕ, zero, suc, ◌+◌, ◌*◌, ◌-◌, ◌/◌, ◌≤◌, ◌<◌}
use native.Mathlib.Omega.{arith}
use native.Mathlib.Decide.{dec_lt}
use borrow.Author.Tests.{lt-ltb, le-ltb, le-leb, lt-leb, eqb-true, eq-eqb}
use lib.Dec.{leb, eqb}
use lib.IntN.{ℤ, pos, ◌+ℤ◌}
use lib.ListN.{length}
use Rattle.numbers.specs.Signed.{over, under}
use Rattle.numbers.specs.Checks.{refused, Decides, rule_for, DecidesAll, Holds, Broken, OneOf, numbers_of, RefuseWith, rules_from}
use Rattle.numbers.proofs.TestLaws.{and-means, eq-means, le-means}
use Rattle.numbers.proofs.SignedLaws.{add_parts, parts-eq}
use Rattle.numbers.proofs.CheckLaws.{on, both_first, both-second, every-means, every-from, decides-for, decides-none, decides-then, decides-each, each-passes, answered-accepted}
use Rattle.numbers.proofs.ChainLaws.{each_number, are-of, one-append, numbers-append}
use Rattle.blocks.specs.Blocks.{payload_word}
use Rattle.blocks.specs.Words.{word_signed}
use Rattle.blocks.specs.Files.{check_file_length}
use Rattle.blocks.proofs.BlockLaws.{sound-decides}
use Rattle.blocks.proofs.FileLaws.{length-decides}
use Rattle.book_spec.specs.declared.BookReport.{BookReport}
use Rattle.book_spec.specs.Book.{used_of, book_of, report_of, max_bytes}
use Rattle.book_spec.specs.ReadBook.{least_used, check_used, check_outcomes, check_unused, check_opens, is_next, check_follows, check_book_block, book_verdict, Counted, Outcomes, UnusedZero, Opens, Follows, book_block_rules, book_rules, BlockFits, BookFits, BookReadContract, length_rule}

-- ---- each test

pub next-means : (before : ℕ) (source : ℤ) (total : ℕ) → (is_next before source total ≡ true) ↔ (pos total ≡ pos before +ℤ source)
unfolding is_next
next-means before source total = (
  λ e.
      let h = eqb-true (total + under source) (before + over source) e in
      parts-eq {a = pos total} {b = pos before +ℤ source} (omega (arith, add_parts (pos before) source)),
  λ e.
      eq-eqb (total + under source) (before + over source)
      (omega (arith, add_parts (pos before) source, ap over e, ap under e)),
)

pub counted-means : (k b used : ℕ) → ((least_used k b ≤ used) × (used ≤ 41)) ↔ Counted k b used
counted-means k b used = go (dec_lt b k) (dec_lt 1 b)
  where
    go : Dec (b < k) → Dec (1 < b) → ((least_used k b ≤ used) × (used ≤ 41)) ↔ Counted k b used
    go (yes p) q = rw (lt-ltb b k p) (
      λ h. record { most = h.1; full = λ l. omega (arith, h); some = λ l. omega (arith, h) },
      λ c. (omega (arith, c.full p), c.most),
    )
    go (no p) (yes q) = rw (le-ltb b k (omega arith), lt-ltb 1 b q) (
      λ h. record { most = h.1; full = λ l. absurd (p l); some = λ l. omega (arith, h) },
      λ c. (omega (arith, c.some q), c.most),
    )
    go (no p) (no q) = rw (le-ltb b k (omega arith), le-ltb 1 b (omega arith)) (
      λ h. record { most = h.1; full = λ l. absurd (p l); some = λ l. absurd (q l) },
      λ c. (omega arith, c.most),
    )

-- ---- each check

module _ (file : List ℕ) (b : ℕ) where
  pub used-decides : (k : ℕ) → Decides (check_used file k b) (rule_for 16 b (Counted k b (used_of file b)))
  unfolding check_used
  used-decides k =
      let m = and-means (le-means (least_used k b) (used_of file b)) (le-means (used_of file b) 41) in
      let c = counted-means k b (used_of file b) in
      decides-for _ 16 b (λ q. c.0 (m.0 q), λ h. m.1 (c.1 h))

  pub outcomes-decides : Decides (check_outcomes file b) (rule_for 16 b (Outcomes file b))
  unfolding check_outcomes
  outcomes-decides =
      decides-for _ 16 b
      (every-means (λ i. leb (payload_word file b (3 * i + 2)) 2) (λ i. payload_word file b (3 * i + 2) ≤ 2) (λ i. le-means (payload_word file b (3 * i + 2)) 2) (used_of file b))

  pub unused-decides : Decides (check_unused file b) (rule_for 16 b (UnusedZero file b))
  unfolding check_unused
  unused-decides =
      let u : ℕ = used_of file b in
      let m = every-from (λ j. eqb (payload_word file b j) 0) (λ j. payload_word file b j ≡ 0) (λ j. eq-means (payload_word file b j) 0) (3 * u + 1) (123 - 3 * u) in
      decides-for _ 16 b (
        λ q j i l. m.0 q j (omega arith) (omega arith),
        λ z. m.1 (λ j i l. z j (omega arith) (omega arith)),
      )

  pub opens-decides : Decides (check_opens file b) (rule_for 12 b (Opens file b))
  unfolding check_opens
  opens-decides = go (dec_lt 1 b)
    where
      go : Dec (1 < b) → Decides (check_opens file b) (rule_for 12 b (Opens file b))
      go (yes p) = unfold check_opens in
          (let m = eq-means (payload_word file b 0) (payload_word file (b - 1) 123) in
          rw (lt-leb b 1 p) (decides-for _ 12 b (λ q l. m.0 q, λ h. m.1 (h p))))
      go (no p) = unfold check_opens in
          (rw (le-leb b 1 (omega arith)) (decides-for true 12 b (λ q l. absurd (p l), λ h. refl)))

  pub follows-decides : Decides (check_follows file b) (rule_for 12 b (Follows file b))
  unfolding check_follows
  follows-decides =
      decides-for _ 12 b
      (every-means
      (λ i. is_next (payload_word file b (3 * i)) (word_signed (payload_word file b (3 * i + 1))) (payload_word file b (3 * i + 3)))
      (λ i. pos (payload_word file b (3 * i + 3)) ≡ pos (payload_word file b (3 * i)) +ℤ word_signed (payload_word file b (3 * i + 1)))
      (λ i. next-means (payload_word file b (3 * i)) (word_signed (payload_word file b (3 * i + 1))) (payload_word file b (3 * i + 3)))
      (used_of file b))

-- ---- a block, and the book

module _ (file : List ℕ) (k b : ℕ) where
  pub book-block-decides : DecidesAll (check_book_block file k b) (book_block_rules file k b)
  unfolding check_book_block
  book-block-decides =
      decides-then _ _ _ _ (sound-decides file b)
      (decides-then _ _ _ _ (used-decides file b k)
      (decides-then _ _ _ _ (outcomes-decides file b)
      (decides-then _ _ _ _ (unused-decides file b)
      (decides-then _ _ _ _ (opens-decides file b)
      (decides-then _ _ _ _ (follows-decides file b) decides-none)))))

  rules-fit : Holds (book_block_rules file k b) ↔ BlockFits file k b
  unfolding Holds
  rules-fit = (
    λ h.
        record {
          sound = h.0;
          counted = h.1.0;
          outcomes = h.1.1.0;
          unused_zero = h.1.1.1.0;
          opens = h.1.1.1.1.0;
          follows = h.1.1.1.1.1.0;
        },
    λ f. (f.sound, (f.counted, (f.outcomes, (f.unused_zero, (f.opens, (f.follows, tt)))))),
  )

  pub book-block-accepts : (check_book_block file k b ≡ Ok tt) ↔ BlockFits file k b
  book-block-accepts = (λ e. rules-fit.0 (book-block-decides.passes.0 e), λ f. book-block-decides.passes.1 (rules-fit.1 f))

module _ (l : ℕ) (file : List ℕ) where
  -- accepted if every rule holds; refused with a number at a place if those before it hold and this one is broken there
  pub book-decides : DecidesAll (book_verdict l file) (book_rules l file)
  unfolding book_verdict
  book-decides =
      decides-then _ _ _ _ (length-decides max_bytes l)
      (decides-each (check_book_block file (l / 512)) (book_block_rules file (l / 512)) (λ b. book-block-decides file (l / 512) b) 1 (l / 512))

  pub book-accepts : (book_verdict l file ≡ Ok tt) ↔ BookFits l file
  unfolding book_verdict
  book-accepts =
      let t = each-passes (check_book_block file (l / 512)) 1 (l / 512) in
      let d = length-decides max_bytes l in (
        λ e.
            let h = d.passes.0 (both_first (check_file_length max_bytes l) _ e) in
            let r = t.0 (both-second (check_file_length max_bytes l) _ e) in
            record {
              some = omega (arith, h);
              few = omega (arith, h);
              whole = omega (arith, h);
              blocks = λ b z j. (book-block-accepts file (l / 512) b).0 (r b (omega arith) (omega arith));
            },
        λ f.
            sym
            (on (d.passes.1 (omega (arith, f.whole, f.some), (omega (arith, f.whole, f.few), omega (arith, f.whole))))
            (sym (t.1 (λ b i j. (book-block-accepts file (l / 512) b).1 (f.blocks b (omega arith) (omega arith)))))),
      )

  pub book-refuses : (number place : ℕ) → (book_verdict l file ≡ refused number place) ↔ Broken (book_rules l file) number place
  book-refuses = book-decides.fails

  -- it refuses with the papers' numbers and no others; with 14 alone where there is no block
  pub book-numbers : (n : ℕ) → OneOf (numbers_of (book_rules l file)) n → OneOf (14 ∷ 15 ∷ 16 ∷ 12 ∷ []) n
  unfolding OneOf
  book-numbers n o =
      ⊎_elim (λ e. inl e) (λ e. each_number (book_block_rules file (l / 512)) (14 ∷ 15 ∷ 16 ∷ 12 ∷ []) n (λ b. refl) 1 (l / 512) e) o

  each-occurs :
      (k : ℕ) → 0 < k → (n : ℕ) → OneOf (14 ∷ 15 ∷ 16 ∷ 12 ∷ []) n → OneOf (numbers_of (length_rule l ∷ rules_from (book_block_rules file (l / 512)) 1 k)) n
  unfolding rules_from OneOf
  each-occurs zero h n o = absurd (omega arith)
  each-occurs (suc k) h n o =
      ⊎_elim (λ e. inl e)
      (λ r.
      inr
      (subst (λ ns. OneOf ns n) (sym (numbers-append (book_block_rules file (l / 512) 1) (rules_from (book_block_rules file (l / 512)) 2 k)))
      ((one-append (numbers_of (book_block_rules file (l / 512) 1)) (numbers_of (rules_from (book_block_rules file (l / 512)) 2 k)) n).1
      (inl (are-of (15 ∷ 16 ∷ 16 ∷ 16 ∷ 12 ∷ 12 ∷ []) (15 ∷ 16 ∷ 12 ∷ []) refl n r)))))
      o

  pub book-refuse-with : 512 ≤ l → RefuseWith (book_rules l file) (14 ∷ 15 ∷ 16 ∷ 12 ∷ [])
  book-refuse-with h n = (book-numbers n, each-occurs (l / 512) (omega arith) n)

-- ---- the answer, and from the contract alone

pub book-read-done : {file : List ℕ} {r : BookReport} → BookReadContract file (Ok r) → BookFits (length file) file × (r ≡ report_of (book_of file))
book-read-done {file} {r} p =
    let e = answered-accepted (book_verdict (length file) file) r (report_of (book_of file)) p.answers in
    ((book-accepts (length file) file).0 e.0, e.1)
