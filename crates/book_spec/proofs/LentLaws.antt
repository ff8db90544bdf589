-- A book at the front of a lent buffer: what a step's checks of it mean, that they refuse with 14, 15, 16, 12 and 21 alone, what holds of a book
-- with one record more, and when a book is full. Assumes nothing.
use Rattle.std.specs.Prelude.{Ok}
use mathlib.Core.Path.{◌≡◌, refl, sym, ◌∙◌, ap, ap₂, subst}
use mathlib.Core.Logic.{⊎_elim, ◌↔◌}
use mathlib.Core.List.{List, [], ◌∷◌}
use Prim.Native.Nat.{ℕ, suc, ◌+◌, ◌*◌, ◌/◌, ◌^◌, ◌≤◌, ◌<◌}
use native.Mathlib.Omega.{arith}
use native.Mathlib.Decide.{dec_lt}
use lib.IntN.{pos, negsuc, ◌+ℤ◌}
use lib.Signed.{◌≤ℤ◌}
use lib.ListN.{length, take, drop}
use lib.Seq.{drop_at}
use Rattle.numbers.specs.Lists.{written}
use Rattle.numbers.specs.Checks.{Checked, refused, first, both, rule_for, rule, Decides, DecidesAll, OneOf, numbers_of, Broken, RefuseWith}
use Rattle.numbers.proofs.TestLaws.{eq-means, lt-means}
use Rattle.numbers.proofs.CheckLaws.{on, both-pass, both_first, both-second, decides-for, decides-unless, decides-then, decides-append, decides-none, stop}
use Rattle.numbers.proofs.ChainLaws.{one-append, numbers-append, are-of, no_number, broken-later, refuse-append, refuse-with}
use Rattle.blocks.specs.Words.{Bytes}
use Rattle.book_spec.specs.Book.{Entry, Book, count, closing, max_entries, max_bytes, WellFormed, book_blocks, book_bytes, used_of, book_of}
use Rattle.book_spec.specs.ReadBook.{book_verdict, book_rules, BookFits}
use Rattle.book_spec.specs.LentBook.{held_in, HasBook, check_closing, check_full, lent_checks, lent_rules, LentFits, grown, grown_buffer, grown_length, LentFull}
use Rattle.book_spec.proofs.ReadLaws.{book-decides, book-accepts, book-numbers, book-refuse-with}
use Rattle.book_spec.proofs.BackLaws.{length-book_bytes, book-passes}
use Rattle.book_spec.proofs.MeansLaws.{read_count}
use Rattle.book_spec.proofs.AddLaws.{add-count, add-formed}
use Rattle.book_spec.proofs.HeldLaws.{has-written, has-read, has-fits}

-- ---- each check, and all of them

pub closing-decides : (B : Book) (total last : ℕ) → Decides (check_closing B total last) (rule_for 12 last (closing B ≡ total))
unfolding check_closing
closing-decides B total last = decides-for _ 12 last (eq-means (closing B) total)

pub full-decides : (B : Book) → Decides (check_full B) (rule 21 (count B < max_entries))
unfolding check_full
full-decides B = decides-unless _ 21 (lt-means (count B) max_entries)

module _ (buffer : List ℕ) (l total : ℕ) where
  abbrev file : List ℕ
  file = take l buffer

  abbrev B : Book
  B = held_in buffer l

  abbrev closes : Checked
  closes = check_closing B total (l / 512)

  -- accepted if every rule holds; refused with a number at a place if those before it hold and this one is broken there
  pub lent-decides : DecidesAll (first (lent_checks buffer l total)) (lent_rules buffer l total)
  lent-decides =
      decides-append (book_verdict l file) _ (book_rules l file) _ (book-decides l file)
      (decides-then _ _ _ _ (closing-decides B total (l / 512)) (decides-then _ _ _ _ (full-decides B) decides-none))

  pub lent-accepts : (first (lent_checks buffer l total) ≡ Ok tt) ↔ LentFits buffer l total
  lent-accepts = (
    λ e.
        let t = both-second (book_verdict l file) _ e in
        record {
          fits = (book-accepts l file).0 (both_first (book_verdict l file) _ e);
          closes = (closing-decides B total (l / 512)).passes.0 (both_first closes _ t);
          not_full = (full-decides B).passes.0 (both_first (check_full B) _ (both-second closes _ t));
        },
    λ r.
        sym
        (on ((book-accepts l file).1 r.fits)
        (on ((closing-decides B total (l / 512)).passes.1 r.closes) (on ((full-decides B).passes.1 r.not_full) refl))),
  )

  -- they refuse with the papers' numbers and no others
  pub lent-numbers : (n : ℕ) → OneOf (numbers_of (lent_rules buffer l total)) n → OneOf (14 ∷ 15 ∷ 16 ∷ 12 ∷ 21 ∷ []) n
  lent-numbers n o =
      ⊎_elim (λ a. are-of _ (14 ∷ 15 ∷ 16 ∷ 12 ∷ []) refl n (book-numbers l file n a)) (λ a. are-of _ (12 ∷ 21 ∷ []) refl n a)
      ((one-append (numbers_of (book_rules l file)) (12 ∷ 21 ∷ []) n).0 (subst (λ ns. OneOf ns n) (numbers-append (book_rules l file) _) o))

  pub lent-refuse-with : 512 ≤ l → RefuseWith (lent_rules buffer l total) (14 ∷ 15 ∷ 16 ∷ 12 ∷ 21 ∷ [])
  lent-refuse-with h =
      let last = rule_for 12 (l / 512) (closing B ≡ total) ∷ rule 21 (count B < max_entries) ∷ [] in
      refuse-append (book_rules l file) last (14 ∷ 15 ∷ 16 ∷ 12 ∷ []) (12 ∷ 21 ∷ []) (14 ∷ 15 ∷ 16 ∷ 12 ∷ 21 ∷ []) (book-refuse-with l file h)
      (refuse-with last (12 ∷ 21 ∷ []) refl refl) refl refl

  -- 21 comes last, and only where every other check has passed
  pub lent-full : (place : ℕ) → (first (lent_checks buffer l total) ≡ refused 21 place) ↔ ((place ≡ 0) × LentFull buffer l total)
  lent-full place = (
    λ e.
        let h = broken-later (book_rules l file) _ 21 place (λ o. no_number _ 21 refl (book-numbers l file 21 o)) ((lent-decides.fails 21 place).0 e) in
        last-broken ((book-accepts l file).0 ((book-decides l file).passes.1 h.0)) h.1,
    λ h.
        sym
        (on ((book-accepts l file).1 h.1.fits)
        (on ((closing-decides B total (l / 512)).passes.1 h.1.closes)
        (stop (Ok tt) (((full-decides B).fails 21 place).1 (refl, (h.0, λ q. omega (arith, h.1.full))))))),
  )
    where
      last-broken :
          BookFits l file → Broken (rule_for 12 (l / 512) (closing B ≡ total) ∷ rule 21 (count B < max_entries) ∷ []) 21 place
          → (place ≡ 0) × LentFull buffer l total
      last-broken f g = unfold Broken in
          (⊎_elim (λ q. absurd (omega (arith, q.0)))
          (λ q. ⊎_elim (λ r. (r.1.0, record { fits = f; closes = q.0; full = not-less r.1.1 })) (λ r. absurd r.1) q.1) g)
        where
          not-less : (count B < max_entries → ⊥) → max_entries ≤ count B
          not-less h = go (dec_lt (count B) max_entries)
            where
              go : Dec (count B < max_entries) → max_entries ≤ count B
              go (yes k) = absurd (h k)
              go (no k) = omega arith

-- ---- a book that is there passes

pub has-passes : {buffer : List ℕ} {l : ℕ} {B : Book} → HasBook buffer l B → book_verdict l (take l buffer) ≡ Ok tt
has-passes {buffer} {l} {B} h =
    ap (book_verdict l) h.front
    ∙ ap (λ x. book_verdict x (book_bytes B)) (h.size ∙ sym (length-book_bytes B h.formed))
    ∙ book-passes B h.formed

-- lent a book that closes with its total, a step is refused with 21 if the book is full, and else not
pub has-verdict : {buffer : List ℕ} {l : ℕ} {B : Book} (total : ℕ) → HasBook buffer l B → closing B ≡ total → first (lent_checks buffer l total) ≡ check_full B
has-verdict {buffer} {l} {B} total h e =
    let same : held_in buffer l ≡ B = has-read h in
    ap₂ (λ b d. both b (both d (both (check_full (held_in buffer l)) (Ok tt)))) (has-passes h)
    ((closing-decides (held_in buffer l) total (l / 512)).passes.1 (ap closing same ∙ e))
    ∙ both-pass (check_full (held_in buffer l))
    ∙ ap check_full same

-- ---- the book that was lent, and the one with a record more

module _ (buffer : List ℕ) (l total : ℕ) (room : max_bytes ≤ length buffer) (y : Bytes buffer) (f : LentFits buffer l total) where
  pub lent-held : HasBook buffer l (held_in buffer l)
  lent-held = has-fits buffer l room y f.fits

  module _ (e : Entry) (t : e.total < 2 ^ 32) (o : e.outcome ≤ 2) (least : negsuc 2147483647 ≤ℤ e.source) (most : e.source ≤ℤ pos 2147483647) (next : pos e.total ≡ pos total +ℤ e.source) where
    grown-formed : WellFormed (grown buffer l e)
    grown-formed = add-formed (held_in buffer l) e lent-held.formed f.not_full t o least most (next ∙ ap (λ x. pos x +ℤ e.source) (sym f.closes))

    pub grown-held : HasBook (grown_buffer buffer l e) (grown_length buffer l) (grown buffer l e)
    grown-held =
        subst (λ x. HasBook (grown_buffer buffer l e) (512 * book_blocks x) (grown buffer l e)) (add-count (held_in buffer l) e)
        (has-written buffer (grown buffer l e) room y grown-formed)

    -- the bytes past it are as they were
    pub grown-rest : drop (grown_length buffer l) (grown_buffer buffer l e) ≡ drop (grown_length buffer l) buffer
    unfolding written
    grown-rest =
        let B' = grown buffer l e in
        let n : length (book_bytes B') ≡ grown_length buffer l = length-book_bytes B' grown-formed ∙ ap (λ x. 512 * book_blocks x) (add-count (held_in buffer l) e) in
        let z : 0 + length (book_bytes B') ≡ grown_length buffer l = omega (arith, n) in
        drop_at (book_bytes B') (drop (0 + length (book_bytes B')) buffer) (grown_length buffer l) n
        ∙ ap (λ x. drop x buffer) z

-- ---- when a book is full, and how it grows

module _ (file : List ℕ) (y : Bytes file) (f : BookFits (length file) file) where
  abbrev k : ℕ
  k = length file / 512

  -- 41 records in the last of 64 blocks
  pub full-means : (count (book_of file) < max_entries → ⊥) ↔ ((k ≡ 64) × (used_of file k ≡ 41))
  full-means =
      let u : used_of file k ≤ 41 = (f.blocks k f.some (omega arith)).counted.most in (
        λ h. go h u (dec_lt (count (book_of file)) max_entries),
        λ h l. omega (arith, read_count file y f, h),
      )
    where
      go : (count (book_of file) < max_entries → ⊥) → used_of file k ≤ 41 → Dec (count (book_of file) < max_entries) → (k ≡ 64) × (used_of file k ≡ 41)
      go h u (yes l) = absurd (h l)
      go h u (no l) = (omega (arith, read_count file y f, f.few, f.some), omega (arith, read_count file y f, f.few, f.some))

  -- a block more exactly if the last has 41 records
  pub grown-same : used_of file k < 41 → 512 * book_blocks (suc (count (book_of file))) ≡ length file
  grown-same h = omega (arith, read_count file y f, f.whole, f.some)

  pub grown-more : used_of file k ≡ 41 → 512 * book_blocks (suc (count (book_of file))) ≡ length file + 512
  grown-more h = omega (arith, read_count file y f, f.whole, f.some)
