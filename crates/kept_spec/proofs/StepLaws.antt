-- What Step's verdict means, that a book lent along adds 21 alone, and what the contract alone says of one call: the facts of an accepted one,
-- that a refused one left every list, and the account of each. Assumes nothing.
use Rattle.std.specs.Prelude.{Ok, Err}
use mathlib.Core.Path.{◌≡◌, refl, sym, ◌∙◌, ap, ap₂, subst}
use mathlib.Core.Logic.{◌⊎◌, ⊎_elim, ◌↔◌}
use mathlib.Core.Bool.{true, false}
use mathlib.Core.List.{List, [], ◌∷◌, ◌++◌, append_assoc}
use Prim.Native.Nat.{ℕ, suc, ◌*◌, ◌≤◌, ◌<◌}
use native.Mathlib.Omega.{arith}
use lib.IntN.{pos, ◌+ℤ◌, +ℤ_idr}
use lib.Signed.{◌≤ℤ◌}
use lib.ListN.{length, drop}
use Rattle.numbers.specs.Sums.{ℕ_adds, sum_to}
use Rattle.numbers.specs.Lists.{at, sum, All}
use Rattle.numbers.specs.Checks.{Checked, Answered, refused, first, both, check_total, Rule, total_rule, Decides, DecidesAll, Holds, Broken, numbers_of, Extends, max_total, OneOf, after, rule, RefuseWith}
use Rattle.numbers.proofs.TestLaws.{eq-means, le-means, and-means}
use Rattle.numbers.proofs.SignedLaws.{le_parts, parts-le, from-zero-whole}
use Rattle.numbers.proofs.CheckLaws.{first-append, decides-unless, decides-then, decides-none, decides-append, holds-append, broken-append, total-decides, both-pass, both_first, both-second, on, no-pass, long-decides, stop, refused-number}
use Rattle.numbers.proofs.ChainLaws.{extends-own, extends-pass, extends-fail, is_one, not-broken, are-of, OneOf-is_one, one-append, numbers-append, no_number, broken-later, fails-number, Passes, pass_all, all_pass, Verdict, verdict, passed, failed, refuse-append, refuse-with}
use Rattle.qlt_spec.specs.Field.{scratch_per_node, field, outcome_number, outcome, nodes}
use Rattle.qlt_spec.specs.declared.Outcome.{Outcome}
use Rattle.qlt_spec.specs.declared.Outcome.TheVariants.{Attainable, Below, Above}
use Rattle.qlt_spec.specs.Masses.{tree_masses}
use Rattle.qlt_spec.specs.Facts.{FieldFacts}
use Rattle.qlt_spec.specs.Checks.{shape_of, check_values, check_reach}
use Rattle.qlt_spec.specs.Operation.{reconstruct_checks, reconstruct_verdict, shape_rules, value_rules, reach_rule, ShapeFits, ValuesFit, ReconstructFits, repair, RepairTells, cleared}
use Rattle.qlt_spec.proofs.CheckLaws.{shape-decides, shape-holds, values-decides, values-hold, reaches-decides}
use Rattle.qlt_spec.proofs.OperationLaws.{told-passed, told-result, told-masses, told-kept, told-failed}
use Rattle.book_spec.specs.StartBook.{check_buffer, buffer_rule}
use Rattle.book_spec.specs.LentBook.{lent_checks, lent_rules, HasBook, check_full, grown, grown_buffer, grown_length}
use Rattle.book_spec.specs.Book.{closing, Book, max_bytes, entry, add, count, max_entries, book_blocks}
use Rattle.book_spec.proofs.LentLaws.{lent-decides, lent-accepts, lent-numbers, lent-full, has-verdict, grown-held, grown-rest, lent-held, full-decides, lent-refuse-with}
use Rattle.book_spec.proofs.ReportLaws.{closing-recorded}
use Rattle.book_spec.proofs.AddLaws.{add-closing}
use Rattle.book_spec.proofs.HeldLaws.{has-read}
use Rattle.kept_spec.specs.declared.Stepped.{Stepped}
use Rattle.kept_spec.specs.Step.{StepCall, next, new_total, repair_call, check_same_scale, check_kept, step_checks_with, step_checks, step_verdict, step_verdict_with, scale_rule, kept_rule, step_rules_with, step_rules, StepFits, step_result, MassesFit, StepFull, step_entry, Typed, StepContract, StepBy}
use Rattle.kept_spec.specs.Account.{Event, told, Promised, AcceptedFacts, gain, gain_by, BookFacts, book_before, book_after_step}
use Rattle.qlt_spec.proofs.OperationLaws as operation

-- ---- each check, and the verdict

pub same-scale-decides : (k b : ℕ) → Decides (check_same_scale k b) (scale_rule k b)
unfolding check_same_scale
same-scale-decides k b = decides-unless _ 17 (and-means (le-means k 30) (eq-means k b))

pub kept-decides : (kept : List ℕ) (total : ℕ) → Decides (check_kept kept total) (kept_rule kept total)
unfolding check_kept
kept-decides kept total = decides-unless _ 12 (eq-means (sum kept) total)

module _ (c : StepCall) where
  abbrev k : ℕ
  k = length c.kept

  abbrev s : ℕ
  s = length c.scratch

  -- 3, of the book's buffer
  abbrev pub buffer : Checked
  buffer = check_buffer (length c.book)

  -- 17, and what it means
  abbrev pub same : Checked
  same = check_same_scale c.scale c.balance.scale

  abbrev SameScale : Type 0
  SameScale = (c.scale ≤ 30) × (c.scale ≡ c.balance.scale)

  -- 8
  abbrev pub reach : Checked
  reach = check_reach c.lists.safe_lows c.lists.safe_highs (new_total c)

  -- 12, 13, the checks put in and 8
  abbrev pub totals_with : List Checked → Checked
  totals_with own = first (check_kept c.kept c.balance.total ∷ check_total (next c) ∷ (own ++ (reach ∷ [])))

  abbrev total_rules_with : List Rule → List Rule
  total_rules_with own = kept_rule c.kept c.balance.total ∷ total_rule (next c) ∷ (own ++ (reach_rule c.lists (new_total c) ∷ []))

  abbrev total_rules : List Rule
  total_rules = total_rules_with []

  -- ---- the checks before the book's, and the book's, which come last

  abbrev pub before_book : List Checked → List Checked
  before_book own =
      shape_of k c.lists s ∷ buffer ∷ same ∷ check_values c.lists ∷ check_kept c.kept c.balance.total ∷ check_total (next c) ∷ (own ++ (reach ∷ []))

  abbrev pub of_book : List Checked
  of_book = lent_checks c.book c.length c.balance.total

  abbrev before_rules : List Rule → List Rule
  before_rules own =
      shape_rules c.lists k s
      ++ (buffer_rule (length c.book) ∷ scale_rule c.scale c.balance.scale ∷ (value_rules c.lists ++ total_rules_with own))

  abbrev of_book_rules : List Rule
  of_book_rules = lent_rules c.book c.length c.balance.total

  pub book-last : (own : List Checked) → step_verdict_with own c ≡ both (first (before_book own)) (first of_book)
  unfolding step_verdict_with
  book-last own =
      ap
      (λ l. first (shape_of k c.lists s ∷ buffer ∷ same ∷ check_values c.lists ∷ check_kept c.kept c.balance.total ∷ check_total (next c) ∷ l))
      (sym (append_assoc own (reach ∷ []) of_book))
      ∙ sym (first-append (before_book own) of_book)

  rules-last : (own : List Rule) → step_rules_with own c ≡ before_rules own ++ of_book_rules
  unfolding shape_rules value_rules
  rules-last own =
      ap
      (λ l.
      shape_rules c.lists k s
      ++ (buffer_rule (length c.book)
      ∷ scale_rule c.scale c.balance.scale
      ∷ (value_rules c.lists ++ (kept_rule c.kept c.balance.total ∷ total_rule (next c) ∷ l))))
      (sym (append_assoc own (reach_rule c.lists (new_total c) ∷ []) of_book_rules))

  -- ---- accepted if every rule holds; refused with a number at a place if those before it hold and this one is broken there

  module _ (own : List Checked) (rules : List Rule) (d : DecidesAll (first own) rules) where
    totals-decides : DecidesAll (totals_with own) (total_rules_with rules)
    totals-decides =
        decides-then _ _ _ _ (kept-decides c.kept c.balance.total)
        (decides-then _ _ _ _ (total-decides (next c))
        (subst (λ v. DecidesAll v (rules ++ (reach_rule c.lists (new_total c) ∷ []))) (first-append own (reach ∷ []))
        (decides-append (first own) (first (reach ∷ [])) rules (reach_rule c.lists (new_total c) ∷ []) d (reaches-decides c.lists (new_total c)))))

    before-decides : DecidesAll (first (before_book own)) (before_rules rules)
    before-decides =
        decides-append (shape_of k c.lists s) (both buffer (both same (both (check_values c.lists) (totals_with own)))) (shape_rules c.lists k s) _ (shape-decides c.lists k s)
        (decides-then buffer _ _ _ (long-decides (length c.book) max_bytes)
        (decides-then same _ _ _ (same-scale-decides c.scale c.balance.scale)
        (decides-append (check_values c.lists) (totals_with own) (value_rules c.lists) (total_rules_with rules) (values-decides c.lists) totals-decides)))

    pub step-decides-with : DecidesAll (step_verdict_with own c) (step_rules_with rules c)
    step-decides-with =
        subst (λ rs. DecidesAll (step_verdict_with own c) rs) (sym (rules-last rules))
        (subst (λ v. DecidesAll v (before_rules rules ++ of_book_rules)) (sym (book-last own))
        (decides-append (first (before_book own)) (first of_book) (before_rules rules) of_book_rules before-decides (lent-decides c.book c.length c.balance.total)))

  pub step-decides : DecidesAll (step_verdict c) (step_rules c)
  unfolding step_verdict step_verdict_with
  step-decides = step-decides-with [] [] decides-none

  pub step-refuses : (number place : ℕ) → (step_verdict c ≡ refused number place) ↔ Broken (step_rules c) number place
  step-refuses = step-decides.fails

  verdict-is : step_verdict c ≡ both (first (before_book [])) (first of_book)
  unfolding step_verdict step_verdict_with
  verdict-is = book-last []

  -- ---- in plain facts

  totals-fit : Holds total_rules → ShapeFits c.lists k s → max_bytes ≤ length c.book → SameScale → ValuesFit c.lists → MassesFit c
  unfolding Holds
  totals-fit h f q z g =
      record {
        shape = f;
        room = q;
        scale_small = z.0;
        same_scale = z.1;
        values = g;
        adds_up = h.0;
        whole = sym (from-zero-whole (next c) h.1.0.0);
        small = (le_parts h.1.0.1).0;
        reach = record { least = h.1.1.0.0; most = h.1.1.0.1 };
      }

  fits-totals : MassesFit c → Holds total_rules
  unfolding Holds
  fits-totals f = (
    f.adds_up,
    (
      (
        subst (λ z. pos 0 ≤ℤ z) f.whole (parts-le (omega arith)),
        subst (λ z. z ≤ℤ pos max_total) f.whole (parts-le (omega (arith, f.small))),
      ),
      ((f.reach.least, f.reach.most), tt),
    ),
  )

  rules-fit : Holds (before_rules []) ↔ MassesFit c
  unfolding Holds
  rules-fit = (
    λ h.
        let a = (holds-append (shape_rules c.lists k s) _).0 h in
        let b = (holds-append (value_rules c.lists) total_rules).0 a.1.1.1 in
        totals-fit b.1 ((shape-holds c.lists k s).0 a.0) a.1.0 a.1.1.0 ((values-hold c.lists).0 b.0),
    λ f.
        (holds-append (shape_rules c.lists k s) _).1 (
          (shape-holds c.lists k s).1 f.shape,
          (f.room, ((f.scale_small, f.same_scale), (holds-append (value_rules c.lists) total_rules).1 ((values-hold c.lists).1 f.values, fits-totals f))),
        ),
  )

  pub before-accepts : (first (before_book []) ≡ Ok tt) ↔ MassesFit c
  before-accepts =
      let d = before-decides [] [] decides-none in
      (λ e. rules-fit.0 (d.passes.0 e), λ f. d.passes.1 (rules-fit.1 f))

  pub step-accepts : (step_verdict c ≡ Ok tt) ↔ StepFits c
  step-accepts = (
    λ e.
        let p = sym verdict-is ∙ e in
        record {
          masses = before-accepts.0 (both_first (first (before_book [])) (first of_book) p);
          lent = (lent-accepts c.book c.length c.balance.total).0 (both-second (first (before_book [])) (first of_book) p);
        },
    λ f. verdict-is ∙ sym (on (before-accepts.1 f.masses) (sym ((lent-accepts c.book c.length c.balance.total).1 f.lent))),
  )

  -- with checks put in, the chain is Step's extended by them
  pub with-extends :
      {Put : ℕ → Type 0} (own : List Checked) → All (λ v. (number place : ℕ) → v ≡ refused number place → Put number) own
      → Extends Put (step_checks_with scratch_per_node own c) (step_checks c)
  with-extends own h =
      Extends.shared (Extends.shared (Extends.shared (Extends.shared (Extends.shared (Extends.shared
      (extends-own own h (Extends.shared (Extends.shared (Extends.shared (Extends.shared Extends.end))))))))))

  -- so where it passes, Step fits
  pub with-fits : (own : Checked) → step_verdict_with (own ∷ []) c ≡ Ok tt → StepFits c
  unfolding step_verdict_with step_verdict
  with-fits own e = step-accepts.0 (extends-pass (with-extends {Put = λ n. Unit} (own ∷ []) (All.more (λ n p q. tt) All.none)) e)

  -- ---- 21 comes last, and only where every other check has passed

  -- the book's checks refuse with these alone
  pub of-book : (number place : ℕ) → first of_book ≡ refused number place → OneOf (14 ∷ 15 ∷ 16 ∷ 12 ∷ 21 ∷ []) number
  of-book number place e =
      lent-numbers c.book c.length c.balance.total number (fails-number (lent-decides c.book c.length c.balance.total) e)

  -- the checks before them with these alone
  before-numbers : (n : ℕ) → OneOf (numbers_of (before_rules [])) n → OneOf (1 ∷ 2 ∷ 3 ∷ 17 ∷ 4 ∷ 5 ∷ 6 ∷ 7 ∷ 12 ∷ 13 ∷ 8 ∷ []) n
  unfolding shape_rules value_rules
  before-numbers n o = are-of _ (1 ∷ 2 ∷ 3 ∷ 3 ∷ 17 ∷ 4 ∷ 5 ∷ 6 ∷ 7 ∷ 12 ∷ 13 ∷ 8 ∷ []) refl n o

  pub step-full : (place : ℕ) → (step_verdict c ≡ refused 21 place) ↔ ((place ≡ 0) × StepFull c)
  step-full place = (
    λ e.
        let h = broken-later (before_rules []) of_book_rules 21 place (λ o. no_number _ 21 refl (before-numbers 21 o))
        (subst (λ rs. Broken rs 21 place) (rules-last []) ((step-refuses 21 place).0 e)) in
        let f = (lent-full c.book c.length c.balance.total place).0 (((lent-decides c.book c.length c.balance.total).fails 21 place).1 h.1) in
        (f.0, record { masses = rules-fit.0 h.0; lent = f.1 }),
    λ h.
        verdict-is
        ∙ sym
        (on (before-accepts.1 h.1.masses)
        (sym ((lent-full c.book c.length c.balance.total place).1 (h.0, h.1.lent)))),
  )

  -- the same with a check put in
  module _ (own : Checked) (n : ℕ) {P : Type 0} (d : Decides own (rule n P)) (other : n ≡ 21 → ⊥) where
    parts : All Passes (before_book (own ∷ [])) → (own ≡ Ok tt) × (first (before_book []) ≡ Ok tt)
    parts (All.more a (All.more b (All.more e (All.more f (All.more g (All.more h (All.more o (All.more r All.none)))))))) =
        (o, all_pass (before_book []) (All.more a (All.more b (All.more e (All.more f (All.more g (All.more h (All.more r All.none))))))))

    not-before : (number place : ℕ) → number ≡ 21 → first (before_book (own ∷ [])) ≡ refused number place → ⊥
    unfolding shape_rules value_rules OneOf
    not-before number place q e =
        ⊎_elim (λ o. no_number (1 ∷ 2 ∷ 3 ∷ 3 ∷ 17 ∷ 4 ∷ 5 ∷ 6 ∷ 7 ∷ 12 ∷ 13 ∷ []) 21 refl o) (⊎_elim (λ o. other (sym o)) (⊎_elim (λ o. omega arith) (λ o. o)))
        ((one-append (1 ∷ 2 ∷ 3 ∷ 3 ∷ 17 ∷ 4 ∷ 5 ∷ 6 ∷ 7 ∷ 12 ∷ 13 ∷ []) (n ∷ 8 ∷ []) 21).0
        (subst (OneOf (1 ∷ 2 ∷ 3 ∷ 3 ∷ 17 ∷ 4 ∷ 5 ∷ 6 ∷ 7 ∷ 12 ∷ 13 ∷ n ∷ 8 ∷ [])) q
        (fails-number (before-decides (own ∷ []) (rule n P ∷ []) (decides-then _ _ _ _ d decides-none)) e)))

    pub with-full : (place : ℕ) → (step_verdict_with (own ∷ []) c ≡ refused 21 place) ↔ ((place ≡ 0) × (StepFull c × P))
    with-full place = (
      λ e. by-verdict (verdict (first (before_book (own ∷ [])))) (sym (book-last (own ∷ [])) ∙ e),
      λ h.
          book-last (own ∷ [])
          ∙ sym
          (on (ap (λ o. first (before_book (o ∷ []))) (d.passes.1 h.1.1) ∙ before-accepts.1 h.1.0.masses)
          (sym ((lent-full c.book c.length c.balance.total place).1 (h.0, h.1.0.lent)))),
    )
      where
        by-verdict :
            Verdict (first (before_book (own ∷ []))) → both (first (before_book (own ∷ []))) (first of_book) ≡ refused 21 place
            → (place ≡ 0) × (StepFull c × P)
        by-verdict (passed f) e =
            let q = parts (pass_all (before_book (own ∷ [])) f) in
            let z = (lent-full c.book c.length c.balance.total place).0 (ap (λ v. both v (first of_book)) (sym f) ∙ e) in
            (z.0, (record { masses = before-accepts.0 q.1; lent = z.1 }, d.passes.0 q.0))
        by-verdict (failed number p f) e =
            let z : ◌≡◌ {A = Checked} (refused number p) (refused 21 place) = stop (first of_book) f ∙ e in
            absurd (not-before number p (refused-number z) f)

  -- it refuses with the papers' numbers and no others
  pub step-numbers : (n : ℕ) → OneOf (numbers_of (step_rules c)) n → OneOf (1 ∷ 2 ∷ 3 ∷ 17 ∷ 4 ∷ 5 ∷ 6 ∷ 7 ∷ 12 ∷ 13 ∷ 8 ∷ 14 ∷ 15 ∷ 16 ∷ 21 ∷ []) n
  step-numbers n o =
      ⊎_elim (λ a. are-of _ (1 ∷ 2 ∷ 3 ∷ 17 ∷ 4 ∷ 5 ∷ 6 ∷ 7 ∷ 12 ∷ 13 ∷ 8 ∷ []) refl n (before-numbers n a))
      (λ a. are-of _ (14 ∷ 15 ∷ 16 ∷ 12 ∷ 21 ∷ []) refl n (lent-numbers c.book c.length c.balance.total n a))
      ((one-append (numbers_of (before_rules [])) (numbers_of of_book_rules) n).0
      (subst (λ ns. OneOf ns n) (ap numbers_of (rules-last []) ∙ numbers-append (before_rules []) of_book_rules) o))

  -- and with each of them, told a length of a block or more
  pub step-refuse-with : 512 ≤ c.length → RefuseWith (step_rules c) (1 ∷ 2 ∷ 3 ∷ 17 ∷ 4 ∷ 5 ∷ 6 ∷ 7 ∷ 12 ∷ 13 ∷ 8 ∷ 14 ∷ 15 ∷ 16 ∷ 21 ∷ [])
  unfolding shape_rules value_rules
  step-refuse-with h =
      subst (λ rs. RefuseWith rs (1 ∷ 2 ∷ 3 ∷ 17 ∷ 4 ∷ 5 ∷ 6 ∷ 7 ∷ 12 ∷ 13 ∷ 8 ∷ 14 ∷ 15 ∷ 16 ∷ 21 ∷ [])) (sym (rules-last []))
      (refuse-append (before_rules []) of_book_rules (1 ∷ 2 ∷ 3 ∷ 17 ∷ 4 ∷ 5 ∷ 6 ∷ 7 ∷ 12 ∷ 13 ∷ 8 ∷ []) (14 ∷ 15 ∷ 16 ∷ 12 ∷ 21 ∷ []) _
      (refuse-with (before_rules []) _ refl refl) (lent-refuse-with c.book c.length c.balance.total h) refl refl)

  -- lent a book that closes with its total, a step is refused as its other checks refuse it, and else with 21 if the book is full
  pub lent-verdict : (B : Book) → HasBook c.book c.length B → closing B ≡ c.balance.total → step_verdict c ≡ both (first (before_book [])) (check_full B)
  lent-verdict B h e = verdict-is ∙ ap (both (first (before_book []))) (has-verdict c.balance.total h e)

  -- the checks that look at neither the buffer nor its book, with checks put in, and without
  abbrev pub mass_checks_with : List Checked → List Checked
  mass_checks_with own =
      shape_of k c.lists s ∷ same ∷ check_values c.lists ∷ check_kept c.kept c.balance.total ∷ check_total (next c) ∷ (own ++ (reach ∷ []))

  abbrev pub mass_checks : List Checked
  mass_checks = mass_checks_with []

  room-passes-with : (own : List Checked) → max_bytes ≤ length c.book → first (before_book own) ≡ first (mass_checks_with own)
  room-passes-with own h =
      ap (λ v. both (shape_of k c.lists s) (both v (both same (both (check_values c.lists) (totals_with own)))))
      ((long-decides (length c.book) max_bytes).passes.1 h)

  pub room-passes : max_bytes ≤ length c.book → first (before_book []) ≡ first mass_checks
  room-passes h = room-passes-with [] h

  -- lent a buffer that is long enough, a step's verdict is theirs and then the book's
  pub masses-first : (own : List Checked) → max_bytes ≤ length c.book → step_verdict_with own c ≡ both (first (mass_checks_with own)) (first of_book)
  masses-first own h = book-last own ∙ ap (λ v. both v (first of_book)) (room-passes-with own h)

  -- a book that closes with the step's total and is not full passes
  pub lent-passes : (B : Book) → HasBook c.book c.length B → closing B ≡ c.balance.total → count B < max_entries → first of_book ≡ Ok tt
  lent-passes B h q l = has-verdict c.balance.total h q ∙ (full-decides B).passes.1 l

  -- a step that they refuse is refused so, lent any buffer that is long enough
  pub masses-refused : max_bytes ≤ length c.book → (number place : ℕ) → first mass_checks ≡ refused number place → step_verdict c ≡ refused number place
  masses-refused h number place e = verdict-is ∙ ap (λ v. both v (first of_book)) (room-passes h ∙ e)

  -- a step that they pass is accepted, lent a book that closes with its total and is not full
  pub masses-accepted :
      (B : Book) → HasBook c.book c.length B → closing B ≡ c.balance.total → count B < max_entries → first mass_checks ≡ Ok tt → step_verdict c ≡ Ok tt
  masses-accepted B h q l e = verdict-is ∙ sym (on (room-passes h.room ∙ e) (sym (lent-passes B h q l)))

  -- ---- beside Reconstruct

  -- 'As Reconstruct 1 to 7 .. Then 8': Step's checks are Reconstruct's for the new total, with checks of its own put in, those of the book as one
  abbrev pub Own : ℕ → Type 0
  Own n = OneOf (17 ∷ 12 ∷ 13 ∷ 3 ∷ 14 ∷ 15 ∷ 16 ∷ 21 ∷ []) n

  own-number : (k : ℕ) → is_one (17 ∷ 12 ∷ 13 ∷ 3 ∷ 14 ∷ 15 ∷ 16 ∷ 21 ∷ []) k ≡ true → (n : ℕ) → n ≡ k → Own n
  own-number k e n h = subst Own (sym h) (OneOf-is_one _ k e)

  pub step-extends : Extends Own (before_book [] ++ (first of_book ∷ [])) (reconstruct_checks (repair_call c))
  step-extends =
      Extends.shared
      (Extends.extra (λ n p e. own-number 3 refl n (((long-decides (length c.book) max_bytes).fails n p).0 e).0)
      (Extends.extra (λ n p e. own-number 17 refl n (((same-scale-decides c.scale c.balance.scale).fails n p).0 e).0)
      (Extends.shared
      (Extends.extra (λ n p e. own-number 12 refl n (((kept-decides c.kept c.balance.total).fails n p).0 e).0)
      (Extends.extra (λ n p e. own-number 13 refl n (((total-decides (next c)).fails n p).0 e).0)
      (Extends.shared (Extends.extra (λ n p e. are-of _ (14 ∷ 15 ∷ 16 ∷ 12 ∷ 21 ∷ []) refl n (of-book n p e)) Extends.end)))))))

  -- so a step that is refused is refused with a number of its own, or as Reconstruct refuses that repair
  pub step-as-repair : (number place : ℕ) → step_verdict c ≡ refused number place → Own number ⊎ (reconstruct_verdict (repair_call c) ≡ refused number place)
  unfolding reconstruct_verdict
  step-as-repair number place e =
      extends-fail step-extends (sym (first-append (before_book []) (first of_book ∷ [])) ∙ ap (both (first (before_book []))) (both-pass (first of_book)) ∙ sym verdict-is ∙ e)

  -- ---- refused for its new total

  -- past 1 to 7, 17 and 12
  pub record Past : Type 0 where
    pub shape : ShapeFits c.lists k s
    pub room : max_bytes ≤ length c.book
    pub scale_small : c.scale ≤ 30
    pub same_scale : c.scale ≡ c.balance.scale
    pub values : ValuesFit c.lists
    pub adds_up : sum c.kept ≡ c.balance.total

  past_by :
      (n : ℕ) → is_one (numbers_of (shape_rules c.lists k s)) n ≡ false → is_one (numbers_of (value_rules c.lists)) n ≡ false → (n ≡ 3 → ⊥) → (n ≡ 17 → ⊥)
      → (n ≡ 12 → ⊥) → (number place : ℕ) → number ≡ n → Broken (before_rules []) number place → Past
  past_by n x y w u z number place e h =
      ⊎_elim (λ b. absurd (not-broken (shape_rules c.lists k s) n x number place e b))
      (λ a. let d = scaled a.1 in
      ⊎_elim (λ b. absurd (not-broken (value_rules c.lists) n y number place e b))
      (λ b. record { shape = (shape-holds c.lists k s).0 a.0; room = d.0; scale_small = d.1.0.0; same_scale = d.1.0.1; values = (values-hold c.lists).0 b.0; adds_up = adds b.1 })
      ((broken-append (value_rules c.lists) total_rules number place).0 d.1.1))
      ((broken-append (shape_rules c.lists k s) _ number place).0 h)
    where
      scaled :
          Broken (buffer_rule (length c.book) ∷ scale_rule c.scale c.balance.scale ∷ (value_rules c.lists ++ total_rules)) number place
          → (max_bytes ≤ length c.book) × (SameScale × Broken (value_rules c.lists ++ total_rules) number place)
      scaled g = unfold Broken in
          (⊎_elim (λ b. absurd (w (sym e ∙ b.0))) (λ b. (b.0, ⊎_elim (λ q. absurd (u (sym e ∙ q.0))) (λ q. q) b.1)) g)

      adds : Broken total_rules number place → sum c.kept ≡ c.balance.total
      adds g = unfold Broken in (⊎_elim (λ b. absurd (z (sym e ∙ b.0))) (λ b. b.0) g)

  -- a call refused with 13 or 8 is refused by a check before the book's
  for-total : (number place : ℕ) → step_verdict c ≡ refused number place → (number ≡ 13) ⊎ (number ≡ 8) → Broken (before_rules []) number place
  for-total number place e o =
      ⊎_elim (λ b. b) (λ b. absurd (not-of_book (((lent-decides c.book c.length c.balance.total).fails number place).1 b.1)))
      ((broken-append (before_rules []) of_book_rules number place).0 (subst (λ rs. Broken rs number place) (rules-last []) ((step-refuses number place).0 e)))
    where
      not-of_book : first of_book ≡ refused number place → ⊥
      not-of_book h =
          ⊎_elim (λ q. no_number (14 ∷ 15 ∷ 16 ∷ 12 ∷ 21 ∷ []) 13 refl (subst (OneOf (14 ∷ 15 ∷ 16 ∷ 12 ∷ 21 ∷ [])) q (of-book number place h)))
          (λ q. no_number (14 ∷ 15 ∷ 16 ∷ 12 ∷ 21 ∷ []) 8 refl (subst (OneOf (14 ∷ 15 ∷ 16 ∷ 12 ∷ 21 ∷ [])) q (of-book number place h))) o

  -- so it is past them, and its masses do not fit
  pub refused-for-total : (number place : ℕ) → step_verdict c ≡ refused number place → (number ≡ 13) ⊎ (number ≡ 8) → Past × (MassesFit c → ⊥)
  unfolding shape_rules value_rules
  refused-for-total number place e o =
      let b = for-total number place e o in (
        ⊎_elim (λ x. past_by 13 refl refl (λ q. omega arith) (λ q. omega arith) (λ q. omega arith) number place x b)
            (λ x. past_by 8 refl refl (λ q. omega arith) (λ q. omega arith) (λ q. omega arith) number place x b) o,
        λ f. no-pass (before-accepts.1 f) (((before-decides [] [] decides-none).fails number place).1 b),
      )

-- ---- an accepted call

outcome-small : (o : Outcome) → outcome_number o ≤ 2
unfolding outcome_number
outcome-small Attainable = omega arith
outcome-small Below = omega arith
outcome-small Above = omega arith

module _ (c : StepCall) (fits : StepFits c) where
  -- the repair that it asks for fits
  pub fits-repair : ReconstructFits (repair_call c)
  fits-repair = record { shape = fits.masses.shape; values = fits.masses.values; reach = fits.masses.reach }

  -- so its masses have every fact
  pub fits-facts : FieldFacts (field c.lists) (new_total c) (tree_masses (field c.lists) (new_total c))
  fits-facts = operation.fits-facts (repair_call c) fits-repair

  -- and add up to the new total
  pub fits_sum : sum (tree_masses (field c.lists) (new_total c)) ≡ new_total c
  fits_sum = ap (λ n. sum_to ℕ_adds n (at (tree_masses (field c.lists) (new_total c)))) fits-facts.count ∙ fits-facts.total

-- ---- what the contract promises of a call whose verdict is known by the checks of its masses

module _ (c : StepCall) (y : Typed c) where
  -- by a verdict that refuses
  pub failed-promised : {v : Checked} {number place : ℕ} → v ≡ refused number place → StepBy v c (refused number place) c.kept c.scratch c.book
  failed-promised {number = number} {place = place} e =
      subst (λ v. StepBy v c (refused number place) c.kept c.scratch c.book) (sym e)
      (record { typed = y; tells = record { answers = refl; leaves = record { writes = refl; clears = refl } }; files = refl })

  -- lent any buffer that is long enough
  pub refused-promised :
      max_bytes ≤ length c.book → (number place : ℕ) → first (mass_checks c) ≡ refused number place
      → StepContract c (refused number place) c.kept c.scratch c.book
  refused-promised h number place e = failed-promised (masses-refused c h number place e)

  -- what an accepted step gives and leaves, by a verdict and with the new length l
  abbrev pub Steps : Checked → ℕ → Type 0
  Steps v l =
      StepBy v c (Ok (record { repair = (step_result c).repair; balance = (step_result c).balance; length = l })) (tree_masses (field c.lists) (new_total c))
      (cleared (scratch_per_node * nodes c.lists) c.scratch) (grown_buffer c.book c.length (step_entry c))

  -- by a verdict that accepts; the new length is that of the book lent with one record more
  pub passed-promised : {v : Checked} (B : Book) → HasBook c.book c.length B → v ≡ Ok tt → Steps v (512 * book_blocks (suc (count B)))
  passed-promised {v} B h e =
      subst (λ b. Steps v (512 * book_blocks (suc (count b)))) (has-read h)
      (subst (λ w. Steps w (grown_length c.book c.length)) (sym e)
      (record { typed = y; tells = record { answers = refl; leaves = record { writes = refl; clears = refl } }; files = refl }))

  pub accepted-promised :
      (B : Book) → HasBook c.book c.length B → closing B ≡ c.balance.total → count B < max_entries → first (mass_checks c) ≡ Ok tt
      → Steps (step_verdict c) (512 * book_blocks (suc (count B)))
  accepted-promised B h q l e = passed-promised B h (masses-accepted c B h q l e)

-- ---- from the contract alone

module _ (e : Event) (p : Promised e) where
  abbrev c : StepCall
  c = e.call

  abbrev Told : Answered Stepped → Type 0
  Told a = RepairTells (step_verdict c) (repair_call c) (step_result c) a e.kept e.scratch

  -- a call that told a result fits; its masses are the whole tree's and have every fact, and its scratch is cleared
  module _ (r : Stepped) (t : told e ≡ Ok r) where
    so : Told (Ok r)
    so = subst Told t p.tells

    pub accepted-fits : StepFits c
    accepted-fits = (step-accepts c).0 (told-passed so)

    pub accepted-total : r.balance.total ≡ new_total c
    accepted-total = ap (λ q. q.balance.total) (told-result so)

    pub accepted-sum : sum e.kept ≡ r.balance.total
    accepted-sum = ap sum (told-masses so) ∙ fits_sum c accepted-fits ∙ sym accepted-total

    -- the record that its book gains
    gained : entry c.source r.repair.outcome r.balance.total ≡ step_entry c
    gained = ap (λ q. entry c.source q.repair.outcome q.balance.total) (told-result so)

    abbrev B' : Book
    B' = grown c.book c.length (step_entry c)

    left_is : e.book ≡ grown_buffer c.book c.length (step_entry c)
    left_is = p.files ∙ ap (λ v. after v (grown_buffer c.book c.length (step_entry c)) c.book) (told-passed so)

    length-is : r.length ≡ grown_length c.book c.length
    length-is = ap (λ q. q.length) (told-result so)

    module _ (f : StepFits c) where
      held : HasBook (grown_buffer c.book c.length (step_entry c)) (grown_length c.book c.length) B'
      unfolding repair
      held =
          grown-held c.book c.length c.balance.total f.masses.room p.typed.bytes f.lent (step_entry c)
          (omega (arith, f.masses.small)) (outcome-small (outcome (field c.lists) (new_total c))) p.typed.least p.typed.most f.masses.whole

      rest-is : drop (grown_length c.book c.length) (grown_buffer c.book c.length (step_entry c)) ≡ drop (grown_length c.book c.length) c.book
      unfolding repair
      rest-is =
          grown-rest c.book c.length c.balance.total f.masses.room p.typed.bytes f.lent (step_entry c)
          (omega (arith, f.masses.small)) (outcome-small (outcome (field c.lists) (new_total c))) p.typed.least p.typed.most f.masses.whole

    after_is : book_after_step c r ≡ B'
    after_is = ap (add (book_before c)) gained

    closes : closing (book_after_step c r) ≡ r.balance.total
    closes = ap closing after_is ∙ add-closing (book_before c) (step_entry c) ∙ sym accepted-total

    accepted-book : BookFacts c r e.kept e.book
    accepted-book =
        let h : HasBook e.book r.length (book_after_step c r) =
        subst (λ x. HasBook e.book r.length x) (sym after_is)
        (subst (λ x. HasBook x r.length B') (sym left_is) (subst (λ x. HasBook (grown_buffer c.book c.length (step_entry c)) x B') (sym length-is) (held accepted-fits))) in
        record {
          before = lent-held c.book c.length c.balance.total accepted-fits.masses.room p.typed.bytes accepted-fits.lent;
          left = h;
          rest = ap₂ (λ l d. drop l d) length-is left_is ∙ rest-is accepted-fits ∙ ap (λ l. drop l c.book) (sym length-is);
          adds_up = closing-recorded (book_after_step c r) h.formed;
          sums = closes ∙ sym accepted-sum;
          closes = closes;
        }

    pub accepted-facts : AcceptedFacts c r e.kept e.book
    accepted-facts =
        record {
          moves = ap pos accepted-total ∙ accepted-fits.masses.whole;
          scale = ap (λ q. q.balance.scale) (told-result so) ∙ sym accepted-fits.masses.same_scale;
          tells = ap (λ q. q.repair) (told-result so) ∙ ap (repair c.lists) (sym accepted-total);
          masses = told-masses so ∙ ap (tree_masses (field c.lists)) (sym accepted-total);
          facts =
              subst (λ M. FieldFacts (field c.lists) M e.kept) (sym accepted-total)
              (subst (FieldFacts (field c.lists) (new_total c)) (sym (told-masses so)) (fits-facts c accepted-fits));
          filed = accepted-book;
        }

  -- a call that told a refusal left every list as it was
  pub refused-keeps : (number place : ℕ) → told e ≡ refused number place → (e.kept ≡ c.kept) × ((e.scratch ≡ c.scratch) × (e.book ≡ c.book))
  refused-keeps number place t =
      let q = subst Told t p.tells in
      let k = told-kept q in
      (k.0, (k.1, p.files ∙ ap (λ v. after v (grown_buffer c.book c.length (step_entry c)) c.book) (told-failed q)))

  -- the account of one call by itself: an accepted one is past check 12
  pub step-account : pos (sum e.kept) ≡ pos (sum c.kept) +ℤ gain e
  step-account = by-told (told e) refl
    where
      by-told : (a : Answered Stepped) → told e ≡ a → pos (sum e.kept) ≡ pos (sum c.kept) +ℤ gain_by a c.source
      by-told (Ok r) t =
          ap pos (accepted-sum r t) ∙ (accepted-facts r t).moves ∙ ap (λ n. pos n +ℤ c.source) (sym (accepted-fits r t).masses.adds_up)
      by-told (Err r) t = ap (λ l. pos (sum l)) (refused-keeps r.number r.place t).0 ∙ sym (+ℤ_idr (pos (sum c.kept)))
