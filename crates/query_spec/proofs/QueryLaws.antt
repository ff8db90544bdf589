-- What the query's verdict means, that the parts which it tells add up to the correction that Reconstruct makes, what refusal 8 says, and
-- the line by the verdict. Assumes nothing.
use Rattle.std.specs.Prelude.{Ok}
use mathlib.Core.Path.{◌≡◌, refl, sym, ◌∙◌, ap, ap₂, subst}
use mathlib.Core.Logic.{◌≢◌, ◌↔◌}
use mathlib.Core.Bool.{true, false}
use mathlib.Core.List.{List, [], ◌∷◌, ◌++◌}
use Prim.Native.Nat.{ℕ, ◌-◌, ◌≤◌, ◌<◌}
use native.Mathlib.Omega.{arith}
use native.Mathlib.Decide.{dec_lt}
use lib.IntN.{pos, ◌-ℤ◌}
use lib.ListN.{length}
use borrow.Author.Tests.{lt-ltb, le-ltb, ne_eqb}
use Rattle.numbers.specs.Sums.{ℕ_adds, sum_to}
use Rattle.numbers.specs.Lists.{at, at_ℤ, sum}
use Rattle.numbers.specs.Checks.{refused, both, Decides, DecidesAll, Broken, numbers_of, OneOf, RefuseWith, rule}
use Rattle.numbers.proofs.TestLaws.{lt-means}
use Rattle.numbers.proofs.SumLaws.{sum_to-le}
use Rattle.numbers.proofs.CheckLaws.{on, last, both_first, both-second, both-pass, decides-unless, decides-then, decides-append}
use Rattle.numbers.proofs.ChainLaws.{fails-number, no_number, broken-later, broken-first, refuse-with, refuse-append}
use Rattle.qlt_spec.specs.Field.{Lists, cells, field, outcome, outcome_number}
use Rattle.qlt_spec.specs.Operation.{reconstruct_verdict, reconstruct_rules, shape_rules, value_rules, reach_rule, ShapeFits, ValuesFit, repair}
use Rattle.qlt_spec.proofs.CheckLaws.{shape-holds, values-hold}
use Rattle.qlt_spec.proofs.FactLaws.{list_at}
use Rattle.qlt_spec.proofs.OperationLaws.{fits-valid, reconstruct-decides, reconstruct-accepts}
use Rattle.files_spec.specs.ReadField.{file_cells, file_total, file_lists, read_verdict, read_rules}
use Rattle.files_spec.proofs.ReadLaws.{read-decides, read-accepts, read-numbers}
use Rattle.repair_file.specs.RepairFile.{largest, file_call, file_verdict, file_repair, file_masses}
use Rattle.repair_file.proofs.FileLaws.{length-cells}
use Rattle.text.specs.Text.{refusal_line}
use Rattle.query_spec.specs.Parts.{cell_parts, parts_sum}
use Rattle.query_spec.specs.Query.{check_cell, query_verdict, query_rules, QueryFits, is_below, distance, Beyond, less, more, parts_line, beyond_line, refused_line, line_by, query_text}
use Rattle.query_spec.proofs.PartsLaws.{parts-total}

-- ---- the verdict

pub cell-decides : (cell n : ℕ) → Decides (check_cell cell n) (rule 3 (cell < n))
unfolding check_cell
cell-decides cell n = decides-unless _ 3 (lt-means cell n)

module _ (file : List ℕ) (cell : ℕ) where
  -- accepted if every rule holds; refused with a number at a place if those before it hold and this one is broken there
  pub query-decides : DecidesAll (query_verdict file cell) (query_rules file cell)
  unfolding query_verdict
  query-decides =
      decides-append (read_verdict file largest) (both (check_cell cell (file_cells file)) (both (reconstruct_verdict (file_call file)) (Ok tt))) (read_rules file largest) _ (read-decides file largest)
      (decides-then (check_cell cell (file_cells file)) (both (reconstruct_verdict (file_call file)) (Ok tt)) _ (reconstruct_rules (file_call file)) (cell-decides cell (file_cells file))
      (subst (λ v. DecidesAll v (reconstruct_rules (file_call file))) (sym (both-pass (reconstruct_verdict (file_call file)))) (reconstruct-decides (file_call file))))

  pub query-refuses : (number place : ℕ) → (query_verdict file cell ≡ refused number place) ↔ Broken (query_rules file cell) number place
  query-refuses = query-decides.fails

  pub query-accepts : (query_verdict file cell ≡ Ok tt) ↔ QueryFits file cell
  unfolding query_verdict
  query-accepts = (
    λ e.
        let b = both-second (read_verdict file largest) _ e in
        record {
          read = (read-accepts file largest).0 (both_first (read_verdict file largest) _ e);
          inside = (cell-decides cell (file_cells file)).passes.0 (both_first (check_cell cell (file_cells file)) _ b);
          repair = (reconstruct-accepts (file_call file)).0 (both_first (reconstruct_verdict (file_call file)) (Ok tt) (both-second (check_cell cell (file_cells file)) _ b));
        },
    λ f.
        sym (on ((read-accepts file largest).1 f.read)
        (on ((cell-decides cell (file_cells file)).passes.1 f.inside)
        (last (reconstruct_verdict (file_call file)) (sym ((reconstruct-accepts (file_call file)).1 f.repair))))),
  )

  -- it refuses with these numbers and no others
  pub query-numbers : RefuseWith (query_rules file cell) (14 ∷ 15 ∷ 16 ∷ 1 ∷ 2 ∷ 3 ∷ 4 ∷ 5 ∷ 6 ∷ 7 ∷ 8 ∷ [])
  unfolding shape_rules value_rules
  query-numbers =
      refuse-append (read_rules file largest) (rule 3 (cell < file_cells file) ∷ reconstruct_rules (file_call file)) _ (3 ∷ 1 ∷ 2 ∷ 3 ∷ 4 ∷ 5 ∷ 6 ∷ 7 ∷ 8 ∷ []) _ (read-numbers file largest)
      (refuse-with (rule 3 (cell < file_cells file) ∷ reconstruct_rules (file_call file)) (3 ∷ 1 ∷ 2 ∷ 3 ∷ 4 ∷ 5 ∷ 6 ∷ 7 ∷ 8 ∷ []) refl refl) refl refl

  -- accepted exactly if the file is repaired and has such a cell
  pub query-repaired : (query_verdict file cell ≡ Ok tt) ↔ ((file_verdict file ≡ Ok tt) × (cell < file_cells file))
  unfolding file_verdict
  query-repaired = (
    λ e.
        let f = query-accepts.0 e in
        (sym (on ((read-accepts file largest).1 f.read) (last (reconstruct_verdict (file_call file)) (sym ((reconstruct-accepts (file_call file)).1 f.repair)))), f.inside),
    λ h.
        query-accepts.1
        (record {
          read = (read-accepts file largest).0 (both_first (read_verdict file largest) _ h.0);
          inside = h.1;
          repair = (reconstruct-accepts (file_call file)).0 (both_first (reconstruct_verdict (file_call file)) (Ok tt) (both-second (read_verdict file largest) _ h.0));
        }),
  )

  -- the outcome told is the one that Reconstruct tells
  pub query-outcome : outcome_number (outcome (field (file_lists file)) (file_total file)) ≡ (file_repair file).outcome
  unfolding file_repair repair
  query-outcome = refl

  -- the parts add up to the correction that the masses make which Reconstruct gives for the file
  pub query-total :
      query_verdict file cell ≡ Ok tt
      → parts_sum (cell_parts (field (file_lists file)) (file_total file) cell) ≡ pos (at (file_masses file) cell) -ℤ at_ℤ (file_lists file).targets cell
  unfolding file_masses
  query-total e =
      let f = file_lists file in
      let q = query-accepts.0 e in
      let fits = q.repair in
      let l : cell < cells f = omega (arith, length-cells file, q.inside) in
      parts-total (field f) (fits-valid fits.shape fits.values) fits.values.order (file_total file)
      (subst (λ n. sum_to ℕ_adds n (at f.safe_lows) ≤ file_total file) fits.shape.lengths.safe_lows fits.reach.least)
      (subst (λ n. file_total file ≤ sum_to ℕ_adds n (at f.safe_highs)) fits.shape.lengths.safe_highs fits.reach.most)
      cell l
      ∙ ap (λ x. pos x -ℤ at_ℤ f.targets cell) (sym (list_at (field f) (file_total file) cell l))

-- ---- refusal 8

-- reading never refuses with 8
none-of-reading : (file : List ℕ) → OneOf (numbers_of (read_rules file largest)) 8 → ⊥
none-of-reading file o = no_number (14 ∷ 15 ∷ 16 ∷ 1 ∷ 2 ∷ 3 ∷ []) 8 refl ((read-numbers file largest 8).0 o)

pub read-other : (file : List ℕ) {number place : ℕ} → read_verdict file largest ≡ refused number place → number ≢ 8
read-other file e d = none-of-reading file (subst (OneOf (numbers_of (read_rules file largest))) d (fails-number (read-decides file largest) e))

module _ (f : Lists) (M : ℕ) where
  -- the safe lows of a field add up to no more than its safe highs
  safe-order : {k s : ℕ} → ShapeFits f k s → ValuesFit f → sum f.safe_lows ≤ sum f.safe_highs
  safe-order h r =
      omega (
        arith,
        ap (λ n. sum_to ℕ_adds n (at f.safe_lows)) h.lengths.safe_lows,
        ap (λ n. sum_to ℕ_adds n (at f.safe_highs)) h.lengths.safe_highs,
        sum_to-le (cells f) (at f.safe_lows) (at f.safe_highs) (λ c l. omega (arith, (r.order c l).low, (r.order c l).high, (r.order c l).safe)),
      )

  beyond : sum f.safe_lows ≤ sum f.safe_highs → ((sum f.safe_lows ≤ M) × (M ≤ sum f.safe_highs) → ⊥) → Beyond f.safe_lows f.safe_highs M
  unfolding is_below distance
  beyond o h = go (dec_lt M (sum f.safe_lows)) (dec_lt (sum f.safe_highs) M)
    where
      go : Dec (M < sum f.safe_lows) → Dec (sum f.safe_highs < M) → Beyond f.safe_lows f.safe_highs M
      go (yes l) g = less l (omega arith) (lt-ltb M (sum f.safe_lows) l) (omega arith)
      go (no l) (yes g) = more g (omega arith) (le-ltb M (sum f.safe_lows) (omega arith)) (omega arith)
      go (no l) (no g) = absurd (h (omega arith, omega arith))

-- any other refusal has its line and nothing after it
pub refused-other : (number place : ℕ) (safe_lows safe_highs : List ℕ) (M : ℕ) → number ≢ 8 → refused_line number place safe_lows safe_highs M ≡ refusal_line number place
unfolding refused_line
refused-other number place safe_lows safe_highs M h = rw (ne_eqb number 8 h)

module _ (file : List ℕ) (cell : ℕ) where
  abbrev f : Lists
  f = file_lists file

  abbrev M : ℕ
  M = file_total file

  -- a query refused with 8 has passed every other check, and M lies beyond the sums
  pub query-eight : (place : ℕ) → query_verdict file cell ≡ refused 8 place → (place ≡ 0) × Beyond f.safe_lows f.safe_highs M
  unfolding shape_rules value_rules Broken
  query-eight place e =
      let c = file_call file in
      let k = length c.masses in
      let s = length c.scratch in
      let read = broken-later (read_rules file largest) (rule 3 (cell < file_cells file) ∷ reconstruct_rules c) 8 place (none-of-reading file) ((query-refuses file cell 8 place).0 e) in
      let inside = broken-later (rule 3 (cell < file_cells file) ∷ []) (reconstruct_rules c) 8 place (no_number (3 ∷ []) 8 refl) read.1 in
      let shape = broken-later (shape_rules f k s) (value_rules f ++ (reach_rule f M ∷ [])) 8 place (no_number (numbers_of (shape_rules f k s)) 8 refl) inside.1 in
      let values = broken-later (value_rules f) (reach_rule f M ∷ []) 8 place (no_number (numbers_of (value_rules f)) 8 refl) shape.1 in
      let fault = broken-first (reach_rule f M) [] 8 refl 8 place refl values.1 in
      (fault.0, beyond f M (safe-order f M ((shape-holds f k s).0 shape.0) ((values-hold f).0 values.0)) fault.1)

  -- ---- the line, by the verdict

  pub text-parts : query_verdict file cell ≡ Ok tt → query_text file cell ≡ parts_line (outcome_number (outcome (field f) M)) (cell_parts (field f) M cell)
  unfolding query_text
  text-parts e = ap (λ v. line_by v f M cell) e

  pub text-refused : (number place : ℕ) → number ≢ 8 → query_verdict file cell ≡ refused number place → query_text file cell ≡ refusal_line number place
  unfolding query_text
  text-refused number place h e = ap (λ v. line_by v f M cell) e ∙ refused-other number place f.safe_lows f.safe_highs M h

  -- refusal 8 has the side of M and the distance to the nearer sum
  pub data EightText : Type 0 where
    text-below : M < sum f.safe_lows → M < sum f.safe_highs → query_text file cell ≡ beyond_line 8 0 true (sum f.safe_lows - M) → EightText
    text-above : sum f.safe_highs < M → sum f.safe_lows < M → query_text file cell ≡ beyond_line 8 0 false (M - sum f.safe_highs) → EightText

  pub text-eight : (place : ℕ) → query_verdict file cell ≡ refused 8 place → EightText
  unfolding query_text refused_line
  text-eight place e = go (query-eight place e).1
    where
      line : query_text file cell ≡ beyond_line 8 0 (is_below f.safe_lows M) (distance f.safe_lows f.safe_highs M)
      line = ap (λ v. line_by v f M cell) e ∙ ap (λ p. beyond_line 8 p (is_below f.safe_lows M) (distance f.safe_lows f.safe_highs M)) (query-eight place e).0

      go : Beyond f.safe_lows f.safe_highs M → EightText
      go (less l m b d) = text-below l m (line ∙ ap₂ (beyond_line 8 0) b d)
      go (more l m b d) = text-above l m (line ∙ ap₂ (beyond_line 8 0) b d)
