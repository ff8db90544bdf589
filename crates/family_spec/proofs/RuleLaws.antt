-- What each verdict of a family means: passed exactly if every rule holds, refused with a number at a place exactly if those before it hold and
-- this one is broken there; what a family accepts, Open and Step accept. Assumes nothing.
use Rattle.std.specs.Prelude.{Ok, Err}
use mathlib.Core.Path.{◌≡◌, refl, sym, ◌∙◌, ap, subst}
use mathlib.Core.Logic.{◌⊎◌, inl, inr, ⊎_elim, ◌↔◌}
use mathlib.Core.Bool.{Bool, true, false, not, ◌||◌, or-true}
use mathlib.Core.List.{List, [], ◌∷◌, ◌++◌}
use Prim.Native.Nat.{ℕ, ◌≤◌}
use native.Mathlib.Omega.{arith}
use lib.IntN.{ℤ, pos}
use lib.Signed.{◌≤ℤ◌}
use lib.ListN.{length}
use Rattle.numbers.specs.Lists.{sum, All}
use Rattle.numbers.specs.Checks.{Checked, refused, first, Decides, rule, DecidesAll, Holds, Broken, RefuseWith, Extends, OneOf, numbers_of, both}
use Rattle.numbers.proofs.TestLaws.{and-means, le-means, eq-means}
use Rattle.numbers.proofs.SignedLaws.{parts-le, le_z-means}
use Rattle.numbers.proofs.CheckLaws.{both-pass, first-append, decides-unless, decides-then, decides-append, decides-none, count-decides, scale-decides, on, refused-number}
use Rattle.numbers.proofs.ChainLaws.{Passes, pass_all, all_pass, extends-pass, extends-fail, refuse-with, are-of, one-append}
use Rattle.qlt_spec.specs.Field.{cells}
use Rattle.qlt_spec.specs.Operation.{shape_rules, value_rules}
use Rattle.book_spec.specs.LentBook.{lent_rules}
use Rattle.book_spec.proofs.LentLaws.{lent-numbers, lent-refuse-with}
use Rattle.kept_spec.specs.Open.{open_checks, open_verdict_with, open_rules_with, OpenFits}
use Rattle.kept_spec.specs.Step.{new_total, check_same_scale, step_checks, step_verdict_with, scale_rule}
use Rattle.kept_spec.proofs.OpenLaws.{open-decides-with, open-accepts}
use Rattle.kept_spec.proofs.StepLaws.{same-scale-decides, step-decides-with, step-accepts, with-extends, with-full}
use Rattle.family_spec.specs.declared.Member.{Member}
use Rattle.family_spec.specs.Family.{Terms}
use Rattle.family_spec.specs.Member.{check_closed, check_opened, check_same_cells, check_room, check_source, opening_checks, opening_verdict, StepInputs, call_of, stepping_checks, stepping_verdict}
use Rattle.family_spec.specs.Rules.{start_rules, StartFits, opening_rules, OpeningFits, SourceFits, stepping_rules, SteppingFits, registering_rules, RegisteringFits, SteppingFull}
use Rattle.family_spec.specs.Operations.{start_verdict}
use Rattle.kept_spec.specs.Open as alone-open
use Rattle.kept_spec.specs.Step as alone-step

not-means : (b : Bool) → (not b ≡ true) ↔ (b ≡ false)
not-means true = (λ e. sym e, λ e. sym e)
not-means false = (λ e. refl, λ e. refl)

or-means : {a b : Bool} {P Q : Type 0} → (a ≡ true) ↔ P → (b ≡ true) ↔ Q → (a || b ≡ true) ↔ (P ⊎ Q)
or-means {a} {b} p q = (to a b p q, λ h. ⊎_elim (λ x. ap (λ t. t || b) (p.1 x)) (λ y. ap (λ t. a || t) (q.1 y) ∙ or-true a) h)
  where
    to : (a b : Bool) {P Q : Type 0} → (a ≡ true) ↔ P → (b ≡ true) ↔ Q → a || b ≡ true → P ⊎ Q
    to true b p q e = inl (p.0 refl)
    to false b p q e = inr (q.0 e)

-- ---- each check

pub closed-decides : (i : ℕ) (m : Member) → Decides (check_closed i m) (rule 19 ((i ≤ 7) × (m.opened ≡ false)))
unfolding check_closed
closed-decides i m = decides-unless _ 19 (and-means (le-means i 7) (not-means m.opened))

pub opened-decides : (i : ℕ) (m : Member) → Decides (check_opened i m) (rule 19 ((i ≤ 7) × (m.opened ≡ true)))
unfolding check_opened
opened-decides i m = decides-unless _ 19 (and-means (le-means i 7) (λ e. e, λ e. e))

pub same-cells-decides : (n cells : ℕ) → Decides (check_same_cells n cells) (rule 1 (n ≡ cells))
unfolding check_same_cells
same-cells-decides n cells = decides-unless _ 1 (eq-means n cells)

pub room-decides : (total : ℕ) (space : ℤ) → Decides (check_room total space) (rule 20 (pos total ≤ℤ space))
unfolding check_room
room-decides total space = decides-unless _ 20 (le_z-means (pos total) space)

pub source-decides : (source : ℤ) (total : ℕ) (space : ℤ) → Decides (check_source source total space) (rule 20 ((source ≤ℤ pos 0) ⊎ (pos total ≤ℤ space)))
unfolding check_source
source-decides source total space = decides-unless _ 20 (or-means (le_z-means source (pos 0)) (le_z-means (pos total) space))

-- ---- the start

pub start-decides : (scale cells : ℕ) → DecidesAll (start_verdict scale cells) (start_rules scale cells)
unfolding start_verdict
start-decides scale cells = decides-then _ _ _ _ (count-decides cells) (decides-then _ _ _ _ (scale-decides scale) decides-none)

start_fits : (scale cells : ℕ) → Holds (start_rules scale cells) ↔ StartFits scale cells
unfolding Holds
start_fits scale cells = (
  λ h. record { some = h.0.0; few = h.0.1; scale_small = h.1.0 },
  λ f. ((f.some, f.few), (f.scale_small, tt)),
)

pub start-accepts : (scale cells : ℕ) → (start_verdict scale cells ≡ Ok tt) ↔ StartFits scale cells
start-accepts scale cells = (
  λ e. (start_fits scale cells).0 ((start-decides scale cells).passes.0 e),
  λ f. (start-decides scale cells).passes.1 ((start_fits scale cells).1 f),
)

pub start-refuses : (scale cells number place : ℕ) → (start_verdict scale cells ≡ refused number place) ↔ Broken (start_rules scale cells) number place
start-refuses scale cells = (start-decides scale cells).fails

pub start-numbers : (scale cells : ℕ) → RefuseWith (start_rules scale cells) (1 ∷ 9 ∷ [])
start-numbers scale cells = refuse-with (start_rules scale cells) _ refl refl

-- ---- an opening

-- the family's own numbers: 1 of another n, and 17, which an opening by itself does not know
abbrev pub OpeningOwn : ℕ → Type 0
OpeningOwn n = (n ≡ 19) ⊎ ((n ≡ 1) ⊎ ((n ≡ 17) ⊎ (n ≡ 20)))

module _ (t : Terms) (i : ℕ) (m : Member) (space : ℤ) (kept : List ℕ) (k : ℕ) where
  abbrev v : Checked
  v = opening_verdict t i m space kept k

  pub opening-decides : DecidesAll v (opening_rules t i m space kept k)
  unfolding opening_verdict open_verdict_with
  opening-decides =
      let own = check_same_scale k t.scale ∷ [] in
      let rules = scale_rule k t.scale ∷ [] in
      let last = check_room (sum kept) space ∷ [] in
      decides-then _ _ _ _ (closed-decides i m)
      (decides-then _ _ _ _ (same-cells-decides (length kept) t.cells)
      (subst (λ w. DecidesAll w (open_rules_with rules kept k ++ (rule 20 (pos (sum kept) ≤ℤ space) ∷ []))) (first-append (alone-open.open_checks_with own kept k) last)
      (decides-append (open_verdict_with own kept k) (first last) (open_rules_with rules kept k) (rule 20 (pos (sum kept) ≤ℤ space) ∷ [])
      (open-decides-with kept k own rules (decides-then _ _ _ _ (same-scale-decides k t.scale) decides-none))
      (decides-then _ _ _ _ (room-decides (sum kept) space) decides-none))))

  -- it is Open's chain with the family's checks put in
  pub opening-extends : Extends OpeningOwn (opening_checks t i m space kept k) (open_checks kept k)
  opening-extends =
      Extends.extra (λ n p e. inl (((closed-decides i m).fails n p).0 e).0)
      (Extends.extra (λ n p e. inr (inl (((same-cells-decides (length kept) t.cells).fails n p).0 e).0))
      (Extends.shared
      (Extends.shared
      (Extends.extra (λ n p e. inr (inr (inl (((same-scale-decides k t.scale).fails n p).0 e).0)))
      (Extends.shared
      (Extends.extra (λ n p e. inr (inr (inr (((room-decides (sum kept) space).fails n p).0 e).0))) Extends.end))))))

  -- what the family accepts, Open accepts
  pub opening-opens : v ≡ Ok tt → alone-open.open_verdict kept k ≡ Ok tt
  unfolding opening_verdict alone-open.open_verdict
  opening-opens e = extends-pass opening-extends e

  -- what it refuses with a number that is none of its own, Open refuses so
  pub opening-refused : (number place : ℕ) → v ≡ refused number place → OpeningOwn number ⊎ (alone-open.open_verdict kept k ≡ refused number place)
  unfolding opening_verdict alone-open.open_verdict
  opening-refused number place e = extends-fail opening-extends e

  opening-fits : Holds (opening_rules t i m space kept k) → OpenFits kept k → OpeningFits t i m space kept k
  unfolding Holds
  opening-fits h f =
      record { number = h.0.0; not_open = h.0.1; same_cells = h.1.0; opening = f; same_scale = h.1.1.1.1.0.1; within = h.1.1.1.1.1.1.0 }

  opening-holds : OpeningFits t i m space kept k → Holds (opening_rules t i m space kept k)
  unfolding Holds
  opening-holds f = (
    (f.number, f.not_open),
    (
      f.same_cells,
      (
        (f.opening.some, f.opening.few),
        (
          f.opening.scale,
          (
            (f.opening.scale, f.same_scale),
            ((parts-le (omega arith), parts-le (omega (arith, f.opening.small))), (f.within, tt)),
          ),
        ),
      ),
    ),
  )

  pub opening-accepts : (v ≡ Ok tt) ↔ OpeningFits t i m space kept k
  opening-accepts = (
    λ e. opening-fits (opening-decides.passes.0 e) ((open-accepts kept k).0 (opening-opens e)),
    λ f. opening-decides.passes.1 (opening-holds f),
  )

  pub opening-refuses : (number place : ℕ) → (v ≡ refused number place) ↔ Broken (opening_rules t i m space kept k) number place
  opening-refuses = opening-decides.fails

  pub opening-numbers : RefuseWith (opening_rules t i m space kept k) (19 ∷ 1 ∷ 9 ∷ 17 ∷ 13 ∷ 20 ∷ [])
  opening-numbers = refuse-with (opening_rules t i m space kept k) _ refl refl

-- ---- a step

-- refused with a number that the first of two checks never has, the first passes and the second is refused so
both-fails :
    (u v : Checked) (k n p : ℕ) → ((number place : ℕ) → u ≡ refused number place → number ≡ k) → (n ≡ k → ⊥) → both u v ≡ refused n p
    → (u ≡ Ok tt) × (v ≡ refused n p)
both-fails (Ok tt) v k n p h o e = (refl, e)
both-fails (Err r) v k n p h o e = absurd (o (sym (refused-number e) ∙ h r.number r.place refl))

-- the family's own numbers: 1 of another n
abbrev pub SteppingOwn : ℕ → Type 0
SteppingOwn n = (n ≡ 19) ⊎ ((n ≡ 1) ⊎ (n ≡ 20))

module _ (t : Terms) (i : ℕ) (m : Member) (space : ℤ) (x : StepInputs) where
  abbrev w : Checked
  w = stepping_verdict t i m space x

  abbrev c : alone-step.StepCall
  c = call_of t m x

  abbrev source : Checked
  source = check_source x.source (new_total c) space

  pub stepping-decides : DecidesAll w (stepping_rules t i m space x)
  unfolding stepping_verdict step_verdict_with
  stepping-decides =
      decides-then _ _ _ _ (opened-decides i m)
      (decides-then _ _ _ _ (same-cells-decides (cells x.lists) t.cells)
      (step-decides-with c (source ∷ []) (rule 20 (SourceFits t m space x) ∷ [])
      (decides-then _ _ _ _ (source-decides x.source (new_total c) space) decides-none)))

  -- it is Step's chain with the family's checks put in
  pub stepping-extends : Extends SteppingOwn (stepping_checks t i m space x) (step_checks c)
  stepping-extends =
      Extends.extra (λ n p e. inl (((opened-decides i m).fails n p).0 e).0)
      (Extends.extra (λ n p e. inr (inl (((same-cells-decides (cells x.lists) t.cells).fails n p).0 e).0))
      (with-extends c (source ∷ []) (All.more (λ n p e. inr (inr (((source-decides x.source (new_total c) space).fails n p).0 e).0)) All.none)))

  -- what the family accepts, Step accepts
  pub stepping-steps : w ≡ Ok tt → alone-step.step_verdict c ≡ Ok tt
  unfolding stepping_verdict alone-step.step_verdict
  stepping-steps e = extends-pass stepping-extends e

  -- what it refuses with a number that is none of its own, Step refuses so
  pub stepping-refused : (number place : ℕ) → w ≡ refused number place → SteppingOwn number ⊎ (alone-step.step_verdict c ≡ refused number place)
  unfolding stepping_verdict alone-step.step_verdict
  stepping-refused number place e = extends-fail stepping-extends e

  -- the checks one by one
  stepping-fits : All Passes (stepping_checks t i m space x) → alone-step.StepFits c → SteppingFits t i m space x
  stepping-fits (All.more a (All.more b (All.more d (All.more q (All.more e (All.more f (All.more g (All.more h (All.more s r))))))))) z =
      let o = (opened-decides i m).passes.0 a in
      record {
        number = o.0;
        is_open = o.1;
        same_cells = (same-cells-decides (cells x.lists) t.cells).passes.0 b;
        stepping = z;
        within = (source-decides x.source (new_total c) space).passes.0 s;
      }

  stepping-passes : SteppingFits t i m space x → All Passes (step_checks c) → All Passes (stepping_checks t i m space x)
  stepping-passes z (All.more d (All.more q (All.more e (All.more f (All.more g (All.more h r)))))) =
      All.more ((opened-decides i m).passes.1 (z.number, z.is_open))
      (All.more ((same-cells-decides (cells x.lists) t.cells).passes.1 z.same_cells)
      (All.more d (All.more q (All.more e (All.more f (All.more g (All.more h
      (All.more ((source-decides x.source (new_total c) space).passes.1 z.within) r))))))))

  pub stepping-accepts : (w ≡ Ok tt) ↔ SteppingFits t i m space x
  unfolding stepping_verdict alone-step.step_verdict
  stepping-accepts = (
    λ e. stepping-fits (pass_all (stepping_checks t i m space x) e) ((step-accepts c).0 (stepping-steps e)),
    λ f. all_pass (stepping_checks t i m space x) (stepping-passes f (pass_all (step_checks c) ((step-accepts c).1 f.stepping))),
  )

  pub stepping-refuses : (number place : ℕ) → (w ≡ refused number place) ↔ Broken (stepping_rules t i m space x) number place
  stepping-refuses = stepping-decides.fails

  pub stepping-numbers :
      (n : ℕ) → OneOf (numbers_of (stepping_rules t i m space x)) n
      → OneOf (19 ∷ 1 ∷ 2 ∷ 3 ∷ 17 ∷ 4 ∷ 5 ∷ 6 ∷ 7 ∷ 12 ∷ 13 ∷ 20 ∷ 8 ∷ 14 ∷ 15 ∷ 16 ∷ 21 ∷ []) n
  unfolding shape_rules value_rules
  stepping-numbers n o =
      ⊎_elim (λ a. are-of _ (19 ∷ 1 ∷ 1 ∷ 2 ∷ 3 ∷ 3 ∷ 17 ∷ 4 ∷ 5 ∷ 6 ∷ 7 ∷ 12 ∷ 13 ∷ 20 ∷ 8 ∷ []) refl n a)
      (λ a. are-of _ (14 ∷ 15 ∷ 16 ∷ 12 ∷ 21 ∷ []) refl n (lent-numbers x.book x.length m.total n a))
      ((one-append (19 ∷ 1 ∷ 1 ∷ 2 ∷ 3 ∷ 3 ∷ 17 ∷ 4 ∷ 5 ∷ 6 ∷ 7 ∷ 12 ∷ 13 ∷ 20 ∷ 8 ∷ []) (numbers_of (lent_rules x.book x.length m.total)) n).0 o)

  -- and with each of them, told a length of a block or more
  pub stepping-refuse-with :
      512 ≤ x.length → RefuseWith (stepping_rules t i m space x) (19 ∷ 1 ∷ 2 ∷ 3 ∷ 17 ∷ 4 ∷ 5 ∷ 6 ∷ 7 ∷ 12 ∷ 13 ∷ 20 ∷ 8 ∷ 14 ∷ 15 ∷ 16 ∷ 21 ∷ [])
  unfolding shape_rules value_rules
  stepping-refuse-with h n = (
    stepping-numbers n,
    λ o.
        (one-append (19 ∷ 1 ∷ 1 ∷ 2 ∷ 3 ∷ 3 ∷ 17 ∷ 4 ∷ 5 ∷ 6 ∷ 7 ∷ 12 ∷ 13 ∷ 20 ∷ 8 ∷ []) (numbers_of (lent_rules x.book x.length m.total)) n).1
        (⊎_elim (λ a. inl (are-of _ (19 ∷ 1 ∷ 2 ∷ 3 ∷ 17 ∷ 4 ∷ 5 ∷ 6 ∷ 7 ∷ 12 ∷ 13 ∷ 20 ∷ 8 ∷ []) refl n a))
        (λ a. inr ((lent-refuse-with x.book x.length m.total h n).1 (are-of _ (14 ∷ 15 ∷ 16 ∷ 21 ∷ []) refl n a)))
        ((one-append (19 ∷ 1 ∷ 2 ∷ 3 ∷ 17 ∷ 4 ∷ 5 ∷ 6 ∷ 7 ∷ 12 ∷ 13 ∷ 20 ∷ 8 ∷ []) (14 ∷ 15 ∷ 16 ∷ 21 ∷ []) n).0 o)),
  )

  -- 21 comes last, and only where every other check has passed
  pub stepping-full : (place : ℕ) → (w ≡ refused 21 place) ↔ ((place ≡ 0) × SteppingFull t i m space x)
  unfolding stepping_verdict step_verdict_with
  stepping-full place =
      let d = with-full c source 20 (source-decides x.source (new_total c) space) (λ q. omega arith) place in
      let f = both-fails (check_opened i m) (both (check_same_cells (cells x.lists) t.cells) (step_verdict_with (source ∷ []) c)) in (
        λ e.
            let a = f 19 21 place (λ n p q. (((opened-decides i m).fails n p).0 q).0) (λ q. omega arith) e in
            let b = both-fails (check_same_cells (cells x.lists) t.cells) (step_verdict_with (source ∷ []) c) 1 21 place (λ n p q. (((same-cells-decides (cells x.lists) t.cells).fails n p).0 q).0) (λ q. omega arith) a.1 in
            let o = (opened-decides i m).passes.0 a.0 in
            let z = d.0 b.1 in (
              z.0,
              record {
                number = o.0;
                is_open = o.1;
                same_cells = (same-cells-decides (cells x.lists) t.cells).passes.0 b.0;
                stepping = z.1.0;
                within = z.1.1;
              },
            ),
        λ h.
            sym
            (on ((opened-decides i m).passes.1 (h.1.number, h.1.is_open))
            (on ((same-cells-decides (cells x.lists) t.cells).passes.1 h.1.same_cells) (sym (d.1 (h.0, (h.1.stepping, h.1.within)))))),
      )

-- ---- a registration

module _ (i : ℕ) (m : Member) where
  pub registering-decides : DecidesAll (check_opened i m) (registering_rules i m)
  registering-decides = subst (λ v. DecidesAll v (registering_rules i m)) (both-pass (check_opened i m)) (decides-then _ _ _ _ (opened-decides i m) decides-none)

  pub registering-accepts : (check_opened i m ≡ Ok tt) ↔ RegisteringFits i m
  registering-accepts = (
    λ e. let h = (opened-decides i m).passes.0 e in record { number = h.0; is_open = h.1 },
    λ f. (opened-decides i m).passes.1 (f.number, f.is_open),
  )

  pub registering-refuses : (number place : ℕ) → (check_opened i m ≡ refused number place) ↔ Broken (registering_rules i m) number place
  registering-refuses = registering-decides.fails

  pub registering-numbers : RefuseWith (registering_rules i m) (19 ∷ [])
  registering-numbers = refuse-with (registering_rules i m) _ refl refl
