-- Demand 3: after every accepted opening and every run of Step calls, the kept masses add up to the opening total plus the sources of the
-- accepted steps, which is the total standing; the accepted steps and the balance standing are at the opening's scale; and each step has the
-- whole tree's facts. Every event that Step's contract promises and that
-- is lent what stands can move a run on, and for every input there is such an event. Assumes nothing.
use Rattle.std.specs.Prelude.{Ok, Err}
use mathlib.Core.Path.{◌≡◌, refl, sym, ◌∙◌, ap, ap₂, subst, subst⁻¹}
use mathlib.Core.Logic.{◌⊎◌, ⊎_elim, ◌↔◌}
use mathlib.Core.List.{List, [], ◌++◌, append-nil}
use Prim.Native.Nat.{ℕ, ◌*◌, ◌≤◌}
use native.Mathlib.Omega.{arith}
use lib.IntN.{ℤ, pos, negsuc, ◌+ℤ◌, +ℤ_idr}
use Rattle.numbers.specs.Sums.{ℕ_adds, sum_to}
use Rattle.numbers.specs.Signed.{over}
use Rattle.numbers.specs.Checks.{Checked, Answered, refused, answered, after, Broken}
use Rattle.numbers.specs.Lists.{sum}
use Rattle.numbers.proofs.PartLaws.{part-whole}
use Rattle.numbers.proofs.CheckLaws.{answered-refused, no-pass}
use Rattle.qlt_spec.specs.Field.{Field, nodes, scratch_per_node, field, Meets}
use Rattle.qlt_spec.specs.Masses.{tree_masses}
use Rattle.qlt_spec.specs.Operation.{cleared}
use Rattle.qlt_spec.proofs.MissLaws.{meets-room, meets-neg}
use Rattle.qlt_spec.proofs.FactLaws.{reachable-sums}
use Rattle.qlt_spec.proofs.OperationLaws.{fits-valid, safe-lows-sum, safe-highs-sum}
use Rattle.book_spec.specs.LentBook.{grown_buffer}
use Rattle.kept_spec.specs.declared.Balance.{Balance}
use Rattle.kept_spec.specs.declared.Stepped.{Stepped}
use Rattle.kept_spec.specs.Open.{OpenContract}
use Rattle.kept_spec.specs.Step.{StepCall, next, new_total, step_verdict, step_rules, StepFits, step_result, step_entry, Typed, MassesFit}
use Rattle.kept_spec.specs.Run.{Run, sum_of, Sound}
use Rattle.kept_spec.specs.Account.{Event, Standing, told, Accepts, ForTotal, balance_after, gain_by, gain, Promised, Moves, Reachable, StepFacts, AtScale, Account}
use Rattle.kept_spec.proofs.RunLaws.{run-keeps, run-gains, run-facts, all_map}
use Rattle.kept_spec.proofs.OpenLaws.{opened-balance}
use Rattle.kept_spec.proofs.StepLaws.{step-accepts, step-refuses, Past, refused-for-total, accepted-sum, accepted-facts, refused-keeps, step-account}

-- ---- which calls are accepted

-- whole numbers within bounds have a sum that is not below 0 and lies between the sums of the bounds
meets-sum :
    (k : ℕ) (low high : ℕ → ℕ) (z : ℤ) (y : ℕ → ℤ) → Meets k low high z y
    → (pos (over z) ≡ z) × ((sum_to ℕ_adds k low ≤ over z) × (over z ≤ sum_to ℕ_adds k high))
meets-sum k low high (pos n) y h = (refl, meets-room low high k n y h)
meets-sum k low high (negsuc a) y h = absurd (meets-neg low high k a y h)

module _ (c : StepCall) where
  abbrev F : Field
  F = field c.lists

  -- a call that fits can be reached within its safety bounds
  fits-reachable : MassesFit c → Reachable c
  fits-reachable f =
      let l = f.shape.lengths in
      let t = (reachable-sums F (fits-valid f.shape f.values) f.values.order (new_total c)).1
      (omega (arith, f.reach.least, safe-lows-sum l), omega (arith, f.reach.most, safe-highs-sum l)) in
      (t.0, subst (λ z. Meets F.n F.safe_low F.safe_high z t.0) f.whole t.1)

  -- past 1 to 7, 17 and 12, a call that can be reached fits
  reachable-fits : Past c → Reachable c → MassesFit c
  reachable-fits p t =
      let l = p.shape.lengths in
      let m = meets-sum F.n F.safe_low F.safe_high (next c) t.0 t.1 in
      let high : new_total c ≤ sum c.lists.safe_highs = omega (arith, m.1.1, safe-highs-sum l) in
      record {
        shape = p.shape;
        room = p.room;
        scale_small = p.scale_small;
        same_scale = p.same_scale;
        values = p.values;
        adds_up = p.adds_up;
        whole = m.0;
        small = omega (arith, high, p.values.safe_highs);
        reach = record { least = omega (arith, m.1.0, safe-lows-sum l); most = high };
      }

  -- accepted exactly if it fits, refused with a number at a place exactly if that rule is broken there after those before it
  accepts-means : (x : Stepped) (v : Checked) → step_verdict c ≡ v → Accepts (answered v x) ↔ StepFits c
  accepts-means x (Ok tt) e = (λ a. (step-accepts c).0 e, λ f. tt)
  accepts-means x (Err r) e = (λ a. absurd a, λ f. no-pass ((step-accepts c).1 f) e)

  refuses-means : (x : Stepped) (v : Checked) → step_verdict c ≡ v → (number place : ℕ) → (answered v x ≡ refused number place) ↔ Broken (step_rules c) number place
  refuses-means x v e number place = (
    λ t. (step-refuses c number place).0 (e ∙ answered-refused v x number place (sym t)),
    λ b. ap (λ w. answered w x) (sym e ∙ (step-refuses c number place).1 b),
  )

  -- accepted, or refused with 13 or 8: accepted exactly if it can be reached
  abbrev Decided : Answered Stepped → Type 0
  Decided a = Accepts a ⊎ ForTotal a → Accepts a ↔ Reachable c

  decided : (x : Stepped) (v : Checked) → step_verdict c ≡ v → Decided (answered v x)
  decided x (Ok tt) e o = (λ a. fits-reachable ((step-accepts c).0 e).masses, λ t. tt)
  decided x (Err r) e o = (λ a. absurd a, λ t. refusal.1 (reachable-fits refusal.0 t))
    where
      refusal : Past c × (MassesFit c → ⊥)
      refusal = refused-for-total c r.number r.place e (⊎_elim (λ a. absurd a) (λ n. n) o)

-- ---- one event

-- what Step's contract promises of an event has the facts of a step
pub step-facts : (e : Event) → Promised e → StepFacts e
step-facts e p =
    let x = step_result e.call in
    record {
      accepts = subst⁻¹ (λ a. Accepts a ↔ StepFits e.call) p.tells.answers (accepts-means e.call x (step_verdict e.call) refl);
      refuses =
          subst⁻¹ (λ a. (number place : ℕ) → (a ≡ refused number place) ↔ Broken (step_rules e.call) number place) p.tells.answers
          (refuses-means e.call x (step_verdict e.call) refl);
      gives = λ r t. accepted-facts e p r t;
      decided = subst⁻¹ (Decided e.call) p.tells.answers (decided e.call x (step_verdict e.call) refl);
    }

-- ---- an event that was lent a part of the kept masses

module _ (s : Standing) (e : Event) (a b : List ℕ) (p : Promised e) (part : s.kept ≡ a ++ (e.call.kept ++ b)) where
  -- accepted, it was lent the whole, so what it leaves is the whole
  pub lent-whole : e.call.kept ≡ s.kept → a ++ (e.kept ++ b) ≡ e.kept
  lent-whole k =
      let w = part-whole a e.call.kept b (k ∙ part) in
      ap₂ (λ x y. x ++ (e.kept ++ y)) w.0 w.1 ∙ append-nil e.kept

  -- refused, it leaves all as it was
  lent_same : (number place : ℕ) → told e ≡ refused number place → a ++ (e.kept ++ b) ≡ s.kept
  lent_same number place t = ap (λ l. a ++ (l ++ b)) (refused-keeps e p number place t).0 ∙ sym part

-- ---- every run

-- the invariant of a run at the scale k, its value, and the facts of its events
pub record Balanced (k : ℕ) (s : Standing) : Type 0 where
  pub adds_up : sum s.kept ≡ s.balance.total
  pub scale : s.balance.scale ≡ k

abbrev pub worth : Standing → ℤ
worth s = pos (sum s.kept)

pub record EventFacts (k : ℕ) (e : Event) : Type 0 where
  pub step : StepFacts e
  pub at-scale : AtScale k e

no-gain : (a : Answered Stepped) (z : ℤ) → (Accepts a → ⊥) → gain_by a z ≡ pos 0
no-gain (Ok r) z h = absurd (h tt)
no-gain (Err r) z h = refl

module _ (s : Standing) (e : Event) (before rest : List ℕ) (p : Promised e) (part : s.kept ≡ before ++ (e.call.kept ++ rest)) (whole : Accepts (told e) → (e.call.kept ≡ s.kept) × (e.call.balance ≡ s.balance)) where
  lent-adds-up : sum s.kept ≡ s.balance.total → sum (before ++ (e.kept ++ rest)) ≡ (balance_after (told e) s.balance).total
  lent-adds-up b = by-told (told e) refl whole
    where
      by-told :
          (a : Answered Stepped) → told e ≡ a → (Accepts a → (e.call.kept ≡ s.kept) × (e.call.balance ≡ s.balance))
          → sum (before ++ (e.kept ++ rest)) ≡ (balance_after a s.balance).total
      by-told (Ok r) t w = ap sum (lent-whole s e before rest p part (w tt).0) ∙ accepted-sum e p r t
      by-told (Err r) t w = ap sum (lent_same s e before rest p part r.number r.place t) ∙ b

  -- accepted, it names the scale of the balance given, which is the one standing
  lent-scale : AtScale s.balance.scale e
  lent-scale a = ((step-facts e p).accepts.0 a).masses.same_scale ∙ ap (λ b. b.scale) (whole a).1

  lent-keeps-scale : (balance_after (told e) s.balance).scale ≡ s.balance.scale
  lent-keeps-scale = by-told (told e) refl lent-scale
    where
      by-told : (a : Answered Stepped) → told e ≡ a → (Accepts a → e.call.scale ≡ s.balance.scale) → (balance_after a s.balance).scale ≡ s.balance.scale
      by-told (Ok r) t w = (accepted-facts e p r t).scale ∙ w tt
      by-told (Err r) t w = refl

  lent-gains : pos (sum (before ++ (e.kept ++ rest))) ≡ worth s +ℤ gain e
  lent-gains = by-told (told e) refl whole
    where
      by-told :
          (a : Answered Stepped) → told e ≡ a → (Accepts a → (e.call.kept ≡ s.kept) × (e.call.balance ≡ s.balance))
          → pos (sum (before ++ (e.kept ++ rest))) ≡ worth s +ℤ gain_by a e.call.source
      by-told (Ok r) t w =
          ap (λ l. pos (sum l)) (lent-whole s e before rest p part (w tt).0)
          ∙ step-account e p
          ∙ ap₂ (λ l g. pos (sum l) +ℤ g) (w tt).0 (ap (λ x. gain_by x e.call.source) t)
      by-told (Err r) t w = ap (λ l. pos (sum l)) (lent_same s e before rest p part r.number r.place t) ∙ sym (+ℤ_idr (worth s))

module _ {k : ℕ} where
  moves-keeps : {s t : Standing} {e : Event} → Balanced k s → Moves s e t → Balanced k t
  moves-keeps {s} {e = e} b (Moves.lent before rest p part w) =
      record {
        adds_up = lent-adds-up s e before rest p part w b.adds_up;
        scale = lent-keeps-scale s e before rest p part w ∙ b.scale;
      }
  moves-keeps b (Moves.elsewhere p r) = b

  moves-gains : {s t : Standing} {e : Event} → Balanced k s → Moves s e t → worth t ≡ worth s +ℤ gain e
  moves-gains {s} {e = e} b (Moves.lent before rest p part w) = lent-gains s e before rest p part w
  moves-gains {s} {e = e} b (Moves.elsewhere p r) = sym (ap (λ z. worth s +ℤ z) (no-gain (told e) e.call.source r) ∙ +ℤ_idr (worth s))

  moves-facts : {s t : Standing} {e : Event} → Balanced k s → Moves s e t → EventFacts k e
  moves-facts {s} {e = e} b (Moves.lent before rest p part w) =
      record { step = step-facts e p; at-scale = λ a. lent-scale s e before rest p part w a ∙ b.scale }
  moves-facts {e = e} b (Moves.elsewhere p r) = record { step = step-facts e p; at-scale = λ a. absurd (r a) }

  pub moves-sound : Sound Moves (Balanced k) worth gain (EventFacts k)
  moves-sound = record { keeps = moves-keeps; gains = moves-gains; facts = moves-facts }

-- THE theorem
pub demand3 :
    (opened : List ℕ) (k : ℕ) (answer : Answered Balance) (opening : Balance) → OpenContract opened k answer → answer ≡ Ok opening
    → (es : List Event) (end : Standing) → Run Moves (record { kept = opened; balance = opening }) es end → Account opening es end
demand3 opened k answer opening p t es end r =
    let b : Balanced opening.scale (record { kept = opened; balance = opening }) =
    record { adds_up = sym (ap (λ x. x.total) (opened-balance opened k answer opening p t).1); scale = refl } in
    let z = run-keeps moves-sound b r in
    let f = run-facts moves-sound b r in
    record {
      sums = run-gains moves-sound b r ∙ ap (λ n. pos n +ℤ sum_of gain es) b.adds_up;
      standing = z.adds_up;
      scales = all_map (λ e h. h.at-scale) f;
      scale = z.scale;
      steps = all_map (λ e h. h.step) f;
    }

-- ---- runs are not empty talk

-- what Step's contract promises of a call that is lent what stands moves a run on, accepted or refused
pub always-moves :
    (s : Standing) (e : Event) → Promised e → e.call.kept ≡ s.kept → e.call.balance ≡ s.balance
    → Moves s e (record { kept = e.kept; balance = balance_after (told e) s.balance })
always-moves s e p k b =
    subst (λ l. Moves s e (record { kept = l; balance = balance_after (told e) s.balance })) (append-nil e.kept)
    (Moves.lent [] [] p (sym k ∙ sym (append-nil e.call.kept)) (λ a. (k, b)))

-- for every input of its types there is an event that Step's contract promises
pub promised : (c : StepCall) → Typed c → (e : Event) × ((e.call ≡ c) × Promised e)
promised c y = (
  record {
    call = c;
    answer = answered (step_verdict c) (step_result c);
    kept = after (step_verdict c) (tree_masses (field c.lists) (new_total c)) c.kept;
    scratch = after (step_verdict c) (cleared (scratch_per_node * nodes c.lists) c.scratch) c.scratch;
    book = after (step_verdict c) (grown_buffer c.book c.length (step_entry c)) c.book;
  },
  (
    refl,
    record {
      typed = y;
      tells = record { answers = refl; leaves = record { writes = refl; clears = refl } };
      files = refl;
    },
  ),
)
