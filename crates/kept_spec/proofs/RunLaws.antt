-- What holds along every run of a sound relation: its invariant, its value by what the events add up to, and a fact of each event; runs one
-- after another, and a run of other events behind a run. Assumes nothing.
use mathlib.Core.Path.{◌≡◌, ap, ◌∙◌, sym}
use mathlib.Core.List.{List, [], ◌∷◌, ◌++◌}
use lib.IntN.{ℤ, ◌+ℤ◌, +ℤ_idr, +ℤ_assoc}
use Rattle.numbers.specs.Lists.{All}
use Rattle.kept_spec.specs.Run.{Run, collect, sum_of, Sound}

module _ {E S : Type 0} {Move : S → E → S → Type 0} {Inv : S → Type 0} {value : S → ℤ} {gain : E → ℤ} {Fact : E → Type 0} where
  -- the invariant holds at the end
  pub run-keeps : Sound Move Inv value gain Fact → {s t : S} {es : List E} → Inv s → Run Move s es t → Inv t
  run-keeps z i Run.done = i
  run-keeps z i (Run.step m r) = run-keeps z (z.keeps i m) r

  -- the value at the end is that at the start plus all gains
  pub run-gains : Sound Move Inv value gain Fact → {s t : S} {es : List E} → Inv s → Run Move s es t → value t ≡ value s +ℤ sum_of gain es
  unfolding sum_of
  run-gains z {s} i Run.done = sym (+ℤ_idr (value s))
  run-gains z {s} {es = e ∷ es} i (Run.step m r) =
      run-gains z (z.keeps i m) r ∙ ap (λ v. v +ℤ sum_of gain es) (z.gains i m) ∙ +ℤ_assoc (value s) (gain e) (sum_of gain es)

  -- each event has its fact
  pub run-facts : Sound Move Inv value gain Fact → {s t : S} {es : List E} → Inv s → Run Move s es t → All Fact es
  run-facts z i Run.done = All.none
  run-facts z i (Run.step m r) = All.more (z.facts i m) (run-facts z (z.keeps i m) r)

-- one run after another
pub run-append : {E S : Type 0} {Move : S → E → S → Type 0} {s t u : S} {xs ys : List E} → Run Move s xs t → Run Move t ys u → Run Move s (xs ++ ys) u
run-append Run.done r = r
run-append (Run.step m q) r = Run.step m (run-append q r)

-- where each move from a state with an invariant keeps it and is a run of other events between other states, so is a run
pub run-through :
    {E D S T : Type 0} {Move : S → E → S → Type 0} {Other : T → D → T → Type 0} (f : E → List D) (g : S → T) (Inv : S → Type 0)
    → ((s t : S) (e : E) → Inv s → Move s e t → Run Other (g s) (f e) (g t) × Inv t) → (s t : S) (es : List E) → Inv s → Run Move s es t
    → Run Other (g s) (collect f es) (g t)
unfolding collect
run-through f g Inv h s t [] i Run.done = Run.done
run-through f g Inv h s t (e ∷ es) i (Run.step {t = u} m r) = let z = h s u e i m in run-append z.0 (run-through f g Inv h u t es z.1 r)

-- the same between the same states
pub run-collect :
    {E D S : Type 0} {Move : S → E → S → Type 0} {Other : S → D → S → Type 0} (f : E → List D)
    → ((s t : S) (e : E) → Move s e t → Run Other s (f e) t) → (s t : S) (es : List E) → Run Move s es t → Run Other s (collect f es) t
run-collect f h s t es r = run-through f (λ x. x) (λ x. Unit) (λ x y e i m. (h x y e m, tt)) s t es tt r

-- a fact of every event gives another
pub all_map : {E : Type 0} {P Q : E → Type 0} {es : List E} → ((e : E) → P e → Q e) → All P es → All Q es
all_map f All.none = All.none
all_map f (All.more {e = e} h hs) = All.more (f e h) (all_map f hs)

-- a run of events after others in two
pub run-split :
    {E S : Type 0} {Move : S → E → S → Type 0} {s u : S} (xs : List E) {ys : List E} → Run Move s (xs ++ ys) u → (t : S) × (Run Move s xs t × Run Move t ys u)
run-split {s = s} [] r = (s, (Run.done, r))
run-split (x ∷ xs) (Run.step m r) = let z = run-split xs r in (z.0, (Run.step m z.1.0, z.1.1))
