-- Laws of the passes over one column: the turns of the loop that adds up, loading a list, and the targets' range; then clearing the
-- scratch, and how far a mass is from its target. Assumes nothing.
use mathlib.Core.Path.{◌≡◌, refl, sym, ◌∙◌, ap, ap₂}
use mathlib.Core.Bool.{true}
use mathlib.Core.List.{List, ◌++◌}
use Prim.Native.Nat.{ℕ, zero, suc, ◌+◌, ◌*◌, ◌-◌, ◌^◌, ◌≤◌, ◌<◌}
use native.Mathlib.Omega.{arith}
use native.Mathlib.Numerals.{add-one}
use native.Mathlib.Decide.{ℕ_discrete, dec_lt}
use lib.Dec.{leb}
use lib.IntN.{ℤ, pos, nat_abs, ◌+ℤ◌, ◌-ℤ◌}
use lib.Signed.{mag}
use lib.ListN.{length, drop, length-drop}
use lib.Seq.{get_or-drop, ext_get_or}
use mir.Syntax.{w64}
use mir.Val.{SFits, to_z, of_z}
use mir.ValLaws.{to_z-of_z}
use borrow.Author.Tests.{lt-leb, le-leb}
use Rattle.numbers.specs.Sums.{ℕ_adds, ℤ_adds, sum_to}
use Rattle.numbers.specs.Lists.{at_ℤ, list_to, written}
use Rattle.numbers.proofs.SignedLaws.{about, minus-parts}
use Rattle.numbers.proofs.SumLaws.{sum_to-next, sum_to-ext}
use Rattle.numbers.proofs.ListLaws.{length-list_to, get_d-list_to}
use Rattle.scratch_spec.specs.Columns.{width, MASS, Small, Storable, col, InRow, Stored, OnlyColumn, Laid}
use Rattle.scratch_spec.proofs.ColumnLaws.{col-natural, in_row, kept-start, kept_on, kept-write, laid-start, laid_next}
use Rattle.qlt_spec.specs.Tree.{Valid}
use Rattle.qlt_spec.specs.Operation.{cleared}
use Rattle.qlt_spec.proofs.TreeLaws.{node_sum-ext}
use Rattle.solve_spec.specs.Gather.{Gathering, Loaded, Targets}
use Rattle.solve_spec.proofs.UpLaws.{up_to, up_to-cell, up_to-inner, up_to-parent, up_to-other, up_to-done, up_to-size}

-- ---- adding up

-- before the turn at b: each node's place has its own value and the sums of its children below b
pub record GatherState (up : ℕ → ℕ) (n m k : ℕ) (f : ℕ → ℤ) (b : ℕ) (s new : List ℤ) : Type 0 where
  pub kept : OnlyColumn k m s new
  pub held : (w : ℕ) → w < m → col k new w ≡ up_to ℤ_adds up n m f b w

-- in t, the inner nodes' places of s are set to 0
module _ {up : ℕ → ℕ} {n m k : ℕ} {s t : List ℤ} (ok : Gathering up n m k s) (blank : Laid k m (λ u. leb n u) (λ u. pos 0) m s t) where
  -- the cells' places are as they were
  cells : (c : ℕ) → c < n → col k t c ≡ col k s c
  cells c l = blank.same c (omega (arith, ok.valid.room)) (lt-leb n c l)

  -- before the first turn
  pub gather-start : GatherState up n m k (col k t) 0 t t
  gather-start = record { kept = kept-start k m t; held = λ w l. go w l (dec_lt w n) }
    where
      go : (w : ℕ) → w < m → Dec (w < n) → col k t w ≡ up_to ℤ_adds up n m (col k t) 0 w
      go w l (yes c) = sym (up_to-cell ok.valid ℤ_adds (col k t) w c)
      go w l (no c) = blank.done w l (le-leb n w (omega arith)) ∙ sym (up_to-inner ok.valid ℤ_adds (col k t) w (omega arith))

  -- the turn at b, whose parent is p
  module _ {b p : ℕ} {new : List ℤ} (st : GatherState up n m k (col k t) b t new) (l : b < m - 1) (e : p ≡ up b) where
    parent_in : p < m
    parent_in = omega (arith, e, ok.valid.inside b l)

    row : (w : ℕ) → w < m → InRow k new w
    row w i = in_row k m w new ok.column i (omega (arith, ok.size, st.kept.long, blank.kept.long))

    -- b's place is complete, so the sum is what p's place holds after the turn
    sum_is : col k new p +ℤ col k new b ≡ up_to ℤ_adds up n m (col k t) (suc b) p
    sum_is =
        ap₂ ◌+ℤ◌
        (st.held p parent_in ∙ ap (up_to ℤ_adds up n m (col k t) b) e)
        (st.held b (omega arith) ∙ up_to-done ok.valid ℤ_adds (col k t) b b (omega arith) (omega arith) (omega arith))
        ∙ sym (ap (up_to ℤ_adds up n m (col k t) (suc b)) e ∙ up_to-parent ok.valid ℤ_adds (col k t) b l)

    sizes : sum_to ℕ_adds n (λ c. nat_abs (col k t c)) ≡ sum_to ℕ_adds n (λ c. nat_abs (col k s c))
    sizes = sum_to-ext ℕ_adds n _ _ (λ c i. ap nat_abs (cells c i))

    sum-most : nat_abs (col k new p +ℤ col k new b) ≤ sum_to ℕ_adds n (λ c. nat_abs (col k s c))
    sum-most = omega (arith, ap nat_abs sum_is, sizes, up_to-size ok.valid (col k t) (suc b) p (omega arith) parent_in)

    -- the column can hold it
    sum-storable : Storable k (col k new p +ℤ col k new b)
    sum-storable =
        record {
          natural = λ j. rw (col-natural k new p j, col-natural k new b j) refl;
          small = λ j. omega (arith, about (col k new p +ℤ col k new b), sum-most, ok.narrow j);
        }

    -- what the addition asks: both rows are in the scratch, the sum fits, and the column can hold it
    pub gather-adds : InRow k new p × InRow k new b × SFits w64 (col k new p +ℤ col k new b) × Storable k (col k new p +ℤ col k new b)
    gather-adds = (row p parent_in, row b (omega arith), record { sfits = omega (arith, sum-most, ok.small, about (col k new p +ℤ col k new b)) }, sum-storable)

    -- the sum is stored at p
    pub gather-turn : {r : List ℤ} → Stored k p (col k new p +ℤ col k new b) new r → GatherState up n m k (col k t) (b + 1) t r
    gather-turn {r} q = rw add-one (record { kept = kept-write k m p t new r _ parent_in st.kept q; held = λ w i. go w i (ℕ_discrete w p) })
      where
        go : (w : ℕ) → w < m → Dec (w ≡ p) → col k r w ≡ up_to ℤ_adds up n m (col k t) (suc b) w
        go w i (yes d) = rw d (q.here ∙ sum_is)
        go w i (no d) = q.rows w d ∙ st.held w i ∙ sym (up_to-other ok.valid ℤ_adds (col k t) b w (λ h. d (sym (e ∙ h))))

  -- after the last turn each place is complete; only the cells' values of s count
  pub gather-end : {b : ℕ} {new : List ℤ} → GatherState up n m k (col k t) b t new → m - 1 ≤ b → b ≤ m → Loaded up n m k (col k s) s new
  gather-end {b} {new} st h l =
      record {
        kept = kept_on k m s t new blank.kept st.kept;
        sums =
            λ u i.
            st.held u i
            ∙ up_to-done ok.valid ℤ_adds (col k t) b u (omega arith) l i
            ∙ node_sum-ext up n m ℤ_adds (col k t) (col k s) u cells;
      }

-- the machine adds the numbers themselves, where they fit
pub sum-read : (x y : ℤ) {a b : ℤ} → SFits w64 x → SFits w64 y → x ≡ a → y ≡ b → to_z w64 (of_z w64 x) +ℤ to_z w64 (of_z w64 y) ≡ a +ℤ b
sum-read x y p q e f = ap₂ ◌+ℤ◌ (to_z-of_z w64 x p ∙ e) (to_z-of_z w64 y q ∙ f)

-- ---- loading: first the cells' values, then the sums

module _ {up : ℕ → ℕ} {n m k : ℕ} {f : ℕ → ℤ} {s t : List ℤ} (ok : Valid up n m) (filled : Laid k m (λ u. true) f n s t) where
  -- a list that is filled in can be added up
  pub load-gathering :
      width * m ≤ length s → k < 6 → sum_to ℕ_adds n (λ c. nat_abs (f c)) < 2 ^ 63 → Small k (sum_to ℕ_adds n (λ c. nat_abs (f c))) → Gathering up n m k t
  load-gathering size column small narrow =
      record {
        valid = ok;
        size = omega (arith, filled.kept.long);
        column = column;
        small = omega (arith, sizes-are);
        narrow = λ j. omega (arith, sizes-are, narrow j);
      }
    where
      sizes-are : sum_to ℕ_adds n (λ c. nat_abs (col k t c)) ≡ sum_to ℕ_adds n (λ c. nat_abs (f c))
      sizes-are = sum_to-ext ℕ_adds n (λ c. nat_abs (col k t c)) (λ c. nat_abs (f c)) (λ c l. ap nat_abs (filled.done c l refl))

  -- and then each node has its sum of the list's values
  pub load-end : {new : List ℤ} → Loaded up n m k (col k t) t new → Loaded up n m k f s new
  load-end {new} q =
      record {
        kept = kept_on k m s t new filled.kept q.kept;
        sums = λ u l. q.sums u l ∙ node_sum-ext up n m ℤ_adds (col k t) f u (λ c i. filled.done c i refl);
      }

-- ---- the targets, whose range is known of each that was read

-- before the first
pub targets-start : (m : ℕ) (xs s : List ℤ) → Targets m xs 0 s s
targets-start m xs s = record { laid = laid-start MASS m _ _ s; small = λ u l. absurd (omega arith) }

-- one more is stored
pub targets_next :
    {m b : ℕ} {xs old new t : List ℤ} {z : ℤ}
    → b < m → Targets m xs b old new → Stored MASS b z new t → z ≡ at_ℤ xs b → nat_abs z ≤ 2 ^ 31 → Targets m xs (b + 1) old t
targets_next {m} {b} {xs} {old} {new} {t} {z} l p q e h =
    record { laid = laid_next MASS m _ _ b old new t z l p.laid refl q e; small = λ u i. go u i (ℕ_discrete u b) }
  where
    go : (u : ℕ) → u < b + 1 → Dec (u ≡ b) → nat_abs (at_ℤ xs u) ≤ 2 ^ 31
    go u i (yes d) = rw (d, ← e) h
    go u i (no d) = p.small u (omega arith)

-- k numbers of at most 2 ^ 31 each
sum_bound : (k : ℕ) (f : ℕ → ℕ) → ((c : ℕ) → c < k → f c ≤ 2 ^ 31) → sum_to ℕ_adds k f ≤ k * 2 ^ 31
unfolding sum_to
sum_bound zero f h = omega arith
sum_bound (suc k) f h = omega (arith, sum_bound k f (λ c l. h c (omega arith)), h k (omega arith))

-- the sizes of 512 targets add up to less than 2 ^ 63
pub targets-small : {m b : ℕ} {xs old new : List ℤ} → Targets m xs b old new → b ≤ 512 → sum_to ℕ_adds b (λ c. nat_abs (at_ℤ xs c)) < 2 ^ 63
targets-small {b = b} {xs = xs} p h = omega (arith, sum_bound b (λ c. nat_abs (at_ℤ xs c)) p.small)

-- ---- clearing

-- k zeros before what lies past the first k numbers
pub cleared-by : (k : ℕ) (s zeros : List ℤ) → length zeros ≡ k → ((i : ℕ) → i < k → at_ℤ zeros i ≡ pos 0) → zeros ++ drop k s ≡ cleared k s
unfolding cleared written
cleared-by k s zeros e h =
    ap₂ (λ x j. x ++ drop j s)
    (ext_get_or (pos 0) zeros (list_to k (λ i. pos 0)) (e ∙ sym (length-list_to k _)) (λ i l. h i (omega arith) ∙ sym (get_d-list_to k (λ i. pos 0) i (pos 0) (omega arith))))
    (omega (arith, length-list_to k (λ (j : ℕ). pos 0)))

-- what lies past the first j numbers goes by the elements from j on
drop-ext : (j : ℕ) (a b : List ℤ) → length a ≡ length b → ((i : ℕ) → j ≤ i → at_ℤ a i ≡ at_ℤ b i) → drop j a ≡ drop j b
drop-ext j a b e h =
    ext_get_or (pos 0) (drop j a) (drop j b)
    (length-drop j a ∙ ap (λ x. x - j) e ∙ sym (length-drop j b))
    (λ i l. get_or-drop j a i (pos 0) ∙ h (j + i) (omega arith) ∙ sym (get_or-drop j b i (pos 0)))

-- what is cleared goes by the length and by what lies past the first k numbers
pub cleared-ext : (k : ℕ) (a b : List ℤ) → length a ≡ length b → ((i : ℕ) → k ≤ i → at_ℤ a i ≡ at_ℤ b i) → cleared k a ≡ cleared k b
unfolding cleared written
cleared-ext k a b e h =
    ap (λ x. list_to k (λ i. pos 0) ++ x)
    (drop-ext (0 + length (list_to k (λ i. pos 0))) a b e (λ i l. h i (omega (arith, length-list_to k (λ (j : ℕ). pos 0)))))

-- ---- how far a mass is from its target

-- the size of the difference
pub off-size : (a : ℕ) (t : ℤ) → a < 2 ^ 32 → mag t < 2 ^ 31 → nat_abs (pos a -ℤ t) < 2 ^ 33
off-size a t h g = omega (arith, minus-parts (pos a) t, about (pos a -ℤ t), about t)

-- one summand more, as a loop has it
pub sum-on : (k : ℕ) (f : ℕ → ℕ) {s x : ℕ} → s ≡ sum_to ℕ_adds k f → x ≡ f k → s + x ≡ sum_to ℕ_adds (k + 1) f
sum-on k f e g = rw add-one (ap₂ ◌+◌ e g ∙ sym (sum_to-next ℕ_adds k f))
