-- The items of a call in the scratch: the columns filled one after the other load them, and the split of the last row's mass is then the
-- split of the items. Assumes nothing.
use mathlib.Core.Path.{◌≡◌, refl, sym, ◌∙◌, ap, subst}
use mathlib.Core.Bool.{true}
use mathlib.Core.List.{List}
use Prim.Native.Nat.{ℕ, zero, suc, ◌+◌, ◌*◌, ◌≤◌, ◌<◌}
use native.Mathlib.Omega.{arith}
use native.Mathlib.Numerals.{add-one}
use native.Mathlib.Decide.{ℕ_discrete}
use lib.IntN.{ℤ, pos}
use lib.ListN.{length}
use Rattle.numbers.specs.Lists.{at_ℤ, list_to}
use Rattle.numbers.proofs.ListLaws.{list_to-ext}
use Rattle.numbers.specs.Signed.{over, under}
use Rattle.numbers.specs.Checks.{max_total}
use Rattle.numbers.proofs.SignedLaws.{le_parts, from_zero, over-whole}
use Rattle.numbers.proofs.SumLaws.{sum_to-summand}
use Rattle.caas_spec.specs.Group.{Group, Splits}
use Rattle.caas_spec.specs.Split.{deficit, result}
use Rattle.caas_spec.specs.Operation.{SplitCall, items, SplitFits, item_group, split_masses, split_deficit}
use Rattle.caas_spec.proofs.ExtLaws.{all-ext, deficit-ext, result-ext, splits-ext}
use Rattle.caas_spec.proofs.OperationLaws.{items-splits, highs-small, weights-small}
use Rattle.scratch_spec.specs.Chain.{cursor, on_chain}
use Rattle.scratch_spec.specs.Columns.{width, MASS, LOW, HIGH, WEIGHT, FIRST, NEXT, Storable, col, num, Stored, Laid}
use Rattle.scratch_spec.specs.Walks.{on_chain_of, group_in, Splitting, SplitDone}
use Rattle.split.specs.Items.{AllStorable, ItemsLoaded}
use Rattle.scratch_spec.proofs.ChainLaws.{cursor-start, cursor-next, chain-some}

-- a chain from 0 that leads from each number to the next has them all
all-cursor : (next : ℕ → ℕ) (n : ℕ) → ((u : ℕ) → u < n → next u ≡ u + 1) → (u : ℕ) → u ≤ n → cursor next 0 u ≡ u
all-cursor next n h zero l = cursor-start next 0
all-cursor next n h (suc u) l = cursor-next next 0 u (all-cursor next n h u (omega arith)) ∙ h u (omega arith) ∙ add-one u

-- a column filled in all of the first n rows
abbrev pub Filled : (k n : ℕ) (x : ℕ → ℤ) (old new : List ℤ) → Type 0
Filled k n x old new = Laid k n (λ u. true) x n old new

-- the same store, by an equal number
pub stored-as : {k u a b : ℕ} {old new : List ℤ} → a ≡ b → Stored k u (pos a) old new → Stored k u (pos b) old new
stored-as {k} {u} {a} {b} {old} {new} e h = subst (λ x. Stored k u (pos x) old new) e h

-- ---- loading

module _ (t l h w : List ℤ) (M : ℤ) (s₀ s₁ s₂ s₃ s₄ s₅ s₆ s : List ℤ)
    (size : width * length t + width ≤ length s₀)
    (targets : Filled MASS (length t) (at_ℤ t) s₀ s₁)
    (lows : Filled LOW (length t) (at_ℤ l) s₁ s₂)
    (highs : Filled HIGH (length t) (at_ℤ h) s₂ s₃)
    (weights : Filled WEIGHT (length t) (at_ℤ w) s₃ s₄)
    (nexts : Filled NEXT (length t) (λ u. pos (u + 1)) s₄ s₅)
    (head : Stored FIRST (length t) (pos 0) s₅ s₆)
    (total : Stored MASS (length t) (pos (over M)) s₆ s) where
  abbrev n : ℕ
  n = length t

  long : length s ≡ length s₀
  long = total.long ∙ head.long ∙ nexts.kept.long ∙ weights.kept.long ∙ highs.kept.long ∙ lows.kept.long ∙ targets.kept.long

  -- the last two stores leave the items' other columns
  past : (j u : ℕ) → j < 6 → 0 < j → u < n → col j s u ≡ col j s₅ u
  past j u b p q = total.cols j u b (omega arith) ∙ go (ℕ_discrete j FIRST)
    where
      go : Dec (j ≡ FIRST) → col j s₆ u ≡ col j s₅ u
      go (yes e) = rw e (head.rows u (omega arith))
      go (no e) = head.cols j u b e

  pub loaded : ItemsLoaded t l h w M s
  loaded =
      record {
        size = omega (arith, long);
        targets =
            λ u i.
            total.rows u (omega arith) ∙ head.cols MASS u (omega arith) (omega arith)
            ∙ nexts.kept.cols MASS u (omega arith) (omega arith) ∙ weights.kept.cols MASS u (omega arith) (omega arith)
            ∙ highs.kept.cols MASS u (omega arith) (omega arith) ∙ lows.kept.cols MASS u (omega arith) (omega arith) ∙ targets.done u i refl;
        lows =
            λ u i.
            past LOW u (omega arith) (omega arith) i ∙ nexts.kept.cols LOW u (omega arith) (omega arith)
            ∙ weights.kept.cols LOW u (omega arith) (omega arith) ∙ highs.kept.cols LOW u (omega arith) (omega arith) ∙ lows.done u i refl;
        highs =
            λ u i.
            past HIGH u (omega arith) (omega arith) i ∙ nexts.kept.cols HIGH u (omega arith) (omega arith)
            ∙ weights.kept.cols HIGH u (omega arith) (omega arith) ∙ highs.done u i refl;
        weights =
            λ u i.
            past WEIGHT u (omega arith) (omega arith) i ∙ nexts.kept.cols WEIGHT u (omega arith) (omega arith) ∙ weights.done u i refl;
        nexts = λ u i. ap over (past NEXT u (omega arith) (omega arith) i ∙ nexts.done u i refl);
        head = ap over (total.cols FIRST n (omega arith) (omega arith) ∙ head.here);
        total = ap over total.here;
      }

-- ---- what a call that fits leaves in its columns

module _ (c : SplitCall) (fits : SplitFits c) where
  storable-part : (z : ℤ) → under z ≡ 0 → over z ≤ max_total → Storable LOW z
  storable-part z e l = record { natural = λ n. over-whole z e; small = λ n. omega arith }

  high_small : (u : ℕ) → u < items c → over (at_ℤ c.highs u) ≤ max_total
  high_small u l = omega (arith, sum_to-summand (items c) (λ w. over (at_ℤ c.highs w)) u l, highs-small c fits)

  pub highs-storable : AllStorable c.highs
  highs-storable =
      record {
        each =
            λ u l.
            let i : u < items c = omega (arith, fits.lengths.highs) in
            storable-part (at_ℤ c.highs u) (omega (arith, le_parts (fits.nonneg u i), le_parts (fits.order u i))) (high_small u i);
      }

  pub lows-storable : AllStorable c.lows
  lows-storable =
      record {
        each =
            λ u l.
            let i : u < items c = omega (arith, fits.lengths.lows) in
            storable-part (at_ℤ c.lows u) (from_zero (fits.nonneg u i)) (omega (arith, le_parts (fits.order u i), from_zero (fits.nonneg u i), high_small u i));
      }

  pub weights-storable : AllStorable c.weights
  weights-storable =
      record {
        each =
            λ u l.
            let i : u < items c = omega (arith, fits.lengths.weights) in
            storable-part (at_ℤ c.weights u) (from_zero (fits.weights u i))
            (omega (arith, sum_to-summand (items c) (λ w. over (at_ℤ c.weights w)) u i, weights-small c fits));
      }

-- ---- splitting

module _ (c : SplitCall) (fits : SplitFits c) (s : List ℤ) (load : ItemsLoaded c.targets c.lows c.highs c.weights c.total s) where
  abbrev pub G : Group
  G = item_group c

  abbrev k : ℕ
  k = items c

  -- every item is on the chain
  has_all : (u : ℕ) → u < k → on_chain_of k s u ≡ true
  has_all u l = ap (λ x. on_chain (num NEXT s) x u) load.head ∙ chain-some (num NEXT s) 0 u (all-cursor (num NEXT s) k load.nexts u (omega arith))

  pub items-splitting : Splitting k k s
  items-splitting =
      record {
        rising =
            record {
              size = omega (arith, load.size);
              node = load.size;
              head = omega (arith, load.head);
              rise = λ u l e. omega (arith, load.nexts u l);
              most = λ u l e. omega (arith, load.nexts u l);
            };
        can =
            subst (Splits (group_in k k s)) (sym load.total)
            (splits-ext G (group_in k k s) refl (λ u l. sym (has_all u l)) (λ u l e. sym (load.targets u l)) (λ u l e. sym (ap over (load.lows u l))) (λ u l e. sym (ap over (load.highs u l))) (λ u l e. sym (ap over (load.weights u l))) (over c.total) (items-splits c fits));
        small = omega (arith, highs-small c fits, all-ext (group_in k k s) G refl has_all (num HIGH s) G.high (λ u l e. ap over (load.highs u l)));
        light = omega (arith, weights-small c fits, all-ext (group_in k k s) G refl has_all (num WEIGHT s) G.weight (λ u l e. ap over (load.weights u l)));
      }

  -- the masses that the walks leave are the items' results
  pub items-split : (new : List ℤ) → SplitDone k k s new → (u : ℕ) → u < k → pos (num MASS new u) ≡ pos (result G (over c.total) u)
  items-split new done u l =
      ap (λ z. pos (over z)) (done.done u l (has_all u l))
      ∙ ap pos
      (result-ext (group_in k k s) G refl has_all (λ w i e. load.targets w i) (λ w i e. ap over (load.lows w i)) (λ w i e. ap over (load.highs w i)) (λ w i e. ap over (load.weights w i)) (num MASS s k) u l (has_all u l)
      ∙ ap (λ x. result G x u) load.total)

  -- and d is the items'
  pub deficit-done : {d : ℤ} → d ≡ deficit (group_in k k s) (num MASS s k) → d ≡ split_deficit c
  unfolding split_deficit
  deficit-done e =
      e
      ∙ deficit-ext (group_in k k s) G refl has_all (λ w i e. load.targets w i) (λ w i e. ap over (load.lows w i)) (λ w i e. ap over (load.highs w i)) (λ w i e. ap over (load.weights w i)) (num MASS s k)
      ∙ ap (deficit G) load.total

  pub masses-done : (new : List ℤ) → SplitDone k k s new → (n : ℕ) → n ≡ k → list_to n (λ u. pos (num MASS new u)) ≡ split_masses c
  unfolding split_masses
  masses-done new done n e = ap (λ i. list_to i (λ u. pos (num MASS new u))) e ∙ list_to-ext k _ _ (items-split new done)
