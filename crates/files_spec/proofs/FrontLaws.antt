-- Lists of a field at the front of longer lists. Assumes nothing.
use mathlib.Core.Path.{◌≡◌}
use mathlib.Core.List.{List}
use Prim.Native.Nat.{ℕ, ◌^◌, ◌≤◌, ◌<◌}
use native.Mathlib.Decide.{dec_lt}
use native.Mathlib.Omega.{arith}
use lib.IntN.{ℤ, pos, negsuc}
use lib.Signed.{mag, ◌≤ℤ◌}
use lib.ListN.{length, take, length-take, get_or-eq_default}
use lib.Seq.{length-take-le, get_or-take, take_all}
use Rattle.numbers.specs.Lists.{at, at_ℤ, written}
use Rattle.numbers.proofs.ListLaws.{length-list_to}
use Rattle.numbers.proofs.PartLaws.{front-written, length-kept}
use Rattle.numbers.proofs.SignedLaws.{parts-le, about}
use Rattle.blocks.specs.Words.{Words}
use Rattle.qlt_spec.specs.Field.{Lists}
use Rattle.files_spec.specs.FieldFile.{fronts, over_fronts, FieldTyped}
use Rattle.files_spec.specs.ReadField.{file_cells, file_nodes, Room, file_lists}

-- lists of n cells and m nodes, no longer
pub record Sized (n m : ℕ) (f : Lists) : Type 0 where
  pub targets : length f.targets ≡ n
  pub lows : length f.lows ≡ n
  pub highs : length f.highs ≡ n
  pub safe_lows : length f.safe_lows ≡ n
  pub safe_highs : length f.safe_highs ≡ n
  pub weights : length f.weights ≡ n
  pub parents : length f.parents ≡ m

-- the field that a file holds
pub held-sized : (file : List ℕ) → Sized (file_cells file) (file_nodes file) (file_lists file)
unfolding file_lists
held-sized file =
    record {
      targets = length-list_to _ _;
      lows = length-list_to _ _;
      highs = length-list_to _ _;
      safe_lows = length-list_to _ _;
      safe_highs = length-list_to _ _;
      weights = length-list_to _ _;
      parents = length-list_to _ _;
    }

-- a list that has room keeps its length
kept {ℓ} : {X : Type ℓ} (k : ℕ) (l vs : List X) → k ≤ length l → length vs ≡ k → k ≤ length (written l 0 vs)
kept k l vs h e = omega (arith, length-kept l 0 vs (omega arith))

module _ (n m : ℕ) (s : Lists) (r : Room n m s) where
  -- the fronts of longer lists
  pub fronts-sized : Sized n m (fronts n m s)
  fronts-sized =
      record {
        targets = length-take-le n s.targets r.targets;
        lows = length-take-le n s.lows r.lows;
        highs = length-take-le n s.highs r.highs;
        safe_lows = length-take-le n s.safe_lows r.safe_lows;
        safe_highs = length-take-le n s.safe_highs r.safe_highs;
        weights = length-take-le n s.weights r.weights;
        parents = length-take-le m s.parents r.parents;
      }

  -- lists with room still have it when a field stands at their front
  pub over-room : (f : Lists) → Sized n m f → Room n m (over_fronts s f)
  over-room f z =
      record {
        targets = kept n s.targets f.targets r.targets z.targets;
        lows = kept n s.lows f.lows r.lows z.lows;
        highs = kept n s.highs f.highs r.highs z.highs;
        safe_lows = kept n s.safe_lows f.safe_lows r.safe_lows z.safe_lows;
        safe_highs = kept n s.safe_highs f.safe_highs r.safe_highs z.safe_highs;
        weights = kept n s.weights f.weights r.weights z.weights;
        parents = kept m s.parents f.parents r.parents z.parents;
      }

-- lists have room for themselves
pub own_room : (n m : ℕ) (f : Lists) → Sized n m f → Room n m f
own_room n m f z =
    record {
      targets = omega (arith, z.targets);
      lows = omega (arith, z.lows);
      highs = omega (arith, z.highs);
      safe_lows = omega (arith, z.safe_lows);
      safe_highs = omega (arith, z.safe_highs);
      weights = omega (arith, z.weights);
      parents = omega (arith, z.parents);
    }

-- the field at the front of lists is that field
pub fronts-over : (n m : ℕ) (s f : Lists) → Sized n m f → fronts n m (over_fronts s f) ≡ f
fronts-over n m s f z =
    rw (
      front-written s.targets f.targets n z.targets,
      front-written s.lows f.lows n z.lows,
      front-written s.highs f.highs n z.highs,
      front-written s.safe_lows f.safe_lows n z.safe_lows,
      front-written s.safe_highs f.safe_highs n z.safe_highs,
      front-written s.weights f.weights n z.weights,
      front-written s.parents f.parents m z.parents,
    )

-- and the front of a field is all of it
pub fronts-own : (n m : ℕ) (f : Lists) → Sized n m f → fronts n m f ≡ f
fronts-own n m f z =
    rw (
      take_all n f.targets (omega (arith, z.targets)),
      take_all n f.lows (omega (arith, z.lows)),
      take_all n f.highs (omega (arith, z.highs)),
      take_all n f.safe_lows (omega (arith, z.safe_lows)),
      take_all n f.safe_highs (omega (arith, z.safe_highs)),
      take_all n f.weights (omega (arith, z.weights)),
      take_all m f.parents (omega (arith, z.parents)),
    )

-- ---- values at the front fit their types

words_take : (n : ℕ) (l : List ℕ) → ((i : ℕ) → i < n → at l i < 2 ^ 32) → Words (take n l)
words_take n l h i = go (dec_lt i n)
  where
    go : Dec (i < n) → at (take n l) i < 2 ^ 32
    go (yes m) = rw (get_or-take n l i 0 m) (h i m)
    go (no m) = rw (get_or-eq_default (take n l) 0 {n = i} (omega (arith, length-take n l))) (omega arith)

-- signed numbers of 32 bits
signed_range : (z : ℤ) → mag z < 2 ^ 31 → (negsuc 2147483647 ≤ℤ z) × (z ≤ℤ pos 2147483647)
signed_range z h = (parts-le {a = negsuc 2147483647} {b = z} (omega (arith, about z)), parts-le {a = z} {b = pos 2147483647} (omega (arith, about z)))

-- only these need fit
pub fronts-typed :
    (n m : ℕ) (s : Lists) (M : ℕ)
    → ((i : ℕ) → i < n → mag (at_ℤ s.targets i) < 2 ^ 31)
    → ((i : ℕ) → i < n → at s.lows i < 2 ^ 32)
    → ((i : ℕ) → i < n → at s.highs i < 2 ^ 32)
    → ((i : ℕ) → i < n → at s.safe_lows i < 2 ^ 32)
    → ((i : ℕ) → i < n → at s.safe_highs i < 2 ^ 32)
    → ((i : ℕ) → i < n → at s.weights i < 2 ^ 32)
    → ((i : ℕ) → i < m → at s.parents i < 2 ^ 32)
    → M < 2 ^ 32
    → FieldTyped (fronts n m s) M
fronts-typed n m s M targets lows highs safe_lows safe_highs weights parents total =
    record {
      least = λ i. (target i).0;
      most = λ i. (target i).1;
      low_words = words_take n s.lows lows;
      high_words = words_take n s.highs highs;
      safe_low_words = words_take n s.safe_lows safe_lows;
      safe_high_words = words_take n s.safe_highs safe_highs;
      weight_words = words_take n s.weights weights;
      parent_words = words_take m s.parents parents;
      total_word = total;
    }
  where
    target : (i : ℕ) → (negsuc 2147483647 ≤ℤ at_ℤ (take n s.targets) i) × (at_ℤ (take n s.targets) i ≤ℤ pos 2147483647)
    target i = signed_range (at_ℤ (take n s.targets) i) (go (dec_lt i n))
      where
        go : Dec (i < n) → mag (at_ℤ (take n s.targets) i) < 2 ^ 31
        go (yes l) = rw (get_or-take n s.targets i (pos 0) l) (targets i l)
        go (no l) = rw (get_or-eq_default (take n s.targets) (pos 0) {n = i} (omega (arith, length-take n s.targets))) (omega arith)
