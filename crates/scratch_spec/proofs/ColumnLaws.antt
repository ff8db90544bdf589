-- Laws of the scratch by columns: what a store leaves, and how a column is filled store by store. Assumes nothing.
use mathlib.Core.Path.{◌≡◌, refl, sym, ◌∙◌, ap, subst}
use mathlib.Core.Logic.{◌≢◌}
use mathlib.Core.Bool.{Bool, true, false}
use mathlib.Core.List.{List}
use Prim.Native.Nat.{ℕ, zero, suc, ◌+◌, ◌*◌, ◌/◌, ◌%◌, ◌^◌, ◌≤◌, ◌<◌}
use native.Mathlib.Nat.{add-zero}
use native.Mathlib.Omega.{arith}
use native.Mathlib.Numerals.{add-one}
use native.Mathlib.Decide.{ℕ_discrete, dec_lt}
use lib.IntN.{ℤ, pos}
use lib.Signed.{mag}
use lib.ListN.{length, set, length-set}
use lib.Seq.{get_or-set_same, get_or-set_other}
use mir.Syntax.{w64}
use mir.Val.{Fits, to_z, of_z}
use mir.ValLaws.{of_z-to_z, of_z_fits}
use Rattle.numbers.specs.Lists.{at_ℤ}
use Rattle.numbers.proofs.TestLaws.{clash}
use Rattle.scratch_spec.specs.declared.Column.{Column}
use Rattle.scratch_spec.specs.declared.Column.TheVariants.{Mass, Low, High, Weight, First, Next}
use Rattle.scratch_spec.specs.Columns.{number_of, width, MASS, LOW, offset, half, part, with_half, with_part, Small, Storable, col, num, InRow, Stored, OnlyColumn, Laid}

-- ---- the columns of the code

pub number-below : (k : Column) → number_of k < 6
number-below Mass = omega arith
number-below Low = omega arith
number-below High = omega arith
number-below Weight = omega arith
number-below First = omega arith
number-below Next = omega arith

-- only Mass has the number of MASS
pub number-other : (k : Column) → (k ≡ Mass → ⊥) → number_of k ≢ MASS
number-other Mass n = absurd (n refl)
number-other Low n = λ e. omega arith
number-other High n = λ e. omega arith
number-other Weight n = λ e. omega arith
number-other First n = λ e. omega arith
number-other Next n = λ e. omega arith

-- ---- one store

-- an offset within a row is known by its index
within : (u a : ℕ) → a < width → (width * u + a) % width ≡ a
within u a l = omega arith

-- a number of a row that holds z for column k, and of the other columns what it held, is stored
module _ (k u : ℕ) (z y : ℤ) (s : List ℤ) (h : InRow k s u) (here : part k y ≡ z)
    (others : (j : ℕ) → j < 6 → j ≢ k → offset j ≡ offset k → part j y ≡ part j (at_ℤ s (width * u + offset k))) where
  abbrev new : List ℤ
  new = set s (width * u + offset k) y

  other : (i : ℕ) → width * u + offset k ≢ i → at_ℤ new i ≡ at_ℤ s i
  other i n = get_or-set_other s (width * u + offset k) i y (pos 0) (λ e. n (sym e))

  same : at_ℤ new (width * u + offset k) ≡ y
  same = get_or-set_same s (width * u + offset k) y (pos 0) (omega (arith, h.column, h.row))

  stored-by : Stored k u z s new
  unfolding col
  stored-by =
      record {
        long = length-set s (width * u + offset k) y;
        here = ap (part k) same ∙ here;
        rows = λ w n. ap (part k) (other (width * w + offset k) (λ e. n (omega (arith, h.column))));
        cols = λ j w l n. col-at j w l n (ℕ_discrete (width * u + offset k) (width * w + offset j));
        far = λ i l. other i (omega (arith, h.column));
      }
    where
      col-at : (j w : ℕ) → j < 6 → j ≢ k → Dec (width * u + offset k ≡ width * w + offset j) → part j (at_ℤ new (width * w + offset j)) ≡ part j (at_ℤ s (width * w + offset j))
      col-at j w l n (no d) = ap (part j) (other (width * w + offset j) d)
      col-at j w l n (yes d) =
          ap (λ i. part j (at_ℤ new i)) (sym d)
          ∙ ap (part j) same
          ∙ others j l n (sym (within w (offset j) (omega arith)) ∙ ap (λ i. i % width) (sym d) ∙ within u (offset k) (omega (arith, h.column)))
          ∙ ap (λ i. part j (at_ℤ s i)) d

-- MASS has its number alone
pub stored-mass : (u : ℕ) (z : ℤ) (s : List ℤ) → InRow MASS s u → Stored MASS u z s (set s (width * u) z)
stored-mass u z s h = subst (λ i. Stored MASS u z s (set s i z)) (add-zero (width * u)) (stored-by MASS u z z s h refl (λ j i n e. absurd (n (omega arith))))

-- the two halves of 64 bits: what is stored in one reads back, and leaves the other
half-same : (p w v : ℕ) → v < 2 ^ 31 → half p (with_half p w v) ≡ v
half-same zero w v l = omega arith
half-same (suc p) w v l = omega arith

half-other : (p q w v : ℕ) → p < 2 → q < 2 → p ≢ q → v < 2 ^ 31 → half p (with_half q w v) ≡ half p w
half-other zero zero w v a b n l = absurd (n refl)
half-other zero (suc q) w v a b n l = omega arith
half-other (suc p) zero w v a b n l = omega arith
half-other (suc p) (suc q) w v a b n l = absurd (n (omega arith))

with-fits : (p w v : ℕ) → w < 2 ^ 64 → v < 2 ^ 31 → Fits w64 (with_half p w v)
with-fits zero w v h l = record { fits = omega arith }
with-fits (suc p) w v h l = record { fits = omega arith }

-- any column, by a natural number
pub stored :
    (k u v : ℕ) (s : List ℤ) → InRow k s u → Small k v → mag (at_ℤ s (width * u + offset k)) < 2 ^ 63
    → Stored k u (pos v) s (set s (width * u + offset k) (with_part k (at_ℤ s (width * u + offset k)) v))
stored zero u v s h l f = stored-by zero u (pos v) (pos v) s h refl (λ j i n e. absurd (n (omega arith)))
stored (suc j) u v s h l f =
    stored-by (suc j) u (pos v) _ s h
    (ap pos (ap (half (suc j / 4)) back ∙ half-same (suc j / 4) bits v (l (omega arith))))
    others
  where
    -- the bits that stand there, and those that are stored
    bits : ℕ
    bits = of_z w64 (at_ℤ s (width * u + offset (suc j)))

    back : of_z w64 (to_z w64 (with_half (suc j / 4) bits v)) ≡ with_half (suc j / 4) bits v
    back = of_z-to_z w64 (with_half (suc j / 4) bits v) (with-fits (suc j / 4) bits v (of_z_fits w64 (at_ℤ s (width * u + offset (suc j))) (record { sfits = f })).fits (l (omega arith)))

    others : (i : ℕ) → i < 6 → i ≢ suc j → offset i ≡ offset (suc j) → part i (to_z w64 (with_half (suc j / 4) bits v)) ≡ part i (at_ℤ s (width * u + offset (suc j)))
    others zero b n e = absurd (omega (arith, h.column))
    others (suc i) b n e =
        ap pos
        (ap (half (suc i / 4)) back ∙ half-other (suc i / 4) (suc j / 4) bits v (omega arith) (omega (arith, h.column)) (λ d. n (omega (arith, h.column))) (l (omega arith)))

-- ---- what a column holds

-- MASS can hold any number
pub storable-mass : (z : ℤ) → Storable MASS z
storable-mass z = record { natural = λ n. absurd (n refl); small = λ n. absurd (n refl) }

-- and what another column can hold, any can
pub storable-any : (k : ℕ) {z : ℤ} → Storable LOW z → Storable k z
storable-any k h = record { natural = λ n. h.natural (omega arith); small = λ n. h.small (omega arith) }

-- all but MASS is natural
pub col-natural : (k : ℕ) (s : List ℤ) (u : ℕ) → k ≢ MASS → col k s u ≡ pos (num k s u)
unfolding col
col-natural zero s u n = absurd (n refl)
col-natural (suc j) s u n = refl

pub col-mass : (s : List ℤ) (u : ℕ) → col MASS s u ≡ at_ℤ s (width * u)
unfolding col
col-mass s u = ap (at_ℤ s) (add-zero (width * u))

-- ---- rows

-- the first m rows are in the scratch
pub in_row : (k m u : ℕ) (s : List ℤ) → k < 6 → u < m → width * m ≤ length s → InRow k s u
in_row k m u s h l n = record { column = h; row = omega arith }

-- ---- stores into column k of the first m rows

pub kept-start : (k m : ℕ) (s : List ℤ) → OnlyColumn k m s s
kept-start k m s = record { long = refl; far = λ i h. refl; cols = λ j u a b. refl }

pub kept_on : (k m : ℕ) (a b c : List ℤ) → OnlyColumn k m a b → OnlyColumn k m b c → OnlyColumn k m a c
kept_on k m a b c p q =
    record {
      long = q.long ∙ p.long;
      far = λ i h. q.far i h ∙ p.far i h;
      cols = λ j u h n. q.cols j u h n ∙ p.cols j u h n;
    }

pub kept-write : (k m b : ℕ) (old new t : List ℤ) (z : ℤ) → b < m → OnlyColumn k m old new → Stored k b z new t → OnlyColumn k m old t
kept-write k m b old new t z l p s =
    record {
      long = s.long ∙ p.long;
      far = λ i h. s.far i (omega arith) ∙ p.far i h;
      cols = λ j u h n. s.cols j u h n ∙ p.cols j u h n;
    }

-- ---- a column that is filled from row 0 on

pub laid-start : (k m : ℕ) (has : ℕ → Bool) (x : ℕ → ℤ) (s : List ℤ) → Laid k m has x 0 s s
laid-start k m has x s =
    record { kept = kept-start k m s; done = λ u h e. absurd (omega arith); same = λ u h e. refl; rest = λ u h. refl }

-- a member's value is stored
pub laid-write :
    (k m : ℕ) (has : ℕ → Bool) (x : ℕ → ℤ) (b : ℕ) (old new t : List ℤ) (z : ℤ)
    → b < m → Laid k m has x b old new → has b ≡ true → Stored k b z new t → z ≡ x b → Laid k m has x (suc b) old t
laid-write k m has x b old new t z l p e s f =
    record {
      kept = kept-write k m b old new t z l p.kept s;
      done = λ u i d. done_at u i d (ℕ_discrete u b);
      same = λ u i d. same_at u i d (ℕ_discrete u b);
      rest = λ u i. s.rows u (omega arith) ∙ p.rest u (omega arith);
    }
  where
    done_at : (u : ℕ) → u < suc b → has u ≡ true → Dec (u ≡ b) → col k t u ≡ x u
    done_at u i d (yes q) = rw q (s.here ∙ f)
    done_at u i d (no q) = s.rows u q ∙ p.done u (omega arith) d

    same_at : (u : ℕ) → u < suc b → has u ≡ false → Dec (u ≡ b) → col k t u ≡ col k old u
    same_at u i d (yes q) = absurd (clash e (rw q at d))
    same_at u i d (no q) = s.rows u q ∙ p.same u (omega arith) d

-- the same at `b + 1`, as a loop over all rows has it
pub laid_next :
    (k m : ℕ) (has : ℕ → Bool) (x : ℕ → ℤ) (b : ℕ) (old new t : List ℤ) (z : ℤ)
    → b < m → Laid k m has x b old new → has b ≡ true → Stored k b z new t → z ≡ x b → Laid k m has x (b + 1) old t
laid_next k m has x b old new t z l p e s f = rw add-one (laid-write k m has x b old new t z l p e s f)

-- on to the next member: rows that are no members are passed
pub laid-to :
    (k m : ℕ) (has : ℕ → Bool) (x : ℕ → ℤ) (b w : ℕ) (old new : List ℤ)
    → b ≤ w → ((i : ℕ) → b ≤ i → i < w → has i ≡ false) → Laid k m has x b old new → Laid k m has x w old new
laid-to k m has x b w old new l none p =
    record {
      kept = p.kept;
      done = λ u i e. done_at u i e (dec_lt u b);
      same = λ u i e. same_at u i e (dec_lt u b);
      rest = λ u i. p.rest u (omega arith);
    }
  where
    done_at : (u : ℕ) → u < w → has u ≡ true → Dec (u < b) → col k new u ≡ x u
    done_at u i e (yes q) = p.done u q e
    done_at u i e (no q) = absurd (clash e (none u (omega arith) i))

    same_at : (u : ℕ) → u < w → has u ≡ false → Dec (u < b) → col k new u ≡ col k old u
    same_at u i e (yes q) = p.same u q e
    same_at u i e (no q) = p.rest u (omega arith)

-- the row that comes next is as it was, in every column
pub laid-read : (k m : ℕ) (has : ℕ → Bool) (x : ℕ → ℤ) (u : ℕ) (old new : List ℤ) → Laid k m has x u old new → (j : ℕ) → j < 6 → col j new u ≡ col j old u
laid-read k m has x u old new p j l = go (ℕ_discrete j k)
  where
    go : Dec (j ≡ k) → col j new u ≡ col j old u
    go (yes e) = rw e (p.rest u (omega arith))
    go (no e) = p.kept.cols j u l e
