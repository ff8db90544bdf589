-- Laws for the loop that fills the four lists: a cell's bounds from what was read, and the lists with the bounds of the cells passed. Assumes
-- nothing.
use mathlib.Core.Path.{◌≡◌, ◌∙◌, ap, ap₂}
use mathlib.Core.List.{List}
use Prim.Native.Nat.{ℕ, ◌+◌, ◌≤◌, ◌<◌}
use native.Mathlib.Omega.{arith}
use lib.ListN.{length, set}
use Rattle.numbers.specs.Lists.{at, list_to, written}
use Rattle.numbers.proofs.ListLaws.{written_none, length-written, next-entry, all-entries}
use Rattle.bounds_spec.specs.declared.AirMass.{AirMass}
use Rattle.bounds_spec.specs.declared.Ratio.{Ratio}
use Rattle.bounds_spec.specs.declared.FieldRatios.{FieldRatios}
use Rattle.bounds_spec.specs.declared.CellBounds.{CellBounds}
use Rattle.bounds_spec.specs.Ratios.{air_of, ratio_of, cell_bounds, least_of, most_of}
use Rattle.bounds_spec.specs.Bounds.{Mixing, cells, Bounds, bounds, bounds_call, field_ratios, bounds_at, converted, BoundsLengths}

module _ (x : Mixing) (old : Bounds) where
  -- the bounds of the first k cells stand in the lists
  pub record Filled (k : ℕ) (b : Bounds) : Type 0 where
    pub lows : b.lows ≡ written old.lows 0 (list_to k (λ c. (bounds_at x c).low.0))
    pub highs : b.highs ≡ written old.highs 0 (list_to k (λ c. (bounds_at x c).high.0))
    pub safe_lows : b.safe_lows ≡ written old.safe_lows 0 (list_to k (λ c. (bounds_at x c).safe_low.0))
    pub safe_highs : b.safe_highs ≡ written old.safe_highs 0 (list_to k (λ c. (bounds_at x c).safe_high.0))

  pub filled_none : Filled 0 old
  filled_none = record { lows = written_none _ 0 _; highs = written_none _ 0 _; safe_lows = written_none _ 0 _; safe_highs = written_none _ 0 _ }

module _ (x : Mixing) (old : Bounds) (lengths : BoundsLengths (bounds_call x old)) where
  -- the ratios of the field, found over the low ratios
  pub field_is : {f : FieldRatios} → f.smallest_low.0 ≡ least_of (at x.low_ratios) (length x.low_ratios) → f.largest_high.0 ≡ most_of (at x.high_ratios) (length x.low_ratios) → f ≡ field_ratios x
  field_is p q =
      ap₂ (λ u v. record { smallest_low = ratio_of u; largest_high = ratio_of v }) (p ∙ ap (least_of (at x.low_ratios)) lengths.low_ratios)
      (q ∙ ap (most_of (at x.high_ratios)) lengths.low_ratios)

  -- the bounds of a cell, from what was read
  pub cell-is :
      (c : ℕ) {a : AirMass} {l h : Ratio} {f : FieldRatios} {b : CellBounds} → b ≡ cell_bounds a l h f → a ≡ air_of (at x.air c) → l ≡ ratio_of (at x.low_ratios c)
      → h ≡ ratio_of (at x.high_ratios c) → f ≡ field_ratios x → b ≡ bounds_at x c
  cell-is c e p q r s = e ∙ rw (p, q, r, s)

  -- the lists keep their lengths
  long : (l : List ℕ) (f : ℕ → ℕ) (k : ℕ) {t : List ℕ} → length l ≡ cells x → k ≤ cells x → t ≡ written l 0 (list_to k f) → length t ≡ cells x
  long l f k e h p = ap length p ∙ length-written l 0 f k (omega arith) ∙ e

  pub filled-lengths : {k : ℕ} {b : Bounds} → k ≤ cells x → Filled x old k b → BoundsLengths (bounds_call x b)
  filled-lengths {k} h f =
      record {
        low_ratios = lengths.low_ratios;
        high_ratios = lengths.high_ratios;
        lows = long old.lows _ k lengths.lows h f.lows;
        highs = long old.highs _ k lengths.highs h f.highs;
        safe_lows = long old.safe_lows _ k lengths.safe_lows h f.safe_lows;
        safe_highs = long old.safe_highs _ k lengths.safe_highs h f.safe_highs;
      }

  -- one cell more
  pub filled_next :
      {k : ℕ} {b : Bounds} {cell : CellBounds} {lows highs safe_lows safe_highs : List ℕ} → k < cells x → Filled x old k b → cell ≡ bounds_at x k
      → lows ≡ set b.lows k cell.low.0 → highs ≡ set b.highs k cell.high.0
      → safe_lows ≡ set b.safe_lows k cell.safe_low.0 → safe_highs ≡ set b.safe_highs k cell.safe_high.0
      → Filled x old (k + 1) (bounds lows highs safe_lows safe_highs)
  filled_next {k} h f e p q r s =
      record {
        lows = p ∙ next-entry old.lows (λ c. (bounds_at x c).low.0) k (omega (arith, lengths.lows)) f.lows (ap (λ b. b.low.0) e);
        highs = q ∙ next-entry old.highs (λ c. (bounds_at x c).high.0) k (omega (arith, lengths.highs)) f.highs (ap (λ b. b.high.0) e);
        safe_lows =
            r ∙ next-entry old.safe_lows (λ c. (bounds_at x c).safe_low.0) k (omega (arith, lengths.safe_lows)) f.safe_lows (ap (λ b. b.safe_low.0) e);
        safe_highs =
            s ∙ next-entry old.safe_highs (λ c. (bounds_at x c).safe_high.0) k (omega (arith, lengths.safe_highs)) f.safe_highs (ap (λ b. b.safe_high.0) e);
      }

  -- all of them
  pub filled-all : {k : ℕ} {b : Bounds} → k ≡ cells x → Filled x old k b → b ≡ converted x
  filled-all {k} e f =
      together (all-entries old.lows _ k (cells x) e lengths.lows f.lows) (all-entries old.highs _ k (cells x) e lengths.highs f.highs)
      (all-entries old.safe_lows _ k (cells x) e lengths.safe_lows f.safe_lows) (all-entries old.safe_highs _ k (cells x) e lengths.safe_highs f.safe_highs)
    where
      together : {a b c d a' b' c' d' : List ℕ} → a ≡ a' → b ≡ b' → c ≡ c' → d ≡ d' → bounds a b c d ≡ bounds a' b' c' d'
      together p q r s = rw (p, q, r, s)
