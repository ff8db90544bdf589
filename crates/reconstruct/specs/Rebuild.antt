-- The bounds in force of a call that fits, as lists. Assumes nothing.
use Rattle.std.specs.Prelude.{◌≡◌, List, ℕ}
use Rattle.qlt_spec.specs.Field.{Lists}
use Rattle.solve.specs.declared.whole_tree.InForce.{InForce}
use Rattle.qlt_spec.specs.declared.Outcome.{Outcome}
use Rattle.qlt_spec.specs.declared.Outcome.TheVariants.{Attainable, Below, Above}

-- the lists of the bounds in force
abbrev pub low_list : Outcome → Lists → List ℕ
low_list Attainable f = f.lows
low_list Below f = f.safe_lows
low_list Above f = f.highs

abbrev pub high_list : Outcome → Lists → List ℕ
high_list Attainable f = f.highs
high_list Below f = f.lows
high_list Above f = f.safe_highs

-- what is solved: a field by the bounds in force of the outcome o, for the total M
pub record ForcedBy (o : Outcome) (f : Lists) (M : ℕ) (r : InForce) : Type 0 where
  pub parents : r.parents.now ≡ f.parents
  pub targets : r.targets.now ≡ f.targets
  pub lows : r.lows.now ≡ low_list o f
  pub highs : r.highs.now ≡ high_list o f
  pub weights : r.weights.now ≡ f.weights
  pub mass : r.mass ≡ M
