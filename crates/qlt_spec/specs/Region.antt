-- Edits stay in their region (ticket 13 of 02): two fields on one tree that differ only in cells below a node v, and what is then the same in
-- both. Assumes nothing.
use Rattle.std.specs.Prelude.{Ok, ◌≡◌, ◌↔◌, false, List, ℕ, ◌≤◌, ◌<◌}
use Rattle.numbers.specs.Sums.{Adds, ℕ_adds, ℤ_adds}
use Rattle.numbers.specs.Lists.{at}
use Rattle.numbers.specs.Checks.{Answered, refused}
use Rattle.qlt_spec.specs.declared.Repair.{Repair}
use Rattle.qlt_spec.specs.Tree.{leads, node_sum}
use Rattle.qlt_spec.specs.Field as fields
use Rattle.qlt_spec.specs.Field.{Field, Lists, sum_cells}
use Rattle.qlt_spec.specs.Masses.{tree_mass}
use Rattle.qlt_spec.specs.Operation.{ShapeFits, ValuesFit}

-- the sum over the cells below a node, those from which parents lead up to it
abbrev pub sum_below : (A : Adds) (F : Field) → (ℕ → A.Num) → ℕ → A.Num
sum_below A F f v = node_sum A F.up F.n F.m f v

-- the node u, a cell or an inner one, lies outside v: parents do not lead from it up to v
abbrev pub Outside : Field → ℕ → ℕ → Type 0
Outside F v u = leads F.up F.m u v ≡ false

-- ---- what is given

-- 'the same tree'
pub record SameTree (F G : Field) : Type 0 where
  pub cells : F.n ≡ G.n
  pub nodes : F.m ≡ G.m
  pub parents : F.up ≡ G.up

-- a cell's six values are the same
pub record SameCell (F G : Field) (c : ℕ) : Type 0 where
  pub target : F.target c ≡ G.target c
  pub low : F.low c ≡ G.low c
  pub high : F.high c ≡ G.high c
  pub safe_low : F.safe_low c ≡ G.safe_low c
  pub safe_high : F.safe_high c ≡ G.safe_high c
  pub weight : F.weight c ≡ G.weight c

-- 'the six sums of cell values below that node agree'
pub record SameSums (F G : Field) (v : ℕ) : Type 0 where
  pub target : sum_below ℤ_adds F F.target v ≡ sum_below ℤ_adds G G.target v
  pub low : sum_below ℕ_adds F F.low v ≡ sum_below ℕ_adds G G.low v
  pub high : sum_below ℕ_adds F F.high v ≡ sum_below ℕ_adds G G.high v
  pub safe_low : sum_below ℕ_adds F F.safe_low v ≡ sum_below ℕ_adds G G.safe_low v
  pub safe_high : sum_below ℕ_adds F F.safe_high v ≡ sum_below ℕ_adds G G.safe_high v
  pub weight : sum_below ℕ_adds F F.weight v ≡ sum_below ℕ_adds G G.weight v

-- two fields with the same tree that 'differ only in cells below one node', v, which may be a cell or the root; and the sums below it agree
pub record EditedField (F G : Field) (v : ℕ) : Type 0 where
  pub node : v < F.m
  pub tree : SameTree F G
  pub outside : (c : ℕ) → c < F.n → Outside F v c → SameCell F G c
  pub sums : SameSums F G v

-- 'past checks 1 to 7', where k and s are the lengths of the list of masses and of the scratch
pub record PastSeven (f : Lists) (k s : ℕ) : Type 0 where
  pub shape : ShapeFits f k s
  pub values : ValuesFit f

-- ---- what follows, of the definitions

-- M lies between the sums of the safety bounds: 8 is not refused
abbrev pub InReach : Field → ℕ → Type 0
InReach F M = (sum_cells F F.safe_low ≤ M) × (M ≤ sum_cells F F.safe_high)

-- 'every mass outside it', of cells and of inner nodes, and v's own
pub record SameMasses (F : Field) (v : ℕ) (x y : ℕ → ℕ) : Type 0 where
  pub outside : (u : ℕ) → u < F.m → Outside F v u → x u ≡ y u
  pub here : x v ≡ y v

-- 'every mass outside it, the outcome and refusal 8 are equal in both'
pub record AgreeOutside (F G : Field) (M v : ℕ) : Type 0 where
  pub masses : SameMasses F v (tree_mass F M) (tree_mass G M)
  pub outcome : fields.outcome F M ≡ fields.outcome G M
  pub reach : InReach F M ↔ InReach G M

-- ---- what follows, of two calls

-- two repairs with the lists of masses that they wrote: the same outcome and total, the same masses of the cells outside v, and of the nodes
-- outside v and v itself, a node's mass being the sum over its cells. The change and what is shared out count what is below v too.
pub record SameRepair (F : Field) (v : ℕ) (r q : Repair) (xs ys : List ℕ) : Type 0 where
  pub outcome : r.outcome ≡ q.outcome
  pub total : r.total ≡ q.total
  pub cells : (c : ℕ) → c < F.n → Outside F v c → at xs c ≡ at ys c
  pub nodes : SameMasses F v (sum_below ℕ_adds F (at xs)) (sum_below ℕ_adds F (at ys))

-- both are accepted, with results that are the same so far, or both are refused with one number and place
pub data SameTold {X : Type 0} (Same : X → X → Type 0) : Answered X → Answered X → Type 0 where
  both_accepted : {x y : X} → Same x y → SameTold Same (Ok x) (Ok y)
  both_refused : {number place : ℕ} → SameTold Same (refused number place) (refused number place)
