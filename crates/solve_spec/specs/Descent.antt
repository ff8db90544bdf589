-- From the root down: the chains of each node's children, and the masses that splits along them leave. Assumes nothing.
use Rattle.std.specs.Prelude.{◌≡◌, Bool, true, false, List, ℕ, suc, ◌-◌, ◌*◌, ◌^◌, ◌≤◌, ◌<◌, ℤ, pos, length}
use Rattle.numbers.specs.Sums.{ℕ_adds}
use Rattle.numbers.specs.Lists.{at_ℤ}
use Rattle.caas_spec.specs.Group.{Group, Splits, sum_in}
use Rattle.caas_spec.specs.Split.{clipped, result, after_first}
use Rattle.scratch_spec.specs.Columns.{width, MASS, LOW, HIGH, WEIGHT, FIRST, NEXT, col, num, OnlyColumn}
use Rattle.qlt_spec.specs.Tree.{child_of, mass_at, Valid}
use Rattle.qlt_spec.specs.Masses.{shared_of}

-- ---- building the chains

-- w is the smallest number from k on that passes a test, or m if none below m does
pub record Skip (has : ℕ → Bool) (m k w : ℕ) : Type 0 where
  pub from : k ≤ w
  pub most : w ≤ m
  pub lacks : (i : ℕ) → k ≤ i → i < w → has i ≡ false
  pub hits : w < m → has w ≡ true

-- the nodes from b on are linked: FIRST is each node's first child among them, NEXT leads each of them to its next sibling; m is none
pub record Linked (up : ℕ → ℕ) (m b : ℕ) (s : List ℤ) : Type 0 where
  pub first : (v : ℕ) → v < m → Skip (λ u. child_of up u v) m b (num FIRST s v)
  pub next : (u : ℕ) → b ≤ u → u < m - 1 → Skip (λ w. child_of up w (up u)) m (suc u) (num NEXT s u)

-- the columns MASS to WEIGHT are as they were, and so is all past the first m rows
pub record SameData (m : ℕ) (old new : List ℤ) : Type 0 where
  pub long : length new ≡ length old
  pub far : (i : ℕ) → width * m ≤ i → at_ℤ new i ≡ at_ℤ old i
  pub cols : (j u : ℕ) → j < 4 → col j new u ≡ col j old u

-- before the turn at b − 1
pub record LinkState (up : ℕ → ℕ) (m : ℕ) (s : List ℤ) (b : ℕ) (new : List ℤ) : Type 0 where
  pub within : b ≤ m - 1
  pub links : Linked up m b new
  pub same : SameData m s new

-- ---- splitting along them

-- v's children, by the parents and the columns
abbrev pub group_by : (up : ℕ → ℕ) (m v : ℕ) → List ℤ → Group
group_by up m v s =
    record { size = m; has = λ u. child_of up u v; target = col MASS s; low = num LOW s; high = num HIGH s; weight = num WEIGHT s }

-- the masses: the root's stands in its column MASS, where all other nodes have their targets
unfoldable pub mass_in : (up : ℕ → ℕ) (m : ℕ) → List ℤ → ℕ → ℕ
mass_in up m s = mass_at up m (λ v. result (group_by up m v s)) (num MASS s (m - 1))

-- what the splits of the inner nodes from k on share out
abbrev pub shared_in : (up : ℕ → ℕ) (k m : ℕ) → List ℤ → ℕ
shared_in up k m s = shared_of k m (λ v. group_by up m v s) (mass_in up m s)

-- what splitting needs: a tree without a fault, and at each inner node a mass that can be split and sums that fit
pub record Planned (up : ℕ → ℕ) (n m : ℕ) (s : List ℤ) : Type 0 where
  pub valid : Valid up n m
  pub few : m ≤ 1024
  pub size : width * m ≤ length s
  pub top : col MASS s (m - 1) ≡ pos (num MASS s (m - 1))
  pub can : (v : ℕ) → n ≤ v → v < m → Splits (group_by up m v s) (mass_in up m s v)
  pub small : (v : ℕ) → n ≤ v → v < m → sum_in ℕ_adds (group_by up m v s) (num HIGH s) < 2 ^ 31
  pub light : (v : ℕ) → n ≤ v → v < m → sum_in ℕ_adds (group_by up m v s) (num WEIGHT s) < 2 ^ 31

-- and linking: no node has a first child yet
pub record Descending (up : ℕ → ℕ) (n m : ℕ) (s : List ℤ) : Type 0 where
  pub plan : Planned up n m s
  pub heads : (v : ℕ) → v < m → num FIRST s v ≡ m

-- what the splits of all inner nodes leave
pub record Descended (up : ℕ → ℕ) (n m : ℕ) (old new : List ℤ) (shared : ℕ) : Type 0 where
  pub long : length new ≡ length old
  pub far : (i : ℕ) → width * m ≤ i → at_ℤ new i ≡ at_ℤ old i
  pub masses : (u : ℕ) → u < m → col MASS new u ≡ pos (mass_in up m old u)
  pub shares : shared ≡ shared_in up n m old

-- before the turn at v − 1: the nodes from v on are split, so their children have their masses, and all other nodes but the root have their targets;
-- `shared` is what these splits share out
pub record DescendState (up : ℕ → ℕ) (m : ℕ) (s : List ℤ) (v : ℕ) (new : List ℤ) (shared : ℕ) : Type 0 where
  pub within : v ≤ m
  pub kept : OnlyColumn MASS m s new
  pub top : col MASS new (m - 1) ≡ pos (num MASS s (m - 1))
  pub done : (u : ℕ) → u < m - 1 → v ≤ up u → col MASS new u ≡ pos (mass_in up m s u)
  pub todo : (u : ℕ) → u < m - 1 → up u < v → col MASS new u ≡ col MASS s u
  pub shares : shared ≡ shared_in up v m s

-- the inner nodes from k on are split, along the chains that stand in `linked`
pub record DownTo (up : ℕ → ℕ) (k m : ℕ) (old new : List ℤ) (shared : ℕ) : Type 0 where
  pub linked : List ℤ
  pub links : Linked up m 0 linked
  pub same : SameData m old linked
  pub state : DescendState up m linked k new shared

-- ---- one child alone: what it has after each step of the split of its parent's mass

pub record ChildWatched (up : ℕ → ℕ) (m u : ℕ) (old new : List ℤ) (clip first both : ℕ) : Type 0 where
  pub long : length new ≡ length old
  pub far : (i : ℕ) → width * m ≤ i → at_ℤ new i ≡ at_ℤ old i
  pub clips : clip ≡ clipped (group_by up m (up u) old) u
  pub firsts : first ≡ after_first (group_by up m (up u) old) (mass_in up m old (up u)) u
  pub gives : both ≡ mass_in up m old u
