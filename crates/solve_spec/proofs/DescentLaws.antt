-- The splits of all inner nodes, in falling number: each can be made when its turn comes, and together they leave the masses. Assumes nothing.
use mathlib.Core.Path.{◌≡◌, refl, sym, ◌∙◌, ap, ap₂, subst}
use mathlib.Core.Bool.{true}
use mathlib.Core.List.{List}
use Prim.Native.Nat.{ℕ, suc, ◌+◌, ◌-◌, ◌*◌, ◌^◌, ◌≤◌, ◌<◌}
use native.Mathlib.Nat.{mul-le-mul_right}
use native.Mathlib.Omega.{arith}
use native.Mathlib.Decide.{ℕ_discrete}
use lib.IntN.{ℤ, pos, nat_abs}
use Rattle.numbers.specs.Sums.{ℕ_adds}
use Rattle.numbers.specs.Signed.{over}
use Rattle.caas_spec.specs.Group.{Each, sum_in}
use Rattle.caas_spec.specs.Split.{clipped, deficit, result, after_first}
use Rattle.caas_spec.proofs.ExtLaws.{all-ext, clipped-ext, deficit-ext, after-ext, result-ext, splits-ext}
use Rattle.caas_spec.proofs.SplitLaws.{deficit-most}
use Rattle.scratch_spec.specs.Columns.{MASS, LOW, HIGH, WEIGHT, col, num}
use Rattle.scratch_spec.specs.Walks.{on_chain_of, group_in, Splitting, SplitDone, SplitWatched}
use Rattle.scratch_spec.proofs.ColumnLaws.{kept-start, kept_on}
use Rattle.scratch_spec.proofs.NodeLaws.{num-kept}
use Rattle.qlt_spec.specs.Tree.{child_of, mass_at, Valid}
use Rattle.qlt_spec.proofs.TreeLaws.{child-yes, child-other, child-up, child-low}
use Rattle.qlt_spec.specs.Masses.{shared_of}
use Rattle.qlt_spec.proofs.MassLaws.{mass-root, mass-up}
use Rattle.qlt_spec.proofs.SharedLaws.{shared-first, shared-none, shared-most}
use Rattle.solve_spec.specs.Descent.{Linked, SameData, group_by, mass_in, shared_in, Planned, Descended, DescendState, DownTo, ChildWatched}
use Rattle.solve_spec.proofs.LinkLaws.{root_none, linked-has, linked-rising, linked-kept}

-- a tree that breaks no rule for n cells breaks none for one cell; linking asks no more
pub valid-one : {up : ℕ → ℕ} {n m : ℕ} → Valid up n m → Valid up 1 m
valid-one ok =
    record {
      some = omega arith;
      room = omega (arith, ok.some, ok.room);
      top = ok.top;
      rises = ok.rises;
      inner = λ v l. omega (arith, ok.some, ok.inner v l);
      inside = ok.inside;
    }

-- ---- the masses by the columns: the root's is there, any other node's is a result of its parent's

module _ {up : ℕ → ℕ} {n m : ℕ} (ok : Valid up n m) (s : List ℤ) where
  pub mass-top : mass_in up m s (m - 1) ≡ num MASS s (m - 1)
  unfolding mass_in
  mass-top = mass-root ok (λ v. result (group_by up m v s)) (num MASS s (m - 1))

  pub mass-step : (u : ℕ) → u < m - 1 → mass_in up m s u ≡ result (group_by up m (up u) s) (mass_in up m s (up u)) u
  unfolding mass_in
  mass-step u l = mass-up ok (λ v. result (group_by up m v s)) (num MASS s (m - 1)) u l

-- ---- linking leaves what the masses go by

module _ {up : ℕ → ℕ} {n m : ℕ} {s t : List ℤ} (plan : Planned up n m s) (same : SameData m s t) where
  col-same : (j : ℕ) → j < 4 → col j t ≡ col j s
  col-same j l i u = same.cols j u l i

  num-same : (j : ℕ) → j < 4 → num j t ≡ num j s
  num-same j l i u = over (same.cols j u l i)

  group-same : (v : ℕ) → group_by up m v t ≡ group_by up m v s
  group-same v i =
      record {
        size = m;
        has = λ u. child_of up u v;
        target = col-same MASS (omega arith) i;
        low = num-same LOW (omega arith) i;
        high = num-same HIGH (omega arith) i;
        weight = num-same WEIGHT (omega arith) i;
      }

  pub mass-same : (u : ℕ) → mass_in up m t u ≡ mass_in up m s u
  unfolding mass_in
  mass-same u i = mass_at up m (λ v. result (group-same v i)) (num-same MASS (omega arith) i (m - 1)) u

  -- and what is shared out
  pub shared_same : (k : ℕ) → shared_in up k m t ≡ shared_in up k m s
  shared_same k i = shared_of k m (λ v. group-same v i) (λ u. mass-same u i)

  pub planned-same : Planned up n m t
  planned-same =
      record {
        valid = plan.valid;
        few = plan.few;
        size = omega (arith, plan.size, same.long);
        top = same.cols MASS (m - 1) (omega arith) ∙ plan.top ∙ ap pos (ap over (sym (same.cols MASS (m - 1) (omega arith))));
        can = λ v h l. rw (mass-same v, group-same v) (plan.can v h l);
        small = λ v h l. subst (λ x. x < 2 ^ 31) (ap₂ (sum_in ℕ_adds) (sym (group-same v)) (sym (num-same HIGH (omega arith)))) (plan.small v h l);
        light = λ v h l. subst (λ x. x < 2 ^ 31) (ap₂ (sum_in ℕ_adds) (sym (group-same v)) (sym (num-same WEIGHT (omega arith)))) (plan.light v h l);
      }

-- ---- the splits

module _ {up : ℕ → ℕ} {n m : ℕ} {s : List ℤ} (plan : Planned up n m s) (links : Linked up m 0 s) where
  ok : Valid up n m
  ok = plan.valid

  pub down-start : DescendState up m s m s 0
  down-start =
      record {
        within = omega arith;
        kept = kept-start MASS m s;
        top = plan.top;
        done = λ u l h. absurd (omega (arith, ok.inside u l));
        todo = λ u l h. refl;
        shares = sym (shared-none m (λ w. group_by up m w s) (mass_in up m s) m (omega arith));
      }

  module _ {v : ℕ} {new : List ℤ} {shared : ℕ} (st : DescendState up m s v new shared) (l : n < v) where
    abbrev pub node : ℕ
    node = v - 1

    node_in : node < m
    node_in = omega (arith, st.within)

    links' : Linked up m 0 new
    links' = linked-kept st.kept links

    -- the chain of the node has its children, whose values are still the first ones; the node has its mass
    has-is : (u : ℕ) → u < m → on_chain_of node new u ≡ child_of up u node
    has-is = linked-has ok links' node_in

    target_is : Each (group_in m node new) (λ u. col MASS new u ≡ col MASS s u)
    target_is u i e =
        let j : child_of up u node ≡ true = sym (has-is u i) ∙ e in
        st.todo u (child-low ok u node i j) (omega (arith, child-up up u node j))

    value-is : (j : ℕ) → j < 6 → 0 < j → Each (group_in m node new) (λ u. num j new u ≡ num j s u)
    value-is j a b u i e = num-kept st.kept j u a b

    mass-is : num MASS new node ≡ mass_in up m s node
    mass-is = go (ℕ_discrete node (m - 1))
      where
        go : Dec (node ≡ m - 1) → num MASS new node ≡ mass_in up m s node
        go (yes e) = ap (num MASS new) e ∙ ap over st.top ∙ sym (ap (mass_in up m s) e ∙ mass-top ok s)
        go (no e) = ap over (st.done node (omega (arith, node_in)) (omega (arith, ok.rises node (omega (arith, node_in)))))

    -- so it can be split
    pub down-splitting : Splitting m node new
    down-splitting =
        record {
          rising = linked-rising ok links' node_in (omega (arith, plan.size, st.kept.long));
          can =
              rw mass-is
              (splits-ext (group_by up m node s) (group_in m node new) refl (λ u i. sym (has-is u i))
              (λ u i e. sym (target_is u i (has-is u i ∙ e)))
              (λ u i e. sym (value-is LOW (omega arith) (omega arith) u i (has-is u i ∙ e)))
              (λ u i e. sym (value-is HIGH (omega arith) (omega arith) u i (has-is u i ∙ e)))
              (λ u i e. sym (value-is WEIGHT (omega arith) (omega arith) u i (has-is u i ∙ e)))
              (mass_in up m s node) (plan.can node (omega arith) node_in));
          small = omega (arith, plan.small node (omega arith) node_in, all-ext (group_in m node new) (group_by up m node s) refl has-is (num HIGH new) (num HIGH s) (value-is HIGH (omega arith) (omega arith)));
          light = omega (arith, plan.light node (omega arith) node_in, all-ext (group_in m node new) (group_by up m node s) refl has-is (num WEIGHT new) (num WEIGHT s) (value-is WEIGHT (omega arith) (omega arith)));
        }

    -- what is shared out so far is less than 2 ^ 41
    small_at : (w : ℕ) → v ≤ w → w < m → nat_abs (deficit (group_by up m w s) (mass_in up m s w)) ≤ 2 ^ 31
    small_at w h k =
        omega (arith, deficit-most (group_by up m w s) (mass_in up m s w) (plan.can w (omega arith) k), plan.small w (omega arith) k)

    pub shared-small : shared ≤ 1024 * 2 ^ 31
    shared-small =
        omega (arith, st.shares, shared-most m (λ w. group_by up m w s) (mass_in up m s) v (2 ^ 31) small_at, mul-le-mul_right (2 ^ 31) (few-left))
      where
        few-left : m - v ≤ 1024
        few-left = omega (arith, plan.few)

    -- the node's d
    deficit-is : deficit (group_in m node new) (num MASS new node) ≡ deficit (group_by up m node s) (mass_in up m s node)
    deficit-is =
        deficit-ext (group_in m node new) (group_by up m node s) refl has-is target_is
        (value-is LOW (omega arith) (omega arith)) (value-is HIGH (omega arith) (omega arith)) (value-is WEIGHT (omega arith) (omega arith))
        (num MASS new node)
        ∙ ap (deficit (group_by up m node s)) mass-is

    -- one node more
    shared-is : {size : ℕ} → size ≡ nat_abs (deficit (group_in m node new) (num MASS new node)) → shared + size ≡ shared_in up node m s
    shared-is {size} z =
        let j : suc node ≡ v = omega arith in
        let f = shared-first m (λ w. group_by up m w s) (mass_in up m s) node node_in in
        let g : shared_in up (suc node) m s ≡ shared = ap (λ k. shared_in up k m s) j ∙ sym st.shares in
        let q : size ≡ nat_abs (deficit (group_by up m node s) (mass_in up m s node)) = z ∙ ap nat_abs deficit-is in
        omega (arith, f, g, q)

    -- what a child gets is its mass
    result-is : (u : ℕ) → u < m - 1 → up u ≡ node → on_chain_of node new u ≡ true → result (group_in m node new) (num MASS new node) u ≡ mass_in up m s u
    result-is u i e o =
        result-ext (group_in m node new) (group_by up m node s) refl has-is target_is
        (value-is LOW (omega arith) (omega arith)) (value-is HIGH (omega arith) (omega arith)) (value-is WEIGHT (omega arith) (omega arith))
        (num MASS new node) u (omega arith) o
        ∙ ap (λ M. result (group_by up m node s) M u) mass-is
        ∙ ap (λ w. result (group_by up m w s) (mass_in up m s w) u) (sym e)
        ∙ sym (mass-step ok s u i)

    -- a turn
    module _ {t : List ℤ} {size : ℕ} (p : SplitDone m node new t) (ps : size ≡ nat_abs (deficit (group_in m node new) (num MASS new node))) where
      done_at : (u : ℕ) → u < m - 1 → node ≤ up u → Dec (up u ≡ node) → col MASS t u ≡ pos (mass_in up m s u)
      done_at u i j (yes e) =
          let o : on_chain_of node new u ≡ true = has-is u (omega arith) ∙ child-yes up u node (omega (arith, ok.rises u i)) e in
          p.done u (omega arith) o ∙ ap pos (result-is u i e o)
      done_at u i j (no e) = p.same u (omega arith) (has-is u (omega arith) ∙ child-other up u node e) ∙ st.done u i (omega arith)

      pub down_turn : DescendState up m s node t (shared + size)
      down_turn =
          record {
            within = omega (arith, node_in);
            kept = kept_on MASS m s new t st.kept p.kept;
            top = p.same (m - 1) (omega (arith, node_in)) (has-is (m - 1) (omega (arith, node_in)) ∙ root_none ok node) ∙ st.top;
            done = λ u i j. done_at u i j (ℕ_discrete (up u) node);
            todo = λ u i j. p.same u (omega arith) (has-is u (omega arith) ∙ child-other up u node (omega arith)) ∙ st.todo u i (omega arith);
            shares = shared-is ps;
          }

    -- a child of the node, after each step
    module _ {u x y z : ℕ} {t : List ℤ} (p : SplitWatched m node u new t x y z) (i : u < m - 1) (e : up u ≡ node) where
      on_chain : on_chain_of node new u ≡ true
      on_chain = has-is u (omega arith) ∙ child-yes up u node (omega (arith, ok.rises u i)) e

      pub watched-clip : x ≡ clipped (group_by up m node s) u
      watched-clip =
          p.clips (omega arith) on_chain
          ∙ clipped-ext (group_in m node new) (group_by up m node s) refl has-is target_is
          (value-is LOW (omega arith) (omega arith)) (value-is HIGH (omega arith) (omega arith)) (value-is WEIGHT (omega arith) (omega arith))
          u (omega arith) on_chain

      pub watched-first : y ≡ after_first (group_by up m node s) (mass_in up m s node) u
      watched-first =
          p.firsts (omega arith) on_chain
          ∙ after-ext (group_in m node new) (group_by up m node s) refl has-is target_is
          (value-is LOW (omega arith) (omega arith)) (value-is HIGH (omega arith) (omega arith)) (value-is WEIGHT (omega arith) (omega arith))
          (num MASS new node) u (omega arith) on_chain
          ∙ ap (λ M. after_first (group_by up m node s) M u) mass-is

      pub watched-both : z ≡ mass_in up m s u
      watched-both = p.gives (omega arith) on_chain ∙ result-is u i e on_chain

  pub down-end : {v : ℕ} {new : List ℤ} {shared : ℕ} → DescendState up m s v new shared → v ≤ n → (u : ℕ) → u < m → col MASS new u ≡ pos (mass_in up m s u)
  down-end {v} {new} st h u l = go (ℕ_discrete u (m - 1))
    where
      go : Dec (u ≡ m - 1) → col MASS new u ≡ pos (mass_in up m s u)
      go (yes e) = ap (col MASS new) e ∙ st.top ∙ sym (ap pos (ap (mass_in up m s) e ∙ mass-top ok s))
      go (no e) = st.done u (omega arith) (omega (arith, ok.inner u (omega arith)))

-- linked, then split down to k, where the last turn left off
pub down_to :
    {up : ℕ → ℕ} {k m v : ℕ} {s t new : List ℤ} {shared : ℕ} → SameData m s t → Linked up m 0 t → DescendState up m t v new shared → v ≡ k
    → DownTo up k m s new shared
down_to {up} {k} {m} {v} {s} {t} {new} {shared} same links st e =
    record { linked = t; links = links; same = same; state = subst (λ i. DescendState up m t i new shared) e st }

-- the whole: down to the cells
pub descended : {up : ℕ → ℕ} {n m : ℕ} {s new : List ℤ} {shared : ℕ} → Planned up n m s → DownTo up n m s new shared → Descended up n m s new shared
descended {n = n} plan d =
    record {
      long = d.state.kept.long ∙ d.same.long;
      far = λ i l. d.state.kept.far i l ∙ d.same.far i l;
      masses = λ u l. down-end (planned-same plan d.same) d.links d.state (omega arith) u l ∙ ap pos (mass-same plan d.same u);
      shares = d.state.shares ∙ shared_same plan d.same n;
    }

-- ---- one child: down to its parent, whose split is watched

-- the parent of any node of a tree of more than one is an inner node
pub up-inner : {up : ℕ → ℕ} {n m i x : ℕ} → Valid up n m → 1 < m → x ≡ up i → i < m → (n ≤ x) × (x < m)
up-inner {up} {n} {m} {i} {x} ok h p l = go (ℕ_discrete i (m - 1))
  where
    go : Dec (i ≡ m - 1) → (n ≤ x) × (x < m)
    go (yes e) = let q : up i ≡ m - 1 = ap up e ∙ ok.top in (omega (arith, p, q, ok.inner 0 (omega arith), ok.inside 0 (omega arith)), omega (arith, p, q))
    go (no e) = (omega (arith, p, ok.inner i (omega arith)), omega (arith, p, ok.inside i (omega arith)))

module _ {up : ℕ → ℕ} {n m v shared : ℕ} {s new : List ℤ} (plan : Planned up n m s) (d : DownTo up (v + 1) m s new shared) (l : n ≤ v) where
  -- the next node in falling number
  next : v + 1 - 1 ≡ v
  next = omega arith

  pub next-splitting : Splitting m v new
  next-splitting = subst (λ w. Splitting m w new) next (down-splitting (planned-same plan d.same) d.links d.state (omega arith))

  pub child-watched : {u x y z : ℕ} {end : List ℤ} → SplitWatched m v u new end x y z → u < m - 1 → up u ≡ v → ChildWatched up m u s end x y z
  child-watched {u} {x} {y} {z} {end} p i e =
      record {
        long = p.split.kept.long ∙ d.state.kept.long ∙ d.same.long;
        far = λ j h. p.split.kept.far j h ∙ d.state.kept.far j h ∙ d.same.far j h;
        clips =
            watched-clip q d.links d.state (omega arith) p' i e'
            ∙ ap (λ G. clipped G u) (group-same plan d.same (v + 1 - 1)) ∙ ap (λ w. clipped (group_by up m w s) u) (sym e');
        firsts =
            watched-first q d.links d.state (omega arith) p' i e'
            ∙ ap₂ (λ G M. after_first G M u) (group-same plan d.same (v + 1 - 1)) (mass-same plan d.same (v + 1 - 1))
            ∙ ap (λ w. after_first (group_by up m w s) (mass_in up m s w) u) (sym e');
        gives = watched-both q d.links d.state (omega arith) p' i e' ∙ mass-same plan d.same u;
      }
    where
      q : Planned up n m d.linked
      q = planned-same plan d.same

      p' : SplitWatched m (v + 1 - 1) u new end x y z
      p' = subst (λ w. SplitWatched m w u new end x y z) (sym next) p

      e' : up u ≡ v + 1 - 1
      e' = e ∙ sym next
