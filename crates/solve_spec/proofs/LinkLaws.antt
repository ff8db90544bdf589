-- The chains of each node's children, as they are built in falling number: what a turn leaves, and that the chain of a node has its
-- children, in rising number. Assumes nothing.
use mathlib.Core.Path.{◌≡◌, refl, sym, ◌∙◌, ap, subst}
use mathlib.Core.Logic.{◌≢◌}
use mathlib.Core.Bool.{Bool, true, false}
use mathlib.Core.List.{List}
use Prim.Native.Nat.{ℕ, zero, suc, ◌-◌, ◌*◌, ◌≤◌, ◌<◌}
use native.Mathlib.Omega.{arith}
use native.Mathlib.Decide.{ℕ_discrete}
use lib.IntN.{ℤ, pos}
use lib.ListN.{length}
use Rattle.numbers.specs.Signed.{over}
use Rattle.scratch_spec.specs.Chain.{cursor, on_chain}
use Rattle.scratch_spec.specs.Columns.{width, MASS, FIRST, NEXT, num, InRow, Stored, OnlyColumn}
use Rattle.scratch_spec.specs.Walks.{on_chain_of, Rising}
use Rattle.scratch_spec.proofs.ChainLaws.{cursor-start, cursor-next, cursor-stay, chain-none, chain-some}
use Rattle.scratch_spec.proofs.ColumnLaws.{in_row}
use Rattle.scratch_spec.proofs.NodeLaws.{num-kept}
use Rattle.qlt_spec.specs.Tree.{child_of, Valid}
use Rattle.qlt_spec.proofs.TreeLaws.{child-up, child-other, child-self, child-low, child-parent}
use Rattle.solve_spec.specs.Descent.{Skip, Linked, SameData, LinkState}

-- ---- a chain that leads to the smallest next number that passes a test has the numbers that pass it

module _
    (next : ℕ → ℕ) (head : ℕ) (has : ℕ → Bool) (m : ℕ)
    (start : Skip has m 0 head)
    (on : (u : ℕ) → u < m → has u ≡ true → Skip has m (suc u) (next u)) where
  cursor-skip : (k : ℕ) → k ≤ m → Skip has m k (cursor next head k)
  cursor-skip zero l = rw (cursor-start next head) start
  cursor-skip (suc k) l = go (cursor-skip k (omega arith)) (ℕ_discrete (cursor next head k) k)
    where
      go : Skip has m k (cursor next head k) → Dec (cursor next head k ≡ k) → Skip has m (suc k) (cursor next head (suc k))
      go r (yes e) = rw (cursor-next next head k e) (on k (omega arith) (rw e at (r.hits (omega arith))))
      go r (no e) =
          let p : k < cursor next head k = omega (arith, r.from) in
          rw (cursor-stay next head k (suc k) (cursor next head k) refl (omega arith) p)
          (record { from = p; most = r.most; lacks = λ i a b. r.lacks i (omega arith) b; hits = r.hits })

  pub chain-has : (u : ℕ) → u < m → on_chain next head u ≡ has u
  chain-has u l = go (cursor-skip u (omega arith)) (ℕ_discrete (cursor next head u) u)
    where
      go : Skip has m u (cursor next head u) → Dec (cursor next head u ≡ u) → on_chain next head u ≡ has u
      go r (yes e) = chain-some next head u e ∙ sym (rw e at (r.hits (omega arith)))
      go r (no e) =
          let p : u < cursor next head u = omega (arith, r.from) in
          chain-none next head u u (cursor next head u) refl (omega arith) p ∙ sym (r.lacks u (omega arith) p)

-- ---- building

same_start : (m : ℕ) (s : List ℤ) → SameData m s s
same_start m s = record { long = refl; far = λ i h. refl; cols = λ j u h. refl }

same_write : {m k b : ℕ} {old new t : List ℤ} {z : ℤ} → b < m → 4 ≤ k → SameData m old new → Stored k b z new t → SameData m old t
same_write l h p s =
    record {
      long = s.long ∙ p.long;
      far = λ i j. s.far i (omega arith) ∙ p.far i j;
      cols = λ j u a. s.cols j u (omega arith) (omega arith) ∙ p.cols j u a;
    }

module _ {up : ℕ → ℕ} {n m : ℕ} (ok : Valid up n m) where
  -- the root is no node's child
  pub root_none : (v : ℕ) → child_of up (m - 1) v ≡ false
  root_none v = go (ℕ_discrete (m - 1) v)
    where
      go : Dec (m - 1 ≡ v) → child_of up (m - 1) v ≡ false
      go (yes e) = rw e (child-self up v)
      go (no e) = child-other up (m - 1) v (λ b. e (sym ok.top ∙ b))

  pub link_start : (s : List ℤ) → ((v : ℕ) → v < m → num FIRST s v ≡ m) → LinkState up m s (m - 1) s
  link_start s h =
      record {
        within = omega arith;
        links =
            record {
              first = λ v l. rw (h v l) (record { from = omega arith; most = omega arith; lacks = λ i a b. none v i (omega arith); hits = λ b. absurd (omega arith) });
              next = λ u a b. absurd (omega arith);
            };
        same = same_start m s;
      }
    where
      none : (v i : ℕ) → i ≡ m - 1 → child_of up i v ≡ false
      none v i e = rw e (root_none v)

  module _ {old s : List ℤ} {u : ℕ} (size : width * m ≤ length old) (st : LinkState up m old u s) (l : 0 < u) where
    -- the node of the turn
    abbrev pub node : ℕ
    node = u - 1

    node_in : node < m - 1
    node_in = omega (arith, st.within)

    parent_in : up node < m
    parent_in = ok.inside node node_in

    -- the rows that a turn reads and writes
    pub node_row : InRow NEXT s node
    node_row = in_row NEXT m node s (omega arith) (omega (arith, node_in)) (omega (arith, st.same.long))

    pub parent_row : {p : ℕ} {t : List ℤ} → p ≡ up node → length t ≡ length s → InRow FIRST t p
    parent_row {p} {t} e h = in_row FIRST m p t (omega arith) (omega (arith, parent_in)) (omega (arith, st.same.long))

    -- the first child so far is a node, or m
    pub first-most : {p f : ℕ} → p ≡ up node → f ≡ num FIRST s p → f ≤ m
    first-most {p} {f} e h = omega (arith, h, ap (num FIRST s) e, (st.links.first (up node) parent_in).most)

    -- a turn: the node's next sibling is f, the first child so far of its parent p; the node, as z, takes that place
    module _ {p f z : ℕ} {t r : List ℤ} (ep : p ≡ up node) (ef : f ≡ num FIRST s p) (ez : z ≡ node) (one : Stored NEXT node (pos f) s t) (two : Stored FIRST p (pos z) t r) where
      first-other : (v : ℕ) → v ≢ up node → num FIRST r v ≡ num FIRST s v
      first-other v d = ap over (two.rows v (λ e. d (e ∙ ep)) ∙ one.cols FIRST v (omega arith) (omega arith))

      first-here : num FIRST r (up node) ≡ node
      first-here = ap (num FIRST r) (sym ep) ∙ ap over two.here ∙ ez

      next-other : (w : ℕ) → w ≢ node → num NEXT r w ≡ num NEXT s w
      next-other w d = ap over (two.cols NEXT w (omega arith) (omega arith) ∙ one.rows w d)

      next_here : num NEXT r node ≡ num FIRST s (up node)
      next_here = ap over (two.cols NEXT node (omega arith) (omega arith) ∙ one.here) ∙ ef ∙ ap (num FIRST s) ep

      links : Linked up m u s
      links = st.links

      first-at : (v : ℕ) → v < m → Dec (v ≡ up node) → Skip (λ w. child_of up w v) m node (num FIRST r v)
      first-at v h (yes d) =
          rw (d, first-here)
          (record { from = omega arith; most = omega (arith, node_in); lacks = λ i x y. absurd (omega arith); hits = λ x. child-parent ok node node_in })
      first-at v h (no d) =
          let q = links.first v h in
          rw (first-other v d)
          (record { from = omega (arith, q.from); most = q.most; lacks = λ i x y. skip i x y (ℕ_discrete i node); hits = q.hits })
        where
          skip : (i : ℕ) → node ≤ i → i < num FIRST s v → Dec (i ≡ node) → child_of up i v ≡ false
          skip i x y (yes q) = rw q (child-other up node v (λ e. d (sym e)))
          skip i x y (no q) = (links.first v h).lacks i (omega arith) y

      next-at : (w : ℕ) → node ≤ w → w < m - 1 → Dec (w ≡ node) → Skip (λ x. child_of up x (up w)) m (suc w) (num NEXT r w)
      next-at w a h (yes d) = let e : suc node ≡ u = omega arith in rw (d, e, next_here) (links.first (up node) parent_in)
      next-at w a h (no d) = rw (next-other w d) (links.next w (omega arith) h)

      pub link-turn : LinkState up m old node r
      link-turn =
          record {
            within = omega (arith, node_in);
            links = record { first = λ v h. first-at v h (ℕ_discrete v (up node)); next = λ w a h. next-at w a h (ℕ_discrete w node) };
            same = same_write (omega (arith, parent_in)) (omega arith) (same_write (omega (arith, node_in)) (omega arith) st.same one) two;
          }

-- at 0 all nodes are linked
pub link-end : {up : ℕ → ℕ} {m u : ℕ} {old s : List ℤ} → LinkState up m old u s → u ≤ 0 → Linked up m 0 s × SameData m old s
link-end {up} {m} {u} {old} {s} st h = let e : u ≡ 0 = omega arith in (rw e at st.links, st.same)

-- ---- the chain of a node has its children

module _ {up : ℕ → ℕ} {n m : ℕ} (ok : Valid up n m) {s : List ℤ} (p : Linked up m 0 s) {v : ℕ} (l : v < m) where
  chain-on : (u : ℕ) → u < m → child_of up u v ≡ true → Skip (λ w. child_of up w v) m (suc u) (num NEXT s u)
  chain-on u h e =
      subst (λ x. Skip (λ w. child_of up w x) m (suc u) (num NEXT s u)) (child-up up u v e) (p.next u (omega arith) (child-low ok u v h e))

  pub linked-has : (u : ℕ) → u < m → on_chain_of v s u ≡ child_of up u v
  linked-has = chain-has (num NEXT s) (num FIRST s v) (λ u. child_of up u v) m (p.first v l) chain-on

  pub linked-rising : width * m ≤ length s → Rising m v s
  linked-rising h =
      record {
        size = h;
        node = omega arith;
        head = (p.first v l).most;
        rise = λ u i e. omega (arith, (chain-on u i (sym (linked-has u i) ∙ e)).from);
        most = λ u i e. (chain-on u i (sym (linked-has u i) ∙ e)).most;
      }

-- a split leaves the links
pub linked-kept : {up : ℕ → ℕ} {m : ℕ} {s t : List ℤ} → OnlyColumn MASS m s t → Linked up m 0 s → Linked up m 0 t
linked-kept {up} {m} {s} {t} k p =
    record {
      first = λ v l. rw (num-kept k FIRST v (omega arith) (omega arith)) (p.first v l);
      next = λ u a b. rw (num-kept k NEXT u (omega arith) (omega arith)) (p.next u a b);
    }
