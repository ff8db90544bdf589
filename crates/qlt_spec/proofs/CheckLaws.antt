-- What each of the checks 1 to 8 decides: it passes exactly if its rule holds, and fails with its number at its place exactly if the
-- rule is broken there. Assumes nothing.
use Rattle.std.specs.Prelude.{Ok}
use mathlib.Core.Path.{◌≡◌, refl, ap, subst}
use mathlib.Core.Logic.{◌≢◌, ◌⊎◌, inl, inr, ⊎_elim, ◌↔◌}
use mathlib.Core.Bool.{Bool, true, false, not, cond, ◌&&◌, ◌||◌}
use mathlib.Core.List.{List, [], ◌∷◌}
use Prim.Native.Nat.{ℕ, zero, suc, ◌-◌, ◌*◌, ◌≤◌, ◌<◌}
use native.Mathlib.Omega.{arith}
use native.Mathlib.Decide.{ℕ_discrete}
use lib.Dec.{eqb, leb}
use lib.ListN.{length}
use borrow.Author.Tests.{ltb-false, le-ltb, eq-eqb, ne_eqb, not-true}
use Rattle.numbers.specs.Lists.{at, sum}
use Rattle.numbers.specs.Checks.{both, Decides, DecidesAll, rule, rule_at, Holds, max_total}
use Rattle.numbers.proofs.TestLaws.{clash, and-means, lt-means, le-means, eq-means}
use Rattle.numbers.proofs.CheckLaws.{decides-unless, decides-from, decides-then, decides-none, count-decides}
use Rattle.qlt_spec.specs.Tree.{child_of, any_child, parent_ok, node_ok, NodeRules, Valid}
use Rattle.qlt_spec.specs.Field.{Lists, cells, nodes, scratch_per_node, field, Ordered}
use Rattle.qlt_spec.specs.Checks.{check_nodes, check_lists, check_tree, bounds_ordered, check_order, check_sum, check_reach, check_shape, shape_with, shape_of, check_values}
use Rattle.qlt_spec.specs.Operation.{FieldLengths, shape_rules, value_rules, reach_rule, ShapeFits, ValuesFit, Reaches}

-- ---- 1 to 3

pub nodes-decides : (n m : ℕ) → Decides (check_nodes n m) (rule 2 ((n ≤ m) × (m ≤ 1024)))
unfolding check_nodes
nodes-decides n m = decides-unless _ 2 (and-means (le-means n m) (le-means m 1024))

module _ (f : Lists) (k s : ℕ) where
  pub lists-decides : Decides (check_lists scratch_per_node (cells f) (nodes f) k (length f.lows) (length f.highs) (length f.safe_lows) (length f.safe_highs) (length f.weights) s) (rule 3 (FieldLengths f k s))
  unfolding check_lists
  lists-decides =
      let t =
      and-means (eq-means k (cells f))
      (and-means (eq-means (length f.lows) (cells f))
      (and-means (eq-means (length f.highs) (cells f))
      (and-means (eq-means (length f.safe_lows) (cells f))
      (and-means (eq-means (length f.safe_highs) (cells f))
      (and-means (eq-means (length f.weights) (cells f)) (le-means (scratch_per_node * nodes f) s)))))) in
      decides-unless _ 3 (
        λ e.
            let h = t.0 e in
            record { masses = h.0; lows = h.1.0; highs = h.1.1.0; safe_lows = h.1.1.1.0; safe_highs = h.1.1.1.1.0; weights = h.1.1.1.1.1.0; scratch = h.1.1.1.1.1.1 },
        λ l. t.1 (l.masses, (l.lows, (l.highs, (l.safe_lows, (l.safe_highs, (l.weights, l.scratch)))))),
      )

  pub shape-decides : DecidesAll (shape_of k f s) (shape_rules f k s)
  unfolding check_shape shape_rules
  shape-decides =
      decides-then _ _ _ _ (count-decides (cells f))
      (decides-then _ _ _ _ (nodes-decides (cells f) (nodes f))
      (decides-then _ _ _ _ lists-decides decides-none))

  pub shape-holds : Holds (shape_rules f k s) ↔ ShapeFits f k s
  unfolding shape_rules Holds
  shape-holds = (
    λ h. record { some = h.0.0; few = h.0.1; nodes_room = h.1.0.0; nodes_few = h.1.0.1; lengths = h.1.1.0 },
    λ r. ((r.some, r.few), ((r.nodes_room, r.nodes_few), (r.lengths, tt))),
  )

  pub shape-fits : (shape_of k f s ≡ Ok tt) ↔ ShapeFits f k s
  shape-fits = (λ e. shape-holds.0 (shape-decides.passes.0 e), λ r. shape-decides.passes.1 (shape-holds.1 r))

-- the scratch counts by the test of 3 alone
pub shape-by : (p p' k : ℕ) (f : Lists) (s s' : ℕ) → leb (p * nodes f) s ≡ leb (p' * nodes f) s' → shape_with p k f s ≡ shape_with p' k f s'
unfolding check_shape check_lists
shape-by p p' k f s s' e = rw e

-- ---- 4

not-means : (a b : ℕ) → (not (eqb a b) ≡ true) ↔ (a ≢ b)
not-means a b = (λ e q. clash (eq-eqb a b q) (not-true _ e), λ h. ap not (ne_eqb a b h))

or_cases : (a b : Bool) → a || b ≡ true → (a ≡ true) ⊎ (b ≡ true)
or_cases true b e = inl refl
or_cases false b e = inr e

or-second : (a b : Bool) → b ≡ true → a || b ≡ true
or-second true b e = refl
or-second false b e = e

-- one of two tests by a third; and the second of two where the first fails
cond-means : (b x y : Bool) {P A B : Type 0} → (b ≡ true) ↔ P → (x ≡ true) ↔ A → (y ≡ true) ↔ B → (cond b x y ≡ true) ↔ ((P → A) × ((P → ⊥) → B))
cond-means true x y t p q = (λ e. (λ h. p.0 e, λ n. absurd (n (t.0 refl))), λ h. p.1 (h.0 (t.0 refl)))
cond-means false x y t p q = (λ e. (λ h. absurd (clash (t.1 h) refl), λ n. q.0 e), λ h. q.1 (h.1 (λ n. clash (t.1 n) refl)))

else-means : (b c : Bool) {P Q : Type 0} → (b ≡ false) ↔ P → (c ≡ true) ↔ Q → (b || c ≡ true) ↔ (P → Q)
else-means true c p q = (λ e h. absurd (clash refl (p.1 h)), λ h. refl)
else-means false c p q = (λ e h. q.0 e, λ h. q.1 (h (p.0 refl)))

module _ (up : ℕ → ℕ) where
  pub child-means : (u v : ℕ) → (child_of up u v ≡ true) ↔ ((u ≢ v) × (up u ≡ v))
  unfolding child_of
  child-means u v = and-means (not-means u v) (eq-means (up u) v)

  -- a child among the first k nodes
  abbrev Child : ℕ → ℕ → Type 0
  Child k v = (u : ℕ) × ((u < k) × ((u ≢ v) × (up u ≡ v)))

  pub any-child-means : (k v : ℕ) → (any_child up k v ≡ true) ↔ ((u : ℕ) × ((u < k) × ((u ≢ v) × (up u ≡ v))))
  unfolding any_child
  any-child-means zero v = (λ e. absurd (clash e refl), λ h. absurd (omega (arith, h.1.0)))
  any-child-means (suc k) v = (λ e. ⊎_elim here (λ d. later ((any-child-means k v).0 d)) (or_cases (child_of up k v) _ e), λ h. from (any-child-means k v).1 h (ℕ_discrete h.0 k))
    where
      here : child_of up k v ≡ true → Child (suc k) v
      here d = (k, (omega arith, (child-means k v).0 d))

      later : Child k v → Child (suc k) v
      later h = (h.0, (omega (arith, h.1.0), h.1.1))

      from : (Child k v → any_child up k v ≡ true) → (h : Child (suc k) v) → Dec (h.0 ≡ k) → child_of up k v || any_child up k v ≡ true
      from r h (yes e) = rw ((child-means k v).1 (subst (λ u. (u ≢ v) × (up u ≡ v)) e h.1.1)) refl
      from r h (no e) = or-second (child_of up k v) (any_child up k v) (r (h.0, (omega (arith, h.1.0), h.1.1)))

  module _ (n m : ℕ) where
    parent-means : (v : ℕ) → (parent_ok up n m v ≡ true) ↔ ((v ≡ m - 1 → up v ≡ v) × (v ≢ m - 1 → (v < up v) × ((n ≤ up v) × (up v ≤ m - 1))))
    unfolding parent_ok
    parent-means v = cond-means _ _ _ (eq-means v (m - 1)) (eq-means (up v) v) (and-means (lt-means v (up v)) (and-means (le-means n (up v)) (le-means (up v) (m - 1))))

    pub node-means : (v : ℕ) → (node_ok up n m v ≡ true) ↔ NodeRules up n m v
    unfolding node_ok
    node-means v =
        let t = and-means (parent-means v) (else-means _ _ (ltb-false v n, le-ltb v n) (any-child-means m v)) in
        (λ e. let h = t.0 e in record { root = h.0.0; parent = h.0.1; child = h.1 }, λ r. t.1 ((r.root, r.parent), r.child))

pub tree-decides : (n : ℕ) (parents : List ℕ) → Decides (check_tree n parents) (rule_at 4 (length parents) (NodeRules (at parents) n (length parents)))
unfolding check_tree
tree-decides n parents = decides-from _ _ (node-means (at parents) n (length parents)) 4 (length parents)

-- a tree that breaks no rule
pub valid : {up : ℕ → ℕ} {n m : ℕ} → 0 < n → n ≤ m → ((v : ℕ) → v < m → NodeRules up n m v) → Valid up n m
valid {up} {n} {m} some room rules =
    record {
      some = some;
      room = room;
      top = (rules (m - 1) (omega arith)).root refl;
      rises = λ v l. (below v l).0;
      inner = λ v l. (below v l).1.0;
      inside = λ v l. omega (arith, (below v l).1.1);
    }
  where
    below : (v : ℕ) → v < m - 1 → (v < up v) × ((n ≤ up v) × (up v ≤ m - 1))
    below v l = (rules v (omega arith)).parent (λ e. omega arith)

-- ---- 5 to 8, and the chains

pub order-decides : (f : Lists) → Decides (check_order (cells f) f.lows f.highs f.safe_lows f.safe_highs) (rule_at 5 (cells f) (Ordered (field f)))
unfolding check_order bounds_ordered
order-decides f = decides-from _ _ means 5 (cells f)
  where
    means : (c : ℕ) → (leb (at f.safe_lows c) (at f.lows c) && (leb (at f.lows c) (at f.highs c) && leb (at f.highs c) (at f.safe_highs c)) ≡ true) ↔ Ordered (field f) c
    means c =
        let t = and-means (le-means (at f.safe_lows c) (at f.lows c)) (and-means (le-means (at f.lows c) (at f.highs c)) (le-means (at f.highs c) (at f.safe_highs c))) in
        (λ e. let h = t.0 e in record { low = h.0; high = h.1.0; safe = h.1.1 }, λ o. t.1 (o.low, (o.high, o.safe)))

pub sum-decides : (number : ℕ) (xs : List ℕ) → Decides (check_sum number xs) (rule number (sum xs ≤ max_total))
unfolding check_sum
sum-decides number xs = decides-unless _ number (le-means (sum xs) max_total)

pub reach-decides : (safe_lows safe_highs : List ℕ) (M : ℕ) → Decides (check_reach safe_lows safe_highs M) (rule 8 ((sum safe_lows ≤ M) × (M ≤ sum safe_highs)))
unfolding check_reach
reach-decides safe_lows safe_highs M = decides-unless _ 8 (and-means (le-means (sum safe_lows) M) (le-means M (sum safe_highs)))

module _ (f : Lists) where
  pub values-decides : DecidesAll (check_values f) (value_rules f)
  unfolding check_values value_rules
  values-decides =
      decides-then _ _ _ _ (tree-decides (cells f) f.parents)
      (decides-then _ _ _ _ (order-decides f)
      (decides-then _ _ _ _ (sum-decides 6 f.safe_highs)
      (decides-then _ _ _ _ (sum-decides 7 f.weights) decides-none)))

  pub values-hold : Holds (value_rules f) ↔ ValuesFit f
  unfolding value_rules Holds
  values-hold = (
    λ h. record { tree = h.0; order = h.1.0; safe_highs = h.1.1.0; weights = h.1.1.1.0 },
    λ r. (r.tree, (r.order, (r.safe_highs, (r.weights, tt)))),
  )

  pub values-fit : (check_values f ≡ Ok tt) ↔ ValuesFit f
  values-fit = (λ e. values-hold.0 (values-decides.passes.0 e), λ r. values-decides.passes.1 (values-hold.1 r))

-- 8, as the last of a chain
module _ (f : Lists) (M : ℕ) where
  pub reaches-decides : DecidesAll (both (check_reach f.safe_lows f.safe_highs M) (Ok tt)) (reach_rule f M ∷ [])
  reaches-decides = decides-then _ _ _ _ (reach-decides f.safe_lows f.safe_highs M) decides-none

  pub reaches : (check_reach f.safe_lows f.safe_highs M ≡ Ok tt) ↔ Reaches f M
  reaches =
      let d = (reach-decides f.safe_lows f.safe_highs M).passes in
      (λ e. record { least = (d.0 e).0; most = (d.0 e).1 }, λ r. d.1 (r.least, r.most))
