-- What the masses of the whole tree are: the facts of one accepted field, and which totals masses within the safety
-- bounds have. Assumes nothing.
use mathlib.Core.Path.{◌≡◌, refl, sym, ◌∙◌, ap, subst}
use mathlib.Core.Logic.{◌↔◌}
use mathlib.Core.Bool.{true}
use Prim.Native.Nat.{ℕ, ◌-◌, ◌≤◌, ◌<◌}
use native.Mathlib.Omega.{arith}
use lib.IntN.{ℤ, pos, nat_abs, ◌-ℤ◌}
use Rattle.numbers.specs.Sums.{ℕ_adds, ℤ_adds, sum_to}
use Rattle.numbers.specs.Lists.{at}
use Rattle.numbers.proofs.SumLaws.{sum_to-ext, sum_from-ext, sum_to-pos}
use Rattle.numbers.proofs.ListLaws.{length-list_to, get_d-list_to}
use Rattle.caas_spec.specs.Group.{Group, Each, Splits, Divides, sum_in, distance}
use Rattle.caas_spec.specs.Split.{clipped, deficit, result, Proportional}
use Rattle.caas_spec.proofs.GroupLaws.{in-ext, in-none, in_pos}
use Rattle.caas_spec.proofs.SplitLaws.{nat-within, moved-adds, result-nearest, distance-ext, result-proportional}
use Rattle.qlt_spec.specs.Tree.{child_of, Valid}
use Rattle.qlt_spec.specs.Field.{Field, Ordered, outcome, low_in, high_in, Meets, change_of, sum_cells}
use Rattle.qlt_spec.specs.declared.Outcome.{Outcome}
use Rattle.qlt_spec.specs.Masses.{group_of, tree_mass, tree_masses, shared_of, tree_shared}
use Rattle.qlt_spec.specs.Facts.{shared_by, Summed, FieldFacts}
use Rattle.qlt_spec.proofs.TreeLaws.{node_sum-inner, node_sum-cell, node_sum-ext}
use Rattle.qlt_spec.proofs.MassLaws.{node, InBounds}
use Rattle.qlt_spec.proofs.SharedLaws.{shared-none}
use Rattle.qlt_spec.proofs.BetweenLaws.{between-root, between-up, between-child, between_in, between-can, between-sum, between-all}
use Rattle.qlt_spec.proofs.FieldLaws.{Case, is-attainable, is_below, is-above, case, force-room, force-order, force-safe-low, force-safe-high}
use Rattle.qlt_spec.proofs.MissLaws.{meets-room, least-of}

module _ (F : Field) where
  -- a node's sum over its cells
  abbrev pub node_of : (ℕ → ℕ) → ℕ → ℕ
  node_of f v = node F.up F.n F.m f v

  -- a mass lies within a node's bounds in force
  abbrev pub InForce : Outcome → ℕ → ℕ → Type 0
  InForce o v x = InBounds F.up F.n F.m (low_in o F) (high_in o F) v x

  -- the items of a node's group are its children
  pub each-child : (o : Outcome) (v : ℕ) (P : ℕ → Type 0) → ((u : ℕ) → u < F.m → child_of F.up u v ≡ true → P u) → Each (group_of F o v) P
  unfolding group_of
  each-child o v P h = h

module _ (F : Field) (M : ℕ) where
  -- a node's children with their bounds in force
  abbrev pub group : ℕ → Group
  group v = group_of F (outcome F M) v

  -- a cell's mass, by the list of masses
  abbrev pub list_mass : ℕ → ℕ
  list_mass c = at (tree_masses F M) c

  -- a node's mass, by the list: the sum over its cells
  abbrev pub mass_by_list : ℕ → ℕ
  mass_by_list v = node_of F list_mass v

  -- the list holds the masses of the cells
  pub list_at : (c : ℕ) → c < F.n → list_mass c ≡ tree_mass F M c
  unfolding tree_masses
  list_at c l = get_d-list_to F.n (tree_mass F M) c 0 l

  -- so the change is that of the list
  change-list : change_of F (tree_mass F M) ≡ change_of F list_mass
  unfolding change_of
  change-list = sum_to-ext ℕ_adds F.n _ _ (λ c l. ap (λ x. nat_abs (pos x -ℤ F.target c)) (sym (list_at c l)))

  -- a field of one node shares out 0
  shared-alone : F.m ≤ F.n → tree_shared F M ≡ 0
  unfolding tree_shared
  shared-alone h = shared-none F.m (group) (tree_mass F M) F.n h

  -- the children are taken with the sums over their cells
  summed : (v : ℕ) → F.n ≤ v → v < F.m → Each (group v) (λ u. Summed F M (tree_masses F M) v u)
  unfolding group_of
  summed v h l u k e = record { target = refl; low = refl; high = refl; weight = refl }

  -- ---- the nodes' masses, from the root down

  module _ (ok : Valid F.up F.n F.m) where
    -- the root has M
    pub node-root : tree_mass F M (F.m - 1) ≡ M
    unfolding tree_mass
    node-root = between-root ok F.target F.weight (low_in (outcome F M) F) (high_in (outcome F M) F) M

    -- any other node has what the split of its parent's mass gives it
    pub node-up : (u : ℕ) → u < F.m - 1 → tree_mass F M u ≡ result (group (F.up u)) (tree_mass F M (F.up u)) u
    unfolding tree_mass group_of
    node-up = between-up ok F.target F.weight (low_in (outcome F M) F) (high_in (outcome F M) F) M

    -- the same, said of a child
    pub node-split : (v u : ℕ) → u < F.m → child_of F.up u v ≡ true → tree_mass F M u ≡ result (group v) (tree_mass F M v) u
    unfolding tree_mass group_of
    node-split = between-child ok F.target F.weight (low_in (outcome F M) F) (high_in (outcome F M) F) M

module _ (F : Field) (ok : Valid F.up F.n F.m) (ordered : (c : ℕ) → c < F.n → Ordered F c) where
  module _ (M : ℕ) (least : sum_cells F F.safe_low ≤ M) (most : M ≤ sum_cells F F.safe_high) where
    -- ---- the nodes' masses and their bounds

    -- each lies within the node's bounds in force
    pub node_in : (v : ℕ) → v < F.m → InForce F (outcome F M) v (tree_mass F M v)
    unfolding tree_mass
    node_in =
        between_in ok F.target F.weight (low_in (outcome F M) F) (high_in (outcome F M) F) (force-order F ordered (outcome F M)) M
        (force-room F M least most).0 (force-room F M least most).1

    -- so it can be split among the node's children
    pub node-can : (v : ℕ) → F.n ≤ v → v < F.m → Splits (group F M v) (tree_mass F M v)
    unfolding tree_mass group_of
    node-can =
        between-can ok F.target F.weight (low_in (outcome F M) F) (high_in (outcome F M) F) (force-order F ordered (outcome F M)) M
        (force-room F M least most).0 (force-room F M least most).1

    -- each is the sum over the node's cells
    pub node-sum : (v : ℕ) → v < F.m → node_of F (tree_mass F M) v ≡ tree_mass F M v
    unfolding tree_mass
    node-sum =
        between-sum ok F.target F.weight (low_in (outcome F M) F) (high_in (outcome F M) F) (force-order F ordered (outcome F M)) M
        (force-room F M least most).0 (force-room F M least most).1

    -- the cells' masses add up to M
    pub all-sum : sum_cells F (tree_mass F M) ≡ M
    unfolding tree_mass
    all-sum =
        between-all ok F.target F.weight (low_in (outcome F M) F) (high_in (outcome F M) F) (force-order F ordered (outcome F M)) M
        (force-room F M least most).0 (force-room F M least most).1

    -- ---- the same by the list of the cells' masses

    -- a node's mass is the sum over its cells in the list
    pub list-node : (v : ℕ) → v < F.m → mass_by_list F M v ≡ tree_mass F M v
    list-node v l = node_sum-ext F.up F.n F.m ℕ_adds (list_mass F M) (tree_mass F M) v (list_at F M) ∙ node-sum v l

    -- the list adds up to M
    pub list-sum : sum_cells F (list_mass F M) ≡ M
    list-sum = sum_to-ext ℕ_adds F.n _ _ (list_at F M) ∙ all-sum

    -- also as whole numbers
    whole_sum : sum_to ℤ_adds F.n (λ c. pos (list_mass F M c)) ≡ pos M
    whole_sum = sum_to-pos F.n (list_mass F M) ∙ ap pos list-sum

    -- a cell's mass lies within its bounds in force
    pub cell_in : (c : ℕ) → c < F.n → (low_in (outcome F M) F c ≤ list_mass F M c) × (list_mass F M c ≤ high_in (outcome F M) F c)
    cell_in c l = rw (list_at F M c l) (rw (own low_in, own high_in) at (node_in c (omega (arith, ok.room))))
      where
        own : (bound : Outcome → Field → ℕ → ℕ) → node_of F (bound (outcome F M) F) c ≡ bound (outcome F M) F c
        own bound = node_sum-cell ok ℕ_adds (bound (outcome F M) F) c l

    -- and so within its safety bounds
    pub cell-safe : (c : ℕ) → c < F.n → (F.safe_low c ≤ list_mass F M c) × (list_mass F M c ≤ F.safe_high c)
    cell-safe c l = omega (arith, cell_in c l, force-safe-low F ordered (outcome F M) c l, force-safe-high F ordered (outcome F M) c l)

    -- ---- each inner node, by the list

    -- the children's masses are what the split of the node's mass gives
    split-list : (v : ℕ) → v < F.m → Each (group F M v) (λ u. mass_by_list F M u ≡ result (group F M v) (mass_by_list F M v) u)
    split-list v l = each-child F (outcome F M) v _ (λ u k e. list-node u k ∙ node-split F M ok v u k e ∙ rw (list-node v l))

    -- the node's mass can be split
    can-list : (v : ℕ) → F.n ≤ v → v < F.m → Splits (group F M v) (mass_by_list F M v)
    can-list v h l = rw (list-node v l) (node-can v h l)

    -- the children's masses are a division of the node's mass
    divides-list : (v : ℕ) → F.n ≤ v → v < F.m → Divides (group F M v) (mass_by_list F M v) (λ u. pos (mass_by_list F M u))
    unfolding group_of
    divides-list v h l =
        record {
          within = λ u k e. rw (list-node u k) (nat-within _ _ (tree_mass F M u) (node_in u k).0 (node_in u k).1);
          sum = in_pos (group F M v) (mass_by_list F M) ∙ ap pos (sym (node_sum-inner ok ℕ_adds (list_mass F M) v h l));
        }

    -- what is shared out, by the list
    shared-list : tree_shared F M ≡ shared_by F M (tree_masses F M)
    unfolding tree_shared shared_of deficit
    shared-list = sum_from-ext ℕ_adds F.n F.m _ _ (λ v h l. ap (λ x. nat_abs (deficit (group F M v) x)) (sym (list-node v l)))

    moves-list :
        (v : ℕ) → F.n ≤ v → v < F.m
        → sum_in ℕ_adds (group F M v) (λ u. nat_abs (pos (mass_by_list F M u) -ℤ pos (clipped (group F M v) u))) ≡ nat_abs (deficit (group F M v) (mass_by_list F M v))
    moves-list v h l =
        in-ext (group F M v) ℕ_adds _ _ (λ u k e. ap (λ x. nat_abs (pos x -ℤ pos (clipped (group F M v) u))) (split-list v l u k e))
        ∙ moved-adds (group F M v) (mass_by_list F M v) (can-list v h l)

    -- no division is nearer to the children's targets
    nearest-list :
        (v : ℕ) → F.n ≤ v → v < F.m → (y : ℕ → ℤ) → Divides (group F M v) (mass_by_list F M v) y
        → distance (group F M v) (λ u. pos (mass_by_list F M u)) ≤ distance (group F M v) y
    nearest-list v h l y d = omega (arith, same, result-nearest (group F M v) (mass_by_list F M v) (can-list v h l) y d)
      where
        same : distance (group F M v) (λ u. pos (mass_by_list F M u)) ≡ distance (group F M v) (λ u. pos (result (group F M v) (mass_by_list F M v) u))
        same = distance-ext (group F M v) (mass_by_list F M v) (can-list v h l) _ _ (λ u k e. ap pos (split-list v l u k e))

    -- where the children have no weight, the shares are close to the published proportion
    proportional-list :
        (v : ℕ) → F.n ≤ v → v < F.m → Each (group F M v) (λ u. (group F M v).weight u ≡ 0)
        → Each (group F M v) (λ u. Proportional (group F M v) (mass_by_list F M v) (pos (mass_by_list F M u)) u)
    proportional-list v h l light u k e =
        subst (λ (a : ℕ). Proportional (group F M v) (mass_by_list F M v) (pos a) u) (sym (split-list v l u k e))
        (result-proportional (group F M v) (mass_by_list F M v) (can-list v h l) (in-none (group F M v) (group F M v).weight light) u k e)

    -- ---- whole numbers within bounds

    -- masses within bounds are such numbers
    list-meets :
        (low high : ℕ → ℕ) → ((c : ℕ) → c < F.n → (low c ≤ list_mass F M c) × (list_mass F M c ≤ high c))
        → (y : ℕ → ℤ) × Meets F.n low high (pos M) y
    list-meets low high h =
        ((λ c. pos (list_mass F M c)), record { within = λ c l. nat-within (low c) (high c) (list_mass F M c) (h c l).0 (h c l).1; sum = whole_sum })

    -- if there are such numbers, each mass lies within the cell's low and high
    attained :
        (y : ℕ → ℤ) → Meets F.n F.low F.high (pos M) y → (c : ℕ) → c < F.n → (F.low c ≤ list_mass F M c) × (list_mass F M c ≤ F.high c)
    attained y h c l = go (case F M)
      where
        room : (sum_cells F F.low ≤ M) × (M ≤ sum_cells F F.high)
        room = meets-room F.low F.high F.n M y h

        go : Case F M → (F.low c ≤ list_mass F M c) × (list_mass F M c ≤ F.high c)
        go (is-attainable p q e) = unfold low_in high_in in (rw e at (cell_in c l))
        go (is_below p e) = absurd (omega (arith, room))
        go (is-above p q e) = absurd (omega (arith, room))

  -- some whole numbers within the safety bounds add up to M exactly if M lies between the sums of those bounds
  pub reachable-sums :
      (M : ℕ) → ((y : ℕ → ℤ) × Meets F.n F.safe_low F.safe_high (pos M) y) ↔ ((sum_cells F F.safe_low ≤ M) × (M ≤ sum_cells F F.safe_high))
  reachable-sums M = (
    λ t. meets-room F.safe_low F.safe_high F.n M t.0 t.1,
    λ h. list-meets M h.0 h.1 F.safe_low F.safe_high (cell-safe M h.0 h.1),
  )

  -- all facts of one accepted field
  pub facts : (M : ℕ) → sum_cells F F.safe_low ≤ M → M ≤ sum_cells F F.safe_high → FieldFacts F M (tree_masses F M)
  facts M least most =
      record {
        tree = refl;
        root = node-root F M ok;
        below = node-up F M ok;
        sums = summed F M;
        node = list-node M least most;
        count = unfold tree_masses in (length-list_to F.n (tree_mass F M));
        total = list-sum M least most;
        splits = λ v h l. split-list M least most v l;
        divides = divides-list M least most;
        attains = (list-meets M least most F.low F.high, λ t. attained M least most t.0 t.1);
        safe = cell-safe M least most;
        least = least-of F ordered M (list_mass F M) (cell_in M least most) (list-sum M least most);
        nearest = nearest-list M least most;
        reachable = reachable-sums M;
        change = change-list F M;
        shared = shared-list M least most;
        alone = λ e. shared-alone F M (omega (arith, ok.some));
        moves = moves-list M least most;
        proportional = proportional-list M least most;
      }
