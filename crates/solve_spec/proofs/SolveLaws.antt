-- From the lists of a field to its masses: what each pass over the tree asks follows from what solving needs, and what they leave
-- together is what solving gives. Assumes nothing.
use mathlib.Core.Path.{◌≡◌, refl, sym, ◌∙◌, ap, ap₂, subst}
use mathlib.Core.Bool.{true}
use mathlib.Core.List.{List}
use Prim.Native.Nat.{ℕ, ◌-◌, ◌*◌, ◌^◌, ◌≤◌, ◌<◌}
use native.Mathlib.Omega.{arith}
use lib.IntN.{ℤ, pos, nat_abs, ◌-ℤ◌}
use lib.ListN.{length}
use Rattle.numbers.specs.Sums.{ℕ_adds, sum_to}
use Rattle.numbers.specs.Lists.{at, at_ℤ, list_to}
use Rattle.numbers.specs.Signed.{over}
use Rattle.numbers.proofs.SumLaws.{sum_to-ext, sum_to-le}
use Rattle.numbers.proofs.ListLaws.{length-list_to, get_d-list_to, list_to-ext}
use Rattle.caas_spec.specs.Group.{Group, Splits, sum_in}
use Rattle.caas_spec.specs.Split.{clipped, deficit, result, after_first}
use Rattle.caas_spec.proofs.SplitLaws.{clipped-within, after-within}
use Rattle.caas_spec.proofs.ExtLaws.{all-ext, clipped-ext, deficit-ext, after-ext, result-ext, splits-ext}
use Rattle.scratch_spec.specs.Columns.{width, MASS, LOW, HIGH, WEIGHT, FIRST, col, num, Stored, Laid}
use Rattle.qlt_spec.specs.Tree.{child_of, mass_at, Valid}
use Rattle.qlt_spec.specs.Operation.{cleared}
use Rattle.qlt_spec.proofs.TreeLaws.{up-ind, child-low, child-parent, node_sum-inner}
use Rattle.qlt_spec.specs.Masses.{mass_between, shared_of}
use Rattle.qlt_spec.proofs.MassLaws.{InBounds, mass-root, mass-up}
use Rattle.qlt_spec.proofs.SharedLaws.{shared-ext}
use Rattle.qlt_spec.proofs.BetweenLaws.{between_in, between-can}
use Rattle.solve_spec.specs.Gather.{Loaded}
use Rattle.solve_spec.specs.Descent.{group_by, mass_in, shared_in, Descending, Descended, DownTo, ChildWatched}
use Rattle.solve_spec.specs.Solve.{node_of, target_of, node_group, mass_of, Solvable, Prepared, Solved, NodeWatched}
use Rattle.solve_spec.proofs.UpLaws.{node-pos, node-most}
use Rattle.solve_spec.proofs.GatherLaws.{cleared-ext}
use Rattle.solve_spec.proofs.DescentLaws.{descended}

-- masses go by what each node gives to its children
mass-ext :
    {up : ℕ → ℕ} {n m : ℕ} → Valid up n m → (f g : ℕ → ℕ → ℕ → ℕ) (M : ℕ)
    → ((u : ℕ) → u < m - 1 → (x : ℕ) → f (up u) x u ≡ g (up u) x u)
    → (u : ℕ) → u < m → mass_at up m f M u ≡ mass_at up m g M u
mass-ext {up} {n} {m} ok f g M h =
    up-ind ok (λ u. mass_at up m f M u ≡ mass_at up m g M u)
    (mass-root ok f M ∙ sym (mass-root ok g M))
    (λ u l r. mass-up ok f M u l ∙ ap (λ x. f (up u) x u) r ∙ h u l (mass_at up m g M (up u)) ∙ sym (mass-up ok g M u l))

module _ {parents : List ℕ} {targets : List ℤ} {lows highs weights : List ℕ} {M : ℕ} {s : List ℤ} (ok : Solvable parents targets lows highs weights M s) where
  -- the numbers of cells and nodes
  abbrev pub n : ℕ
  n = length targets

  abbrev pub m : ℕ
  m = length parents

  -- a node's children, and its mass
  abbrev pub group : ℕ → Group
  group = node_group parents targets lows highs weights

  abbrev pub mass : ℕ → ℕ
  mass = mass_of parents targets lows highs weights M

  -- ---- sizes, for loading

  -- there is a root
  pub root_in : 0 < m
  root_in = omega (arith, ok.valid.some, ok.valid.room)

  pub total-small : M < 2 ^ 31
  total-small = omega (arith, ok.most, ok.small)

  -- a list of the cells' number of values, with its own length for it
  pub valid-for : (xs : List ℕ) → length xs ≡ n → Valid (at parents) (length xs) m
  valid-for xs e = subst (λ k. Valid (at parents) k m) (sym e) ok.valid

  small-for : (xs : List ℕ) → length xs ≡ n → sum_to ℕ_adds n (at xs) < 2 ^ 31 → sum_to ℕ_adds (length xs) (at xs) < 2 ^ 31
  small-for xs e h = subst (λ k. sum_to ℕ_adds k (at xs) < 2 ^ 31) (sym e) h

  pub lows-small : sum_to ℕ_adds (length lows) (at lows) < 2 ^ 31
  lows-small = small-for lows ok.lows_long (omega (arith, ok.small, sum_to-le n (at lows) (at highs) ok.order))

  pub highs-small : sum_to ℕ_adds (length highs) (at highs) < 2 ^ 31
  highs-small = small-for highs ok.highs_long ok.small

  pub weights-small : sum_to ℕ_adds (length weights) (at weights) < 2 ^ 31
  weights-small = small-for weights ok.weights_long ok.light

  -- ---- each node's mass lies within its bounds

  mass-in : (v : ℕ) → v < m → InBounds (at parents) n m (at lows) (at highs) v (mass v)
  mass-in = between_in ok.valid (at_ℤ targets) (at weights) (at lows) (at highs) ok.order M ok.least ok.most

  pub mass-can : (v : ℕ) → n ≤ v → v < m → Splits (group v) (mass v)
  mass-can = between-can ok.valid (at_ℤ targets) (at weights) (at lows) (at highs) ok.order M ok.least ok.most

  mass-small : (v : ℕ) → v < m → mass v < 2 ^ 31
  mass-small v l = omega (arith, ok.small, mass-in v l, node-most (at parents) n m (at highs) v)

  -- ---- the columns, as they are filled

  loaded-for :
      (k : ℕ) (xs : List ℕ) {a b : List ℤ} → length xs ≡ n → Loaded (at parents) (length xs) m k (λ c. pos (at xs c)) a b
      → (u : ℕ) → u < m → num k b u ≡ node_of parents targets xs u
  loaded-for k xs {a} {b} e h u l =
      let q = subst (λ i. Loaded (at parents) i m k (λ c. pos (at xs c)) a b) e h in
      ap over (q.sums u l ∙ node-pos (at parents) n m (at xs) u)

  pub prepared :
      {s₁ s₂ s₃ s₄ s₅ s₆ : List ℤ} {x : ℕ} → Loaded (at parents) n m MASS (at_ℤ targets) s s₁
      → Loaded (at parents) (length lows) m LOW (λ c. pos (at lows c)) s₁ s₂
      → Loaded (at parents) (length highs) m HIGH (λ c. pos (at highs c)) s₂ s₃
      → Loaded (at parents) (length weights) m WEIGHT (λ c. pos (at weights c)) s₃ s₄
      → x ≡ m → Laid FIRST m (λ u. true) (λ u. pos x) m s₄ s₅ → Stored MASS (m - 1) (pos M) s₅ s₆
      → Prepared parents targets lows highs weights M s s₆
  prepared {s₁} {s₂} {s₃} {s₄} {s₅} {s₆} a b c d i e f =
      record {
        long = f.long ∙ e.kept.long ∙ d.kept.long ∙ c.kept.long ∙ b.kept.long ∙ a.kept.long;
        far =
            λ i h.
            f.far i (omega (arith, root_in)) ∙ e.kept.far i h ∙ d.kept.far i h ∙ c.kept.far i h ∙ b.kept.far i h ∙ a.kept.far i h;
        root = f.here;
        target = λ u l. f.rows u (omega arith) ∙ from-1 MASS u (omega arith) (omega arith) ∙ a.sums u (omega arith);
        low = λ u l. ap over (past LOW u (omega arith) (omega arith) ∙ from-2 LOW u (omega arith) (omega arith)) ∙ loaded-for LOW lows ok.lows_long b u l;
        high = λ u l. ap over (past HIGH u (omega arith) (omega arith) ∙ from-3 HIGH u (omega arith) (omega arith)) ∙ loaded-for HIGH highs ok.highs_long c u l;
        weight = λ u l. ap over (past WEIGHT u (omega arith) (omega arith) ∙ e.kept.cols WEIGHT u (omega arith) (omega arith)) ∙ loaded-for WEIGHT weights ok.weights_long d u l;
        first = λ u l. ap over (past FIRST u (omega arith) (omega arith) ∙ e.done u l refl) ∙ i;
      }
    where
      -- a column goes by its own filling alone
      past : (j u : ℕ) → j < 6 → 0 < j → col j s₆ u ≡ col j s₅ u
      past j u h k = f.cols j u h (omega arith)

      from-3 : (j u : ℕ) → j < 6 → j < WEIGHT → col j s₅ u ≡ col j s₃ u
      from-3 j u h k = e.kept.cols j u h (omega arith) ∙ d.kept.cols j u h (omega arith)

      from-2 : (j u : ℕ) → j < 6 → j < HIGH → col j s₅ u ≡ col j s₂ u
      from-2 j u h k = from-3 j u h (omega arith) ∙ c.kept.cols j u h (omega arith)

      from-1 : (j u : ℕ) → j < 6 → j < LOW → col j s₅ u ≡ col j s₁ u
      from-1 j u h k = from-2 j u h (omega arith) ∙ b.kept.cols j u h (omega arith)

  -- ---- the columns are those of the tree

  module _ {t : List ℤ} (p : Prepared parents targets lows highs weights M s t) where
    -- v's children by the columns
    abbrev pub held : ℕ → Group
    held v = group_by (at parents) m v t

    root_is : num MASS t (m - 1) ≡ M
    root_is = ap over p.root

    target_is : (v u : ℕ) → u < m → child_of (at parents) u v ≡ true → col MASS t u ≡ target_of parents targets u
    target_is v u l e = p.target u (child-low ok.valid u v l e)

    -- so are the masses
    mass-is : (u : ℕ) → u < m → mass_in (at parents) m t u ≡ mass u
    unfolding mass_in mass_between
    mass-is u l =
        ap (λ x. mass_at (at parents) m (λ v. result (held v)) x u) root_is
        ∙ mass-ext ok.valid (λ v. result (held v)) (λ v. result (group v)) M
        (λ w i x.
        let v = at parents w in
        result-ext (held v) (group v) refl (λ j k. refl) (target_is v) (λ j k e. p.low j k) (λ j k e. p.high j k) (λ j k e. p.weight j k) x w
        (omega arith) (child-parent ok.valid w i))
        u l

    can-is : (v : ℕ) → n ≤ v → v < m → Splits (held v) (mass_in (at parents) m t v)
    can-is v h l =
        rw (mass-is v l)
        (splits-ext (group v) (held v) refl (λ u i. refl)
        (λ u i e. sym (target_is v u i e)) (λ u i e. sym (p.low u i)) (λ u i e. sym (p.high u i)) (λ u i e. sym (p.weight u i))
        (mass v) (mass-can v h l))

    sum-small :
        (j : ℕ) (xs : List ℕ) (v : ℕ) → n ≤ v → v < m → ((u : ℕ) → u < m → num j t u ≡ node_of parents targets xs u)
        → sum_to ℕ_adds n (at xs) < 2 ^ 31 → sum_in ℕ_adds (held v) (num j t) < 2 ^ 31
    sum-small j xs v h l e q =
        omega (
          arith,
          q,
          node-most (at parents) n m (at xs) v,
          node_sum-inner ok.valid ℕ_adds (at xs) v h l,
          all-ext (held v) (group v) refl (λ u i. refl) (num j t) (node_of parents targets xs) (λ u i d. e u i),
        )

    -- so the masses can be split from the root down
    pub descending : Descending (at parents) n m t
    descending =
        record {
          plan =
              record {
                valid = ok.valid;
                few = ok.nodes_few;
                size = omega (arith, ok.size, p.long);
                top = p.root ∙ ap pos (sym root_is);
                can = can-is;
                small = λ v h l. sum-small HIGH highs v h l p.high ok.small;
                light = λ v h l. sum-small WEIGHT weights v h l p.weight ok.light;
              };
          heads = p.first;
        }

    -- ---- the end

    -- what the splits share out goes by the tree's groups and masses
    shared-is : shared_in (at parents) n m t ≡ shared_of n m group mass
    shared-is = shared-ext n m held group (mass_in (at parents) m t) mass (λ v h l. ap nat_abs (same v l))
      where
        same : (v : ℕ) → v < m → deficit (held v) (mass_in (at parents) m t v) ≡ deficit (group v) (mass v)
        same v l =
            deficit-ext (held v) (group v) refl (λ j k. refl) (target_is v) (λ j k e. p.low j k) (λ j k e. p.high j k) (λ j k e. p.weight j k)
            (mass_in (at parents) m t v)
            ∙ ap (deficit (group v)) (mass-is v l)

    module _ {new : List ℤ} {shared : ℕ} (down : DownTo (at parents) n m t new shared) where
      d : Descended (at parents) n m t new shared
      d = descended descending.plan down

      pub long-end : length new ≡ length s
      long-end = d.long ∙ p.long

      mass-end : (u : ℕ) → u < m → num MASS new u ≡ mass u
      mass-end u l = ap over (d.masses u l) ∙ mass-is u l

      -- each cell's mass fits 32 bits
      pub mass-fits : (c : ℕ) → c < n → num MASS new c < 2 ^ 32
      mass-fits c l = let i : c < m = omega (arith, ok.valid.room) in omega (arith, mass-end c i, mass-small c i)

      module _ {k : ℕ} {masses : List ℕ} (e : k ≡ n) (q : masses ≡ list_to k (λ c. num MASS new c)) where
        masses-are : masses ≡ list_to n mass
        masses-are =
            q ∙ ap (λ i. list_to i (λ c. num MASS new c)) e ∙ list_to-ext n (λ c. num MASS new c) mass (λ c l. mass-end c (omega (arith, ok.valid.room)))

        pub masses-long : length masses ≡ n
        masses-long = ap length masses-are ∙ length-list_to n mass

        pub solved :
            {s' : List ℤ} {change : ℕ} → s' ≡ cleared (width * m) new
            → change ≡ sum_to ℕ_adds (length masses) (λ c. nat_abs (pos (at masses c) -ℤ at_ℤ targets c))
            → Solved parents targets lows highs weights M s s' masses change shared
        solved f g =
            record {
              gives = masses-are;
              moves =
                  g
                  ∙ ap₂ (λ i xs. sum_to ℕ_adds i (λ c. nat_abs (pos (at xs c) -ℤ at_ℤ targets c))) masses-long masses-are
                  ∙ sum_to-ext ℕ_adds n _ _ (λ c l. ap (λ x. nat_abs (pos x -ℤ at_ℤ targets c)) (get_d-list_to n mass c 0 l));
              shares = d.shares ∙ shared-is;
              leaves = f ∙ cleared-ext (width * m) new s long-end (λ i h. d.far i h ∙ p.far i h);
            }

    -- ---- one node alone

    pub node-watched :
        {u x y z : ℕ} {new s' : List ℤ} → ChildWatched (at parents) m u t new x y z → u < m - 1 → s' ≡ cleared (width * m) new
        → NodeWatched parents targets lows highs weights M u s s' x y z
    node-watched {u} {x} {y} {z} {new} {s'} d i f = record { clips = clips; firsts = firsts; gives = gives; small = small; leaves = leaves }
      where
        child : child_of (at parents) u (at parents u) ≡ true
        child = child-parent ok.valid u i

        clips : x ≡ clipped (group (at parents u)) u
        clips =
            d.clips
            ∙ clipped-ext (held (at parents u)) (group (at parents u)) refl (λ j k. refl) (target_is (at parents u)) (λ j k e. p.low j k) (λ j k e. p.high j k) (λ j k e. p.weight j k) u
            (omega arith) child

        firsts : y ≡ after_first (group (at parents u)) (mass (at parents u)) u
        firsts =
            d.firsts
            ∙ after-ext (held (at parents u)) (group (at parents u)) refl (λ j k. refl) (target_is (at parents u)) (λ j k e. p.low j k) (λ j k e. p.high j k) (λ j k e. p.weight j k)
            (mass_in (at parents) m t (at parents u)) u (omega arith) child
            ∙ ap (λ x. after_first (group (at parents u)) x u) (mass-is (at parents u) (ok.valid.inside u i))

        gives : z ≡ mass u
        gives = d.gives ∙ mass-is u (omega arith)

        -- none is above the node's high
        small : (x < 2 ^ 31) × ((y < 2 ^ 31) × (z < 2 ^ 31))
        small =
            let can = mass-can (at parents u) (ok.valid.inner u i) (ok.valid.inside u i) in
            let most = node-most (at parents) n m (at highs) u in (
              omega (arith, ok.small, most, clips, (clipped-within (group (at parents u)) (mass (at parents u)) can u (omega arith) child).1),
              (
                omega (arith, ok.small, most, firsts, (after-within (group (at parents u)) (mass (at parents u)) can u (omega arith) child).1),
                omega (arith, gives, mass-small u (omega arith)),
              ),
            )

        leaves : s' ≡ cleared (width * m) s
        leaves = f ∙ cleared-ext (width * m) new s (d.long ∙ p.long) (λ j h. d.far j h ∙ p.far j h)
