-- One split by three walks along a chain: clip, share out by weights, share out by what is left. Assumes nothing.
use mathlib.Core.Path.{◌≡◌, refl, sym, ◌∙◌, ap, ap₂}
use mathlib.Core.Bool.{Bool, true, false}
use mathlib.Core.List.{List}
use Prim.Native.Nat.{ℕ, ◌+◌, ◌-◌, ◌^◌, ◌≤◌, ◌<◌, min}
use native.Mathlib.Omega.{arith}
use native.Mathlib.Nat.{lt_of_le_of_lt}
use native.Mathlib.Decide.{dec_lt}
use lib.IntN.{ℤ, pos, nat_abs, ◌-ℤ◌}
use mir.Syntax.{w64}
use mir.Val.{to_z, of_z}
use Rattle.numbers.specs.Sums.{ℕ_adds}
use Rattle.numbers.specs.Signed.{over}
use Rattle.numbers.proofs.SignedLaws.{about, read_back}
use Rattle.caas_spec.specs.Group.{Group, Each, sum_in}
use Rattle.caas_spec.specs.Split.{clipped, deficit, surplus, room, capacity, portion, first_share, remainder, left, second_share, moved, shares, result, after_first}
use Rattle.caas_spec.proofs.PortionLaws.{portion-most, first-is, second_is, firsts-most, remainder_is, lefts, remainder-room}
use Rattle.caas_spec.proofs.SplitLaws.{enough, clipped-most, room_most, deficit-most}
use Rattle.caas_spec.proofs.ExtLaws.{all-ext, portion-ext}
use Rattle.scratch_spec.specs.Chain.{on_chain}
use Rattle.scratch_spec.specs.Columns.{MASS, LOW, HIGH, WEIGHT, FIRST, NEXT, num, OnlyColumn, Laid}
use Rattle.scratch_spec.specs.Walks.{on_chain_of, group_in, Rising, Clipping, Clipped, room_in, share_in, moved_in, Sharing, Shared, Splitting, SplitDone, SplitWatched}
use Rattle.scratch_spec.proofs.ColumnLaws.{kept_on}

-- what stands where no member does is as it was
untouched :
    {k m : ℕ} {has : ℕ → Bool} {x : ℕ → ℤ} {s t : List ℤ} → Laid k m has x m s t → (u : ℕ) → (u < m → has u ≡ false) → num k t u ≡ num k s u
untouched {k} {m} {s = s} {t} p u h = go (dec_lt u m)
  where
    go : Dec (u < m) → num k t u ≡ num k s u
    go (yes l) = ap over (p.same u l (h l))
    go (no l) = ap over (p.rest u (omega arith))

-- ---- a walk leaves the chain and the bounds as they were

module _ {m : ℕ} {s t : List ℤ} (k : OnlyColumn MASS m s t) where
  pub num-kept : (j u : ℕ) → j < 6 → 0 < j → num j t u ≡ num j s u
  num-kept j u l p = ap over (k.cols j u l (omega arith))

  pub has_kept : (v u : ℕ) → on_chain_of v t u ≡ on_chain_of v s u
  has_kept v u = ap₂ (λ n h. on_chain n h u) next (num-kept FIRST v (omega arith) (omega arith))
    where
      next : num NEXT t ≡ num NEXT s
      next i w = num-kept NEXT w (omega arith) (omega arith) i

  pub rising-kept : {v : ℕ} → Rising m v s → Rising m v t
  rising-kept {v} r =
      record {
        size = omega (arith, r.size, k.long);
        node = omega (arith, r.node, k.long);
        head = omega (arith, r.head, num-kept FIRST v (omega arith) (omega arith));
        rise = λ u l e. omega (arith, num-kept NEXT u (omega arith) (omega arith), r.rise u l (sym (has_kept v u) ∙ e));
        most = λ u l e. omega (arith, num-kept NEXT u (omega arith) (omega arith), r.most u l (sym (has_kept v u) ∙ e));
      }

-- two moves in one direction are one move, and a move takes up room
moved_twice : (down : Bool) (x f g : ℕ) → moved down (moved down x f) g ≡ moved down x (f + g)
moved_twice true x f g = omega arith
moved_twice false x f g = omega arith

room_moved : (down : Bool) (low high x f : ℕ) → room down low high (moved down x f) ≡ room down low high x - f
room_moved true low high x f = omega arith
room_moved false low high x f = omega arith

least : (a b : ℕ) → b ≤ a → min a b ≡ b
least a b h = omega arith

-- ---- the three walks

module _ {m v : ℕ} {s : List ℤ} (ok : Splitting m v s) where
  abbrev pub G : Group
  G = group_in m v s

  abbrev pub M : ℕ
  M = num MASS s v

  abbrev pub cap : ℕ → ℕ
  cap = capacity G (deficit G M)

  abbrev pub D : ℕ
  D = nat_abs (deficit G M)

  -- what the first walk requires
  pub clipping : Clipping m v s
  clipping = record { rising = ok.rising; small = omega (arith, ok.small, clipped-most G M ok.can); light = ok.light }

  caps-small : sum_in ℕ_adds G cap < 2 ^ 31
  unfolding capacity
  caps-small = lt_of_le_of_lt (room_most G M ok.can (surplus (deficit G M))) ok.small

  pub deficit-small : D < 2 ^ 31
  deficit-small = omega (arith, deficit-most G M ok.can, ok.small)

  -- so d is read as it is from 64 bits
  pub deficit-read : {d : ℤ} → d ≡ deficit G M → to_z w64 (of_z w64 d) ≡ deficit G M
  deficit-read e = ap (λ z. to_z w64 (of_z w64 z)) e ∙ read_back (deficit G M) (omega (arith, about (deficit G M), deficit-small))

  module _ {s₁ : List ℤ} {sum all : ℕ} (c : Clipped m v s s₁ sum all) where
    -- d, as the code has it
    pub deficit-is : {mass : ℕ} {d : ℤ} → mass ≡ M → d ≡ pos mass -ℤ pos sum → d ≡ deficit G M
    unfolding deficit
    deficit-is em ed = ed ∙ ap₂ (λ a b. pos a -ℤ pos b) em c.sums

    k₁ : OnlyColumn MASS m s s₁
    k₁ = c.laid.kept

    has₁ : (u : ℕ) → u < m → on_chain_of v s₁ u ≡ on_chain_of v s u
    has₁ u l = has_kept k₁ v u

    value₁ : Each (group_in m v s₁) (λ u. num MASS s₁ u ≡ clipped G u)
    value₁ u l e = ap over (c.laid.done u l (sym (has₁ u l) ∙ e))

    weight₁ : Each (group_in m v s₁) (λ u. num WEIGHT s₁ u ≡ num WEIGHT s u)
    weight₁ u l e = num-kept k₁ WEIGHT u (omega arith) (omega arith)

    -- the direction and the size of d, as the code has them
    module _ {down : Bool} {size : ℕ} (ed : down ≡ surplus (deficit G M)) (es : size ≡ D) where
      room-is : (u : ℕ) → room down (num LOW s u) (num HIGH s u) (clipped G u) ≡ cap u
      unfolding capacity
      room-is u = ap (λ b. room b (num LOW s u) (num HIGH s u) (clipped G u)) ed

      room₁ : Each (group_in m v s₁) (λ u. room_in down s₁ u ≡ cap u)
      room₁ u l e =
          ap₂ (λ a b. room down a b (num MASS s₁ u)) (num-kept k₁ LOW u (omega arith) (omega arith)) (num-kept k₁ HIGH u (omega arith) (omega arith))
          ∙ ap (room down (num LOW s u) (num HIGH s u)) (value₁ u l e)
          ∙ room-is u

      -- what the second walk requires
      pub sharing-1 : Sharing false down m v size all s₁
      sharing-1 =
          record {
            rising = rising-kept k₁ ok.rising;
            small = omega (arith, deficit-small);
            whole = c.weighs ∙ sym (all-ext (group_in m v s₁) G refl has₁ (num WEIGHT s₁) (num WEIGHT s) weight₁);
            bounded = omega (arith, c.weighs, ok.light);
            roomy = omega (arith, caps-small, all-ext (group_in m v s₁) G refl has₁ (room_in down s₁) cap room₁);
          }

      -- its shares are the first shares
      first₁ : Each (group_in m v s₁) (λ u. share_in false down m v size s₁ u ≡ first_share G cap D u)
      unfolding share_in
      first₁ u l e =
          ap₂ min (room₁ u l e) (portion-ext (group_in m v s₁) G refl has₁ (num WEIGHT s₁) (num WEIGHT s) size u l weight₁ ∙ ap (λ x. portion G (num WEIGHT s) x u) es)
          ∙ sym (first-is G cap D u)

      left₁ : Each (group_in m v s₁) (λ u. room_in down s₁ u - share_in false down m v size s₁ u ≡ left G cap D u)
      unfolding left
      left₁ u l e = ap₂ ◌-◌ (room₁ u l e) (first₁ u l e)

      module _ {s₂ : List ℤ} {given rest : ℕ} (a : Shared false down m v size s₁ s₂ given rest) where
        k₂ : OnlyColumn MASS m s s₂
        k₂ = kept_on MASS m s s₁ s₂ k₁ a.laid.kept

        has₂ : (u : ℕ) → u < m → on_chain_of v s₂ u ≡ on_chain_of v s u
        has₂ u l = has_kept k₂ v u

        given_is : given ≡ sum_in ℕ_adds G (first_share G cap D)
        given_is = a.gives ∙ all-ext (group_in m v s₁) G refl has₁ (share_in false down m v size s₁) (first_share G cap D) first₁

        pub given-most : given ≤ size
        given-most = omega (arith, given_is, firsts-most G cap D)

        remains : size - given ≡ remainder G cap D
        remains = omega (arith, given_is, remainder_is G cap D)

        rest-is : rest ≡ sum_in ℕ_adds G (left G cap D)
        rest-is = a.leaves ∙ all-ext (group_in m v s₁) G refl has₁ (λ u. room_in down s₁ u - share_in false down m v size s₁ u) (left G cap D) left₁

        rest-small : rest < 2 ^ 31
        rest-small = omega (arith, rest-is, caps-small, lefts G cap D)

        value₂ : Each (group_in m v s₂) (λ u. num MASS s₂ u ≡ moved down (clipped G u) (first_share G cap D u))
        unfolding moved_in
        value₂ u l e =
            let j : on_chain_of v s₁ u ≡ true = has₁ u l ∙ sym (has₂ u l) ∙ e in
            ap over (a.laid.done u l j) ∙ ap₂ (moved down) (value₁ u l j) (first₁ u l j)

        room₂ : Each (group_in m v s₂) (λ u. room_in down s₂ u ≡ left G cap D u)
        unfolding left
        room₂ u l e =
            ap₂ (λ a b. room down a b (num MASS s₂ u)) (num-kept k₂ LOW u (omega arith) (omega arith)) (num-kept k₂ HIGH u (omega arith) (omega arith))
            ∙ ap (room down (num LOW s u) (num HIGH s u)) (value₂ u l e)
            ∙ room_moved down (num LOW s u) (num HIGH s u) (clipped G u) (first_share G cap D u)
            ∙ ap (λ x. x - first_share G cap D u) (room-is u)

        rest-whole : rest ≡ sum_in ℕ_adds (group_in m v s₂) (room_in down s₂)
        rest-whole = rest-is ∙ sym (all-ext (group_in m v s₂) G refl has₂ (room_in down s₂) (left G cap D) room₂)

        -- what the third walk requires
        pub sharing-2 : Sharing true down m v (size - given) rest s₂
        sharing-2 =
            record {
              rising = rising-kept k₂ ok.rising;
              small = omega (arith, deficit-small);
              whole = rest-whole;
              bounded = rest-small;
              roomy = omega (arith, rest-whole, rest-small);
            }

        -- its shares are the second shares: none is more than what is left
        second₂ : Each (group_in m v s₂) (λ u. share_in true down m v (size - given) s₂ u ≡ second_share G cap D u)
        unfolding share_in
        second₂ u l e =
            ap₂ min (room₂ u l e) (portion-ext (group_in m v s₂) G refl has₂ (room_in down s₂) (left G cap D) (size - given) u l room₂ ∙ ap (λ x. portion G (left G cap D) x u) remains)
            ∙ least (left G cap D u) _ (portion-most G (left G cap D) (remainder G cap D) (remainder-room G cap D (enough G M ok.can)) u (sym (has₂ u l) ∙ e))
            ∙ sym (second_is G cap D u)

        value₃ : Each (group_in m v s₂) (λ u. moved_in true down m v (size - given) s₂ u ≡ pos (result G M u))
        unfolding moved_in result shares
        value₃ u l e =
            ap pos
            (ap₂ (moved down) (value₂ u l e) (second₂ u l e)
            ∙ moved_twice down (clipped G u) (first_share G cap D u) (second_share G cap D u)
            ∙ ap (λ b. moved b (clipped G u) (first_share G cap D u + second_share G cap D u)) ed)

        -- the three walks together are the split
        pub split_done : {s₃ : List ℤ} {g r : ℕ} → Shared true down m v (size - given) s₂ s₃ g r → SplitDone m v s s₃
        split_done {s₃} b =
            record {
              kept = kept_on MASS m s s₂ s₃ k₂ b.laid.kept;
              done = λ u l e. b.laid.done u l (has₂ u l ∙ e) ∙ value₃ u l (has₂ u l ∙ e);
              same = λ u l e. b.laid.same u l (has₂ u l ∙ e) ∙ a.laid.same u l (has₁ u l ∙ e) ∙ c.laid.same u l e;
              rest = λ u l. b.laid.rest u l ∙ a.laid.rest u l ∙ c.laid.rest u l;
            }

        -- and what stands in a node's place after each
        pub split-watched :
            {s₃ : List ℤ} {g r u x y z : ℕ} → Shared true down m v (size - given) s₂ s₃ g r → x ≡ num MASS s₁ u → y ≡ num MASS s₂ u → z ≡ num MASS s₃ u
            → SplitWatched m v u s s₃ x y z
        unfolding after_first
        split-watched {s₃} {u = u} b ex ey ez =
            record {
              split = split_done b;
              clips = λ l e. ex ∙ value₁ u l (has₁ u l ∙ e);
              firsts = λ l e. ey ∙ value₂ u l (has₂ u l ∙ e) ∙ ap (λ t. moved t (clipped G u) (first_share G cap D u)) ed;
              gives = λ l e. ez ∙ ap over ((split_done b).done u l e);
              stays =
                  λ h.
                  let e₁ = untouched c.laid u h in
                  let e₂ = untouched a.laid u (λ l. has₁ u l ∙ h l) ∙ e₁ in
                  let e₃ = untouched b.laid u (λ l. has₂ u l ∙ h l) ∙ e₂ in
                  (ex ∙ e₁, (ey ∙ e₂, ez ∙ e₃));
            }
