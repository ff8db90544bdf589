-- The walks along a chain, turn by turn: what each state starts from and leads to, and that no number grows too large. Assumes nothing.
use mathlib.Core.Path.{◌≡◌, refl, sym, ◌∙◌, ap, ap₂, subst}
use mathlib.Core.Bool.{Bool, true, false}
use mathlib.Core.List.{List}
use Prim.Native.Nat.{ℕ, zero, suc, ◌+◌, ◌-◌, ◌*◌, ◌^◌, ◌≤◌, ◌<◌, min}
use native.Mathlib.Nat.{le_trans, le_of_eq, le-pred_of_lt, add-zero, mul-zero, mul-le-mul, mul-le-mul_left}
use native.Mathlib.Omega.{arith}
use lib.IntN.{ℤ, pos}
use lib.ListN.{length}
use Rattle.numbers.specs.Sums.{ℕ_adds, sum_to}
use Rattle.numbers.specs.Signed.{over}
use Rattle.numbers.specs.Quota.{quota}
use Rattle.numbers.proofs.QuotaLaws.{quota-mono, quota-zero}
use Rattle.caas_spec.specs.Group.{Group, sum_before, sum_in}
use Rattle.caas_spec.specs.Split.{clip, clipped, room, moved, portion}
use Rattle.caas_spec.proofs.GroupLaws.{in-le, before-add, before_same, before-all}
use Rattle.caas_spec.proofs.PortionLaws.{portions-most}
use Rattle.scratch_spec.specs.Chain.{cursor}
use Rattle.scratch_spec.specs.Columns.{MASS, LOW, HIGH, WEIGHT, FIRST, NEXT, col, num, InRow, Stored, Laid}
use Rattle.scratch_spec.specs.Walks.{on_chain_of, group_in, Rising, Clipping, Clipped, ClipState, either, room_in, size_in, share_in, moved_in, Sharing, Shared, ShareState}
use Rattle.scratch_spec.proofs.ChainLaws.{cursor-start, cursor-next, cursor-stay, chain-none, chain-some}
use Rattle.scratch_spec.proofs.ColumnLaws.{in_row, laid-start, laid-write, laid-to, laid-read}

-- ---- sums along a chain: what is passed adds nothing

module _ (G : Group) (f : ℕ → ℕ) where
  pass : (k j : ℕ) → ((i : ℕ) → k ≤ i → i < k + j → G.has i ≡ false) → sum_before ℕ_adds G (k + j) f ≡ sum_before ℕ_adds G k f
  pass k zero none = ap (λ w. sum_before ℕ_adds G w f) (add-zero k)
  pass k (suc j) none =
      let s : k + suc j ≡ suc (k + j) = omega arith in
      ap (λ w. sum_before ℕ_adds G w f) s ∙ before_same G f (k + j) (none (k + j) (omega arith) (omega arith)) ∙ pass k j (λ i a b. none i a (omega arith))

  before-pass : (k w : ℕ) → k ≤ w → ((i : ℕ) → k ≤ i → i < w → G.has i ≡ false) → sum_before ℕ_adds G w f ≡ sum_before ℕ_adds G k f
  before-pass k w l none = let s : w ≡ k + (w - k) = omega arith in ap (λ x. sum_before ℕ_adds G x f) s ∙ pass k (w - k) (λ i a b. none i a (omega arith))

  before-turn : (u w : ℕ) → G.has u ≡ true → u < w → ((i : ℕ) → suc u ≤ i → i < w → G.has i ≡ false) → sum_before ℕ_adds G w f ≡ sum_before ℕ_adds G u f + f u
  before-turn u w e l none = before-pass (suc u) w (omega arith) none ∙ before-add G f u e

  before-first : (w : ℕ) → ((i : ℕ) → 0 ≤ i → i < w → G.has i ≡ false) → 0 ≡ sum_before ℕ_adds G w f
  before-first w none = sym (before-pass 0 w (omega arith) none ∙ unfold sum_to in refl)

-- ---- the chain under a walk

module _ {m v : ℕ} {s : List ℤ} (r : Rising m v s) where
  -- the row of v, and that of a number below m in a list that is as long
  pub own_row : (k : ℕ) → k < 6 → InRow k s v
  own_row k h = record { column = h; row = r.node }

  turn-row : (k u : ℕ) (new : List ℤ) → k < 6 → u < m → length new ≡ length s → InRow k new u
  turn-row k u new h l e = in_row k m u new h l (omega (arith, r.size))

  -- where a walk starts
  head-here : cursor (num NEXT s) (num FIRST s v) (num FIRST s v) ≡ num FIRST s v
  head-here = cursor-stay (num NEXT s) (num FIRST s v) 0 (num FIRST s v) (num FIRST s v) (cursor-start (num NEXT s) (num FIRST s v)) (omega arith) (omega arith)

  head-none : (i : ℕ) → 0 ≤ i → i < num FIRST s v → on_chain_of v s i ≡ false
  head-none i a b = chain-none (num NEXT s) (num FIRST s v) 0 i (num FIRST s v) (cursor-start (num NEXT s) (num FIRST s v)) a b

  module _ {u : ℕ} (l : u < m) (here : cursor (num NEXT s) (num FIRST s v) u ≡ u) where
    on_chain : on_chain_of v s u ≡ true
    on_chain = chain-some (num NEXT s) (num FIRST s v) u here

    rises : u < num NEXT s u
    rises = r.rise u l on_chain

    next-within : num NEXT s u ≤ m
    next-within = r.most u l on_chain

    next_here : cursor (num NEXT s) (num FIRST s v) (num NEXT s u) ≡ num NEXT s u
    next_here = cursor-stay (num NEXT s) (num FIRST s v) (suc u) (num NEXT s u) (num NEXT s u) (cursor-next (num NEXT s) (num FIRST s v) u here) (omega (arith, rises)) (omega arith)

    next-none : (i : ℕ) → suc u ≤ i → i < num NEXT s u → on_chain_of v s i ≡ false
    next-none i a b = chain-none (num NEXT s) (num FIRST s v) (suc u) i (num NEXT s u) (cursor-next (num NEXT s) (num FIRST s v) u here) a b

    sum-turn : (f : ℕ → ℕ) → sum_before ℕ_adds (group_in m v s) (num NEXT s u) f ≡ sum_before ℕ_adds (group_in m v s) u f + f u
    sum-turn f = before-turn (group_in m v s) f u (num NEXT s u) on_chain rises next-none

    -- with the value at u the sum is still part of the whole
    sum-within : (f : ℕ → ℕ) → sum_before ℕ_adds (group_in m v s) u f + f u ≤ sum_in ℕ_adds (group_in m v s) f
    sum-within f = le_trans (le_of_eq (sym (sum-turn f))) (before-all (group_in m v s) f (num NEXT s u) next-within)

    laid-turn : (x : ℕ → ℤ) {new t : List ℤ} {z : ℤ} → Laid MASS m (on_chain_of v s) x u s new → Stored MASS u z new t → z ≡ x u → Laid MASS m (on_chain_of v s) x (num NEXT s u) s t
    laid-turn x {new} {t} {z} p w e =
        laid-to MASS m (on_chain_of v s) x (suc u) (num NEXT s u) s t rises next-none
        (laid-write MASS m (on_chain_of v s) x u s new t z l p on_chain w e)

-- ---- clipping

module _ {m v : ℕ} {s : List ℤ} (ok : Clipping m v s) where
  pub clip-start : ClipState m v s (num FIRST s v) s 0 0
  clip-start =
      let r = ok.rising in
      record {
        within = r.head;
        here = head-here r;
        laid = laid-to MASS m _ _ 0 (num FIRST s v) s s (omega arith) (head-none r) (laid-start MASS m _ _ s);
        sums = before-first (group_in m v s) _ (num FIRST s v) (head-none r);
        weighs = before-first (group_in m v s) _ (num FIRST s v) (head-none r);
      }

  module _ {u sum all : ℕ} {new : List ℤ} (st : ClipState m v s u new sum all) (l : u < m) where
    clip-reads : (j : ℕ) → j < 6 → col j new u ≡ col j s u
    clip-reads = laid-read MASS m _ _ u s new st.laid

    pub clip-row : (k : ℕ) → k < 6 → InRow k new u
    clip-row k h = turn-row ok.rising k u new h l st.laid.kept.long

    clip-value : {x : ℕ} → x ≡ clip (num LOW new u) (num HIGH new u) (col MASS new u) → x ≡ clipped (group_in m v s) u
    unfolding clipped
    clip-value e = e ∙ rw (clip-reads LOW (omega arith), clip-reads HIGH (omega arith), clip-reads MASS (omega arith))

    clip-weight : {w : ℕ} → w ≡ num WEIGHT new u → w ≡ num WEIGHT s u
    clip-weight e = e ∙ ap over (clip-reads WEIGHT (omega arith))

    clip-next : {next : ℕ} → next ≡ num NEXT new u → next ≡ num NEXT s u
    clip-next e = e ∙ ap over (clip-reads NEXT (omega arith))

    pub clip-rises : {next : ℕ} → next ≡ num NEXT new u → u < next
    clip-rises e = omega (arith, clip-next e, rises ok.rising l st.here)

    pub clip-sum : {x : ℕ} → x ≡ clip (num LOW new u) (num HIGH new u) (col MASS new u) → sum + x < 2 ^ 31
    clip-sum e = omega (arith, clip-value e, st.sums, ok.small, sum-within ok.rising l st.here (clipped (group_in m v s)))

    pub clip-all : {w : ℕ} → w ≡ num WEIGHT new u → all + w < 2 ^ 31
    clip-all e = omega (arith, clip-weight e, st.weighs, ok.light, sum-within ok.rising l st.here (num WEIGHT s))

    pub clip-turn :
        {x w next : ℕ} {t : List ℤ}
        → x ≡ clip (num LOW new u) (num HIGH new u) (col MASS new u)
        → w ≡ num WEIGHT new u → next ≡ num NEXT new u → Stored MASS u (pos x) new t → ClipState m v s next t (sum + x) (all + w)
    clip-turn ex ew en p =
        let r = ok.rising in
        rw (clip-next en)
        (record {
          within = next-within r l st.here;
          here = next_here r l st.here;
          laid = laid-turn r l st.here _ st.laid p (ap pos (clip-value ex));
          sums = ap₂ ◌+◌ st.sums (clip-value ex) ∙ sym (sum-turn r l st.here (clipped (group_in m v s)));
          weighs = ap₂ ◌+◌ st.weighs (clip-weight ew) ∙ sym (sum-turn r l st.here (num WEIGHT s));
        })

pub clip-end : {m v u sum all : ℕ} {s new : List ℤ} → ClipState m v s u new sum all → m ≤ u → Clipped m v s new sum all
clip-end {m} {v} {u} {sum} {all} {s} {new} st h =
    let e : u ≡ m = omega (arith, st.within) in
    let t = subst (λ k. ClipState m v s k new sum all) e st in
    record { laid = t.laid; sums = t.sums; weighs = t.weighs }

-- ---- sharing out

product-fits : (d x : ℕ) → d < 2 ^ 31 → x < 2 ^ 31 → d * x < 2 ^ 62
product-fits d x p q = omega (arith, mul-le-mul {n₂ = 2147483647} {m₂ = 2147483647} (le-pred_of_lt p) (le-pred_of_lt q))

module _ {by_room down : Bool} {m v d all : ℕ} {s : List ℤ} (ok : Sharing by_room down m v d all s) where
  pub share-start : ShareState by_room down m v d s (num FIRST s v) s 0 0 0 0
  share-start =
      let r = ok.rising in
      record {
        within = r.head;
        here = head-here r;
        laid = laid-to MASS m _ _ 0 (num FIRST s v) s s (omega arith) (head-none r) (laid-start MASS m _ _ s);
        befores = before-first (group_in m v s) _ (num FIRST s v) (head-none r);
        priors = sym (ap (λ x. quota x (sum_in ℕ_adds (group_in m v s) (size_in by_room down s))) (mul-zero d) ∙ quota-zero (sum_in ℕ_adds (group_in m v s) (size_in by_room down s)));
        gives = before-first (group_in m v s) _ (num FIRST s v) (head-none r);
        leaves = before-first (group_in m v s) _ (num FIRST s v) (head-none r);
      }

  -- all shares together are at most d, and what is left is no more than there was
  given-all : sum_in ℕ_adds (group_in m v s) (share_in by_room down m v d s) ≤ d
  unfolding share_in
  given-all = le_trans (in-le (group_in m v s) _ (portion (group_in m v s) (size_in by_room down s) d) (λ u l e. omega arith)) (portions-most (group_in m v s) (size_in by_room down s) d)

  left-all : sum_in ℕ_adds (group_in m v s) (λ u. room_in down s u - share_in by_room down m v d s u) < 2 ^ 31
  left-all = omega (arith, ok.roomy, in-le (group_in m v s) (λ u. room_in down s u - share_in by_room down m v d s u) (room_in down s) (λ u l e. omega arith))

  module _ {u before prior given left : ℕ} {new : List ℤ} (st : ShareState by_room down m v d s u new before prior given left) (l : u < m) where
    share-reads : (j : ℕ) → j < 6 → col j new u ≡ col j s u
    share-reads = laid-read MASS m _ _ u s new st.laid

    pub share-row : (k : ℕ) → k < 6 → InRow k new u
    share-row k h = turn-row ok.rising k u new h l st.laid.kept.long

    share-next : {next : ℕ} → next ≡ num NEXT new u → next ≡ num NEXT s u
    share-next e = e ∙ ap over (share-reads NEXT (omega arith))

    pub share-rises : {next : ℕ} → next ≡ num NEXT new u → u < next
    share-rises e = omega (arith, share-next e, rises ok.rising l st.here)

    -- what a turn reads at u: the room, the weight, and the size by which it shares
    module _ {cap weight size : ℕ} (ec : cap ≡ room_in down new u) (ew : weight ≡ num WEIGHT new u) (es : size ≡ either by_room cap weight) where
      cap-is : cap ≡ room_in down s u
      cap-is = ec ∙ rw (share-reads LOW (omega arith), share-reads HIGH (omega arith), share-reads MASS (omega arith))

      size_is : size ≡ size_in by_room down s u
      size_is = es ∙ ap₂ (either by_room) cap-is (ew ∙ ap over (share-reads WEIGHT (omega arith)))

      pub size_small : before + size ≤ all
      size_small = omega (arith, st.befores, size_is, ok.whole, sum-within ok.rising l st.here (size_in by_room down s))

      pub size_fits : d * (before + size) < 2 ^ 62
      size_fits = product-fits d (before + size) ok.small (omega (arith, size_small, ok.bounded))

      -- the quotient up to and including u
      module _ {upto : ℕ} (eu : upto ≡ quota (d * (before + size)) all) where
        pub prior-below : prior ≤ upto
        prior-below = omega (arith, eu, st.priors, ap (quota (d * before)) ok.whole, quota-mono all (d * before) (d * (before + size)) (mul-le-mul_left d (omega arith)))

        module _ {share : ℕ} (eg : share ≡ min cap (upto - prior)) where
          portion-is : upto - prior ≡ portion (group_in m v s) (size_in by_room down s) d u
          unfolding portion
          portion-is =
              let b : before + size ≡ sum_before ℕ_adds (group_in m v s) (suc u) (size_in by_room down s) =
              ap₂ ◌+◌ st.befores size_is ∙ sym (before-add (group_in m v s) (size_in by_room down s) u (on_chain ok.rising l st.here)) in
              ap₂ ◌-◌ (eu ∙ ap₂ (λ x y. quota (d * x) y) b ok.whole) (st.priors ∙ ap (λ x. quota (d * x) (sum_in ℕ_adds (group_in m v s) (size_in by_room down s))) st.befores)

          share-is : share ≡ share_in by_room down m v d s u
          unfolding share_in
          share-is = eg ∙ ap₂ min cap-is portion-is

          pub given-small : given + share ≤ d
          given-small = omega (arith, st.gives, share-is, given-all, sum-within ok.rising l st.here (share_in by_room down m v d s))

          pub left-small : left + (cap - share) < 2 ^ 31
          left-small = omega (arith, st.leaves, ap₂ ◌-◌ cap-is share-is, left-all, sum-within ok.rising l st.here (λ w. room_in down s w - share_in by_room down m v d s w))

          moved-is : {x y : ℕ} → x ≡ num MASS new u → y ≡ moved down x share → pos y ≡ moved_in by_room down m v d s u
          unfolding moved_in
          moved-is ex ey = ap pos (ey ∙ ap₂ (moved down) (ex ∙ ap over (share-reads MASS (omega arith))) share-is)

          pub share-turn :
              {x next y : ℕ} {t : List ℤ}
              → x ≡ num MASS new u → next ≡ num NEXT new u → y ≡ moved down x share → Stored MASS u (pos y) new t
              → ShareState by_room down m v d s next t (before + size) upto (given + share) (left + (cap - share))
          share-turn ex en ey p =
              let r = ok.rising in
              rw (share-next en)
              (record {
                within = next-within r l st.here;
                here = next_here r l st.here;
                laid = laid-turn r l st.here _ st.laid p (moved-is ex ey);
                befores = ap₂ ◌+◌ st.befores size_is ∙ sym (sum-turn r l st.here (size_in by_room down s));
                priors = eu ∙ ap (quota (d * (before + size))) ok.whole;
                gives = ap₂ ◌+◌ st.gives share-is ∙ sym (sum-turn r l st.here (share_in by_room down m v d s));
                leaves = ap₂ ◌+◌ st.leaves (ap₂ ◌-◌ cap-is share-is) ∙ sym (sum-turn r l st.here (λ w. room_in down s w - share_in by_room down m v d s w));
              })

pub share-end :
    {by_room down : Bool} {m v d u before prior given left : ℕ} {s new : List ℤ}
    → ShareState by_room down m v d s u new before prior given left → m ≤ u → Shared by_room down m v d s new given left
share-end {by_room} {down} {m} {v} {d} {u} {before} {prior} {given} {left} {s} {new} st h =
    let e : u ≡ m = omega (arith, st.within) in
    let t = subst (λ k. ShareState by_room down m v d s k new before prior given left) e st in
    record { laid = t.laid; gives = t.gives; leaves = t.leaves }

-- ---- rooms and moved values as the code has them

pub room_small : (down : Bool) (low high x : ℕ) {r : ℕ} → r ≡ room down low high x → x < 2 ^ 63 → high < 2 ^ 63 → r < 2 ^ 63
room_small true low high x e p q = omega arith
room_small false low high x e p q = omega arith

pub moved-room : (down : Bool) (low high x : ℕ) {r : ℕ} → r ≡ room down low high x → x < 2 ^ 63 → high < 2 ^ 63 → moved down x r < 2 ^ 63
moved-room true low high x e p q = omega arith
moved-room false low high x e p q = omega arith

-- a share that is at most the room leads no further than the room does
pub moved-small : (down : Bool) (x share r : ℕ) {y : ℕ} → y ≡ moved down x share → share ≤ r → moved down x r < 2 ^ 63 → x < 2 ^ 63 → y < 2 ^ 63
moved-small true x share r e k p q = omega arith
moved-small false x share r e k p q = omega arith
