-- Reading a family from a list gives back what was written into it. Assumes nothing.
use mathlib.Core.Path.{◌≡◌, refl, ◌∙◌, ap}
use mathlib.Core.Bool.{Bool, true, false}
use mathlib.Core.List.{List, [], ◌∷◌, ◌++◌}
use Prim.Native.Nat.{ℕ, zero, suc, ◌+◌, ◌*◌, ◌%◌, ◌^◌, ◌<◌, ◌≤◌}
use native.Mathlib.Omega.{arith}
use lib.Dec.{eqb}
use lib.ListN.{length, get_or, set, replicate, length-set, length-append}
use Rattle.numbers.specs.Lists.{All, written}
use Rattle.numbers.proofs.PartLaws.{length-kept, written_on}
use Rattle.family_spec.specs.declared.Member.{Member}
use Rattle.family_spec.specs.declared.Family.{Family}
use Rattle.family_spec.specs.Family.{closed, open_with, member_at, put, schedule, begun}
use Rattle.family_calls.specs.List.{flag, member_words, members_words, family_words, member_in, family_in}

-- ---- what the machine's numbers hold

abbrev pub Narrow : Member → Type 0
Narrow m = m.total < 2 ^ 32

pub record Typed (f : Family) : Type 0 where
  pub scale : f.scale < 2 ^ 32
  pub cells : f.cells < 2 ^ 32
  pub eight : length f.members ≡ 8
  pub totals : All Narrow f.members
  pub byte : f.waiting < 2 ^ 8
  pub start : f.from < 2 ^ 32

-- what is read is that
pub in-typed : (list : List ℕ) → Typed (family_in list)
in-typed list =
    record {
      scale = omega arith;
      cells = omega arith;
      eight = refl;
      totals =
          All.more {e = member_in list 3} (narrow 3) (All.more {e = member_in list 5} (narrow 5) (All.more {e = member_in list 7} (narrow 7) (All.more {e = member_in list 9} (narrow 9)
          (All.more {e = member_in list 11} (narrow 11) (All.more {e = member_in list 13} (narrow 13) (All.more {e = member_in list 15} (narrow 15) (All.more {e = member_in list 17} (narrow 17) All.none)))))));
      byte = omega arith;
      start = omega arith;
    }
  where
    narrow : (j : ℕ) → Narrow (member_in list j)
    narrow j = omega arith

-- so is a family that has begun, and one with another total
pub begun-typed : (cap scale cells : ℕ) → scale < 2 ^ 32 → cells < 2 ^ 32 → Typed (begun cap scale cells)
begun-typed cap scale cells h k = record { scale = h; cells = k; eight = refl; totals = all_closed 8; byte = omega arith; start = omega arith }
  where
    all_closed : (k : ℕ) → All Narrow (replicate k closed)
    all_closed zero = All.none
    all_closed (suc k) = All.more {e = closed} (omega arith) (all_closed k)

all_set : (ms : List Member) (i : ℕ) (m : Member) → Narrow m → All Narrow ms → All Narrow (set ms i m)
all_set [] i m h All.none = All.none
all_set (x ∷ ms) zero m h (All.more k ks) = All.more h ks
all_set (x ∷ ms) (suc i) m h (All.more k ks) = All.more k (all_set ms i m h ks)

pub put_typed : (f : Family) (i total : ℕ) → total < 2 ^ 32 → Typed f → Typed (put f i (open_with total))
put_typed f i total h t =
    record {
      scale = t.scale;
      cells = t.cells;
      eight = length-set f.members i (open_with total) ∙ t.eight;
      totals = all_set f.members i (open_with total) h t.totals;
      byte = t.byte;
      start = t.start;
    }

pub schedule-typed : (f : Family) (byte from : ℕ) → byte < 2 ^ 8 → from < 2 ^ 32 → Typed f → Typed (schedule f byte from)
schedule-typed f byte from h k t = record { scale = t.scale; cells = t.cells; eight = t.eight; totals = t.totals; byte = h; start = k }

-- ---- reading back

-- a member as it is read from its two entries
abbrev back : Member → Member
back m = record { opened = eqb (flag m.opened % 2) 1; total = m.total % 2 ^ 32 }

back_is : (m : Member) → Narrow m → back m ≡ m
back_is m h = let e : m.total % 2 ^ 32 ≡ m.total = omega (arith, h) in λ z. record { opened = flag_is m.opened z; total = e z }
  where
    flag_is : (b : Bool) → eqb (flag b % 2) 1 ≡ b
    flag_is true = refl
    flag_is false = refl

-- a list by its indices
abbrev listed : (ℕ → Member) → ℕ → List Member
listed g zero = []
listed g (suc k) = g 0 ∷ listed (λ i. g (suc i)) k

back-list : (k : ℕ) (ms : List Member) → length ms ≡ k → All Narrow ms → listed (λ i. back (get_or ms i closed)) k ≡ ms
back-list zero [] e All.none = refl
back-list zero (m ∷ ms) e h = absurd (omega arith)
back-list (suc k) [] e h = absurd (omega arith)
back-list (suc k) (m ∷ ms) e (All.more h hs) = λ z. back_is m h z ∷ back-list k ms (omega arith) hs z

-- the law of the pair: reading what was written gives it back
pub family-read : (list : List ℕ) (f : Family) → Typed f → family_in (written list 0 (family_words f)) ≡ f
unfolding written
family-read list f t =
    let a : f.scale % 2 ^ 32 ≡ f.scale = omega (arith, t.scale) in
    let b : f.cells % 2 ^ 32 ≡ f.cells = omega (arith, t.cells) in
    let c : f.waiting % 2 ^ 8 ≡ f.waiting = omega (arith, t.byte) in
    let d : f.from % 2 ^ 32 ≡ f.from = omega (arith, t.start) in
    λ z. record { cap = f.cap; scale = a z; cells = b z; members = back-list 8 f.members t.eight t.totals z; waiting = c z; from = d z }

-- ---- writing member by member

words-length : (f : Family) (k : ℕ) → length (members_words f k) ≡ 2 * k
words-length f zero = refl
words-length f (suc k) = length-append (members_words f k) (member_words (member_at f k)) ∙ omega (arith, words-length f k)

-- member k behind those before it
pub member-on :
    (f : Family) (k : ℕ) (list : List ℕ) {now next : List ℕ} (place : ℕ) {m : Member} → 3 ≤ length list → place ≡ 3 + 2 * k → now ≡ written list 3 (members_words f k)
    → next ≡ written now place (member_words m) → m ≡ member_at f k → next ≡ written list 3 (members_words f (suc k))
member-on f k list place h p q r e =
    r
    ∙ (λ z. written (q z) place (member_words (e z)))
    ∙ written_on list (members_words f k) (member_words (member_at f k)) 3 place h (omega (arith, words-length f k, p))

-- the members leave the list its length
pub members-length : (f : Family) (k : ℕ) (list : List ℕ) → 3 + 2 * k ≤ length list → length (written list 3 (members_words f k)) ≡ length list
members-length f k list h = length-kept list 3 (members_words f k) (omega (arith, words-length f k, h))

-- the members behind the cap, the scale and the cells, and the byte of who waits and where the search begins behind them
pub family-on :
    (f : Family) (list : List ℕ)
    → written (written (written list 0 (f.cap ∷ f.scale ∷ f.cells ∷ [])) 3 (members_words f 8)) 19 (f.waiting ∷ f.from ∷ []) ≡ written list 0 (family_words f)
family-on f list =
    let first = f.cap ∷ f.scale ∷ f.cells ∷ [] in
    let last = f.waiting ∷ f.from ∷ [] in
    ap (λ l. written l 19 last) (written_on list first (members_words f 8) 0 3 (omega arith) refl)
    ∙ written_on list (first ++ members_words f 8) last 0 19 (omega arith) refl
