-- Laws of a family's members: one replaced and the others left, the sum of the totals with one of them apart, and the room as it is tested in
-- whole numbers that are not below 0. Assumes nothing.
use Rattle.std.specs.Prelude.{Ok, Err}
use mathlib.Core.Path.{◌≡◌, refl, sym, ◌∙◌, ap, ap₂}
use mathlib.Core.Logic.{◌≢◌}
use mathlib.Core.Bool.{Bool, true, false, not, ◌||◌}
use Prim.Native.Nat.{ℕ, zero, suc, ◌+◌, ◌≤◌, ◌<◌}
use native.Mathlib.Omega.{arith}
use lib.Dec.{eqb, leb}
use lib.IntN.{ℤ, pos, ◌-ℤ◌}
use lib.Signed.{le_z}
use lib.ListN.{length, get_or, replicate, length-set}
use lib.Seq.{get_or-set_same, get_or-set_other}
use borrow.Author.Tests.{eqb-true, eq-eqb, leb-true, le-leb}
use Rattle.numbers.specs.Sums.{ℕ_adds, sum_to, pick}
use Rattle.numbers.specs.Checks.{Checked, after, unless}
use Rattle.numbers.proofs.TestLaws.{Tested, holds, fails, tested, not_so, clash}
use Rattle.numbers.proofs.SignedLaws.{le_z-true, le_z-false, minus-parts, one-part}
use Rattle.numbers.proofs.SumLaws.{sum_to-ext, sum_to-plus, sum_to-one, pick-ext}
use Rattle.family_spec.specs.declared.Member.{Member}
use Rattle.family_spec.specs.declared.Family.{Family}
use Rattle.family_spec.specs.Family.{closed, member_at, total_of, put, schedule, begun, totals, others, room, terms}
use Rattle.family_spec.specs.Member.{check_room, check_source}

-- ---- a family with another member

-- as many members as the code's array has
abbrev pub Eight : Family → Type 0
Eight f = length f.members ≡ 8

-- of a family of which nobody is open
pub begun-closed : (cap scale cells i : ℕ) → member_at (begun cap scale cells) i ≡ closed
begun-closed cap scale cells i = go 8 i
  where
    go : (k i : ℕ) → get_or (replicate k closed) i closed ≡ closed
    go zero i = refl
    go (suc k) zero = refl
    go (suc k) (suc i) = go k i

module _ (f : Family) (eight : Eight f) (i : ℕ) (m : Member) where
  pub put-here : (v : Checked) → (v ≡ Ok tt → i ≤ 7) → member_at (after v (put f i m) f) i ≡ after v m (member_at f i)
  put-here (Ok tt) h = get_or-set_same f.members i m closed (let k = h refl in omega (arith, eight))
  put-here (Err r) h = refl

  pub put_other : (v : Checked) (j : ℕ) → j ≢ i → member_at (after v (put f i m) f) j ≡ member_at f j
  put_other (Ok tt) j h = get_or-set_other f.members i j m closed h
  put_other (Err r) j h = refl

-- what no call changes
pub record Steady (f f' : Family) : Type 0 where
  pub size : length f'.members ≡ length f.members
  pub cap : f'.cap ≡ f.cap
  pub terms : terms f' ≡ terms f

pub put-steady : (f : Family) (i : ℕ) (m : Member) (v : Checked) → Steady f (after v (put f i m) f)
put-steady f i m (Ok tt) = record { size = length-set f.members i m; cap = refl; terms = refl }
put-steady f i m (Err r) = record { size = refl; cap = refl; terms = refl }

-- another byte of who waits leaves every member and all of these
pub schedule-members : (f : Family) (byte from : ℕ) (v : Checked) (j : ℕ) → member_at (after v (schedule f byte from) f) j ≡ member_at f j
schedule-members f byte from (Ok tt) j = refl
schedule-members f byte from (Err r) j = refl

pub schedule-steady : (f : Family) (byte from : ℕ) (v : Checked) → Steady f (after v (schedule f byte from) f)
schedule-steady f byte from (Ok tt) = record { size = refl; cap = refl; terms = refl }
schedule-steady f byte from (Err r) = record { size = refl; cap = refl; terms = refl }

-- ---- sums of totals

both_ways : (b : Bool) (x : ℕ) → x ≡ pick ℕ_adds (not b) x + pick ℕ_adds b x
both_ways true x = omega arith
both_ways false x = omega arith

pick-false : (b : Bool) (x : ℕ) → b ≡ false → pick ℕ_adds b x ≡ 0
pick-false b x e = ap (λ t. pick ℕ_adds t x) e

-- one summand apart from the others
apart : (k : ℕ) (g : ℕ → ℕ) (i : ℕ) → i < k → sum_to ℕ_adds k g ≡ sum_to ℕ_adds k (λ j. pick ℕ_adds (not (eqb j i)) (g j)) + g i
apart k g i l =
    sum_to-ext ℕ_adds k g (λ j. pick ℕ_adds (not (eqb j i)) (g j) + pick ℕ_adds (eqb j i) (g j)) (λ j m. both_ways (eqb j i) (g j))
    ∙ sum_to-plus ℕ_adds k (λ j. pick ℕ_adds (not (eqb j i)) (g j)) (λ j. pick ℕ_adds (eqb j i) (g j))
    ∙ ap (λ x. sum_to ℕ_adds k (λ j. pick ℕ_adds (not (eqb j i)) (g j)) + x)
    (sum_to-one ℕ_adds k (λ j. pick ℕ_adds (eqb j i) (g j)) i l (λ j m n. pick-false (eqb j i) (g j) (not_so (eqb j i) (λ t. n (eqb-true j i t))))
    ∙ ap (λ b. pick ℕ_adds b (g i)) (eq-eqb i i refl))

module _ (f : Family) (i : ℕ) where
  pub totals-apart : i ≤ 7 → totals f ≡ others f i + total_of f i
  unfolding totals others
  totals-apart l = apart 8 (total_of f) i (omega arith)

  -- another total for i
  pub totals-put : Eight f → i ≤ 7 → (m : Member) → totals (put f i m) ≡ others f i + m.total
  unfolding totals others
  totals-put eight l m =
      apart 8 (total_of (put f i m)) i (omega arith)
      ∙ ap₂ ◌+◌
      (sum_to-ext ℕ_adds 8 (λ j. pick ℕ_adds (not (eqb j i)) (total_of (put f i m) j)) (λ j. pick ℕ_adds (not (eqb j i)) (total_of f j))
      (λ j k. pick-ext ℕ_adds (not (eqb j i)) (total_of (put f i m) j) (total_of f j) (λ t. ap (λ x. x.total) (put_other f eight i m (Ok tt) j (apart_from j t)))))
      (ap (λ x. x.total) (put-here f eight i m (Ok tt) (λ e. l)))
    where
      apart_from : (j : ℕ) → not (eqb j i) ≡ true → j ≢ i
      apart_from j t e = clash t (ap not (eq-eqb j i e))

-- ---- the room

-- a total fits the room exactly if the others' totals and it do not pass the cap together
pub room_fits : (f : Family) (i t : ℕ) → le_z (pos t) (room f i) ≡ true → others f i + t ≤ f.cap
unfolding room
room_fits f i t e = omega (arith, le_z-true (pos t) (pos f.cap -ℤ pos (others f i)) e, minus-parts (pos f.cap) (pos (others f i)), one-part (pos f.cap -ℤ pos (others f i)))

pub room-full : (f : Family) (i t : ℕ) → le_z (pos t) (room f i) ≡ false → f.cap < others f i + t
unfolding room
room-full f i t e = omega (arith, le_z-false (pos t) (pos f.cap -ℤ pos (others f i)) e, minus-parts (pos f.cap) (pos (others f i)), one-part (pos f.cap -ℤ pos (others f i)))

-- as the code tests it
pub room-test : (f : Family) (i t : ℕ) → le_z (pos t) (room f i) ≡ leb (others f i + t) f.cap
room-test f i t = by-test (tested (le_z (pos t) (room f i)))
  where
    by-test : Tested (le_z (pos t) (room f i)) → le_z (pos t) (room f i) ≡ leb (others f i + t) f.cap
    by-test (holds e) = e ∙ sym (le-leb (others f i + t) f.cap (room_fits f i t e))
    by-test (fails e) = e ∙ sym (not_so (leb (others f i + t) f.cap) (λ h. omega (arith, leb-true (others f i + t) f.cap h, room-full f i t e)))

-- check 20 as the code makes it
pub room_checked : (f : Family) (i total : ℕ) → check_room total (room f i) ≡ unless (leb (others f i + total) f.cap) 20 0
unfolding check_room
room_checked f i total = ap (λ b. unless b 20 0) (room-test f i total)

-- of a step, by its source
pub source_passes : (source : ℤ) (total : ℕ) (space : ℤ) → le_z source (pos 0) ≡ true → check_source source total space ≡ Ok tt
unfolding check_source
source_passes source total space e = ap (λ b. unless (b || le_z (pos total) space) 20 0) e

pub source_counts : (source : ℤ) (total : ℕ) (space : ℤ) → le_z source (pos 0) ≡ false → check_source source total space ≡ check_room total space
unfolding check_source check_room
source_counts source total space e = ap (λ b. unless (b || le_z (pos total) space) 20 0) e
