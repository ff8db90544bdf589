-- What a verdict makes of a return value and of a lent list, and that a return value and the values in a list tell what the operation told.
-- Assumes nothing.
use Rattle.std.specs.Prelude.{Ok, Err}
use mathlib.Core.Path.{◌≡◌, refl, sym, ◌∙◌, ap, ap₂}
use mathlib.Core.Logic.{⊎_elim}
use mathlib.Core.Bool.{Bool, true, ◌&&◌}
use mathlib.Core.List.{List, [], ◌∷◌, ◌++◌}
use Prim.Native.Nat.{ℕ, zero, suc, ◌+◌, ◌*◌, ◌/◌, ◌%◌, ◌^◌, ◌≤◌, ◌<◌}
use native.Mathlib.Omega.{arith}
use lib.Dec.{ltb}
use borrow.Author.Tests.{le-leb, lt-leb}
use Rattle.numbers.specs.declared.Refusal.{Refusal}
use Rattle.numbers.specs.Lists.{written}
use Rattle.numbers.specs.Checks.{Checked, refused, answered, after, both, first, check_long, Rule, DecidesAll, OneOf, RefuseWith, numbers_of}
use Rattle.numbers.proofs.TestLaws.{lt-means, and-means, and_first, and_second}
use Rattle.numbers.proofs.CheckLaws.{both-pass, first-append}
use Rattle.numbers.proofs.ChainLaws.{fails-number}
use Rattle.qlt_spec.specs.Operation.{repair}
use Rattle.kept_spec.specs.declared.Balance.{Balance}
use Rattle.kept_spec.specs.Step.{StepCall, step_result}
use Rattle.call_values.specs.Values.{returned, told_by, balance_words, result_words, balance_in, result_in}

-- ---- what verdicts that are one make of a lent list

pub after-by : {X : Type 0} {v w : Checked} (new old : X) → v ≡ w → after v new old ≡ after w new old
after-by new old e = ap (λ x. after x new old) e

-- ---- a lent list with room, and one without

pub long-passes : (k n : ℕ) → n ≤ k → check_long k n ≡ Ok tt
unfolding check_long
long-passes k n h = rw (le-leb n k h)

pub long-fails : (k n : ℕ) → k < n → check_long k n ≡ refused 3 0
unfolding check_long
long-fails k n h = rw (lt-leb n k h)

-- the room first, and then the operation's own verdict
module _ (k n : ℕ) (v : Checked) where
  pub room : n ≤ k → first (check_long k n ∷ v ∷ []) ≡ v
  room h = ap (λ w. both w (both v (Ok tt))) (long-passes k n h) ∙ both-pass v

  pub room-refused : {refusal : Refusal} → check_long k n ≡ Err refusal → first (check_long k n ∷ v ∷ []) ≡ Err refusal
  room-refused e = ap (λ w. both w (both v (Ok tt))) e

  pub no_room : k < n → first (check_long k n ∷ v ∷ []) ≡ refused 3 0
  no_room h = room-refused (long-fails k n h)

-- checks of a call's own, and then the operation's verdict
pub first-last : (vs : List Checked) (w : Checked) → first (vs ++ (w ∷ [])) ≡ both (first vs) w
first-last vs w = sym (first-append vs (w ∷ [])) ∙ ap (both (first vs)) (both-pass w)

-- ---- a return value tells its verdict

-- a refusal's number fits the low 32 bits and is not 0
abbrev pub InWord : ℕ → Type 0
InWord number = (0 < number) × (number < 2 ^ 32)

abbrev pub Numbered : Checked → Type 0
Numbered v = (number place : ℕ) → v ≡ refused number place → InWord number

told-refused : {X : Type 0} (r : ℕ) (x : X) → 0 < r → told_by r x ≡ refused (r % 2 ^ 32) (r / 2 ^ 32)
told-refused zero x h = absurd (omega arith)
told-refused (suc r) x h = refl

pub told-returned : {X : Type 0} (v : Checked) (x : X) → Numbered v → told_by (returned v) x ≡ answered v x
told-returned (Ok tt) x h = refl
told-returned (Err r) x h =
    let b = h r.number r.place refl in
    let low : (r.number + r.place * 2 ^ 32) % 2 ^ 32 ≡ r.number = omega (arith, b) in
    let high : (r.number + r.place * 2 ^ 32) / 2 ^ 32 ≡ r.place = omega (arith, b) in
    told-refused (r.number + r.place * 2 ^ 32) x (omega (arith, b)) ∙ ap₂ refused low high

-- and, where the call is accepted, the values that the lent list holds
pub told-own : {X : Type 0} (v : Checked) (r : ℕ) (x y : X) → Numbered v → r ≡ returned v → (v ≡ Ok tt → x ≡ y) → told_by r x ≡ answered v y
told-own v r x y h e f = ap (λ n. told_by n x) e ∙ told-returned v x h ∙ same v f
  where
    same : (w : Checked) → (w ≡ Ok tt → x ≡ y) → answered w x ≡ answered w y
    same (Ok tt) g = ap Ok (g refl)
    same (Err r) g = refl

-- ---- the numbers of an operation, each of which fits

abbrev in_words : List ℕ → Bool
in_words [] = true
in_words (n ∷ ns) = (ltb 0 n && ltb n (2 ^ 32)) && in_words ns

one_word : (ns : List ℕ) → in_words ns ≡ true → (n : ℕ) → OneOf ns n → InWord n
unfolding OneOf
one_word [] t n o = absurd o
one_word (k ∷ ks) t n o =
    ⊎_elim
    (λ e. rw e ((and-means (lt-means 0 k) (lt-means k (2 ^ 32))).0 (and_first (ltb 0 k && ltb k (2 ^ 32)) (in_words ks) t)))
    (λ q. one_word ks (and_second (ltb 0 k && ltb k (2 ^ 32)) (in_words ks) t) n q) o

-- so a verdict whose rules have none but these numbers is numbered: `within-numbers ns d w refl`
pub within-numbers : {v : Checked} {rs : List Rule} (ns : List ℕ) → DecidesAll v rs → ((n : ℕ) → OneOf (numbers_of rs) n → OneOf ns n) → in_words ns ≡ true → Numbered v
within-numbers ns d w t n p e = one_word ns t n (w n (fails-number d e))

pub numbered : {v : Checked} {rs : List Rule} (ns : List ℕ) → DecidesAll v rs → RefuseWith rs ns → in_words ns ≡ true → Numbered v
numbered ns d w t = within-numbers ns d (λ n. (w n).0) t

-- ---- values in a list are read back as they were put

pub balance-read : (answer : List ℕ) (b : Balance) → balance_in (written answer 0 (balance_words b)) ≡ b
unfolding written
balance-read answer b = refl

pub result-read : (c : StepCall) (answer : List ℕ) → result_in c (written answer 0 (result_words (step_result c).repair (step_result c).length)) ≡ step_result c
unfolding written repair
result-read c answer = refl
