-- What a turn's answer says of it, and that there is a turn for every input. Assumes nothing.
use Rattle.std.specs.Prelude.{Some, None, Option}
use mathlib.Core.Path.{◌≡◌, refl, sym, ◌∙◌, ap, subst}
use mathlib.Core.List.{List}
use Prim.Native.Nat.{ℕ}
use native.Mathlib.Omega.{arith}
use lib.IntN.{ℤ}
use Rattle.numbers.specs.Checks.{Answered}
use Rattle.kept_spec.specs.declared.Stepped.{Stepped}
use Rattle.kept_spec.specs.Step.{Typed}
use Rattle.family_spec.specs.declared.Family.{Family}
use Rattle.family_spec.specs.declared.Served.{Served}
use Rattle.family_spec.specs.declared.FamilyAnswer.{FamilyAnswer}
use Rattle.family_spec.specs.Member.{StepInputs, call_of}
use Rattle.family_spec.specs.Operations.{StepMemberContract, next_member, serve, TurnBy, TurnContract}
use Rattle.family_spec.specs.Family.{terms, member_at}
use Rattle.family_spec.proofs.AnswerLaws.{every-step}

-- ---- the two answers, and the two readings of the next

pub idle-apart : {i : ℕ} {answer : Answered Stepped} {a : Option Served} → a ≡ None → a ≡ Some (record { member = i; stepped = answer }) → ⊥
idle-apart p q = let z : ◌≡◌ {A = ℕ} 0 1 = cc in omega arith

pub nobody-apart : {i : ℕ} {n : Option ℕ} → n ≡ None → n ≡ Some i → ⊥
nobody-apart p q = let z : ◌≡◌ {A = ℕ} 0 1 = cc in omega arith

pub member-same : {i j : ℕ} {n : Option ℕ} → n ≡ Some i → n ≡ Some j → i ≡ j
member-same p q = cc

pub served-same :
    {i j : ℕ} {answer answer' : Answered Stepped}
    → ◌≡◌ {A = Option Served} (Some (record { member = i; stepped = answer })) (Some (record { member = j; stepped = answer' })) → (i ≡ j) × (answer ≡ answer')
served-same {i} {j} {answer} {answer'} e =
    let z : ◌≡◌ {A = Served} (record { member = i; stepped = answer }) (record { member = j; stepped = answer' }) = cc in
    (ap (λ s. s.member) z, ap (λ s. s.stepped) z)

-- ---- a turn by its answer

-- one that served i: i was next, its step was called, and its waiting has ended
pub record Serves (f : Family) (x : StepInputs) (g : Family) (i : ℕ) (answer : Answered Stepped) (kept : List ℕ) (scratch : List ℤ) (book : List ℕ) : Type 0 where
  pub due : next_member f ≡ Some i
  pub stepped : Family
  pub contract : StepMemberContract f i x (record { family = stepped; answer = answer }) kept scratch book
  pub ends : g ≡ serve stepped i

pub turn-serves :
    {f : Family} {x : StepInputs} {g : Family} {i : ℕ} {answer : Answered Stepped} {kept : List ℕ} {scratch : List ℤ} {book : List ℕ}
    → TurnContract f x (record { family = g; answer = Some (record { member = i; stepped = answer }) }) kept scratch book → Serves f x g i answer kept scratch book
turn-serves {f} {x} {g} {i} {answer} {kept} {scratch} {book} p = by_next (next_member f) refl p.serves_next
  where
    by_next : (n : Option ℕ) → next_member f ≡ n → TurnBy n f x (record { family = g; answer = Some (record { member = i; stepped = answer }) }) kept scratch book → Serves f x g i answer kept scratch book
    by_next None e t = absurd (idle-apart t.answers refl)
    by_next (Some j) e t =
        let s = served-same t.answers in
        record {
          due = e ∙ ap (λ k. Some k) (sym s.0);
          stepped = t.step.family;
          contract = subst (λ X. X) (λ z. StepMemberContract f (sym s.0 z) x (record { family = t.step.family; answer = sym s.1 z }) kept scratch book) t.contract;
          ends = t.gives ∙ ap (serve t.step.family) (sym s.0);
        }

-- an idle one: nobody was next, and nothing changed
pub record Idles (f : Family) (x : StepInputs) (g : Family) (kept : List ℕ) (scratch : List ℤ) (book : List ℕ) : Type 0 where
  pub due : next_member f ≡ None
  pub gives : g ≡ f
  pub keeps : kept ≡ x.kept
  pub leaves : scratch ≡ x.scratch
  pub files : book ≡ x.book

pub turn-idles :
    {f : Family} {x : StepInputs} {g : Family} {kept : List ℕ} {scratch : List ℤ} {book : List ℕ}
    → TurnContract f x (record { family = g; answer = None }) kept scratch book → Idles f x g kept scratch book
turn-idles {f} {x} {g} {kept} {scratch} {book} p = by_next (next_member f) refl p.serves_next
  where
    by_next : (n : Option ℕ) → next_member f ≡ n → TurnBy n f x (record { family = g; answer = None }) kept scratch book → Idles f x g kept scratch book
    by_next None e t = record { due = e; gives = t.gives; keeps = t.keeps; leaves = t.leaves; files = t.files }
    by_next (Some j) e t = absurd (idle-apart refl t.answers)

-- ---- the contract leaves nothing open: a turn has one answer and one family, and leaves each list in one way

steps_alike :
    (f : Family) (i : ℕ) (x : StepInputs) {s s' : FamilyAnswer (Answered Stepped)} {kept kept' : List ℕ} {scratch scratch' : List ℤ} {book book' : List ℕ} → StepMemberContract f i x s kept scratch book
    → StepMemberContract f i x s' kept' scratch' book' → (s ≡ s') × ((kept ≡ kept') × ((scratch ≡ scratch') × (book ≡ book')))
steps_alike f i x {s} {s'} p q =
    let a : s.answer ≡ s'.answer = p.tells.tells.answers ∙ sym q.tells.tells.answers in
    let g : s.family ≡ s'.family = p.gives ∙ sym q.gives in (
      λ z. record { family = g z; answer = a z },
      (
        p.tells.tells.leaves.writes ∙ sym q.tells.tells.leaves.writes,
        (p.tells.tells.leaves.clears ∙ sym q.tells.tells.leaves.clears, p.tells.files ∙ sym q.tells.files),
      ),
    )

pub turn-decided :
    (f : Family) (x : StepInputs) {r r' : FamilyAnswer (Option Served)} {kept kept' : List ℕ} {scratch scratch' : List ℤ} {book book' : List ℕ} → TurnContract f x r kept scratch book → TurnContract f x r' kept' scratch' book'
    → (r ≡ r') × ((kept ≡ kept') × ((scratch ≡ scratch') × (book ≡ book')))
turn-decided f x {r} {r'} {kept} {kept'} {scratch} {scratch'} {book} {book'} p q = by_next (next_member f) p.serves_next q.serves_next
  where
    by_next : (n : Option ℕ) → TurnBy n f x r kept scratch book → TurnBy n f x r' kept' scratch' book' → (r ≡ r') × ((kept ≡ kept') × ((scratch ≡ scratch') × (book ≡ book')))
    by_next None a b = (
      λ z. record { family = (a.gives ∙ sym b.gives) z; answer = (a.answers ∙ sym b.answers) z },
      (a.keeps ∙ sym b.keeps, (a.leaves ∙ sym b.leaves, a.files ∙ sym b.files)),
    )
    by_next (Some i) a b =
        let s = steps_alike f i x a.contract b.contract in (
          λ z. record {
            family = (a.gives ∙ ap (λ y. serve y.family i) s.0 ∙ sym b.gives) z;
            answer = (a.answers ∙ ap (λ y. Some (record { member = i; stepped = y.answer })) s.0 ∙ sym b.answers) z;
          },
          s.1,
        )

-- ---- the two ways to make one

module _ (f : Family) (x : StepInputs) where
  pub turn-nobody : next_member f ≡ None → TurnContract f x (record { family = f; answer = None }) x.kept x.scratch x.book
  turn-nobody e =
      record {
        serves_next = subst (λ n. TurnBy n f x (record { family = f; answer = None }) x.kept x.scratch x.book) (sym e) (record { answers = refl; gives = refl; keeps = refl; leaves = refl; files = refl });
      }

  pub turn-done :
      {i : ℕ} {g : Family} {kept : List ℕ} {scratch : List ℤ} {book : List ℕ} (s : FamilyAnswer (Answered Stepped)) → next_member f ≡ Some i → StepMemberContract f i x s kept scratch book → g ≡ serve s.family i
      → TurnContract f x (record { family = g; answer = Some (record { member = i; stepped = s.answer }) }) kept scratch book
  turn-done {i} {g} {kept} {scratch} {book} s e p q =
      record {
        serves_next = subst (λ n. TurnBy n f x (record { family = g; answer = Some (record { member = i; stepped = s.answer }) }) kept scratch book) (sym e) (record { step = s; contract = p; answers = refl; gives = q });
      }

-- for every input of its types there is a turn that keeps its contract
abbrev SomeTurn : Family → StepInputs → Type 0
SomeTurn f x = (r : FamilyAnswer (Option Served)) × ((kept : List ℕ) × ((scratch : List ℤ) × ((book : List ℕ) × TurnContract f x r kept scratch book)))

pub every-turn : (f : Family) (x : StepInputs) → ((i : ℕ) → Typed (call_of (terms f) (member_at f i) x)) → SomeTurn f x
every-turn f x y = by_next (next_member f) refl
  where
    by_next : (n : Option ℕ) → next_member f ≡ n → SomeTurn f x
    by_next None e = (record { family = f; answer = None }, (x.kept, (x.scratch, (x.book, turn-nobody f x e))))
    by_next (Some i) e =
        let s = every-step f i x (y i) in
        (record { family = serve s.0.family i; answer = Some (record { member = i; stepped = s.0.answer }) }, (s.1.0, (s.1.1.0, (s.1.1.1.0, turn-done f x s.0 e s.1.1.1.1 refl))))
