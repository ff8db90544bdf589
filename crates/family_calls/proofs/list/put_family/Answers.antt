-- `family_calls::list::put_family` meets its contract: three stores in a row, then the members, and then two stores more.
use mathlib.Core.Path.{◌≡◌, ◌∙◌, ap}
use mathlib.Core.List.{List, [], ◌∷◌}
use Prim.Native.Nat.{ℕ, ◌≤◌}
use native.Mathlib.Omega.{arith}
use lib.ListN.{length, set}
use Rattle.numbers.specs.Lists.{written}
use Rattle.numbers.proofs.PartLaws.{sets-written, length-kept}
use Rattle.family_spec.specs.declared.Family.{Family}
use Rattle.family_calls.specs.List.{members_words, family_words}
use Rattle.family_calls.proofs.ListLaws.{members-length, family-on}
use Rattle.family_calls.proofs.list.put_family.Goals as goal

-- the list with the members, its length, and the list that is left
module _ (f : Family) (given list : List ℕ) (h : 21 ≤ length given) (e : list ≡ written (set (set (set given 0 f.cap) 1 f.scale) 2 f.cells) 3 (members_words f 8)) where
  abbrev first : List ℕ
  first = f.cap ∷ f.scale ∷ f.cells ∷ []

  members-are : list ≡ written (written given 0 first) 3 (members_words f 8)
  members-are = e ∙ ap (λ l. written l 3 (members_words f 8)) (sets-written first given 0 (omega (arith, h)))

  long : length list ≡ length given
  long =
      let k : length (written given 0 first) ≡ length given = length-kept given 0 first (omega (arith, h)) in
      ap length members-are ∙ members-length f 8 (written given 0 first) (omega (arith, h, k)) ∙ k

  left_is : set (set list 19 f.waiting) 20 f.from ≡ written given 0 (family_words f)
  left_is =
      sets-written (f.waiting ∷ f.from ∷ []) list 19 (omega (arith, h, long))
      ∙ ap (λ l. written l 19 (f.waiting ∷ f.from ∷ [])) members-are ∙ family-on f given

pub returns : goal.returns
returns c =
    rw (c.from-3.ensures, c.from-4.ensures)
    (left_is c.args.family c.args.list.now c.put_members.new.list c.requires (rw (c.from.ensures, c.from-2.ensures) at c.put_members.ensures))
