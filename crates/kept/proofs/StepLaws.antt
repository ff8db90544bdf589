-- Laws of a step that fits: that its book can gain a record, and that what it leaves and answers is that of its repair and its record. Assumes
-- nothing.
use Rattle.std.specs.Prelude.{Ok}
use mathlib.Core.Path.{◌≡◌, sym, ◌∙◌, ap, ap₂, subst}
use mathlib.Core.List.{List}
use Prim.Native.Nat.{ℕ, ◌<◌}
use native.Mathlib.Omega.{arith}
use lib.IntN.{ℤ}
use mir.Syntax.{w32}
use mir.Val.{SFits}
use Rattle.numbers.proofs.SignedLaws.{parts-le, about}
use Rattle.numbers.specs.Checks.{Checked}
use Rattle.qlt_spec.specs.declared.Repair.{Repair}
use Rattle.qlt_spec.specs.Operation.{RepairContract}
use Rattle.qlt_spec.proofs.OperationLaws.{told-result}
use Rattle.blocks.specs.Words.{Bytes}
use Rattle.book_spec.specs.LentBook.{HasBook, held_in, grown_buffer, grown_length}
use Rattle.book_spec.specs.Book.{count, max_entries, entry}
use Rattle.book_spec.proofs.LentLaws.{lent-held}
use Rattle.kept_spec.specs.declared.Stepped.{Stepped}
use Rattle.kept_spec.specs.Step.{StepCall, new_total, repair_call, StepFits, StepBy, Typed}

-- what its types say
pub typed-of : (c : StepCall) → Bytes c.book → SFits w32 c.source → Typed c
typed-of c y f = record { bytes = y; least = parts-le (omega (arith, f.sfits, about c.source)); most = parts-le (omega (arith, f.sfits, about c.source)) }

-- its book is at the front of the buffer and is not full
pub fits-book : (c : StepCall) → Bytes c.book → StepFits c → HasBook c.book c.length (held_in c.book c.length) × (count (held_in c.book c.length) < max_entries)
fits-book c y f = (lent-held c.book c.length c.balance.total f.masses.room y f.lent, f.lent.not_full)

-- what it leaves and answers, of a repair r, a book and its new length l
pub step-done :
    (c : StepCall) → Typed c → {v : Checked} (r : Repair) (l : ℕ) {kept : List ℕ} {scratch : List ℤ} {book : List ℕ} → v ≡ Ok tt
    → RepairContract (Ok tt) (repair_call c) (Ok r) kept scratch
    → book ≡ grown_buffer c.book c.length (entry c.source r.outcome (new_total c))
    → l ≡ grown_length c.book c.length
    → StepBy v c (Ok (record { repair = r; balance = record { total = new_total c; scale = c.balance.scale }; length = l })) kept scratch book
step-done c y r l {kept} {scratch} {book} e p b h =
    let q = told-result p in
    let told : Stepped = record { repair = r; balance = record { total = new_total c; scale = c.balance.scale }; length = l } in
    subst (λ w. StepBy w c (Ok told) kept scratch book) (sym e)
    (record {
      typed = y;
      tells =
          record {
            answers = ap₂ (λ (x : Repair) (n : ℕ). Ok (record { repair = x; balance = record { total = new_total c; scale = c.balance.scale }; length = n })) q h;
            leaves = p.leaves;
          };
      files = b ∙ ap (λ (x : Repair). grown_buffer c.book c.length (entry c.source x.outcome (new_total c))) q;
    })
