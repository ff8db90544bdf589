-- `doubles::import` meets its contract: each field is what its function gives, the answer is then `import_form`, and that meets the contract.
use Rattle.std.specs.Prelude.{Result}
use mathlib.Core.Path.{◌≡◌}
use Prim.Native.Nat.{ℕ}
use native.Mathlib.Omega.{arith}
use mir.Syntax.{w32}
use mir.ValLaws.{to_z-of_z}
use lib.Ieee.{Float}
use borrow.Author.Rules.{rules}
use borrow.Author.Tests.{le-leb, lt-leb}
use Rattle.doubles_spec.specs.Forms.{Field, named, import_fields, import_form}
use Rattle.doubles_spec.specs.declared.ImportRefusal.{ImportRefusal}
use Rattle.doubles_spec.proofs.ImportLaws.{import_meets}
use Rattle.doubles.proofs.import.Goals as goal

-- what a field gives in the form
gave : {X : Type 0} {given want : Field X} {r o : Result X ImportRefusal} (f : ℕ) (x : Float) → r ≡ named given f x → given ≡ want → r ≡ o → named want f x ≡ o
gave f x h e w = cc

pub returns-then-scale-gt30 : goal.returns-then-scale-gt30
unfolding import_form
returns-then-scale-gt30 c = let z = c.args in import_meets z.cell z.scale (rw (lt-leb z.scale 30 c.if-scale-gt30.true))

-- at each later return the form is rewritten by what the scale's test and the fields gave
pub returns-in_err-target : goal.returns-in_err-target
unfolding import_form import_fields
returns-in_err-target c =
    let z = c.args in
    import_meets z.cell z.scale
    (rw (le-leb z.scale 30 (omega (arith, c.if-scale-gt30.false)), gave 0 z.cell.target c.named.ensures c.target_field.ensures c.in_err-target.was) (search rules))

pub returns-in_err-low : goal.returns-in_err-low
unfolding import_form import_fields
returns-in_err-low c =
    let z = c.args in
    import_meets z.cell z.scale
    (rw (le-leb z.scale 30 (omega (arith, c.if-scale-gt30.false)), gave 0 z.cell.target c.named.ensures c.target_field.ensures c.in_ok-target.was, gave 1 z.cell.low c.named-2.ensures c.low_field.ensures c.in_err-low.was) (search rules))

pub returns-in_err-high : goal.returns-in_err-high
unfolding import_form import_fields
returns-in_err-high c =
    let z = c.args in
    import_meets z.cell z.scale
    (rw (le-leb z.scale 30 (omega (arith, c.if-scale-gt30.false)), gave 0 z.cell.target c.named.ensures c.target_field.ensures c.in_ok-target.was, gave 1 z.cell.low c.named-2.ensures c.low_field.ensures c.in_ok-low.was, gave 2 z.cell.high c.named-3.ensures c.high_field.ensures c.in_err-high.was) (search rules))

pub returns-in_err-safe_low : goal.returns-in_err-safe_low
unfolding import_form import_fields
returns-in_err-safe_low c =
    let z = c.args in
    import_meets z.cell z.scale
    (rw (le-leb z.scale 30 (omega (arith, c.if-scale-gt30.false)), gave 0 z.cell.target c.named.ensures c.target_field.ensures c.in_ok-target.was, gave 1 z.cell.low c.named-2.ensures c.low_field.ensures c.in_ok-low.was, gave 2 z.cell.high c.named-3.ensures c.high_field.ensures c.in_ok-high.was, gave 3 z.cell.safe_low c.named-4.ensures c.low_field-2.ensures c.in_err-safe_low.was) (search rules))

pub returns-in_err-safe_high : goal.returns-in_err-safe_high
unfolding import_form import_fields
returns-in_err-safe_high c =
    let z = c.args in
    import_meets z.cell z.scale
    (rw (le-leb z.scale 30 (omega (arith, c.if-scale-gt30.false)), gave 0 z.cell.target c.named.ensures c.target_field.ensures c.in_ok-target.was, gave 1 z.cell.low c.named-2.ensures c.low_field.ensures c.in_ok-low.was, gave 2 z.cell.high c.named-3.ensures c.high_field.ensures c.in_ok-high.was, gave 3 z.cell.safe_low c.named-4.ensures c.low_field-2.ensures c.in_ok-safe_low.was, gave 4 z.cell.safe_high c.named-5.ensures c.high_field-2.ensures c.in_err-safe_high.was) (search rules))

pub returns : goal.returns
unfolding import_form import_fields
returns c =
    let z = c.args in
    import_meets z.cell z.scale
    (rw (le-leb z.scale 30 (omega (arith, c.if-scale-gt30.false)), gave 0 z.cell.target c.named.ensures c.target_field.ensures c.in_ok-target.was, gave 1 z.cell.low c.named-2.ensures c.low_field.ensures c.in_ok-low.was, gave 2 z.cell.high c.named-3.ensures c.high_field.ensures c.in_ok-high.was, gave 3 z.cell.safe_low c.named-4.ensures c.low_field-2.ensures c.in_ok-safe_low.was, gave 4 z.cell.safe_high c.named-5.ensures c.high_field-2.ensures c.in_ok-safe_high.was, to_z-of_z w32 c.in_ok-target.target (record { sfits = omega arith })))
