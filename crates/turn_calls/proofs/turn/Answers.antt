-- `turn_calls::turn` meets its contract: the lists first, and then what the operation tells is written.
use Rattle.std.proofs.lemmas.Result.{err_from_is_err_and}
use Rattle.std.specs.Prelude.{Option}
use mathlib.Core.Path.{◌≡◌, sym, subst}
use mathlib.Core.List.{List}
use Prim.Native.Nat.{ℕ}
use lib.IntN.{ℤ}
use mir.Syntax.{w32}
use mir.ValLaws.{to_z-of_z}
use Rattle.qlt_spec.specs.Field.{lists_of}
use Rattle.family_spec.specs.declared.Family.{Family}
use Rattle.family_spec.specs.declared.FamilyAnswer.{FamilyAnswer}
use Rattle.family_spec.specs.declared.Served.{Served}
use Rattle.family_spec.specs.Member.{StepInputs, step_inputs}
use Rattle.family_spec.specs.Operations.{TurnContract}
use Rattle.family_calls.proofs.CallLaws.{room-family, room-answer}
use Rattle.turn_calls.specs.TurnCalls.{turn_values}
use Rattle.turn_calls.proofs.TurnCallLaws.{turn-refused, turn-idled, turn-served}
use Rattle.turn_calls.proofs.turn.Goals as goal

-- what the operation promises, of the family in the list and the source as it was given
promised :
    {f g : Family} (x : ℤ → StepInputs) {s z : ℤ} {a : FamilyAnswer (Option Served)} {kept : List ℕ} {scratch : List ℤ} {book : List ℕ}
    → f ≡ g → s ≡ z → TurnContract f (x s) a kept scratch book → TurnContract g (x z) a kept scratch book
promised {f} {g} x {s} {z} {a} {kept} {scratch} {book} d e p =
    subst (λ (y : ℤ). TurnContract g (x y) a kept scratch book) e (subst (λ h. TurnContract h (x s) a kept scratch book) d p)

pub returns-in_err-call_room : goal.returns-in_err-call_room
returns-in_err-call_room c =
    let a = c.args in
    let p = err_from_is_err_and c.from_residual.result c.from_residual.ensures.1 in
    rw (p.1, p.2)
    (turn-refused a.family.now (step_inputs a.kept.now a.source a.scale (lists_of a.field.now) a.scratch.now a.book.now a.told) a.answer.now (sym c.in_err-call_room.ensures))

pub read_family-requires : goal.read_family-requires
read_family-requires c = room-family c.args.family.now c.args.answer.now turn_values (sym c.in_ok-call_room.ensures)

pub put_idle-requires : goal.put_idle-requires
put_idle-requires c = room-answer c.args.family.now c.args.answer.now turn_values (sym c.in_ok-call_room.ensures)

pub put_family-requires : goal.put_family-requires
put_family-requires c = room-family c.args.family.now c.args.answer.now turn_values (sym c.in_ok-call_room.ensures)

pub put_served-requires : goal.put_served-requires
put_served-requires c = room-answer c.args.family.now c.args.answer.now turn_values (sym c.in_ok-call_room.ensures)

pub returns-in-None : goal.returns-in-None
returns-in-None c =
    let a = c.args in
    let x = λ (z : ℤ). step_inputs a.kept.now z a.scale (lists_of a.field.now) a.scratch.now a.book.now a.told in
    turn-idled a.family.now (x a.source) a.answer.now (sym c.in_ok-call_room.ensures) _
    (promised x c.read_family.ensures (to_z-of_z w32 a.source c.ranges.source) c.turn-turned.ensures) c.in-None.is c.put_idle.ensures

pub returns-in-Some : goal.returns-in-Some
returns-in-Some c =
    let a = c.args in
    let x = λ (z : ℤ). step_inputs a.kept.now z a.scale (lists_of a.field.now) a.scratch.now a.book.now a.told in
    turn-served a.family.now (x a.source) a.answer.now (sym c.in_ok-call_room.ensures) _
    (promised x c.read_family.ensures (to_z-of_z w32 a.source c.ranges.source) c.turn-turned.ensures) c.in-Some.is c.put_family.ensures c.put_served.ensures
