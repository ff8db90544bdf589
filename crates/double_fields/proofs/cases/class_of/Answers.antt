-- `double_fields::cases::class_of` meets its contract: each test is one of the class that the bit pattern is in, and a double's class is its pattern's.
use mathlib.Core.Path.{refl, sym, subst}
use lib.Dec.{T}
use lib.Ieee.{Float, binary64, to_bits}
use Rattle.doubles_spec.specs.Classes.{InClass}
use Rattle.doubles_spec.specs.declared.Class.TheVariants.{Zero, Subnormal, Normal, NotANumber}
use Rattle.doubles_spec.proofs.Patterns.{no_nan, is-nan}
use Rattle.doubles_spec.proofs.ClassLaws.{double-class, zero-tested, subnormal-tested, normal-tested, infinity-tested}
use Rattle.double_fields.proofs.cases.class_of.Goals as goal

pub float_to_bits-size : goal.float_to_bits-size
float_to_bits-size c = no_nan c.args.x c.if-x.true

pub returns-then-size-eq0 : goal.returns-then-size-eq0
returns-then-size-eq0 c =
    let x = c.args.x in
    (double-class x (subst T (sym c.well_formed.0.1) tt) Zero).0 (zero-tested (to_bits binary64 x) c.if-size-eq0.true)

pub returns-then-size-lt-SMALLEST_NORMAL : goal.returns-then-size-lt-SMALLEST_NORMAL
returns-then-size-lt-SMALLEST_NORMAL c =
    let x = c.args.x in
    (double-class x (subst T (sym c.well_formed.0.1) tt) Subnormal).0 (subnormal-tested (to_bits binary64 x) c.if-size-eq0.false c.if-size-lt-SMALLEST_NORMAL.true)

pub returns-then-size-lt-INFINITY : goal.returns-then-size-lt-INFINITY
returns-then-size-lt-INFINITY c =
    let x = c.args.x in
    (double-class x (subst T (sym c.well_formed.0.1) tt) Normal).0 (normal-tested (to_bits binary64 x) c.if-size-lt-SMALLEST_NORMAL.false c.if-size-lt-INFINITY.true)

pub returns-then-x : goal.returns-then-x
returns-then-x c =
    let x = c.args.x in
    infinity-tested x (subst T (sym c.well_formed.0.1) tt) (no_nan x c.if-x.true) c.if-size-lt-INFINITY.false

pub returns : goal.returns
returns c = subst (λ (x : Float). InClass NotANumber x) (sym (is-nan c.args.x c.if-x.false)) refl
