-- `double_fields::cases::scaled` meets its contract: each arm is what `product` gives at a double of its class.
use mathlib.Core.Path.{◌≡◌, sym, ap, ◌∙◌, subst}
use mathlib.Core.Bool.{Bool}
use lib.Ieee.{Float}
use Rattle.doubles_spec.specs.Classes.{InClass}
use Rattle.doubles_spec.specs.declared.Class.{Class}
use Rattle.doubles_spec.specs.declared.Rest.TheVariants.{LessThanHalf}
use Rattle.doubles_spec.specs.Forms.{product_of}
use Rattle.doubles_spec.proofs.CaseLaws.{zero-product, subnormal-product, infinity-product, nan-product, below-zero}
use Rattle.double_fields.proofs.cases.scaled.Goals as goal

-- in the arm of a class, the double is of that class
arm : (x : Float) {q r : Class} → InClass q x → q ≡ r → InClass r x
arm x h e = subst (λ (c : Class). InClass c x) e h

pub normal-requires : goal.normal-requires
normal-requires c = record { scale_bound = c.requires; is_normal = arm c.args.x c.class_of.ensures c.in-Normal.is }

pub returns-in-Zero : goal.returns-in-Zero
returns-in-Zero c = let z = c.args in sym (zero-product z.k z.x (arm c.args.x c.class_of.ensures c.in-Zero.is))

pub returns-in-Subnormal : goal.returns-in-Subnormal
returns-in-Subnormal c =
    let z = c in
    let x = z.args.x in
    ap (λ (s : Bool). product_of s 0 LessThanHalf) (below-zero x) ∙ sym (subnormal-product z.args.k x z.requires (arm c.args.x c.class_of.ensures c.in-Subnormal.is))

pub returns-in-Infinity : goal.returns-in-Infinity
returns-in-Infinity c = let z = c.args in sym (infinity-product z.k z.x (arm c.args.x c.class_of.ensures c.in-Infinity.is))

pub returns-in-NotANumber : goal.returns-in-NotANumber
returns-in-NotANumber c = let z = c.args in sym (nan-product z.k z.x (arm c.args.x c.class_of.ensures c.in-NotANumber.is))
