-- Steps of the sum of a row's form, and tests of its value.
use Rattle.std.proofs.Common.{◌≡◌, sym, ◌∙◌, ◌↔◌, ℤ, pos, ◌<ℤ◌, Bool, IsTrue, arith, to_z-of_z}
use Rattle.std.proofs.lemmas.List.{get_or_read}
use Rattle.isl_math.specs.Divide as divide
use Rattle.isl_math.specs.Divide.{floor_mod}
use Rattle.isl_math.proofs.DivideLaws.{Divides-from_mod, mod-from_Divides, one-Divides}
use Rattle.isl_math.proofs.DotLaws.{dot-take_more}
use Rattle.isl_math.proofs.Ring.{linear}
use Rattle.isl_piece.specs.declared.row.RowKind.{RowKind}
use Rattle.isl_piece.specs.declared.row.RowKind.TheVariants.{Zero, AtLeast, Divides, NotDivides}
use Rattle.isl_piece.specs.Row.{HasModulus}

pub ruleset value_steps = (to_z-of_z, dot-take_more, get_or_read)

-- each kind's modulus is above 0
pub HasModulus-positive : (kind : RowKind) (k : ℤ) → HasModulus kind k → pos 0 <ℤ k
HasModulus-positive Zero k h = omega (arith, linear)
HasModulus-positive AtLeast k h = omega (arith, linear)
HasModulus-positive Divides k h = h
HasModulus-positive NotDivides k h = h

-- a test whether the remainder m of z is 0
pub Divides-test : (k z m : ℤ) (t : Bool) → pos 0 <ℤ k → m ≡ floor_mod z k → IsTrue t ↔ (m ≡ pos 0) → IsTrue t ↔ divide.Divides k z
Divides-test k z m t p e h = (
  (λ is. Divides-from_mod k z p (sym e ∙ h.0 is)),
  (λ d. h.1 (e ∙ mod-from_Divides k z p d)),
)

pub one-Divides-test : (k z : ℤ) (t : Bool) → k ≡ pos 1 → IsTrue t → IsTrue t ↔ divide.Divides k z
one-Divides-test k z t e h = ((λ _. rw e (one-Divides z)), (λ _. h))
