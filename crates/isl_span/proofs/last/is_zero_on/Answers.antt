use Rattle.std.proofs.Common.{◌≡◌, ◌↔◌, ◌∷◌, [], arith, refl, Bool, ℤ, List, pos, ◌≤ℤ◌}
use Rattle.std.specs.Bool.{IsTrue}
use Rattle.std.proofs.lemmas.Grind.{common_steps}
use Rattle.std.proofs.lemmas.Result.{IfOk-weaker}
use Rattle.isl_piece.specs.declared.row.RowKind.TheVariants.{Zero}
use Rattle.isl_piece.specs.Row.{value_at}
use Rattle.isl_piece.specs.System.{HoldsSystem}
use Rattle.isl_elim.specs.Sample.{IsNowhere}
use Rattle.isl_span.specs.Chain.{IsZeroOn}
use Rattle.isl_span.specs.Points.{IsPoint}
use Rattle.isl_difference.proofs.TameLaws.{tame_ok}
use Rattle.isl_span.specs.Work.{test_units}
use Rattle.isl_span.proofs.CallLaws.{bound_otherwise, modulus_one}
use Rattle.isl_span.proofs.LinkLaws.{equation_on, zero_on}
use Rattle.isl_span.proofs.last.is_zero_on.Goals as goal

pub returns-then-eq-clause-exact : goal.returns-then-eq-clause-exact
returns-then-eq-clause-exact c =
    let r = c.args.row.now in
    let is : r.kind ≡ Zero = grind (arith, common_steps) in
    (λ t. equation_on c.args.columns c.args.system.now r is c.requires.holds, λ zero. refl)

pub is_below_one-requires-clause-modulus : goal.is_below_one-requires-clause-modulus
is_below_one-requires-clause-modulus c = modulus_one c.args.columns c.args.row.now c.requires.kind c.requires.formed

pub returns-clause-exact : goal.returns-clause-exact
returns-clause-exact c =
    let n = c.args.columns in
    let s = c.args.system.now in
    let r = c.args.row.now in
    let other : ¬ (r.kind ≡ Zero) = grind (arith, common_steps) in
    let told = zero_on n s r (bound_otherwise r c.requires.kind other) c.requires.holds in
    IfOk-weaker c.is_below_one.result
    (λ (below : Bool). IsTrue below ↔ IsNowhere n (λ (point : List ℤ). HoldsSystem s point × (pos 1 ≤ℤ value_at r point)))
    (λ (zero : Bool). IsTrue zero ↔ IsZeroOn (IsPoint n (s ∷ [])) r)
    (λ b h. ((λ t. told.0 (h.0 t)), (λ zero. h.1 (told.1 zero)))) c.is_below_one.ensures.exact

-- ---- of difference constraints
pub returns-then-eq-clause-tame : goal.returns-then-eq-clause-tame
returns-then-eq-clause-tame c = λ bits limit room d r.
    tame_ok (test_units c.args.columns) c.args.meter.now c.args.meter.now _ _ (omega arith) tt

pub returns-clause-tame : goal.returns-clause-tame
returns-clause-tame c = λ bits limit room d r. c.is_below_one.ensures.tame bits limit room d r
