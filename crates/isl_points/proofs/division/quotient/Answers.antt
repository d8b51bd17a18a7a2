use Rattle.std.proofs.Common.{◌≡◌, ◌∙◌, ap, arith, pos, sym, ℤ}
use Rattle.isl_math.specs.Divide.{floor_div}
use Rattle.isl_piece.proofs.NumberLaws.{quotient_one}
use Rattle.isl_points.proofs.division.quotient.Goals as goal

pub returns-then-eq-clause-value : goal.returns-then-eq-clause-value
returns-then-eq-clause-value c =
    let one : c.args.k ≡ pos 1 = grind arith in
    sym (quotient_one c.args.number) ∙ ap (λ (k : ℤ). floor_div c.args.number k) (sym one)
