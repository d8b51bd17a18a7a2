use Rattle.std.proofs.Common.{◌≡◌, arith}
use Rattle.isl_math.specs.Divide.{IsGcdOf}
use Rattle.isl_math.specs.Gcd.{gcd_of}
use Rattle.isl_math.proofs.GcdLaws.{gcd_of-from_IsGcdOf}
use Rattle.isl_piece.specs.Row.{coef_at}
use Rattle.isl_column.proofs.residue.period_of.Goals as goal

pub returns-clause-value : goal.returns-clause-value
returns-clause-value c =
    let row = c.args.row.now in
    let own : IsGcdOf (coef_at row c.args.column.at) row.k c.gcd.result = grind arith in
    let same : c.gcd.result ≡ gcd_of (coef_at row c.args.column.at) row.k = gcd_of-from_IsGcdOf (coef_at row c.args.column.at) row.k c.gcd.result own in
    grind arith
