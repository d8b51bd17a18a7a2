use Rattle.std.proofs.Common.{◌≡◌, ◌^◌, lit<, arith}
use Rattle.isl_piece.specs.Row.{coef_at}
use Rattle.isl_omega.proofs.SmallLemmas.{coef_up_to}
use Rattle.isl_omega.proofs.substitution.Substitution.put.Goals as goal

pub returns-clause-no_overflow : goal.returns-clause-no_overflow
returns-clause-no_overflow c = λ bits scale offsets small.
    let row = c.args.row.now in
    let at : c.get.result ≡ coef_at row c.args.column.at = grind arith in
    c.combination.ensures.no_overflow (2 ^ 30) (2 ^ 30) (2 ^ 30) (2 ^ 30) scale (rw at (coef_up_to (2 ^ 30) row c.args.column.at small)) small offsets (rw bits (lit< tt))
