use Rattle.std.proofs.Common.{◌≡◌, pos, refl, arith}
use Rattle.isl_points.proofs.RowLaws.{plus_zero}
use Rattle.isl_points.proofs.row.plus_product.Goals as goal

pub returns-then-is_zero : goal.returns-then-is_zero
returns-then-is_zero c =
    let none : c.args.coef ≡ pos 0 = grind arith in
    (plus_zero c.args.sum c.args.coef c.args.number none, c.requires, refl)
