use Rattle.std.proofs.Common.{rules}
use Rattle.isl_formula.specs.Formula.{unary, operand, sign_of, joined}
use Rattle.isl_formula.proofs.Operands.{row_whole}
use Rattle.isl_formula.proofs.formula.+formula.Goals as goal

pub row-returns : goal.row-returns
row-returns t c =
    row_whole (sign_of c.args.operator) (joined c.args.operator) (operand (unary c.args.depth) c.args.operator) _ _ _ _ _ _ _ _
    c.in_ok-first.ensures (search rules) c.in_ok-second.ensures c.in_ok-parts.ensures c.joined.ensures
