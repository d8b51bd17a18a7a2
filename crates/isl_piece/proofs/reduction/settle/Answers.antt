use Rattle.std.proofs.Common.{arith}
use Rattle.isl_piece.specs.Normal.{normal_divides}
use Rattle.isl_piece.proofs.reduction.settle.Goals as goal

pub returns-in-NotDivides : goal.returns-in-NotDivides
returns-in-NotDivides c =
    let row = c.args.row.now in
    let negated = c.negated.ensures c.settle_divides-in-NotDivides.new.row (normal_divides row.coefs row.constant row.k) (grind arith) c.settle_divides-in-NotDivides.ensures.divides in
    rw c.in-NotDivides.is negated
