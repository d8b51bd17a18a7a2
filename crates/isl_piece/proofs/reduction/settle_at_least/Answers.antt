use Rattle.std.proofs.Common.{arith}
use Rattle.isl_piece.proofs.NormalSteps.{at_least_kept}
use Rattle.isl_piece.proofs.reduction.settle_at_least.Goals as goal

pub returns : goal.returns
returns c = at_least_kept c.args.row.now.coefs c.args.row.now.constant c.content-common.result c.divide.new.row (grind arith) (grind arith) (grind arith) (grind arith) (grind arith) (grind arith)
