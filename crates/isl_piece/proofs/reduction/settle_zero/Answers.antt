use Rattle.std.proofs.Common.{arith}
use Rattle.isl_piece.proofs.NormalSteps.{zero_kept}
use Rattle.isl_piece.proofs.reduction.settle_zero.Goals as goal

pub returns : goal.returns
returns c = zero_kept c.args.row.now.coefs c.args.row.now.constant c.content-g.result c.make_upright.new.row (grind arith) (grind arith) (grind arith) (grind arith)
