use Rattle.std.proofs.Common.{◌≡◌, drop}
use Rattle.isl_piece.proofs.NormalSteps.{opposite_order}
use Rattle.isl_piece.proofs.reduction.is_opposite_less.Given as goal

abbrev pub invariant-loop-number : goal.invariant-loop-number
invariant-loop-number l = opposite_order l.k (drop l.number-index l.row.coefs) l.row.constant ≡ opposite_order l.k l.row.coefs l.row.constant
