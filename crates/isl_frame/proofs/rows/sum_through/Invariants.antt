use Rattle.std.proofs.Common.{◌≡◌}
use Rattle.isl_frame.specs.Sum.{IsSum, IsSumOf}
use Rattle.isl_frame.proofs.rows.sum_through.Given as goal

abbrev pub invariant-loop-i : goal.invariant-loop-i
invariant-loop-i l = IsSum l.meter l.sum × IsSumOf l.variables l.row l.frame l.i l.sum × (l.meter ≡ l.fn.meter)
