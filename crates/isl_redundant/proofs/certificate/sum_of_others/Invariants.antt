use Rattle.std.specs.List.{remove}
use Rattle.isl_redundant.specs.Redundant.{IsSumOf}
use Rattle.isl_redundant.proofs.certificate.sum_of_others.Given as goal

abbrev pub invariant-loop-i : goal.invariant-loop-i
invariant-loop-i l = IsSumOf l.columns (remove l.rows l.at) l.sum
