use Rattle.std.proofs.Common.{length}
use Rattle.isl_quotient.proofs.projection.+solved_without.Given as goal

abbrev pub decreases-solved_without : goal.decreases-solved_without
decreases-solved_without l = length l.cols.now
