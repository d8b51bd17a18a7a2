use Rattle.std.proofs.Common.{length}
use Rattle.isl_quotient.proofs.projection.+kept_without.Given as goal

abbrev pub decreases-kept_without : goal.decreases-kept_without
decreases-kept_without l = length l.cols.now
