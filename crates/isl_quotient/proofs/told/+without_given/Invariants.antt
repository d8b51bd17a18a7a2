use Rattle.std.proofs.Common.{length}
use Rattle.isl_quotient.proofs.told.+without_given.Given as goal

abbrev pub decreases-without_given : goal.decreases-without_given
decreases-without_given l = length l.cols.now
