use Rattle.std.proofs.Common.{length}
use Rattle.isl_greatest.proofs.expressed.+expressed.Given as goal

abbrev pub decreases-expressed : goal.decreases-expressed
decreases-expressed l = length l.definitions.now
