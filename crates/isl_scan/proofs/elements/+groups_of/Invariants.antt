use Rattle.std.proofs.Common.{length}
use Rattle.isl_scan.proofs.elements.+groups_of.Given as goal

abbrev pub decreases-groups_of : goal.decreases-groups_of
decreases-groups_of l = length l.pieces.now
