use Rattle.isl_lower.proofs.SizeLaws.{size_of}
use Rattle.isl_lower.proofs.entries.+width.Given as goal

abbrev pub decreases-width : goal.decreases-width
decreases-width l = size_of l.tuple.now
