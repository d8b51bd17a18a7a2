use Rattle.isl_lower.proofs.SizeLaws.{size_of}
use Rattle.isl_lower.proofs.space.+shape_of.Given as goal

abbrev pub decreases-shape_of : goal.decreases-shape_of
decreases-shape_of l = size_of l.tuple.now
