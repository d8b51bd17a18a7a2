use Rattle.isl_lower.proofs.SizeLaws.{size_of}
use Rattle.isl_lower.proofs.entries.+with_tuple.Given as goal

abbrev pub decreases-with_tuple : goal.decreases-with_tuple
decreases-with_tuple l = size_of l.tuple.now
