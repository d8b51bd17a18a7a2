use Rattle.std.proofs.Common.{◌+◌, ◌*◌}
use Rattle.isl_text.proofs.tuple.+tuple.Given as goal

abbrev pub decreases-pair : goal.decreases-pair
decreases-pair l = 4 * l.depth

abbrev pub decreases-unnamed : goal.decreases-unnamed
decreases-unnamed l = 4 * l.depth + 1

abbrev pub decreases-tuple_level : goal.decreases-tuple_level
decreases-tuple_level l = 4 * l.depth + 2

abbrev pub decreases-tuple : goal.decreases-tuple
decreases-tuple l = 4 * l.depth + 3
