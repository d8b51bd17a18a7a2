use Rattle.std.proofs.Common.{◌+◌, ◌*◌, length}
use Rattle.isl_column.specs.Parts.{most_parts}
use Rattle.isl_elim.proofs.AlongLaws.{ArePushed}
use Rattle.isl_elim.proofs.TameLaws.{ArePushedTame}
use Rattle.isl_elim.proofs.along.+eliminate_all.Given as goal

abbrev pub decreases-push_by_parts : goal.decreases-push_by_parts
decreases-push_by_parts l = 5 * l.columns

abbrev pub decreases-push_narrow : goal.decreases-push_narrow
decreases-push_narrow l = 5 * l.columns

abbrev pub decreases-push_without : goal.decreases-push_without
decreases-push_without l = 5 * l.columns + 1

abbrev pub decreases-push_some : goal.decreases-push_some
decreases-push_some l = 5 * l.columns + 2

abbrev pub decreases-push_parts : goal.decreases-push_parts
decreases-push_parts l = 5 * l.columns + 3

abbrev pub invariant-push_parts-loop-parts : goal.invariant-push_parts-loop-parts
invariant-push_parts-loop-parts l =
    ArePushed l.fn.meter l.meter l.columns l.cols l.fn.parts l.parts l.fn.lists.items l.lists.items
    × ArePushedTame l.fn.meter l.meter l.columns (length l.cols) l.taken l.fn.parts l.parts l.fn.lists.items l.lists.items

abbrev pub decreases-push_parts-loop-parts : goal.decreases-push_parts-loop-parts
decreases-push_parts-loop-parts l = most_parts l.parts
